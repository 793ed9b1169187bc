-- Where places are found.
use Rattle.std.proofs.Common.{◌≡◌, ℕ, ◌+◌, ◌<◌, Bool, true, false, ◌&&◌, List, length, Option, Some, None, refl, sym, ap, ◌∙◌, subst, arith, pos, ⊎_elim}
use Rattle.std.proofs.lemmas.Bool.{and_parts, or_cases, false≢true}
use Rattle.std.proofs.lemmas.List.{length-append}
use Rattle.std.proofs.lemmas.Option.{slice_get_within}
use Rattle.std.specs.Option.{option_map}
use Rattle.std.specs.Prelude.{if◌then◌else◌, slice_get}
use Rattle.c_ints.specs.declared.types.IntTy.TheVariants as int
use Rattle.c_typed.specs.Fits.{place_rule_holds, is_named, names_local, declared_type, is_memory, is_device, register_type, static_type, variable_type, member_at}
use Rattle.c_typed.specs.Rules.{member_fits}
use Rattle.c_typed.specs.Sameness.{same_type, same_qualified, is_array, is_int, is_pointer}
use Rattle.c_typed.specs.Trees as tree
use Rattle.c_typed.specs.Trees.{MemberTree, Place, Program, StaticTree, VariableTree}
use Rattle.c_typed.specs.Types.{place_type, type_of}
use Rattle.c_typed.specs.declared.expression.Object.{Object as Name}
use Rattle.c_typed.specs.declared.expression.Object.TheVariants as names
use Rattle.c_typed.specs.declared.types.Qualified.{Qualified}
use Rattle.c_typed.specs.declared.types.Ty.{Ty}
use Rattle.c_typed.specs.declared.types.Ty.TheVariants as types
use Rattle.src_rules.proofs.Answers.{AnyIsPointer, moved_stands}
use Rattle.src_rules.proofs.Rules.{the_pointer}
use Rattle.src_rules.proofs.Values.{same_type_is}
use Rattle.src_rules.specs.Expressions.{address}
use Rattle.src_rules.specs.Parts.{IsPlaceOf}
use Rattle.src_rules.specs.Standing.{IsReached, IsThere, IsPointer, IsPlaced, IsInside, IsSpotOf, stepped}
use Rattle.src_values.specs.Objects.{function_at, spot_of, moved, next_byte}
use Rattle.src_values.specs.declared.objects.CopyOf.{CopyOf}
use Rattle.src_values.specs.declared.objects.Pointer.{Pointer}
use Rattle.src_values.specs.declared.objects.Pointer.TheVariants.{Null, Into}
use Rattle.src_values.specs.declared.objects.Spot.{Spot}
use Rattle.src_values.specs.declared.objects.Spot.TheVariants as spots

abbrev pub is_bit : Spot → Bool
is_bit (spots.Device address) = false
is_bit (spots.Bit register number) = true
is_bit (spots.Memory x) = false

-- ---- bytes behind a spot
-- 0 bytes behind is the spot, and the next byte is one more behind
pub stepped_zero : (spot : Spot) → spot ≡ stepped 0 spot
stepped_zero (spots.Device address) = refl
stepped_zero (spots.Bit register number) = refl
stepped_zero (spots.Memory Null) = refl
stepped_zero (spots.Memory (Into object offset)) = let e : offset ≡ offset + 0 = omega arith in ap (λ n. spots.Memory (Into object n)) e

pub stepped_next : (n : ℕ) (spot : Spot) → next_byte (stepped n spot) ≡ stepped (n + 1) spot
stepped_next n (spots.Device address) = refl
stepped_next n (spots.Bit register number) = refl
stepped_next n (spots.Memory Null) = refl
stepped_next n (spots.Memory (Into object offset)) = let e : offset + n + 1 ≡ offset + (n + 1) = omega arith in ap (λ n. spots.Memory (Into object n)) e

-- ---- what a spot leads to is there
abbrev pub SpotIsThere : Program → Spot → Type 0
SpotIsThere p (spots.Device address) = Unit {0}
SpotIsThere p (spots.Bit register number) = Unit {0}
SpotIsThere p (spots.Memory Null) = Unit {0}
SpotIsThere p (spots.Memory (Into object offset)) = IsThere p object

pub stepped_there : (p : Program) (n : ℕ) (spot : Spot) → SpotIsThere p spot → SpotIsThere p (stepped n spot)
stepped_there p n (spots.Device address) h = tt
stepped_there p n (spots.Bit register number) h = tt
stepped_there p n (spots.Memory Null) h = tt
stepped_there p n (spots.Memory (Into object offset)) h = h

pub pointer_there : (p : Program) (x : Pointer) → IsPointer p x → SpotIsThere p (spots.Memory x)
pointer_there p Null h = tt
pointer_there p (Into object offset) h = h.0

pub placed_there : (p : Program) (spot : Spot) → IsPlaced p spot → SpotIsThere p spot
placed_there p (spots.Device address) h = tt
placed_there p (spots.Bit register number) h = tt
placed_there p (spots.Memory x) h = pointer_there p x h

-- behind a byte of an object stands its next one, or its end
pub next_placed : (p : Program) (spot : Spot) → IsPlaced p spot → IsInside p spot → IsPlaced p (next_byte spot)
next_placed p (spots.Device address) h i = tt
next_placed p (spots.Bit register number) h i = tt
next_placed p (spots.Memory Null) h i = absurd i
next_placed p (spots.Memory (Into object offset)) h i = (h.0, omega arith)

static_there : (found : Option StaticTree) (xs : List StaticTree) (n : ℕ) (ty : Qualified) → slice_get xs n ≡ found → is_named false (option_map static_type found) ty ≡ true → n < length xs
static_there None xs n ty is e = absurd (false≢true e)
static_there (Some s) xs n ty is e = slice_get_within xs n s is

variable_there : (local : Bool) (found : Option VariableTree) (xs : List VariableTree) (n : ℕ) (ty : Qualified) → slice_get xs n ≡ found → is_named local (option_map variable_type found) ty ≡ true → n < length xs
variable_there local None xs n ty is e = absurd (false≢true e)
variable_there local (Some v) xs n ty is e = slice_get_within xs n v is

pub name_placed : (p : Program) (c : CopyOf) (object : Name) (ty : Qualified) → IsReached p c → is_named (names_local object) (declared_type p (function_at p c.function) object) ty ≡ true → IsPlaced p (spot_of p c object)
name_placed p c (names.Static n) ty r e = (static_there (slice_get p.statics n) p.statics n ty refl e, omega arith)
name_placed p c (names.Param n) ty r e =
    let f = function_at p c.function in
    let h = variable_there false (slice_get f.params n) f.params n ty refl e in
    ((r, omega (arith, length-append f.params f.locals)), omega arith)
name_placed p c (names.Local n) ty r e =
    let f = function_at p c.function in
    let h = variable_there true (slice_get f.locals n) f.locals n ty refl e in
    ((r, omega (arith, length-append f.params f.locals)), omega arith)
name_placed p c (names.Register a) ty r e = tt

any_pointer : (p : Program) (o : Option Pointer) (x : Pointer) → AnyIsPointer p o → o ≡ Some x → IsPointer p x
any_pointer p o x h e = subst (AnyIsPointer p) e h

-- where a place is found, there is an object
pub spot_placed : (p : Program) (c : CopyOf) (place : Place) (spot : Spot) → IsReached p c → IsPlaceOf p c.function place → IsSpotOf p c place spot → IsPlaced p spot
unfolding place_rule_holds
spot_placed p c (tree.Name object ty line) spot r h s = rw s (name_placed p c object ty r h)
spot_placed p c (tree.Bit register number line) spot r h s = rw s tt
spot_placed p c (tree.Member whole member offset ty line) spot r h s =
    rw s.4 (any_pointer p (moved p s.0 (pos offset)) s.1 (moved_stands p s.0 (pos offset) (spot_placed p c whole (spots.Memory s.0) r h.1 s.2)) s.3)
spot_placed p c (tree.Deref pointer ty line) spot r h s = rw s.2 s.1

pub spot_there : (p : Program) (c : CopyOf) (place : Place) (spot : Spot) → IsReached p c → IsPlaceOf p c.function place → IsSpotOf p c place spot → SpotIsThere p spot
spot_there p c place spot r h s = placed_there p spot (spot_placed p c place spot r h s)

-- ---- places in memory
device_int : (ty : Qualified) (more : Bool) → (same_type (types.Int int.UChar) ty.ty && more) ≡ true → is_int ty.ty ≡ true
device_int ty more e = rw (← same_type_is (types.Int int.UChar) ty.ty (and_parts (same_type (types.Int int.UChar) ty.ty) more e).0) refl

device_type : (b : Bool) (ty : Qualified) → is_named false (if b then Some register_type else None) ty ≡ true → is_int ty.ty ≡ true
device_type true ty e = ⊎_elim (device_int ty _) (λ d. absurd (false≢true d)) (or_cases (same_qualified register_type ty) false e)
device_type false ty e = absurd (false≢true e)

-- a place that is no integer is in memory
pub in_memory : (p : Program) (f : ℕ) (c : CopyOf) (place : Place) (spot : Spot) → IsPlaceOf p f place → is_int (place_type place).ty ≡ false → IsSpotOf p c place spot → (x : Pointer) × (spot ≡ spots.Memory x)
unfolding place_rule_holds
in_memory p f c (tree.Name (names.Static n) ty line) spot h e s = (_, s)
in_memory p f c (tree.Name (names.Param n) ty line) spot h e s = (_, s)
in_memory p f c (tree.Name (names.Local n) ty line) spot h e s = (_, s)
in_memory p f c (tree.Name (names.Register a) ty line) spot h e s = absurd (false≢true (sym e ∙ device_type (is_device a) ty h))
in_memory p f c (tree.Bit register number line) spot h e s = absurd (false≢true (sym e))
in_memory p f c (tree.Member whole member offset ty line) spot h e s = (s.1, s.4)
in_memory p f c (tree.Deref pointer ty line) spot h e s = (s.0, s.2)

-- so is one whose address may be taken
pub addressed : (p : Program) (c : CopyOf) (place : Place) (spot : Spot) → is_memory place ≡ true → IsSpotOf p c place spot → (x : Pointer) × (spot ≡ spots.Memory x)
addressed p c (tree.Name (names.Static n) ty line) spot e s = (_, s)
addressed p c (tree.Name (names.Param n) ty line) spot e s = (_, s)
addressed p c (tree.Name (names.Local n) ty line) spot e s = (_, s)
addressed p c (tree.Name (names.Register a) ty line) spot e s = absurd (false≢true e)
addressed p c (tree.Bit register number line) spot e s = absurd (false≢true e)
addressed p c (tree.Member whole member offset ty line) spot e s = (s.1, s.4)
addressed p c (tree.Deref pointer ty line) spot e s = (s.0, s.2)

pub array_no_int : (ty : Ty) → is_array ty ≡ true → is_int ty ≡ false
array_no_int types.Void e = refl
array_no_int (types.Int a) e = absurd (false≢true e)
array_no_int (types.Pointer row) e = refl
array_no_int (types.Array a m x) e = refl
array_no_int (types.Struct n) e = refl

-- what has members is a structure, and so in memory
found_member : (p : Program) (whole : Qualified) (member offset : ℕ) (ty : Qualified) (t : Ty) → member_fits (member_at p t member) whole offset ty ≡ true → is_int t ≡ false
found_member p whole member offset ty types.Void e = refl
found_member p whole member offset ty (types.Int a) e = absurd (false≢true e)
found_member p whole member offset ty (types.Pointer row) e = refl
found_member p whole member offset ty (types.Array a m x) e = refl
found_member p whole member offset ty (types.Struct n) e = refl

pub whole_in_memory : (p : Program) (c : CopyOf) (whole : Place) (member offset : ℕ) (ty : Qualified) (line : ℕ) (spot : Spot) → IsPlaceOf p c.function (tree.Member whole member offset ty line) → IsSpotOf p c whole spot → (x : Pointer) × (spot ≡ spots.Memory x)
unfolding place_rule_holds
whole_in_memory p c whole member offset ty line spot h s = in_memory p c.function c whole spot h.1 (found_member p (place_type whole) member offset ty (place_type whole).ty h.0) s

-- ---- bits
-- a bit is found at a bit alone, which is an unsigned char
pub bit_type : (p : Program) (c : CopyOf) (place : Place) (register number : ℕ) → IsSpotOf p c place (spots.Bit register number) → (place_type place).ty ≡ types.Int int.UChar
bit_type p c (tree.Name (names.Static n) ty line) register number s = absurd (false≢true (sym (ap is_bit s)))
bit_type p c (tree.Name (names.Param n) ty line) register number s = absurd (false≢true (sym (ap is_bit s)))
bit_type p c (tree.Name (names.Local n) ty line) register number s = absurd (false≢true (sym (ap is_bit s)))
bit_type p c (tree.Name (names.Register a) ty line) register number s = absurd (false≢true (sym (ap is_bit s)))
bit_type p c (tree.Bit other at line) register number s = refl
bit_type p c (tree.Member whole member offset ty line) register number s = absurd (false≢true (sym (ap is_bit s.4)))
bit_type p c (tree.Deref pointer ty line) register number s = absurd (false≢true (sym (ap is_bit s.2)))

-- what a pointer leads to has its type
pub deref_pointer : (p : Program) (f : ℕ) (pointer : _) (ty : Qualified) (line : ℕ) → IsPlaceOf p f (tree.Deref pointer ty line) → is_pointer (type_of pointer) ≡ true
unfolding place_rule_holds
deref_pointer p f pointer ty line h = the_pointer p (type_of pointer) ty (and_parts _ _ h.0).0
