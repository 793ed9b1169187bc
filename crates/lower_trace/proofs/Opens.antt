-- Which pointers a state has: none leads to a const static object, but where it is an operand of an index, or what comes of it.
use Rattle.std.proofs.Common.{◌≡◌, ℕ, ◌+◌, Bool, true, false, not, ◌&&◌, ◌||◌, if◌then◌else◌, nat_eq, nat_lt, List, [], ◌∷◌, ◌++◌, Option, Some, None, refl, sym, ◌∙◌, subst, ⊎_elim}
use Rattle.std.proofs.lemmas.Bool.{and_parts, false≢true, or_cases}
use Rattle.std.specs.Prelude.{ℤ, int_lt, unsigned_abs, pos, ◌+ℤ◌, slice_get}
use Rattle.std.specs.Option.{option_map}
use Rattle.std.specs.Ordering.{int_eq}
use Rattle.c_typed.proofs.Facts.{static_of_sound}
use Rattle.c_typed.specs.Fits.{is_named, place_rule_holds, static_type}
use Rattle.c_typed.specs.Sameness.{same_flag, same_qualified, same_type}
use Rattle.c_typed.specs.Sound.{byte_fits, initial_fits, is_changeable, is_sound, object_fits}
use Rattle.c_typed.specs.Trees as tree
use Rattle.c_typed.specs.Trees.{Expression, Place, Program, Statement, StaticTree}
use Rattle.c_typed.specs.Types.{type_bytes}
use Rattle.c_typed.specs.declared.expression.Object.{Object as Name}
use Rattle.c_typed.specs.declared.expression.Object.TheVariants as names
use Rattle.c_typed.specs.declared.program.Initial.{Initial}
use Rattle.c_typed.specs.declared.program.InitialByte.{InitialByte}
use Rattle.c_typed.specs.declared.program.InitialByte.TheVariants as initial
use Rattle.c_typed.specs.declared.types.Qualified.{Qualified}
use Rattle.src_rules.specs.Parts.{IsPlaceOf}
use Rattle.src_rules.specs.State.{Outcome, Went, Undefined, Idle, Lost}
use Rattle.src_rules.specs.Step.{with_value, with_values}
use Rattle.src_values.specs.Control.{Focus, Eval, Find, Holds, Found, Run, Fetch, Write, PutBit, CopyRead, CopyWrite, Leaves, Got, Nothing, One, At, AtWith, Stores, Args, Passed, Stage, Picks, AtItem, Items, Pending, In, To, Doing, Before, Returns, Resumes}
use Rattle.src_values.specs.Data as datum
use Rattle.src_values.specs.Data.{Datum}
use Rattle.src_values.specs.Memory.{Memory, cleared, first_memory, fresh, initial_at, initial_byte, is_of, static_byte, with_byte}
use Rattle.src_values.specs.Objects.{is_constant_static, is_watched, moved, object_bytes, same_object, spot_of}
use Rattle.src_values.specs.Values.{byte_count, byte_of}
use Rattle.src_values.specs.declared.objects.Byte.{Byte}
use Rattle.src_values.specs.declared.objects.Byte.TheVariants as bytes
use Rattle.src_values.specs.declared.objects.CopyOf.{CopyOf}
use Rattle.src_values.specs.declared.objects.Object.{Object}
use Rattle.src_values.specs.declared.objects.Object.TheVariants.{Fixed, Variable}
use Rattle.src_values.specs.declared.objects.Pointer.{Pointer}
use Rattle.src_values.specs.declared.objects.Pointer.TheVariants.{Null, Into}
use Rattle.src_values.specs.declared.objects.Spot.{Spot}
use Rattle.src_values.specs.declared.objects.Spot.TheVariants as spots
use Rattle.lower_trace.proofs.OpenTrees.{AllOpen, ArmOpen, ArmsOpen, AreOpen, ItemsOpen, PlaceOpen, StatementOpen, StatementsOpen, closed_place, is_closed}

-- ---- objects, pointers and bytes
abbrev pub IsOpenObject : Program → Object → Type 0
IsOpenObject p (Fixed n) = is_watched p (Fixed n) ≡ true
IsOpenObject p (Variable c n) = Unit {0}

abbrev pub IsOpenPointer : Program → Pointer → Type 0
IsOpenPointer p Null = Unit {0}
IsOpenPointer p (Into object offset) = IsOpenObject p object

abbrev pub IsOpenSpot : Program → Spot → Type 0
IsOpenSpot p (spots.Memory x) = IsOpenPointer p x
IsOpenSpot p (spots.Device address) = Unit {0}
IsOpenSpot p (spots.Bit register number) = Unit {0}

abbrev pub IsOpenDatum : Program → Datum → Type 0
IsOpenDatum p (datum.Pointer x) = IsOpenPointer p x
IsOpenDatum p (datum.Number q) = Unit {0}
IsOpenDatum p datum.Missing = Unit {0}

abbrev pub IsOpenByte : Program → Byte → Type 0
IsOpenByte p (bytes.Part object offset high) = IsOpenObject p object
IsOpenByte p (bytes.Number n) = Unit {0}
IsOpenByte p bytes.Unset = Unit {0}

abbrev pub AreOpenBytes : Program → List Byte → Type 0
AreOpenBytes p [] = Unit {0}
AreOpenBytes p (byte ∷ more) = IsOpenByte p byte × AreOpenBytes p more

abbrev pub AreOpenData : Program → List Datum → Type 0
AreOpenData p [] = Unit {0}
AreOpenData p (v ∷ vs) = IsOpenDatum p v × AreOpenData p vs

abbrev pub MemoryOpen : Program → Memory → Type 0
MemoryOpen p m = (object : Object) (at : ℕ) → IsOpenByte p (m object at)

-- ---- what frames wait for
-- whether the frame on top takes a pointer that may lead to a const object
abbrev pub closed_in : Expression → Got → Bool
closed_in (tree.Offset op left right size ty line) Nothing = is_closed left
closed_in (tree.Offset op left right size ty line) (One u) = is_closed right
closed_in _ _ = false

abbrev pub closed_to : Place → Bool
closed_to (tree.Deref pointer ty line) = is_closed pointer
closed_to _ = false

abbrev pub closed_for : List Pending → Bool
closed_for (In e got ∷ k) = closed_in e got
closed_for (To place ∷ k) = closed_to place
closed_for _ = false

-- and such a place
abbrev pub sought_in : Expression → Got → Bool
sought_in (tree.Read place ty line) Nothing = closed_place place
sought_in (tree.Address place ty line) Nothing = closed_place place
sought_in (tree.Assign place value ty line) Nothing = closed_place place
sought_in (tree.StructAssign place from size line) Nothing = closed_place place
sought_in (tree.StructAssign place from size line) (At spot) = closed_place from
sought_in (tree.Update op place value operation size ty line) Nothing = closed_place place
sought_in (tree.Step op place operation size ty line) Nothing = closed_place place
sought_in _ _ = false

abbrev pub sought_to : Place → Bool
sought_to (tree.Member whole member offset ty line) = closed_place whole
sought_to _ = false

abbrev pub sought_for : Statement → Stage → Bool
sought_for (tree.InitList local all line) (AtItem (tree.Struct offset from size) rest) = closed_place from
sought_for _ _ = false

abbrev pub closed_sought : List Pending → Bool
closed_sought (In e got ∷ k) = sought_in e got
closed_sought (To place ∷ k) = sought_to place
closed_sought (Doing t stage ∷ k) = sought_for t stage
closed_sought _ = false

-- where the first holds, the second does
abbrev pub Only : Bool → Bool → Type 0
Only false b = Unit {0}
Only true b = b ≡ true

abbrev pub DatumIf : Bool → Program → Datum → Type 0
DatumIf true p v = Unit {0}
DatumIf false p v = IsOpenDatum p v

abbrev pub SpotIf : Bool → Program → Spot → Type 0
SpotIf true p spot = Unit {0}
SpotIf false p spot = IsOpenSpot p spot

-- ---- the state
abbrev pub FocusOpen : Program → Focus → List Pending → Type 0
FocusOpen p (Eval e) k = AllOpen e × Only (is_closed e) (closed_for k)
FocusOpen p (Find place) k = PlaceOpen place × Only (closed_place place) (closed_sought k)
FocusOpen p (Holds v) k = DatumIf (closed_for k) p v
FocusOpen p (Found spot) k = SpotIf (closed_sought k) p spot
FocusOpen p (Run t) k = StatementOpen t
FocusOpen p (Fetch spot read) k = AreOpenBytes p read
FocusOpen p (Write spot v at) k = IsOpenDatum p v
FocusOpen p (PutBit register number v old) k = IsOpenDatum p v
FocusOpen p (CopyRead to from left) k = IsOpenSpot p to
FocusOpen p (CopyWrite to from byte left) k = IsOpenSpot p to × IsOpenByte p byte
FocusOpen p (Leaves v) k = IsOpenDatum p v
FocusOpen p _ k = Unit {0}

-- what is done of a node's parts
abbrev pub PlaceAt : Program → Expression → Spot → Type 0
PlaceAt p (tree.Read place ty line) spot = Unit {0}
PlaceAt p _ spot = IsOpenSpot p spot

abbrev pub LeftIf : Program → Expression → Datum → Type 0
LeftIf p (tree.Offset op left right size ty line) u = DatumIf (is_closed left) p u
LeftIf p _ u = Unit {0}

abbrev pub GotOpen : Program → Expression → Got → Type 0
GotOpen p e (One u) = LeftIf p e u
GotOpen p e (At spot) = PlaceAt p e spot
GotOpen p e (AtWith spot u) = IsOpenSpot p spot × IsOpenDatum p u
GotOpen p e (Stores spot u) = IsOpenSpot p spot × IsOpenDatum p u
GotOpen p e (Args before more) = AreOpenData p before × AreOpen more
GotOpen p e (Passed values) = AreOpenData p values
GotOpen p e _ = Unit {0}

abbrev pub StageOpen : Stage → Type 0
StageOpen (Picks arm more) = ArmOpen arm × ArmsOpen more
StageOpen (AtItem item rest) = ItemsOpen rest
StageOpen (Items item rest) = ItemsOpen rest
StageOpen _ = Unit {0}

abbrev pub StackOpen : Program → List Pending → Type 0
StackOpen p [] = Unit {0}
StackOpen p (In e got ∷ k) = (AllOpen e × Only (is_closed e) (closed_for k)) × GotOpen p e got × StackOpen p k
StackOpen p (To place ∷ k) = (PlaceOpen place × Only (closed_place place) (closed_sought k)) × StackOpen p k
StackOpen p (Doing t stage ∷ k) = StatementOpen t × StageOpen stage × StackOpen p k
StackOpen p (Before ss ∷ k) = StatementsOpen ss × StackOpen p k
StackOpen p (Returns d ∷ k) = StackOpen p k
StackOpen p (Resumes d x ∷ k) = FocusOpen p x k × StackOpen p k

abbrev pub KeepsOpen : Program → Outcome → Type 0
KeepsOpen p (Went u event) = MemoryOpen p u.memory × FocusOpen p u.focus u.stack × StackOpen p u.stack
KeepsOpen p (Undefined kind line) = Unit {0}
KeepsOpen p Idle = Unit {0}
KeepsOpen p Lost = Unit {0}

-- ---- conditions
pub only_same : (b : Bool) → Only b b
only_same true = refl
only_same false = tt

pub only_none : (a b : Bool) → a ≡ false → Only a b
only_none a b e = subst (λ x. Only x b) (sym e) tt

-- what isn't taken isn't there
pub only_not : (a b : Bool) → Only a b → b ≡ false → a ≡ false
only_not true b h e = absurd (false≢true (sym e ∙ h))
only_not false b h e = refl

pub or_none : (a b : Bool) → (a || b) ≡ false → (a ≡ false) × (b ≡ false)
or_none true b e = absurd (false≢true (sym e))
or_none false b e = (refl, e)

pub datum_any : (p : Program) (b : Bool) (v : Datum) → IsOpenDatum p v → DatumIf b p v
datum_any p true v h = tt
datum_any p false v h = h

pub datum_of : (p : Program) (b : Bool) (v : Datum) → b ≡ false → DatumIf b p v → IsOpenDatum p v
datum_of p b v e h = subst (λ x. DatumIf x p v) e h

pub datum_when : (p : Program) (b : Bool) (v : Datum) → (b ≡ false → IsOpenDatum p v) → DatumIf b p v
datum_when p true v h = tt
datum_when p false v h = h refl

pub spot_any : (p : Program) (b : Bool) (spot : Spot) → IsOpenSpot p spot → SpotIf b p spot
spot_any p true spot h = tt
spot_any p false spot h = h

pub spot_of_if : (p : Program) (b : Bool) (spot : Spot) → b ≡ false → SpotIf b p spot → IsOpenSpot p spot
spot_of_if p b spot e h = subst (λ x. SpotIf x p spot) e h

pub spot_when : (p : Program) (b : Bool) (spot : Spot) → (b ≡ false → IsOpenSpot p spot) → SpotIf b p spot
spot_when p true spot h = tt
spot_when p false spot h = h refl

-- ---- pointers that move stay in their object
none_some : (y : Pointer) → None ≡ Some y → ⊥
none_some y e = cc

some_pointer : (x y : Pointer) → Some x ≡ Some y → x ≡ y
some_pointer x y e = cc

range_open : (p : Program) (object : Object) (out : Bool) (z : ℤ) (y : Pointer) → (if out then None else Some (Into object (unsigned_abs z))) ≡ Some y → IsOpenObject p object → IsOpenPointer p y
range_open p object true z y e h = absurd (none_some y e)
range_open p object false z y e h = subst (IsOpenPointer p) (some_pointer (Into object (unsigned_abs z)) y e) h

null_open : (p : Program) (b : Bool) (y : Pointer) → (if b then Some Null else None) ≡ Some y → IsOpenPointer p y
null_open p true y e = subst (IsOpenPointer p) (some_pointer Null y e) tt
null_open p false y e = absurd (none_some y e)

pub moved_open : (p : Program) (x y : Pointer) (by : ℤ) → moved p x by ≡ Some y → IsOpenPointer p x → IsOpenPointer p y
unfolding moved
moved_open p Null y by e h = null_open p (int_eq by (pos 0)) y e
moved_open p (Into object offset) y by e h =
    range_open p object (int_lt (pos offset +ℤ by) (pos 0) || int_lt (pos (object_bytes p object)) (pos offset +ℤ by)) (pos offset +ℤ by) y e h

-- ---- names
not_false : (b : Bool) → b ≡ false → not b ≡ true
not_false true e = absurd (false≢true (sym e))
not_false false e = refl

flag_false : (a b : Bool) → same_flag a b ≡ true → b ≡ false → a ≡ false
flag_false true b e h = absurd (false≢true (sym h ∙ e))
flag_false false b e h = refl

static_open : (o : Option StaticTree) (ty : Qualified) → is_named false (option_map static_type o) ty ≡ true → ty.constant ≡ false → is_constant_static o ≡ false
static_open None ty e h = refl
static_open (Some s) ty e h =
    ⊎_elim
    (λ same. flag_false s.ty.constant ty.constant (and_parts _ _ (and_parts (same_type s.ty.ty ty.ty) _ same).1).0 h)
    (λ none. absurd (false≢true none))
    (or_cases (same_qualified s.ty ty) false e)

pub name_open : (p : Program) (c : CopyOf) (object : Name) (ty : Qualified) (line : ℕ) → IsPlaceOf p c.function (tree.Name object ty line) → ty.constant ≡ false → IsOpenSpot p (spot_of p c object)
unfolding place_rule_holds is_watched
name_open p c (names.Static n) ty line h e = not_false (is_constant_static (slice_get p.statics n)) (static_open (slice_get p.statics n) ty h e)
name_open p c (names.Param n) ty line h e = tt
name_open p c (names.Local n) ty line h e = tt
name_open p c (names.Register n) ty line h e = tt

-- ---- bytes of values
pub bytes_open : (p : Program) (v : Datum) (k : ℕ) → IsOpenDatum p v → IsOpenByte p (byte_of v k)
bytes_open p (datum.Number q) k h = tt
bytes_open p (datum.Pointer Null) k h = tt
bytes_open p (datum.Pointer (Into object offset)) k h = h
bytes_open p datum.Missing k h = tt

pub appended : (p : Program) (read : List Byte) (byte : Byte) → AreOpenBytes p read → IsOpenByte p byte → AreOpenBytes p (read ++ byte ∷ [])
appended p [] byte h g = (g, tt)
appended p (x ∷ xs) byte h g = (h.0, appended p xs byte h.1 g)

pub data_appended : (p : Program) (vs : List Datum) (v : Datum) → AreOpenData p vs → IsOpenDatum p v → AreOpenData p (vs ++ v ∷ [])
data_appended p [] v h g = (g, tt)
data_appended p (x ∷ xs) v h g = (h.0, data_appended p xs v h.1 g)

-- ---- memory
either_open : (p : Program) (b : Bool) (x y : Byte) → IsOpenByte p x → IsOpenByte p y → IsOpenByte p (if b then x else y)
either_open p true x y h g = h
either_open p false x y h g = g

pub written_open : (p : Program) (m : Memory) (object : Object) (offset : ℕ) (byte : Byte) → MemoryOpen p m → IsOpenByte p byte → MemoryOpen p (with_byte m object offset byte)
written_open p m object offset byte h g other at = either_open p (same_object other object && nat_eq at offset) byte (m other at) g (h other at)

pub cleared_open : (p : Program) (m : Memory) (object : Object) → MemoryOpen p m → MemoryOpen p (cleared m object)
cleared_open p m object h other at = either_open p (same_object other object) bytes.Unset (m other at) tt (h other at)

pub fresh_open : (p : Program) (m : Memory) (c : CopyOf) → MemoryOpen p m → MemoryOpen p (fresh m c)
fresh_open p m c h other at = either_open p (is_of c other) bytes.Unset (m other at) tt (h other at)

value_given : (p : Program) (m : Memory) (object : Object) (v : Datum) → MemoryOpen p m → IsOpenDatum p v → MemoryOpen p (with_value m object v)
value_given p m object v h g other at = either_open p (same_object other object && nat_lt at (byte_count v)) (byte_of v at) (m other at) (bytes_open p v at g) (h other at)

pub values_given : (p : Program) (c : CopyOf) (vs : List Datum) (m : Memory) (n : ℕ) → MemoryOpen p m → AreOpenData p vs → MemoryOpen p (with_values m c n vs)
values_given p c [] m n h g = h
values_given p c (v ∷ vs) m n h g = values_given p c vs (with_value m (Variable c n) v) (n + 1) (value_given p m (Variable c n) v h g.0) g.1

-- the first memory
changeable_watched : (p : Program) (n : ℕ) → is_changeable (slice_get p.statics n) ≡ true → is_watched p (Fixed n) ≡ true
unfolding is_watched
changeable_watched p n e = by (slice_get p.statics n) e
  where
    by : (o : Option StaticTree) → is_changeable o ≡ true → not (is_constant_static o) ≡ true
    by None e = absurd (false≢true e)
    by (Some s) e = e

initial_open : (p : Program) (b : InitialByte) → byte_fits p b ≡ true → IsOpenByte p (initial_byte b)
initial_open p (initial.Number n) e = tt
initial_open p (initial.Address object byte) e = changeable_watched p object (and_parts (is_changeable (slice_get p.statics object)) (nat_lt byte 2) e).0

initials_open : (p : Program) (size before : ℕ) (is : List Initial) (at : ℕ) → initial_fits p size before is ≡ true → IsOpenByte p (initial_at is at)
initials_open p size before [] at e = tt
initials_open p size before (i ∷ is) at e =
    let rest = initial_fits p size (i.offset + 1) is in
    let b = and_parts (nat_lt i.offset size) (byte_fits p i.byte && rest) (and_parts _ (nat_lt i.offset size && (byte_fits p i.byte && rest)) e).1 in
    let c = and_parts (byte_fits p i.byte) rest b.1 in
    either_open p (nat_eq i.offset at) (initial_byte i.byte) (initial_at is at) (initial_open p i.byte c.0) (initials_open p size (i.offset + 1) is at c.1)

static_bytes_open : (p : Program) → is_sound p ≡ true → (n at : ℕ) (o : Option StaticTree) → slice_get p.statics n ≡ o → IsOpenByte p (static_byte p.sizes o at)
static_bytes_open p sound n at None is = tt
static_bytes_open p sound n at (Some s) is =
    either_open p (nat_lt at (type_bytes p.sizes s.ty.ty)) (initial_at s.initial at) bytes.Unset
    (initials_open p (type_bytes p.sizes s.ty.ty) 0 s.initial at (and_parts (object_fits p s.ty.ty) (initial_fits p (type_bytes p.sizes s.ty.ty) 0 s.initial) (static_of_sound p n s sound is)).1) tt

pub first_open : (p : Program) → is_sound p ≡ true → MemoryOpen p (first_memory p)
first_open p sound (Fixed n) at = static_bytes_open p sound n at (slice_get p.statics n) refl
first_open p sound (Variable c n) at = tt
