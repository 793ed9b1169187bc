-- A fixed place that may be written is no part of a const static object: so each byte that is copied to one is an event.
use Rattle.c_typed.specs.Fits.{is_alone, is_local_name, is_named, member_at, place_rule_holds, rule_holds, static_type}
use Rattle.c_typed.specs.Rules.{is_writable, member_fits}
use Rattle.c_typed.specs.Sameness.{is_array, is_struct, same_flag, same_type}
use Rattle.c_typed.specs.Trees as tree
use Rattle.c_typed.specs.Trees.{MemberTree, Place, StaticTree}
use Rattle.c_typed.specs.Types.{place_type, type_bytes}
use Rattle.c_typed.specs.declared.expression.Object.TheVariants as names
use Rattle.c_typed.specs.declared.types.Qualified.{Qualified}
use Rattle.core_code.specs.declared.code.Byte.{Byte}
use Rattle.lower_expr.specs.Layout.{Layout}
use Rattle.lower_expr.specs.Spots.{member_spot, spot_of}
use Rattle.lower_expr.specs.declared.places.Spot as place
use Rattle.lower_expr.specs.declared.places.Spot.TheVariants.{Bit, Computed, Fixed}
use Rattle.lower_trace.proofs.CodeLeft.{Scene}
use Rattle.lower_trace.proofs.FixedWrites.{IsOpen}
use Rattle.src_rules.specs.Parts.{IsPlaceOf, Obeys}
use Rattle.src_rules.specs.Standing.{IsSpotOf, stepped}
use Rattle.src_values.specs.Objects.{is_constant_static, is_watched, moved, object_bytes}
use Rattle.src_values.specs.declared.objects.CopyOf.{CopyOf}
use Rattle.src_values.specs.declared.objects.Object as object
use Rattle.src_values.specs.declared.objects.Object.TheVariants as objects
use Rattle.src_values.specs.declared.objects.Pointer.TheVariants.{Into, Null}
use Rattle.src_values.specs.declared.objects.Pointer.{Pointer}
use Rattle.src_values.specs.declared.objects.Spot as spot
use Rattle.src_values.specs.declared.objects.Spot.TheVariants as spots
use Rattle.std.proofs.Common.{Bool, None, Option, Some, ap, false, if◌then◌else◌, nat_eq, not, option_map, pos, refl, subst, sym, true, unsigned_abs, ⊎_elim, ℕ, ℤ, ◌&&◌, ◌+ℤ◌, ◌∙◌, ◌≡◌, ◌||◌}
use Rattle.std.proofs.lemmas.Bool.{and_parts, not-true, or_cases}
use Rattle.std.specs.Ordering.{int_eq}
use Rattle.std.specs.Prelude.{int_lt, slice_get, unwrap_or}

apart : false ≡ true → ⊥
apart e = cc

-- ---- flags
same_open : (a b : Bool) → same_flag a b ≡ true → b ≡ false → a ≡ false
same_open true b e none = absurd (apart (sym none ∙ e))
same_open false b e none = refl

second_open : (a b : Bool) → (a || b) ≡ false → b ≡ false
second_open true b e = absurd (apart (sym e))
second_open false b e = e

-- ---- names of static objects
static_open : (o : Option StaticTree) (ty : Qualified) → is_named false (option_map static_type o) ty ≡ true → ty.constant ≡ false → not (is_constant_static o) ≡ true
static_open None ty e none = absurd (apart e)
static_open (Some s) ty e none =
    let qualified = ⊎_elim (λ q. q) (λ q. absurd (apart q)) (or_cases _ _ e) in
    let flags = and_parts _ _ (and_parts (same_type s.ty.ty ty.ty) _ qualified).1 in
    ap not (same_open s.ty.constant ty.constant flags.0 none)

-- ---- members
whole_open : (o : Option MemberTree) (whole : Qualified) (offset : ℕ) (ty : Qualified) → member_fits o whole offset ty ≡ true → ty.constant ≡ false → whole.constant ≡ false
whole_open None whole offset ty e none = absurd (apart e)
whole_open (Some m) whole offset ty e none =
    let flags = and_parts _ _ (and_parts (same_type m.ty.ty ty.ty) _ (and_parts _ _ e).1).1 in
    second_open m.ty.constant whole.constant (same_open (m.ty.constant || whole.constant) ty.constant flags.0 none)

member_fixed : (s : place.Spot) (offset : ℕ) (byte : Byte) → member_spot s offset ≡ Fixed byte → (b : Byte) × (s ≡ Fixed b)
member_fixed (Fixed b) offset byte e = (b, refl)
member_fixed (Bit register bit) offset byte e = absurd (cc)
member_fixed Computed offset byte e = absurd (cc)

some_pointer : (a b : Pointer) → Some a ≡ Some b → a ≡ b
some_pointer a b e = ap (λ x. unwrap_or x a) e

same_object_open : (z : Scene) (o : object.Object) (f t : ℕ) → IsOpen z (spots.Memory (Into o f)) → IsOpen z (spots.Memory (Into o t))
same_object_open z (objects.Fixed i) f t h = h
same_object_open z (objects.Variable d i) f t h = h

range_open : (z : Scene) (o : object.Object) (f t : ℕ) (out : Bool) (y : Pointer) → IsOpen z (spots.Memory (Into o f)) → (if out then None else Some (Into o t)) ≡ Some y → IsOpen z (spots.Memory y)
range_open z o f t true y h e = absurd (cc)
range_open z o f t false y h e = subst (λ x. IsOpen z (spots.Memory x)) (some_pointer (Into o t) y e) (same_object_open z o f t h)

null_open : (z : Scene) (b : Bool) (y : Pointer) → (if b then Some Null else None) ≡ Some y → IsOpen z (spots.Memory y)
null_open z true y e = subst (λ x. IsOpen z (spots.Memory x)) (some_pointer Null y e) tt
null_open z false y e = absurd (cc)

moved_open : (z : Scene) (x y : Pointer) (by : ℤ) → IsOpen z (spots.Memory x) → moved z.program x by ≡ Some y → IsOpen z (spots.Memory y)
unfolding moved
moved_open z Null y by h e = null_open z (int_eq by (pos 0)) y e
moved_open z (Into o f) y by h e = range_open z o f (unsigned_abs (pos f +ℤ by)) (int_lt (pos f +ℤ by) (pos 0) || int_lt (pos (object_bytes z.program o)) (pos f +ℤ by)) y h e

-- ---- places
pub fixed_open : (z : Scene) (c : CopyOf) (l : Layout) (n : ℕ) (sought : Place) (byte : Byte) (at : spot.Spot) → spot_of l n sought ≡ Fixed byte → IsPlaceOf z.program c.function sought → IsSpotOf z.program c sought at → (place_type sought).constant ≡ false → IsOpen z at
unfolding spot_of place_rule_holds is_watched
fixed_open z c l n (tree.Name (names.Static i) ty line) byte at e h s none = subst (IsOpen z) (sym s) (static_open (slice_get z.program.statics i) ty h none)
fixed_open z c l n (tree.Name (names.Param i) ty line) byte at e h s none = subst (IsOpen z) (sym s) tt
fixed_open z c l n (tree.Name (names.Local i) ty line) byte at e h s none = subst (IsOpen z) (sym s) tt
fixed_open z c l n (tree.Name (names.Register a) ty line) byte at e h s none = subst (IsOpen z) (sym s) tt
fixed_open z c l n (tree.Bit register bit line) byte at e h s none = absurd (cc)
fixed_open z c l n (tree.Member whole member offset ty line) byte at e h s none =
    let w = member_fixed (spot_of l n whole) offset byte e in
    subst (IsOpen z) (sym s.4)
    (moved_open z s.0 s.1 (pos offset) (fixed_open z c l n whole w.0 (spots.Memory s.0) w.1 h.1 s.2 (whole_open (member_at z.program (place_type whole).ty member) (place_type whole) offset ty h.0 none)) s.3)
fixed_open z c l n (tree.Deref pointer ty line) byte at e h s none = absurd (cc)

local_open : (z : Scene) (c : CopyOf) (sought : Place) (at : spot.Spot) → is_local_name sought ≡ true → IsSpotOf z.program c sought at → IsOpen z at
local_open z c (tree.Name (names.Local i) ty line) at e s = subst (IsOpen z) (sym s) tt
local_open z c (tree.Name (names.Static i) ty line) at e s = absurd (apart e)
local_open z c (tree.Name (names.Param i) ty line) at e s = absurd (apart e)
local_open z c (tree.Name (names.Register a) ty line) at e s = absurd (apart e)
local_open z c (tree.Bit register bit line) at e s = absurd (apart e)
local_open z c (tree.Member whole member offset ty line) at e s = absurd (apart e)
local_open z c (tree.Deref pointer ty line) at e s = absurd (apart e)

-- the place that a structure is copied to, if it is fixed
pub struct_open : (z : Scene) (c : CopyOf) (l : Layout) (n : ℕ) (sought other : Place) (size line : ℕ) (byte : Byte) (at : spot.Spot) → spot_of l n sought ≡ Fixed byte → Obeys z.program (tree.StructAssign sought other size line) → IsPlaceOf z.program c.function sought → IsSpotOf z.program c sought at → IsOpen z at
unfolding rule_holds
struct_open z c l n sought other size line byte at e h place_is s =
    let begins = is_alone h.0 && is_local_name sought in
    let writable = is_writable (place_type sought) in
    ⊎_elim
    (λ b. local_open z c sought at (and_parts (is_alone h.0) (is_local_name sought) b).1 s)
    (λ w. fixed_open z c l n sought byte at e place_is s (not-true (place_type sought).constant (and_parts (not (place_type sought).constant) (not (is_array (place_type sought).ty)) w).0))
    (or_cases begins writable
    (and_parts (begins || writable) (is_struct (place_type sought).ty && (same_type (place_type sought).ty (place_type other).ty && nat_eq size (type_bytes z.program.sizes (place_type sought).ty))) h.1).0)

-- bytes behind it are of the same object
pub stepped_open : (z : Scene) (n : ℕ) (at : spot.Spot) → IsOpen z at → IsOpen z (stepped n at)
stepped_open z n (spots.Memory (Into (objects.Fixed i) f)) h = h
stepped_open z n (spots.Memory (Into (objects.Variable d i) f)) h = tt
stepped_open z n (spots.Memory Null) h = tt
stepped_open z n (spots.Device a) h = tt
stepped_open z n (spots.Bit register bit) h = tt
