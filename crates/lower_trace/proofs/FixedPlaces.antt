-- Where fixed places are found: in static objects, in variables of the copy that runs, and in registers of the device.
use Rattle.c_typed.specs.Fits.{declared_type, is_device, is_named, names_local, place_rule_holds, register_type}
use Rattle.c_typed.specs.Trees as tree
use Rattle.c_typed.specs.Trees.{Place}
use Rattle.c_typed.specs.declared.expression.Object.TheVariants as names
use Rattle.c_typed.specs.declared.types.Qualified.{Qualified}
use Rattle.core_code.specs.Machine.{Program, is_valid}
use Rattle.core_code.specs.declared.code.Byte.TheVariants.{Device}
use Rattle.core_code.specs.declared.code.Byte.{Byte}
use Rattle.lower_expr.specs.Layout.{Layout}
use Rattle.lower_expr.specs.Spots.{member_spot, spot_of}
use Rattle.lower_expr.specs.declared.places.Spot as place
use Rattle.lower_expr.specs.declared.places.Spot.TheVariants.{Bit, Computed, Fixed}
use Rattle.lower_trace.proofs.CodeLeft.{Scene}
use Rattle.lower_trace.proofs.Operations.{true_le}
use Rattle.lower_trace.proofs.Written.{and_left, and_right, same_nat}
use Rattle.pic_world.specs.Registers.{Register, is_register, lowest, name_in, registers}
use Rattle.src_rules.proofs.Places.{name_placed}
use Rattle.src_rules.specs.Parts.{IsPlaceOf}
use Rattle.src_rules.specs.Standing.{IsReached, IsSpotOf}
use Rattle.src_values.specs.Objects as source
use Rattle.src_values.specs.Objects.{function_at, moved, object_bytes, variables_of}
use Rattle.src_values.specs.declared.objects.CopyOf.{CopyOf}
use Rattle.src_values.specs.declared.objects.Object as object
use Rattle.src_values.specs.declared.objects.Object.TheVariants as objects
use Rattle.src_values.specs.declared.objects.Pointer.TheVariants.{Into, Null}
use Rattle.src_values.specs.declared.objects.Pointer.{Pointer}
use Rattle.src_values.specs.declared.objects.Spot as spot
use Rattle.src_values.specs.declared.objects.Spot.TheVariants as spots
use Rattle.std.proofs.Common.{Bool, List, None, Option, Some, [], ap, false, if◌then◌else◌, length, nat_eq, nat_le, pos, refl, subst, sym, true, unsigned_abs, ℕ, ℤ, ◌&&◌, ◌+ℤ◌, ◌<◌, ◌||◌, ◌∷◌, ◌≡◌, ◌≤◌}
use Rattle.std.specs.Ordering.{int_eq}
use Rattle.std.specs.Prelude.{int_lt, is_some, unwrap_or}

abbrev pub IsOwnSpot : Scene → CopyOf → spot.Spot → Type 0
IsOwnSpot z c (spots.Memory (Into (objects.Fixed i) f)) = i < length z.program.statics
IsOwnSpot z c (spots.Memory (Into (objects.Variable d i) f)) = (d ≡ c) × (i < length (variables_of (function_at z.program c.function)))
IsOwnSpot z c (spots.Memory Null) = Unit {0}
IsOwnSpot z c (spots.Device address) = is_device address ≡ true
IsOwnSpot z c (spots.Bit register bit) = Unit {0}

device_case : (b : Bool) (ty : Qualified) → is_named false (if b then Some register_type else None) ty ≡ true → b ≡ true
device_case true ty e = refl
device_case false ty e = absurd (cc)

name_own : (z : Scene) (c : CopyOf) (object : _) (ty : Qualified) → IsReached z.program c → is_named (names_local object) (declared_type z.program (function_at z.program c.function) object) ty ≡ true → IsOwnSpot z c (source.spot_of z.program c object)
name_own z c (names.Static n) ty r e = (name_placed z.program c (names.Static n) ty r e).0
name_own z c (names.Param n) ty r e = (refl, (name_placed z.program c (names.Param n) ty r e).0.1)
name_own z c (names.Local n) ty r e = (refl, (name_placed z.program c (names.Local n) ty r e).0.1)
name_own z c (names.Register a) ty r e = device_case (is_device a) ty e

some_pointer : (a b : Pointer) → Some a ≡ Some b → a ≡ b
some_pointer a b e = ap (λ x. unwrap_or x a) e

same_own : (z : Scene) (c : CopyOf) (o : object.Object) (f t : ℕ) → IsOwnSpot z c (spots.Memory (Into o f)) → IsOwnSpot z c (spots.Memory (Into o t))
same_own z c (objects.Fixed i) f t h = h
same_own z c (objects.Variable d i) f t h = h

range_own : (z : Scene) (c : CopyOf) (o : object.Object) (f t : ℕ) (out : Bool) (y : Pointer) → IsOwnSpot z c (spots.Memory (Into o f)) → (if out then None else Some (Into o t)) ≡ Some y → IsOwnSpot z c (spots.Memory y)
range_own z c o f t true y h e = absurd (cc)
range_own z c o f t false y h e = subst (λ x. IsOwnSpot z c (spots.Memory x)) (some_pointer (Into o t) y e) (same_own z c o f t h)

null_own : (z : Scene) (c : CopyOf) (b : Bool) (y : Pointer) → (if b then Some Null else None) ≡ Some y → IsOwnSpot z c (spots.Memory y)
null_own z c true y e = subst (λ x. IsOwnSpot z c (spots.Memory x)) (some_pointer Null y e) tt
null_own z c false y e = absurd (cc)

moved_own : (z : Scene) (c : CopyOf) (x y : Pointer) (by : ℤ) → IsOwnSpot z c (spots.Memory x) → moved z.program x by ≡ Some y → IsOwnSpot z c (spots.Memory y)
unfolding moved
moved_own z c Null y by h e = null_own z c (int_eq by (pos 0)) y e
moved_own z c (Into o f) y by h e = range_own z c o f (unsigned_abs (pos f +ℤ by)) (int_lt (pos f +ℤ by) (pos 0) || int_lt (pos (object_bytes z.program o)) (pos f +ℤ by)) y h e

member_fixed : (s : place.Spot) (offset : ℕ) (byte : Byte) → member_spot s offset ≡ Fixed byte → (b : Byte) × (s ≡ Fixed b)
member_fixed (Fixed b) offset byte e = (b, refl)
member_fixed (Bit register bit) offset byte e = absurd (cc)
member_fixed Computed offset byte e = absurd (cc)

pub own_spot : (z : Scene) (c : CopyOf) (l : Layout) (n : ℕ) (sought : Place) (byte : Byte) (at : spot.Spot) → spot_of l n sought ≡ Fixed byte → IsReached z.program c → IsPlaceOf z.program c.function sought → IsSpotOf z.program c sought at → IsOwnSpot z c at
unfolding spot_of place_rule_holds
own_spot z c l n (tree.Name object ty line) byte at e r h s = subst (IsOwnSpot z c) (sym s) (name_own z c object ty r h)
own_spot z c l n (tree.Bit register bit line) byte at e r h s = absurd (cc)
own_spot z c l n (tree.Member whole member offset ty line) byte at e r h s =
    let w = member_fixed (spot_of l n whole) offset byte e in
    subst (IsOwnSpot z c) (sym s.4) (moved_own z c s.0 s.1 (pos offset) (own_spot z c l n whole w.0 (spots.Memory s.0) w.1 r h.1 s.2) s.3)
own_spot z c l n (tree.Deref pointer ty line) byte at e r h s = absurd (cc)

-- ---- registers
-- each register of the table is found at its lowest address, which has 8 bits
abbrev IsFine : ℕ → Bool
IsFine a = (is_register a && nat_eq (lowest a) a) && nat_le a 255

AreFine : List Register → Bool
AreFine [] = true
AreFine (r ∷ rs) = IsFine r.1 && AreFine rs

all_fine : AreFine registers ≡ true
unfolding AreFine
all_fine = refl

fine_case : (here : Bool) (a b : ℕ) (name : List ℕ) (o : Option (List ℕ)) → nat_eq a b ≡ here → IsFine a ≡ true → (is_some o ≡ true → IsFine b ≡ true) → is_some (if here then Some name else o) ≡ true → IsFine b ≡ true
fine_case true a b name o e f next h = subst (λ x. IsFine x ≡ true) (same_nat a b e) f
fine_case false a b name o e f next h = next h

fine_in : (rs : List Register) (a : ℕ) → AreFine rs ≡ true → is_some (name_in rs a) ≡ true → IsFine a ≡ true
unfolding AreFine
fine_in [] a f h = absurd (cc)
fine_in (r ∷ rs) a f h = fine_case (nat_eq r.1 a) r.1 a r.0 (name_in rs a) refl (and_left (IsFine r.1) (AreFine rs) f) (λ i. fine_in rs a (and_right (IsFine r.1) (AreFine rs) f) i) h

pub device_valid : (q : Program) (n a : ℕ) → is_device a ≡ true → is_valid q n (Device a) ≡ true
unfolding is_device is_valid
device_valid q n a h = and_left (is_register a && nat_eq (lowest a) a) (nat_le a 255) (fine_in registers a all_fine h)

pub device_small : (a : ℕ) → is_device a ≡ true → a ≤ 255
unfolding is_device
device_small a h = true_le a 255 (and_right (is_register a && nat_eq (lowest a) a) (nat_le a 255) (fine_in registers a all_fine h))
