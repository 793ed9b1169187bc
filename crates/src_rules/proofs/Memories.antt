-- What writes leave of a memory that stands.
use Rattle.std.proofs.Common.{◌≡◌, ℕ, ◌<◌, ◌≤◌, Bool, true, false, ◌&&◌, nat_eq, refl, ap, ◌∙◌, arith}
use Rattle.std.proofs.lemmas.Bool.{and_parts, false≢true, ltb-true}
use Rattle.std.specs.Prelude.{if◌then◌else◌, nat_lt}
use Rattle.c_typed.specs.Trees.{Program}
use Rattle.c_typed.specs.declared.types.Ty.{Ty}
use Rattle.pic_world.specs.Roots.{same_root}
use Rattle.pic_world.specs.declared.Root.{Root}
use Rattle.pic_world.specs.declared.Root.TheVariants.{Main, Isr}
use Rattle.src_rules.proofs.Values.{same_nat}
use Rattle.src_rules.specs.Standing.{IsThere, IsByte, IsByteAt, MemoryStands, HasType}
use Rattle.src_rules.specs.Step.{with_value}
use Rattle.src_values.specs.Data.{Datum, Number, Pointer, Missing}
use Rattle.src_values.specs.Memory.{Memory, with_byte, cleared, fresh, is_of}
use Rattle.src_values.specs.Objects.{same_copy, same_object, object_bytes}
use Rattle.src_values.specs.Values.{byte_count, byte_of}
use Rattle.src_values.specs.declared.objects.Byte.{Byte}
use Rattle.src_values.specs.declared.objects.Byte.TheVariants as bytes
use Rattle.src_values.specs.declared.objects.CopyOf.{CopyOf}
use Rattle.src_values.specs.declared.objects.Object.{Object}
use Rattle.src_values.specs.declared.objects.Object.TheVariants.{Fixed, Variable}
use Rattle.src_values.specs.declared.objects.Pointer.TheVariants.{Null, Into}

pub same_root_is : (a b : Root) → same_root a b ≡ true → a ≡ b
same_root_is Main Main e = refl
same_root_is Main Isr e = absurd (false≢true e)
same_root_is Isr Main e = absurd (false≢true e)
same_root_is Isr Isr e = refl

copy_from : Root → ℕ → CopyOf
copy_from root f = record { root = root; function = f }

pub same_copy_is : (a b : CopyOf) → same_copy a b ≡ true → a ≡ b
unfolding copy_from
same_copy_is a b e = let g = and_parts (same_root a.root b.root) (nat_eq a.function b.function) e in ap (λ r. copy_from r a.function) (same_root_is a.root b.root g.0) ∙ ap (copy_from b.root) (same_nat a.function b.function g.1)

pub same_object_is : (a b : Object) → same_object a b ≡ true → a ≡ b
same_object_is (Fixed n) (Fixed m) e = ap Fixed (same_nat n m e)
same_object_is (Fixed n) (Variable b m) e = absurd (false≢true e)
same_object_is (Variable a n) (Fixed m) e = absurd (false≢true e)
same_object_is (Variable a n) (Variable b m) e = let g = and_parts (same_copy a b) (nat_eq n m) e in ap (λ c. Variable c n) (same_copy_is a b g.0) ∙ ap (Variable b) (same_nat n m g.1)

-- ---- one byte
pub byte_at : (p : Program) (object : Object) (at : ℕ) (byte : Byte) → IsThere p object → at < object_bytes p object → IsByte p byte → IsByteAt p object at byte
byte_at p object at bytes.Unset t l h = tt
byte_at p object at (bytes.Number n) t l h = (t, l, h)
byte_at p object at (bytes.Part other offset high) t l h = (t, l, h)

pub byte_of_at : (p : Program) (object : Object) (at : ℕ) (byte : Byte) → IsByteAt p object at byte → IsByte p byte
byte_of_at p object at bytes.Unset h = tt
byte_of_at p object at (bytes.Number n) h = h.2
byte_of_at p object at (bytes.Part other offset high) h = h.2

chosen_stands : (p : Program) (object other : Object) (offset at : ℕ) (byte old : Byte) (b : Bool) → (same_object other object && nat_eq at offset) ≡ b → IsByteAt p object offset byte → IsByteAt p other at old → IsByteAt p other at (if b then byte else old)
chosen_stands p object other offset at byte old false e h g = g
chosen_stands p object other offset at byte old true e h g =
    let d = and_parts (same_object other object) (nat_eq at offset) e in
    rw (same_object_is other object d.0, same_nat at offset d.1) h

pub put_stands : (p : Program) (m : Memory) (object : Object) (offset : ℕ) (byte : Byte) → MemoryStands p m → IsThere p object → offset < object_bytes p object → IsByte p byte → MemoryStands p (with_byte m object offset byte)
put_stands p m object offset byte h t l b other at = chosen_stands p object other offset at byte (m other at) (same_object other object && nat_eq at offset) refl (byte_at p object offset byte t l b) (h other at)

-- ---- variables without a value
unset_stands : (p : Program) (object : Object) (at : ℕ) (old : Byte) (b : Bool) → IsByteAt p object at old → IsByteAt p object at (if b then bytes.Unset else old)
unset_stands p object at old true h = tt
unset_stands p object at old false h = h

pub cleared_stands : (p : Program) (m : Memory) (object : Object) → MemoryStands p m → MemoryStands p (cleared m object)
cleared_stands p m object h other at = unset_stands p other at (m other at) (same_object other object) (h other at)

pub fresh_stands : (p : Program) (m : Memory) (c : CopyOf) → MemoryStands p m → MemoryStands p (fresh m c)
fresh_stands p m c h other at = unset_stands p other at (m other at) (is_of c other) (h other at)

-- ---- whole values
pub byte_of_stands : (p : Program) (ty : Ty) (v : Datum) (k : ℕ) → HasType p ty v → IsByte p (byte_of v k)
byte_of_stands p ty (Number q) k h = omega arith
byte_of_stands p ty (Pointer Null) k h = omega arith
byte_of_stands p ty (Pointer (Into object offset)) k h = h.1
byte_of_stands p ty Missing k h = tt

value_stands_at : (p : Program) (object other : Object) (at : ℕ) (v : Datum) (ty : Ty) (old : Byte) (b : Bool) → (same_object other object && nat_lt at (byte_count v)) ≡ b → IsThere p object → byte_count v ≤ object_bytes p object → HasType p ty v → IsByteAt p other at old → IsByteAt p other at (if b then byte_of v at else old)
value_stands_at p object other at v ty old false e t l h g = g
value_stands_at p object other at v ty old true e t l h g =
    let d = and_parts (same_object other object) (nat_lt at (byte_count v)) e in
    let i : at < byte_count v = ltb-true at (byte_count v) d.1 in
    rw (same_object_is other object d.0) (byte_at p object at (byte_of v at) t (omega arith) (byte_of_stands p ty v at h))

pub value_stands : (p : Program) (m : Memory) (object : Object) (v : Datum) (ty : Ty) → MemoryStands p m → IsThere p object → byte_count v ≤ object_bytes p object → HasType p ty v → MemoryStands p (with_value m object v)
value_stands p m object v ty h t l typed other at = value_stands_at p object other at v ty (m other at) (same_object other object && nat_lt at (byte_count v)) refl t l typed (h other at)
