-- The names of the device's registers and bits are those of registers that are found, and of bits of these.
use Rattle.std.proofs.Common.{◌≡◌, ℕ, Bool, true, false, ◌&&◌, if◌then◌else◌, nat_lt, List, [], ◌∷◌, Option, Some, is_some, refl, subst}
use Rattle.std.specs.Str.{bytes_eq}
use Rattle.std.proofs.lemmas.Bool.{and_parts}
use Rattle.std.proofs.lemmas.Option.{same_Some}
use Rattle.c_typed.specs.Fits.{is_device}
use Rattle.pic_world.specs.Registers.{Register, registers, register_in, register_named, Bit, bits, bit_in, bit_named, name_at}
use Rattle.typed_laws.proofs.Lists.{none_is}

-- a test of each register, and of each bit
abbrev all_registers : List Register → Bool
all_registers [] = true
all_registers (r ∷ rs) = is_some (name_at r.1) && all_registers rs

abbrev all_bits : List Bit → Bool
all_bits [] = true
all_bits (b ∷ bs) = (is_some (name_at b.1) && nat_lt b.2 8) && all_bits bs

picked : {A : Type 0} (P : A → Type 0) (b : Bool) (x : A) (rest : Option A) (y : A) → P x → (rest ≡ Some y → P y) → (if b then Some x else rest) ≡ Some y → P y
picked P true x rest y h more is = subst P (same_Some x y is) h
picked P false x rest y h more is = more is

found_register : (rs : List Register) (name : List ℕ) (a : ℕ) → all_registers rs ≡ true → register_in rs name ≡ Some a → is_some (name_at a) ≡ true
found_register [] name a all is = absurd (none_is is)
found_register (r ∷ rs) name a all is =
    let both = and_parts (is_some (name_at r.1)) (all_registers rs) all in
    picked (λ n. is_some (name_at n) ≡ true) (bytes_eq r.0 name) r.1 (register_in rs name) a both.0 (found_register rs name a both.1) is

abbrev bit_pair : ℕ → ℕ → ℕ × ℕ
bit_pair a b = (a, b)

found_bit : (bs : List Bit) (name : List ℕ) (x : ℕ × ℕ) → all_bits bs ≡ true → bit_in bs name ≡ Some x → (is_some (name_at x.0) && nat_lt x.1 8) ≡ true
found_bit [] name x all is = absurd (none_is is)
found_bit (b ∷ bs) name x all is =
    let both = and_parts (is_some (name_at b.1) && nat_lt b.2 8) (all_bits bs) all in
    picked (λ (z : ℕ × ℕ). (is_some (name_at z.0) && nat_lt z.1 8) ≡ true) (bytes_eq b.0 name) (bit_pair b.1 b.2) (bit_in bs name) x both.0 (found_bit bs name x both.1) is

registers_there : all_registers registers ≡ true
registers_there = refl

bits_there : all_bits bits ≡ true
bits_there = refl

pub register_is : (name : List ℕ) (a : ℕ) → register_named name ≡ Some a → is_device a ≡ true
unfolding is_device
register_is name a h = found_register registers name a registers_there h

pub bit_is : (name : List ℕ) (x : ℕ × ℕ) → bit_named name ≡ Some x → (is_device x.0 && nat_lt x.1 8) ≡ true
unfolding is_device
bit_is name x h = found_bit bits name x bits_there h
