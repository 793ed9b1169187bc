-- Carries of sums of three.
use Rattle.std.specs.Prelude.{ℕ, Bool, false, ◌+◌, ◌&&◌, nat_eq, nat_le, nat_lt, if◌then◌else◌}
use Rattle.pic_world.specs.Bits.{truth}
use Rattle.value_terms.specs.declared.term.Ternary.TheVariants.{Carry}
use Rattle.value_terms.specs.Terms.{Term, Num, Plus, Triple}
use Rattle.value_terms.specs.Equality.{rank, is_number, amount, is_bit}
use Rattle.value_terms.specs.Sums.{opposite, negated}
use Rattle.value_terms.specs.Bits.{bit, same}
use Rattle.value_terms.specs.Masks.{mask, union}

-- 1 where a + n is above 255: for 1 and 255 a comparison with a number, and for 128 a bit
unfoldable pub exceeds : Term → ℕ → Term
exceeds a n =
    if nat_eq n 0 then Num 0 else
    if nat_le 256 n then Num 1 else
    if nat_eq n 255 then negated (same a (Num 0)) else
    if nat_eq n 1 then same a (Num 255) else
    if nat_eq n 128 then bit 128 a else
    if is_bit a then Num 0 else Triple Carry a (Num n) (Num 0)

-- b is a number
unfoldable pub carry_number : Term → Term → Term → Term
carry_number a b c =
    if is_number c then exceeds a (amount b + amount c) else
    if is_bit c && nat_eq (amount b) 0 then mask c (same a (Num 255)) else
    if is_bit c && nat_eq (amount b) 255 then union c (negated (same a (Num 0))) else Triple Carry a b c

unfoldable pub carry_ordered : Term → Term → Term → Term
carry_ordered a b c = if nat_lt (rank a) (rank b) then Triple Carry b a c else Triple Carry a b c

-- by the first term of a sum: its place in the order, and whether it is subtracted
abbrev pub lead : Term → ℕ
lead (Plus f t r) = rank t
lead t = rank t

abbrev pub is_negative : Term → Bool
is_negative (Plus f t r) = nat_lt 127 f
is_negative t = false

abbrev pub leads_negative : Term → Term → Bool
leads_negative a b = if nat_lt (lead a) (lead b) then is_negative a else is_negative b

-- (255 - a) + (255 - b) + (1 - c) carries where a + b + c doesn't: one form of the two
unfoldable pub carry_any : Term → Term → Term → Term
carry_any a b c =
    if is_bit c && leads_negative a b then negated (carry_ordered (opposite a) (opposite b) (negated c)) else carry_ordered a b c

unfoldable pub carry : Term → Term → Term → Term
carry a b c =
    if is_number a && (is_number b && is_number c) then Num (truth (nat_le 256 (amount a + amount b + amount c))) else
    if is_number b then carry_number a b c else
    if is_number a then carry_number b a c else carry_any a b c
