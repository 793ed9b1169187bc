-- And, or, exclusive or, and the byte of a table.
use Rattle.std.specs.Prelude.{ℕ, ◌%◌, ◌&&◌, nat_eq, nat_lt, if◌then◌else◌, bit_and, bit_or, bit_xor}
use Rattle.value_terms.specs.declared.term.Binary.{Binary}
use Rattle.value_terms.specs.declared.term.Binary.TheVariants.{Mask, Union, Exclusive}
use Rattle.value_terms.specs.Terms.{Term, Num, Join}
use Rattle.value_terms.specs.Equality.{same_term, rank, is_number, amount, is_bit}
use Rattle.value_terms.specs.Sums.{sum_of, opposite, negated}
use Rattle.value_terms.specs.Bits.{is_power, bit}

unfoldable pub ordered : Binary → Term → Term → Term
ordered op a b = if nat_lt (rank a) (rank b) then Join op a b else Join op b a

-- one bit is a sum
unfoldable pub mask_plain : Term → ℕ → Term
mask_plain a k =
    if nat_eq k 0 then Num 0 else
    if is_power k then sum_of k (bit k a) (Num 0) else Join Mask a (Num k)

abbrev pub mask_joined : Binary → Term → Term → ℕ → Term
mask_joined Mask x y k = if is_number y then mask_plain x (bit_and (amount y) k) else mask_plain (Join Mask x y) k
mask_joined op x y k = mask_plain (Join op x y) k

abbrev pub mask_in : Term → ℕ → Term
mask_in (Join op x y) k = mask_joined op x y k
mask_in t k = mask_plain t k

unfoldable pub mask_number : Term → ℕ → Term
mask_number a k =
    if nat_eq k 255 then a else
    if is_bit a then (if nat_eq (k % 2) 1 then a else Num 0) else mask_in a k

unfoldable pub mask : Term → Term → Term
mask a b =
    if is_number a && is_number b then Num (bit_and (amount a) (amount b)) else
    if is_number b then mask_number a (amount b) else
    if is_number a then mask_number b (amount a) else
    if same_term a b then a else ordered Mask a b

unfoldable pub union_number : Term → ℕ → Term
union_number a k = if nat_eq k 0 then a else if nat_eq k 255 then Num 255 else Join Union a (Num k)

unfoldable pub union : Term → Term → Term
union a b =
    if is_number a && is_number b then Num (bit_or (amount a) (amount b)) else
    if is_number b then union_number a (amount b) else
    if is_number a then union_number b (amount a) else
    if same_term a b then a else ordered Union a b

unfoldable pub exclusive_number : Term → ℕ → Term
exclusive_number a k =
    if nat_eq k 0 then a else
    if nat_eq k 255 then opposite a else
    if nat_eq k 128 then sum_of 1 a (Num 128) else
    if is_bit a && nat_eq k 1 then negated a else Join Exclusive a (Num k)

unfoldable pub exclusive : Term → Term → Term
exclusive a b =
    if is_number a && is_number b then Num (bit_xor (amount a) (amount b)) else
    if is_number b then exclusive_number a (amount b) else
    if is_number a then exclusive_number b (amount a) else
    if same_term a b then Num 0 else ordered Exclusive a b
