-- Bits, equality, choices.
use Rattle.std.specs.Prelude.{ℕ, ◌+◌, ◌-◌, ◌*◌, ◌/◌, ◌%◌, Bool, ◌&&◌, ◌||◌, nat_eq, nat_lt, if◌then◌else◌, bit_xor}
use Rattle.pic_world.specs.Bits.{truth}
use Rattle.value_terms.specs.declared.term.Unary.{Unary}
use Rattle.value_terms.specs.declared.term.Unary.TheVariants.{Bit, Quotient}
use Rattle.value_terms.specs.declared.term.Binary.{Binary}
use Rattle.value_terms.specs.declared.term.Binary.TheVariants.{Same, Mask, Union, Exclusive}
use Rattle.value_terms.specs.declared.term.Ternary.TheVariants.{Choice}
use Rattle.value_terms.specs.Terms.{Term, Num, Plus, Apply, Join, Triple}
use Rattle.value_terms.specs.Equality.{same_term, rank, is_number, amount, is_amount, is_bit}
use Rattle.value_terms.specs.Sums.{sum_of, negated, offset, base}

-- ---- one bit, and a division by a power of two
-- A bit has no other bit than its own.
unfoldable pub bit_plain : ℕ → Term → Term
bit_plain p t =
    if is_bit t && nat_eq p 1 then t else
    if is_bit t && nat_lt 1 p then Num 0 else Apply (Bit p) t

-- (t / q) / p is t / (q * p)
abbrev pub bit_of_part : ℕ → Unary → Term → Term
bit_of_part p (Bit q) t = bit_plain p (Apply (Bit q) t)
bit_of_part p (Quotient q) t = if nat_lt (q * p) 256 then Apply (Bit (q * p)) t else Num 0

-- a power of two below 256 divides 128
abbrev pub is_power : ℕ → Bool
is_power k = nat_eq (128 % k) 0

-- by one bit of t and the same bit of the number k
abbrev pub bit_joined : ℕ → Binary → Term → ℕ → Term → Term
bit_joined p Mask t k whole = if nat_eq (k / p % 2) 0 then Num 0 else t
bit_joined p Union t k whole = if nat_eq (k / p % 2) 0 then t else Num 1
bit_joined p Exclusive t k whole = if nat_eq (k / p % 2) 0 then t else negated t
bit_joined p op t k whole = bit_plain p whole

-- Bits of 255 - t, of t + 128, and of t times a power of two, are bits of t.
abbrev pub bit_in : ℕ → Term → Term
bit_in p (Apply op t) = bit_of_part p op t
bit_in p (Plus f t r) =
    if is_power p && (nat_eq f 255 && is_amount r 255) then negated (bit_in p t) else
    if is_power p && (nat_eq f 1 && is_amount r 128) then (if nat_eq p 128 then negated (bit_in p t) else bit_in p t) else
    if is_power p && (is_power f && is_amount r 0) then (if nat_lt p f then Num 0 else bit_in (p / f) t) else bit_plain p (Plus f t r)
bit_in p (Join op a b) = if is_power p && is_number b then bit_joined p op (bit_in p a) (amount b) (Join op a b) else bit_plain p (Join op a b)
bit_in p t = bit_plain p t

unfoldable pub bit : ℕ → Term → Term
bit p a =
    if nat_eq p 0 then Num 0 else
    if is_number a then Num (amount a / p % 2) else bit_in p a

abbrev pub quotient_of_part : ℕ → Unary → Term → Term
quotient_of_part p (Bit q) t = Apply (Quotient p) (Apply (Bit q) t)
quotient_of_part p (Quotient q) t = if nat_lt (q * p) 256 then Apply (Quotient (q * p)) t else Num 0

abbrev pub quotient_in : ℕ → Term → Term
quotient_in p (Apply op t) = quotient_of_part p op t
quotient_in p t = Apply (Quotient p) t

unfoldable pub quotient : ℕ → Term → Term
quotient p a =
    if nat_eq p 0 then Num 0 else
    if is_number a then Num (amount a / p) else
    if is_bit a && nat_lt 1 p then Num 0 else quotient_in p a

-- ---- equality
-- a bit is 1, or it is 0
unfoldable pub same_simple : Term → ℕ → Term
same_simple t k =
    if is_bit t && nat_eq k 0 then negated t else
    if is_bit t && nat_eq k 1 then t else
    if is_bit t then Num 0 else Join Same t (Num k)

unfoldable pub same_two : Term → Term → Term
same_two a b =
    if same_term a b then Num 1 else
    if nat_lt (rank a) (rank b) then Join Same a b else Join Same b a

-- a ^ j = k is a = j ^ k, and a ^ b = 0 is a = b
abbrev pub same_joined : Binary → Term → Term → ℕ → Term
same_joined Exclusive a b k =
    if is_number b then same_simple a (bit_xor (amount b) k) else
    if nat_eq k 0 then same_two a b else same_simple (Join Exclusive a b) k
same_joined op a b k = same_simple (Join op a b) k

abbrev pub same_single : Term → ℕ → Term
same_single (Join op a b) k = same_joined op a b k
same_single t k = same_simple t k

-- a bit times f
unfoldable pub same_flag : ℕ → Term → ℕ → ℕ → Term
same_flag f t j k =
    if nat_eq ((f + j) % 256) k && nat_eq j k then Num 1 else
    if nat_eq ((f + j) % 256) k then t else
    if nat_eq j k then negated t else Num 0

-- t + j = k is t = k - j, and j - t = k is t = j - k
unfoldable pub same_scaled : ℕ → Term → ℕ → ℕ → Term
same_scaled f t j k =
    if nat_eq f 1 then same_single t ((k + (256 - j)) % 256) else
    if nat_eq f 255 then same_single t ((j + (256 - k)) % 256) else
    if is_bit t then same_flag f t j k else Join Same (Plus f t (Num j)) (Num k)

-- one is the negative of the other
abbrev pub opposed : ℕ → ℕ → Bool
opposed f g = nat_eq f 1 && nat_eq g 255 || nat_eq f 255 && nat_eq g 1

-- t - u + k = k is t = u
abbrev pub same_difference : ℕ → Term → Term → ℕ → Term
same_difference f t (Plus g u s) k =
    if opposed f g && is_amount s k then same_two t u else Join Same (Plus f t (Plus g u s)) (Num k)
same_difference f t r k = Join Same (Plus f t r) (Num k)

abbrev pub same_number : Term → ℕ → Term
same_number (Plus f t r) k = if is_number r then same_scaled f t (amount r) k else same_difference f t r k
same_number t k = same_single t k

unfoldable pub same : Term → Term → Term
same a b =
    if is_number a && is_number b then Num (truth (nat_eq (amount a) (amount b))) else
    if is_number b then same_number a (amount b) else
    if is_number a then same_number b (amount a) else same_two a b

-- ---- choices
-- Where both differ by a number, the bit is a part of a sum.
unfoldable pub choice : Term → Term → Term → Term
choice c a b =
    if is_amount c 0 then b else
    if is_number c then a else
    if same_term a b then a else
    if is_bit c && same_term (base a) (base b) then sum_of ((offset a + (256 - offset b)) % 256) c b else Triple Choice c a b
