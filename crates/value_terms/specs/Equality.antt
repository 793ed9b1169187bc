-- Equality of terms, an order of terms, and what is read off a term.
use Rattle.std.specs.Prelude.{ℕ, ◌+◌, ◌*◌, ◌%◌, Bool, true, false, ◌&&◌, ◌||◌, nat_eq, nat_lt, if◌then◌else◌}
use Rattle.value_terms.specs.declared.term.Unary.{Unary}
use Rattle.value_terms.specs.declared.term.Unary.TheVariants.{Bit, Quotient}
use Rattle.value_terms.specs.declared.term.Binary.{Binary}
use Rattle.value_terms.specs.declared.term.Binary.TheVariants.{Same, Mask, Union, Exclusive, Table}
use Rattle.value_terms.specs.declared.term.Ternary.{Ternary}
use Rattle.value_terms.specs.declared.term.Ternary.TheVariants.{Carry, Choice}
use Rattle.value_terms.specs.Terms.{Term, Num, Atom, Plus, Apply, Join, Triple}

abbrev pub same_unary : Unary → Unary → Bool
same_unary (Bit p) (Bit q) = nat_eq p q
same_unary (Quotient p) (Quotient q) = nat_eq p q
same_unary f g = false

abbrev pub same_binary : Binary → Binary → Bool
same_binary Same Same = true
same_binary Mask Mask = true
same_binary Union Union = true
same_binary Exclusive Exclusive = true
same_binary (Table n) (Table m) = nat_eq n m
same_binary f g = false

abbrev pub same_ternary : Ternary → Ternary → Bool
same_ternary Carry Carry = true
same_ternary Choice Choice = true
same_ternary f g = false

-- the same form
abbrev pub same_term : Term → Term → Bool
same_term (Num j) (Num k) = nat_eq j k
same_term (Atom j k) (Atom m n) = nat_eq j m && nat_eq k n
same_term (Plus f a b) (Plus g c d) = nat_eq f g && (same_term a c && same_term b d)
same_term (Apply f a) (Apply g b) = same_unary f g && same_term a b
same_term (Join f a b) (Join g c d) = same_binary f g && (same_term a c && same_term b d)
same_term (Triple f a b c) (Triple g x y z) = same_ternary f g && (same_term a x && (same_term b y && same_term c z))
same_term a b = false

-- A number by which sums and operands are put in order. Nothing is asked of it.
abbrev pub unary_rank : Unary → ℕ
unary_rank (Bit p) = 300 + p
unary_rank (Quotient p) = 600 + p

abbrev pub binary_rank : Binary → ℕ
binary_rank Same = 901
binary_rank Mask = 902
binary_rank Union = 903
binary_rank Exclusive = 904
binary_rank (Table n) = 905 + n

abbrev pub ternary_rank : Ternary → ℕ
ternary_rank Carry = 907
ternary_rank Choice = 908

abbrev pub rank : Term → ℕ
rank (Num k) = k
rank (Atom kind number) = (1000 + kind + 16 * number) % 65536
rank (Plus f t r) = (2000 + f + 31 * rank t + 37 * rank r) % 65536
rank (Apply op t) = (3000 + unary_rank op + 41 * rank t) % 65536
rank (Join op a b) = (4000 + binary_rank op + 43 * rank a + 47 * rank b) % 65536
rank (Triple op a b c) = (5000 + ternary_rank op + 53 * rank a + 59 * rank b + 61 * rank c) % 65536

-- ---- what is read off
abbrev pub is_number : Term → Bool
is_number (Num k) = true
is_number t = false

-- a number's value
abbrev pub amount : Term → ℕ
amount (Num k) = k % 256
amount t = 0

abbrev pub is_amount : Term → ℕ → Bool
is_amount t k = is_number t && nat_eq (amount t) k

abbrev pub makes_bit : Unary → Bool
makes_bit (Bit p) = true
makes_bit (Quotient p) = false

abbrev pub joins_bits : Binary → Bool
joins_bits Same = false
joins_bits Mask = true
joins_bits Union = true
joins_bits Exclusive = true
joins_bits (Table n) = false

abbrev pub compares : Binary → Bool
compares Same = true
compares op = false

abbrev pub carries : Ternary → Bool
carries Carry = true
carries Choice = false

-- by its form, the value is 0 or 1
abbrev pub is_bit : Term → Bool
is_bit (Num k) = nat_lt (k % 256) 2
is_bit (Atom kind number) = false
is_bit (Plus f t r) = nat_eq f 255 && (is_amount r 1 && is_bit t)
is_bit (Apply op t) = makes_bit op
is_bit (Join op a b) = compares op || (joins_bits op && (is_bit a && is_bit b))
is_bit (Triple op a b c) = carries op || (is_bit b && is_bit c)

-- what stood in a place counts
abbrev pub mentions : ℕ → ℕ → Term → Bool
mentions kind number (Num k) = false
mentions kind number (Atom j k) = nat_eq j kind && nat_eq k number
mentions kind number (Plus f t r) = mentions kind number t || mentions kind number r
mentions kind number (Apply op t) = mentions kind number t
mentions kind number (Join op a b) = mentions kind number a || mentions kind number b
mentions kind number (Triple op a b c) = mentions kind number a || (mentions kind number b || mentions kind number c)

-- how many nodes a term has, and 65,535 where it has more
abbrev pub capped : ℕ → ℕ
capped n = if nat_lt n 65535 then n else 65535

abbrev pub size : Term → ℕ
size (Num k) = 1
size (Atom kind number) = 1
size (Plus f t r) = capped (1 + size t + size r)
size (Apply op t) = capped (1 + size t)
size (Join op a b) = capped (1 + size a + size b)
size (Triple op a b c) = capped (1 + size a + size b + size c)
