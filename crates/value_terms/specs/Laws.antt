-- The laws of terms: whatever stands in the places, each builder's term has the value of the operation on the values of its parts. Two terms
-- of one form, or of one normal form, have one value. A term with other terms in the place of its atoms has the value that it has where these
-- terms' values stand in the places.
use Rattle.std.specs.Prelude.{◌≡◌, ℕ, ◌+◌, ◌-◌, ◌*◌, ◌/◌, ◌%◌, ◌<◌, true, nat_eq, nat_le, bit_and, bit_or, bit_xor}
use Rattle.pic_world.specs.Bits.{truth}
use Rattle.value_terms.specs.Terms.{Term, Environment, chosen, value}
use Rattle.value_terms.specs.Equality.{same_term, is_bit, mentions}
use Rattle.value_terms.specs.Sums.{sum_of, opposite, negated}
use Rattle.value_terms.specs.Bits.{bit, quotient, same, choice}
use Rattle.value_terms.specs.Masks.{mask, union, exclusive}
use Rattle.value_terms.specs.Carries.{carry}
use Rattle.value_terms.specs.Putting.{put, same_value}

abbrev pub IsByte : Type 0
IsByte = (e : Environment) (t : Term) → value e t < 256

abbrev pub IsBit : Type 0
IsBit = (e : Environment) (t : Term) → is_bit t ≡ true → value e t < 2

abbrev pub OneForm : Type 0
OneForm = (e : Environment) (a b : Term) → same_term a b ≡ true → value e a ≡ value e b

abbrev pub OneNormalForm : Type 0
OneNormalForm = (e : Environment) (a b : Term) → same_value a b ≡ true → value e a ≡ value e b

abbrev pub Sums : Type 0
Sums = (e : Environment) (factor : ℕ) (a b : Term) → value e (sum_of factor a b) ≡ (factor * value e a + value e b) % 256

abbrev pub Opposites : Type 0
Opposites = (e : Environment) (a : Term) → value e (opposite a) ≡ 255 - value e a

abbrev pub Negated : Type 0
Negated = (e : Environment) (a : Term) → is_bit a ≡ true → value e (negated a) ≡ 1 - value e a

abbrev pub Carries : Type 0
Carries = (e : Environment) (a b c : Term) → value e (carry a b c) ≡ truth (nat_le 256 (value e a + value e b + value e c))

abbrev pub Comparisons : Type 0
Comparisons = (e : Environment) (a b : Term) → value e (same a b) ≡ truth (nat_eq (value e a) (value e b))

abbrev pub Choices : Type 0
Choices = (e : Environment) (c a b : Term) → value e (choice c a b) ≡ chosen (value e c) (value e a) (value e b)

abbrev pub Bits : Type 0
Bits = (e : Environment) (power : ℕ) (a : Term) → value e (bit power a) ≡ value e a / power % 2

abbrev pub Quotients : Type 0
Quotients = (e : Environment) (power : ℕ) (a : Term) → value e (quotient power a) ≡ value e a / power

abbrev pub Masks : Type 0
Masks = (e : Environment) (a b : Term) → value e (mask a b) ≡ bit_and (value e a) (value e b)

abbrev pub Unions : Type 0
Unions = (e : Environment) (a b : Term) → value e (union a b) ≡ bit_or (value e a) (value e b)

abbrev pub Exclusives : Type 0
Exclusives = (e : Environment) (a b : Term) → value e (exclusive a b) ≡ bit_xor (value e a) (value e b)

-- the same tables, and other bytes in the places
abbrev pub elsewhere : Environment → (ℕ → ℕ → ℕ) → Environment
elsewhere e place = record { place = place; table = e.table }

-- what is put for each place of which the term speaks has the value that stands there
abbrev pub Puts : Type 0
Puts = (e : Environment) (place : ℕ → ℕ → ℕ) (s : ℕ → ℕ → Term) (t : Term) →
    ((kind number : ℕ) → mentions kind number t ≡ true → value e (s kind number) ≡ place kind number % 256) → value e (put s t) ≡ value (elsewhere e place) t

-- what a term doesn't speak of may change
abbrev pub Unmentioned : Type 0
Unmentioned = (e : Environment) (place : ℕ → ℕ → ℕ) (t : Term) →
    ((kind number : ℕ) → mentions kind number t ≡ true → e.place kind number % 256 ≡ place kind number % 256) → value e t ≡ value (elsewhere e place) t
