-- Normal forms of small terms: what codes say in different ways is one form.
use Rattle.std.specs.Prelude.{◌≡◌, false}
use Rattle.value_terms.specs.declared.term.Unary.TheVariants.{Bit, Quotient}
use Rattle.value_terms.specs.Terms.{Term, Num, Atom, Apply}
use Rattle.value_terms.specs.Equality.{same_term}
use Rattle.value_terms.specs.Sums.{sum_of, opposite, negated}
use Rattle.value_terms.specs.Bits.{bit, quotient, same, choice}
use Rattle.value_terms.specs.Masks.{mask, exclusive}
use Rattle.value_terms.specs.Carries.{carry}

-- two bytes, and a flag
abbrev pub first : Term
first = Atom 0 32

abbrev pub second : Term
second = Atom 0 33

abbrev pub flag : Term
flag = Apply (Bit 1) (Atom 3 0)

pub record Samples : Type 0 where
  -- sums in any order; a number that is added and subtracted; 255 - (255 - x)
  pub in_order : sum_of 1 first second ≡ sum_of 1 second first
  pub back : sum_of 1 (sum_of 1 first (Num 3)) (Num 253) ≡ first
  pub twice : opposite (opposite first) ≡ first
  pub doubled : sum_of 1 first first ≡ sum_of 2 first (Num 0)
  -- x - y = 0, x ^ y = 0 and y = x; x + 3 = 5 and x = 2
  pub difference : same (sum_of 255 second first) (Num 0) ≡ same second first
  pub exclusive_or : same (exclusive first second) (Num 0) ≡ same second first
  pub shifted : same (sum_of 1 first (Num 3)) (Num 5) ≡ same first (Num 2)
  -- a bit by a mask and by its number; a bit that is tested twice
  pub masked : same (mask first (Num 4)) (Num 0) ≡ negated (bit 4 first)
  pub tested : same (same flag (Num 0)) (Num 0) ≡ flag
  -- x + 255 carries unless x is 0; x + 128 where bit 7 is 1
  pub nothing : carry first (Num 255) (Num 0) ≡ negated (same first (Num 0))
  pub half : carry (Num 100) first (Num 28) ≡ bit 128 first
  -- x is at least y, and not (y is at least x + 1)
  pub compared : carry first (opposite second) (Num 1) ≡ negated (carry second (opposite first) (Num 0))
  -- bits of 255 - x, of x + 128, of 4 * x, of what a mask leaves
  pub complemented : bit 4 (opposite first) ≡ negated (bit 4 first)
  pub turned : bit 128 (sum_of 1 first (Num 128)) ≡ negated (bit 128 first)
  pub raised : bit 8 (sum_of 4 first (Num 0)) ≡ bit 2 first
  pub left : bit 2 (mask first (Num 3)) ≡ bit 2 first
  -- a byte that is incremented where a flag is 1 is a sum
  pub incremented : choice flag (sum_of 1 first (Num 1)) first ≡ sum_of 1 flag first
  pub chosen : choice flag (Num 1) (Num 0) ≡ flag
  -- two divisions by 2 are one by 4
  pub divided : quotient 2 (quotient 2 first) ≡ Apply (Quotient 4) first
  -- other factors are another form
  pub other : same_term (sum_of 2 first second) (sum_of 2 second first) ≡ false
