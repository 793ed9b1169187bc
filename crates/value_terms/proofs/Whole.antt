-- The laws of terms in the form in which they are stated.
use Rattle.std.proofs.Common.{◌≡◌, ℕ, ◌%◌, ◌<◌, ◌∙◌, arith}
use Rattle.std.specs.Prelude.{bit_and, bit_or, bit_xor}
use Rattle.std.specs.Int.Bits.{and_lt}
use Rattle.std.proofs.lemmas.Nat.{or_lt, xor_lt}
use Rattle.value_terms.specs.Terms.{value}
use Rattle.value_terms.specs.Laws.{Negated, Masks, Unions, Exclusives}
use Rattle.value_terms.proofs.SumLaws.{small, bit_small, negated_law}
use Rattle.value_terms.proofs.MaskLaws as raw

byte : (n : ℕ) → n < 256 → n % 256 ≡ n
byte n l = omega arith

pub negated_bit : Negated
negated_bit e a h = let l = bit_small e a h in let n = negated_law e a in omega arith

pub masks : Masks
masks e a b = raw.mask_law e a b ∙ byte (bit_and (value e a) (value e b)) (and_lt 8 (value e a) (value e b) (small e a) (small e b))

pub unions : Unions
unions e a b = raw.union_law e a b ∙ byte (bit_or (value e a) (value e b)) (or_lt 8 (value e a) (value e b) (small e a) (small e b))

pub exclusives : Exclusives
exclusives e a b = raw.exclusive_law e a b ∙ byte (bit_xor (value e a) (value e b)) (xor_lt 8 (value e a) (value e b) (small e a) (small e b))
