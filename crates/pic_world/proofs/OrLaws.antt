-- Laws of the bitwise or.
use Rattle.std.proofs.Common.{◌≡◌, ℕ, max, ◌<◌, ◌≤◌, refl, sym, ap, ◌∙◌, arith}
use Rattle.std.specs.Prelude.{bit_or}
use Rattle.std.specs.Int.{bit_at}
use Rattle.std.proofs.lemmas.Nat.{or_comm}
use Rattle.std.proofs.lemmas.Nat.Bits.{bit_at_or, same_from_bits}

max_assoc : (a b c : ℕ) → max (max a b) c ≡ max a (max b c)
max_assoc a b c = omega arith

max_same : (a : ℕ) → max a a ≡ a
max_same a = omega arith

pub or_assoc : (a b c : ℕ) → bit_or (bit_or a b) c ≡ bit_or a (bit_or b c)
or_assoc a b c =
    same_from_bits _ _ (λ i.
    bit_at_or (bit_or a b) c i ∙ ap (λ x. max x (bit_at c i)) (bit_at_or a b i)
    ∙ max_assoc (bit_at a i) (bit_at b i) (bit_at c i)
    ∙ sym (bit_at_or a (bit_or b c) i ∙ ap (max (bit_at a i)) (bit_at_or b c i)))

pub or_same : (a : ℕ) → bit_or a a ≡ a
or_same a = same_from_bits _ _ (λ i. bit_at_or a a i ∙ max_same (bit_at a i))

-- what is added first or last is the same
pub or_swap : (a b c : ℕ) → bit_or (bit_or a b) c ≡ bit_or (bit_or a c) b
or_swap a b c = or_assoc a b c ∙ ap (bit_or a) (or_comm b c) ∙ sym (or_assoc a c b)

-- an or with what is already there
pub or_again : (a b : ℕ) → bit_or (bit_or a b) b ≡ bit_or a b
or_again a b = or_assoc a b b ∙ ap (bit_or a) (or_same b)
