-- The invariants of a product bit by bit, and of shifts by a variable.
use Rattle.std.specs.Prelude.{◌≡◌, ℕ, suc, ◌+◌, ◌*◌, ◌%◌, ◌^◌, ◌<◌, ◌++◌}
use Rattle.select_trace.specs.Run.{Machine, Going, run}
use Rattle.select_trace.specs.Links.{Fine}
use Rattle.select_trace.specs.Loops.{Loops}
use Rattle.select_trace.specs.Helpers.{Layout, Left, Right, Answer, Spare, Clear, each, rounds_code, round_end_code, product_round}
use Rattle.select_trace.specs.Steps.{number_of}

-- The bits of n above those of s have been multiplied by d, from the highest on. The left operand has the others at
-- its top.
pub record Multiplies (n d b p s left a : ℕ) : Type 0 where
  pub low : ℕ
  pub high : ℕ
  pub below : ℕ
  pub over : ℕ
  pub scale : p * s ≡ b
  pub low_small : low < s
  pub below_small : below < p
  pub split : n ≡ high * s + low
  pub left_is : left ≡ low * p + below
  pub product : a + b * over ≡ high * d

abbrev pub SparesLeft : Layout → Machine → Machine → Type 0
SparesLeft l t u = (a : ℕ) → ((j : ℕ) → j < l.width → a ≡ l.at Left j → ⊥) → ((j : ℕ) → j < l.width → a ≡ l.at Answer j → ⊥) → (a ≡ l.at Spare 0 → ⊥) → u.memory a ≡ t.memory a

pub record Multiplied (l : Layout) (t : Machine) (i : ℕ) (u : Machine) : Type 0 where
  pub spares : SparesLeft l t u
  pub rounds : ℕ
  pub all : i + rounds ≡ 8 * l.width
  pub multiplies : Multiplies (number_of l t Left) (number_of l t Right) (256 ^ l.width) (2 ^ i) (2 ^ rounds) (number_of l u Left) (number_of l u Answer)

-- the code of a product, from t to v: it goes round as often as an operand has bits
pub record ProductRuns (l : Layout) (t v : Machine) : Type 0 where
  pub rounds : ℕ
  pub as_bits : suc rounds ≡ 8 * l.width
  pub begins : (run (each l (Clear Answer) ++ rounds_code l) t).mode ≡ Going
  pub loops : Loops 0 (product_round l ++ round_end_code l Spare 0) rounds (run (each l (Clear Answer) ++ rounds_code l) t) v
  pub fine : Fine v
  pub spares : SparesLeft l t v
  pub answer : number_of l v Answer ≡ (number_of l t Left * number_of l t Right) % 256 ^ l.width
