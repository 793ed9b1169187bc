-- The invariant of a division bit by bit.
use Rattle.std.specs.Prelude.{◌≡◌, ℕ, suc, ◌+◌, ◌*◌, ◌/◌, ◌%◌, ◌^◌, ◌<◌, ◌++◌}
use Rattle.select_trace.specs.Run.{Machine, Going, run}
use Rattle.select_trace.specs.Links.{Fine}
use Rattle.select_trace.specs.Loops.{Loops}
use Rattle.select_trace.specs.Helpers.{Layout, Left, Right, Remainder, Spare, Clear, ShiftLeft, each, rounds_code, round_end_code, divide_round}
use Rattle.select_trace.specs.Steps.{number_of}

-- Of n, which is divided by d, the bits above those of s have been divided. The quotient so far counts below p, where p
-- * s is the bound b of all numbers. The left operand has the bits of n that are left at its top, and the quotient
-- at its bottom but for its last bit, which is the carry. Between them stands a bit g that was the carry at the
-- beginning.
pub record Divides (n d g b p s left r c : ℕ) : Type 0 where
  pub low : ℕ
  pub quotient : ℕ
  pub scale : p * s ≡ b
  pub low_small : low < s
  pub quotient_small : quotient < p
  pub split : n ≡ (quotient * d + r) * s + low
  pub rest : r < d
  pub left_is : 2 * left + c ≡ low * (2 * p) + g * p + quotient

-- all but the operand on the left, the remainder and the counter is as it was
abbrev pub Spares : Layout → Machine → Machine → Type 0
Spares l t u = (a : ℕ) → ((j : ℕ) → j < l.width → a ≡ l.at Left j → ⊥) → ((j : ℕ) → j < l.width → a ≡ l.at Remainder j → ⊥) → (a ≡ l.at Spare 0 → ⊥) → u.memory a ≡ t.memory a

-- i rounds have been made, since t
pub record Divided (l : Layout) (t : Machine) (g i : ℕ) (u : Machine) : Type 0 where
  pub spares : Spares l t u
  pub rounds : ℕ
  pub all : i + rounds ≡ 8 * l.width
  pub divides : 0 < number_of l t Right → Divides (number_of l t Left) (number_of l t Right) g (256 ^ l.width) (2 ^ i) (2 ^ rounds) (number_of l u Left) (number_of l u Remainder) u.registers.c

-- The code that divides, from t to v: it starts, goes round as often as an operand has bits, and ends; then the left
-- operand is the quotient and the remainder that of the division, but for a division by 0, of which nothing is said.
pub record DivideRuns (l : Layout) (t v : Machine) : Type 0 where
  pub rounds : ℕ
  pub as_bits : suc rounds ≡ 8 * l.width
  pub begins : (run (each l (Clear Remainder) ++ rounds_code l) t).mode ≡ Going
  pub out : Machine
  pub out_goes : out.mode ≡ Going
  pub loops : Loops 0 (divide_round l ++ round_end_code l Spare 0) rounds (run (each l (Clear Remainder) ++ rounds_code l) t) out
  pub ends : v ≡ run (each l (ShiftLeft Left)) out
  pub fine : Fine v
  pub spares : Spares l t v
  pub quotient : 0 < number_of l t Right → number_of l v Left ≡ number_of l t Left / number_of l t Right
  pub remainder : 0 < number_of l t Right → number_of l v Remainder ≡ number_of l t Left % number_of l t Right
