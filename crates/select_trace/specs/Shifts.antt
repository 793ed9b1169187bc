-- The invariants of shifts by a variable, and what the routine does.
use Rattle.std.specs.Prelude.{◌≡◌, ℕ, suc, ◌+◌, ◌*◌, ◌^◌, ◌<◌, ◌≤◌, ◌⊎◌, ◌++◌, List, [], ◌∷◌}
use Rattle.sym_code.specs.declared.code.FileOperation.TheVariants.{Movf}
use Rattle.select_trace.specs.Run.{Machine, Sym, Flag, Return, Going, Returned, run}
use Rattle.sym_code.specs.declared.code.BitOperation.TheVariants.{Btfsc}
use Rattle.select_trace.specs.Links.{Fine}
use Rattle.select_trace.specs.Loops.{Loops}
use Rattle.select_trace.specs.Helpers.{Layout, Left, Right, Answer, Answers, each, to_file, round_end_code, Direction, Leftward, Rightward, SignedRightward, one_bit_code}
use Rattle.select_trace.specs.Steps.{number_of}

-- a comes of n by i bits to the left, cut to b
abbrev pub GoneLeft : ℕ → ℕ → ℕ → ℕ → Type 0
GoneLeft b n i a = (over : ℕ) × (a + b * over ≡ n * 2 ^ i)

-- a comes of n by i bits to the right, where s comes in from above
pub record GoneRight (b s n i a : ℕ) : Type 0 where
  pub rest : ℕ
  pub small : rest < 2 ^ i
  pub is : n + b * s * 2 ^ i ≡ a * 2 ^ i + rest + b * s

-- s is the highest bit of a number below b
abbrev pub IsTop : ℕ → ℕ → ℕ → Type 0
IsTop b n s = ((s ≡ 1) × (b ≤ 2 * n)) ⊎ ((s ≡ 0) × (2 * n < b))

abbrev pub Gone : Direction → ℕ → ℕ → ℕ → ℕ → ℕ → Type 0
Gone Leftward b s n i a = GoneLeft b n i a
Gone Rightward b s n i a = GoneRight b 0 n i a
Gone SignedRightward b s n i a = GoneRight b s n i a × IsTop b a s

abbrev pub SparesAnswer : Layout → Machine → Machine → Type 0
SparesAnswer l t u = (a : ℕ) → ((j : ℕ) → j < l.width → a ≡ l.at Answer j → ⊥) → (a ≡ l.at Right 0 → ⊥) → u.memory a ≡ t.memory a

-- the code of a shift before its loop
abbrev pub shift_start : Layout → List Sym
shift_start l = each l (Answers Left) ++ (to_file Movf (l.at Right 0) ∷ Flag Btfsc 2 ∷ Return ∷ [])

-- A shift by no bit returns at once; one by n + 1 bits goes round as often, and comes to v.
pub record ReturnsAtOnce (l : Layout) (t : Machine) : Type 0 where
  pub none : t.memory (l.at Right 0) ≡ 0
  pub mode : (run (shift_start l) t).mode ≡ Returned
  pub answer : number_of l (run (shift_start l) t) Answer ≡ number_of l t Left
  pub spares : SparesAnswer l t (run (shift_start l) t)

pub record GoesRound (l : Layout) (direction : Direction) (s : ℕ) (t : Machine) : Type 0 where
  pub rounds : ℕ
  pub as_bits : t.memory (l.at Right 0) ≡ suc rounds
  pub begins : (run (shift_start l) t).mode ≡ Going
  pub out : Machine
  pub loops : Loops 0 (one_bit_code l direction ++ round_end_code l Right 0) rounds (run (shift_start l) t) out
  pub fine : Fine out
  pub spares : SparesAnswer l t out
  pub gone : Gone direction (256 ^ l.width) s (number_of l t Left) (suc rounds) (number_of l out Answer)
