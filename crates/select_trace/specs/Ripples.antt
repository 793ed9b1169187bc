-- Code that goes over the bytes of one value in place, with a flag from byte to byte.
use Rattle.std.specs.Prelude.{◌≡◌, ℕ, zero, suc, ◌<◌, List}
use Rattle.select_trace.specs.Run.{Sym, Machine, Going, run}
use Rattle.sym_code.specs.Registers.{Registers}
use Rattle.select_trace.specs.Code.{Operand}
use Rattle.select_trace.specs.Links.{Fine}

-- a number made of so many bytes, each added by `more k` to the number of those before
abbrev pub total : (ℕ → ℕ → ℕ → ℕ) → (ℕ → ℕ) → ℕ → ℕ
total more b zero = 0
total more b (suc k) = more k (total more b k) (b k)

-- A byte has changed, in relation to the flag before and after, and no other has.
pub record Changes (flag : Registers → ℕ) (R : ℕ → ℕ → ℕ → ℕ → Type 0) (u v : Machine) (at : ℕ) : Type 0 where
  pub going : v.mode ≡ Going
  pub carry : v.registers.c < 2
  pub zero : v.registers.z < 2
  pub byte : v.memory at < 256
  pub has : R (flag u.registers) (u.memory at) (v.memory at) (flag v.registers)
  pub others : (b : ℕ) → (b ≡ at → ⊥) → v.memory b ≡ u.memory b

abbrev pub EachChanges : (Registers → ℕ) → (ℕ → ℕ → ℕ → ℕ → ℕ → Type 0) → (ℕ → List Sym) → Operand → ℕ → Type 0
EachChanges flag R code at w = (k : ℕ) → k < w → (u : Machine) → Fine u → Changes flag (R k) u (run (code k) u) (at k)

abbrev pub AreDistinct : ℕ → Operand → Type 0
AreDistinct w f = (j k : ℕ) → j < k → k < w → f j ≡ f k → ⊥

-- Bytes below k have changed, in relation to the flag before and after, and no others have.
pub record Rippled (flag : Registers → ℕ) (more : ℕ → ℕ → ℕ → ℕ) (T : ℕ → ℕ → ℕ → ℕ → Type 0) (t u : Machine) (at : Operand) (k : ℕ) : Type 0 where
  pub fine : Fine u
  pub has : T k (total more (λ j. t.memory (at j)) k) (total more (λ j. u.memory (at j)) k) (flag u.registers)
  pub others : (a : ℕ) → ((j : ℕ) → j < k → a ≡ at j → ⊥) → u.memory a ≡ t.memory a
