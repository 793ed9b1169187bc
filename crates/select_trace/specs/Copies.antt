-- Copies of several bytes.
use Rattle.std.specs.Prelude.{◌≡◌, ℕ, ◌<◌}
use Rattle.sym_code.specs.Effect.{Memory}
use Rattle.select_trace.specs.Run.{Machine}
use Rattle.select_trace.specs.Code.{Operand}
use Rattle.select_trace.specs.Links.{Fine}

pub record Copied (m : Memory) (t : Machine) (to from : Operand) (k : ℕ) : Type 0 where
  pub fine : Fine t
  pub copies : (j : ℕ) → j < k → t.memory (to j) ≡ m (from j)
  pub others : (a : ℕ) → ((j : ℕ) → j < k → a ≡ to j → ⊥) → t.memory a ≡ m a
