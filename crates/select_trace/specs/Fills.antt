-- Several bytes that become one number.
use Rattle.std.specs.Prelude.{◌≡◌, ℕ, ◌<◌}
use Rattle.sym_code.specs.Effect.{Memory}
use Rattle.select_trace.specs.Run.{Machine}
use Rattle.select_trace.specs.Code.{Operand}
use Rattle.select_trace.specs.Links.{Fine}

pub record Filled (m : Memory) (t : Machine) (to : Operand) (x k : ℕ) : Type 0 where
  pub fine : Fine t
  pub fills : (j : ℕ) → j < k → t.memory (to j) ≡ x
  pub others : (a : ℕ) → ((j : ℕ) → j < k → a ≡ to j → ⊥) → t.memory a ≡ m a
