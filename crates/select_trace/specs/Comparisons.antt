-- What comparisons give.
use Rattle.std.specs.Prelude.{◌≡◌, ℕ, nat_eq, if◌then◌else◌}
use Rattle.sym_code.specs.Effect.{Memory}
use Rattle.select_trace.specs.Run.{Machine}
use Rattle.select_trace.specs.Code.{Operand}
use Rattle.select_trace.specs.Links.{Fine}
use Rattle.select_trace.specs.Values.{val}

-- two bytes have become the number x, and no other byte has changed
pub record Truth (m : Memory) (t : Machine) (to : Operand) (x : ℕ) : Type 0 where
  pub fine : Fine t
  pub low : t.memory (to 0) ≡ x
  pub high : t.memory (to 1) ≡ 0
  pub others : (a : ℕ) → (a ≡ to 0 → ⊥) → (a ≡ to 1 → ⊥) → t.memory a ≡ m a

-- The first byte of `to` and the flag Z tell whether k bytes are equal; no other byte has changed.
pub record Compared (m : Memory) (t : Machine) (to left right : Operand) (k : ℕ) : Type 0 where
  pub fine : Fine t
  pub same : t.memory (to 0) ≡ 0 → val (λ j. m (left j)) k ≡ val (λ j. m (right j)) k
  pub differs : val (λ j. m (left j)) k ≡ val (λ j. m (right j)) k → t.memory (to 0) ≡ 0
  pub zero : t.registers.z ≡ (if nat_eq (t.memory (to 0)) 0 then 1 else 0)
  pub others : (a : ℕ) → (a ≡ to 0 → ⊥) → t.memory a ≡ m a
