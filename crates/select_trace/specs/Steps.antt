-- What the steps of a routine do to the numbers of its values.
use Rattle.std.specs.Prelude.{◌≡◌, ℕ, ◌<◌}
use Rattle.select_trace.specs.Run.{Machine}
use Rattle.select_trace.specs.Links.{Fine}
use Rattle.select_trace.specs.Values.{val}
use Rattle.select_trace.specs.Helpers.{Layout, Value}

abbrev pub number_of : Layout → Machine → Value → ℕ
number_of l t v = val (λ j. t.memory (l.at v j)) l.width

-- Only this value has changed.
pub record Steps (l : Layout) (t u : Machine) (v : Value) : Type 0 where
  pub fine : Fine u
  pub others : (a : ℕ) → ((j : ℕ) → j < l.width → a ≡ l.at v j → ⊥) → u.memory a ≡ t.memory a

-- Only values that may have changed, and the machine is fine.
pub record Stays (l : Layout) (t u : Machine) (may : Value → Type 0) : Type 0 where
  pub fine : Fine u
  pub others : (a : ℕ) → ((v : Value) → may v → (j : ℕ) → j < l.width → a ≡ l.at v j → ⊥) → u.memory a ≡ t.memory a
