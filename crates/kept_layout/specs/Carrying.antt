-- That a schedule is made from a kept trace goes down a link between runs.
use Rattle.std.specs.Prelude.{◌≡◌, ℕ, suc, ◌+◌, ◌≤◌, Bool, List, [], length}
use Rattle.core_code.specs.Bytes.{Held}
use Rattle.pic_world.specs.World.{Schedule, Happening, event_as}
use Rattle.run_links.specs.Runs.{Run, Follows, IsFrontOf}
use Rattle.kept_trace.specs.Kept.{kept_events}

-- a run that makes one event at most at a step
pub record IsStepwise {E : Type 0} (a : Run E) : Type 0 where
  pub none : a.trace 0 ≡ []
  pub single : (i : ℕ) → length (a.trace (suc i)) ≤ length (a.trace i) + 1
  pub grows : (i j : ℕ) → i ≤ j → IsFrontOf (a.trace i) (a.trace j)

-- up to moment n the one schedule has at each length of the trace what the other one has at the length of the kept trace
abbrev pub IsMadeOf : {B : Type 0} → List Bool → Schedule → Schedule → Run (Happening B) → ℕ → Type 0
IsMadeOf kept schedule given a n = (i : ℕ) → i ≤ n → schedule (length (a.trace i)) ≡ given (length (kept_events kept (a.trace i)))

abbrev pub Carries : Type 0
Carries =
    (kept : List Bool) (f : Held → ℕ) (a : Run (Happening Held)) (b : Run (Happening ℕ)) (n : ℕ) → (link : Follows (event_as f) a b n) → IsStepwise a → ((i j : ℕ) → i ≤ j → IsFrontOf (b.trace i) (b.trace j))
    → (schedule given : Schedule) → IsMadeOf kept schedule given a n → IsMadeOf kept schedule given b (link.at n)
