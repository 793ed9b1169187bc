-- How the arrivals are read off a run moment by moment: what was put of them, and those that are left.
use Rattle.std.specs.Prelude.{ℕ, ◌≡◌, ◌≤◌, ◌-◌, nat_lt, if◌then◌else◌, List, [], ◌∷◌, ◌++◌, length}
use Rattle.pic_world.specs.declared.Arrival.{Arrival}
use Rattle.pic_world.specs.declared.Event.{Event}
use Rattle.pic_world.specs.Arrivals.{IsRising}
use Rattle.schedule.specs.Off.{read_off, lengths_before}

-- what is put for an arrival at this moment, one instruction before which the trace was so long: at reset nothing
abbrev pub length_before : ℕ → ℕ → List ℕ
length_before now earlier = if nat_lt 0 now then earlier ∷ [] else []

-- Whatever the traces are that have these lengths at this moment and at the one before: what was put stands for the arrivals
-- that aren't left.
pub record Puts (now earlier events : ℕ) (arrivals left : List Arrival) (old_lengths new_lengths : List Arrival) (old_before new_before : List ℕ) : Type 0 where
  pub lengths : (trace : ℕ → List Event) (n : ℕ) → now ≤ n → length (trace now) ≡ events
      → new_lengths ++ read_off trace n left ≡ old_lengths ++ read_off trace n arrivals
  pub before : (trace : ℕ → List Event) (n : ℕ) → now ≤ n → length (trace (now - 1)) ≡ earlier
      → new_before ++ lengths_before trace n left ≡ old_before ++ lengths_before trace n arrivals
  pub rising : IsRising now left
