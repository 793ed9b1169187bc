-- What a run of byte code is compared by, at each of its moments: the trace, whether the next step isn't stuck, whether main has
-- ended and nothing is due, and the bounds of the instructions that the steps so far take together.
use Rattle.std.specs.Prelude.{ℕ, zero, suc, ◌+◌, Bool, List}
use Rattle.pic_world.specs.World.{Happening}
use Rattle.core_code.specs.Bytes.{Held}
use Rattle.core_code.specs.Cost.{step_most, step_least}
use Rattle.run_links.specs.Runs.{Run}
use Rattle.core_code.specs.Machine.{Setting, core_step, core_moment, goes_on, is_still}

abbrev pub trace_at : Setting → ℕ → List (Happening Held)
trace_at g n = (core_moment g n).world.trace

abbrev pub goes_at : Setting → ℕ → Bool
goes_at g n = goes_on (core_step g (core_moment g n))

abbrev pub is_still_at : Setting → ℕ → Bool
is_still_at g n = is_still (core_step g (core_moment g n))

-- of the first n steps together
unfoldable pub most_by : Setting → ℕ → ℕ
most_by g zero = 0
most_by g (suc n) = most_by g n + step_most g (core_moment g n)

unfoldable pub least_by : Setting → ℕ → ℕ
least_by g zero = 0
least_by g (suc n) = least_by g n + step_least g (core_moment g n)

-- the run of a program of byte code
abbrev pub run_of : Setting → Run (Happening Held)
run_of g = record { trace = trace_at g; goes = goes_at g; rests = is_still_at g; most = most_by g; least = least_by g }
