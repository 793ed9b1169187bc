-- Runs of byte code, seen by the cells of which the trace is kept, as those of the source are: the flags of interrupts arrive by the length of
-- the kept trace.
use Rattle.std.specs.Prelude.{◌≡◌, ℕ, zero, suc, ◌+◌, ◌≤◌, Bool, List, length}
use Rattle.pic_world.specs.World.{Happening, Outside, Schedule}
use Rattle.core_code.specs.Bytes.{Held}
use Rattle.core_code.specs.Cost.{step_most, step_least}
use Rattle.core_code.specs.Machine.{Program, Setting, Machine, Next, core_step, core_start, core_moment, gone, goes_on, is_still}
use Rattle.core_code.specs.Runs.{run_of}
use Rattle.run_links.specs.Runs.{Run}
use Rattle.kept_trace.specs.Kept.{kept_events, kept_length, with_schedule, by_kept, IsKeptOf}

-- ---- kept runs
abbrev pub code_setting : Program → Outside → Setting
code_setting q o = record { program = q; outside = o }

abbrev pub kept_code_setting : Program → List Bool → Outside → Machine → Setting
kept_code_setting q kept o t = code_setting q (by_kept kept o t.world)

abbrev pub kept_code_step : Program → List Bool → Outside → Machine → Next
kept_code_step q kept o t = core_step (kept_code_setting q kept o t) t

-- the machine after so many steps of a program
unfoldable pub kept_code_moment : Program → List Bool → Outside → ℕ → Machine
kept_code_moment q kept o zero = core_start (code_setting q o)
kept_code_moment q kept o (suc n) = let t = kept_code_moment q kept o n in gone t (kept_code_step q kept o t)

-- the costs of the first steps together
unfoldable pub kept_most_by : Program → List Bool → Outside → ℕ → ℕ
kept_most_by q kept o zero = 0
kept_most_by q kept o (suc n) = let t = kept_code_moment q kept o n in kept_most_by q kept o n + step_most (kept_code_setting q kept o t) t

unfoldable pub kept_least_by : Program → List Bool → Outside → ℕ → ℕ
kept_least_by q kept o zero = 0
kept_least_by q kept o (suc n) = let t = kept_code_moment q kept o n in kept_least_by q kept o n + step_least (kept_code_setting q kept o t) t

-- the run, seen by kept cells
abbrev pub kept_code_run : Program → List Bool → Outside → Run (Happening Held)
kept_code_run q kept o = record {
  trace = λ n. kept_events kept (kept_code_moment q kept o n).world.trace;
  goes = λ n. goes_on (kept_code_step q kept o (kept_code_moment q kept o n));
  rests = λ n. is_still (kept_code_step q kept o (kept_code_moment q kept o n));
  most = kept_most_by q kept o;
  least = kept_least_by q kept o;
}

-- ---- a schedule by the length of the whole trace
-- Up to a moment the kept run is what is seen of the run under this schedule, which has, at each length of the whole trace that comes, what
-- the given one has at the length of the kept trace.
pub record IsCodeUnder (q : Program) (kept : List Bool) (o : Outside) (n : ℕ) (schedule : Schedule) : Type 0 where
  pub moments : (i : ℕ) → i ≤ n → core_moment (code_setting q (with_schedule o schedule)) i ≡ kept_code_moment q kept o i
  pub lengths : (i : ℕ) → i ≤ n → schedule (length (kept_code_moment q kept o i).world.trace) ≡ o.schedule (kept_length kept (kept_code_moment q kept o i).world)
  pub steps : (i : ℕ) → i ≤ n → core_step (code_setting q (with_schedule o schedule)) (kept_code_moment q kept o i) ≡ kept_code_step q kept o (kept_code_moment q kept o i)

abbrev pub KeptCodeRunsAreRuns : Type 0
KeptCodeRunsAreRuns =
    (q : Program) (kept : List Bool) (o : Outside) (n : ℕ)
    → (schedule : Schedule) × IsCodeUnder q kept o n schedule × IsKeptOf kept (kept_code_run q kept o) (run_of (code_setting q (with_schedule o schedule))) n
