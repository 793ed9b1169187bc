-- A kept run of the source as links between runs see one: its trace is the kept one, a step of the language takes 8,000 instructions at most,
-- and it may take none at all. How its steps and events come one after the other.
use Rattle.std.specs.Prelude.{◌≡◌, ℕ, suc, ◌+◌, ◌*◌, ◌≤◌, Bool, false, List, length, is_none}
use Rattle.c_typed.specs.Trees.{Program}
use Rattle.pic_world.specs.World.{Happening, Outside, Schedule}
use Rattle.run_links.specs.Runs.{Run}
use Rattle.run_links.specs.Laws.{Counts}
use Rattle.src_rules.specs.Laws.{IsProper, IsOfBytes}
use Rattle.src_rules.specs.Runs.{moment, steps_by, fault_of, is_idle}
use Rattle.src_rules.specs.Step.{step}
use Rattle.src_values.specs.Memory.{Setting}
use Rattle.src_values.specs.declared.objects.Byte.{Byte}
use Rattle.kept_trace.specs.Kept.{kept_events, with_schedule, setting_of, kept_step, kept_moment, kept_steps_by, IsKeptOf}

abbrev pub kept_source_run : Program → List Bool → Outside → Run (Happening Byte)
kept_source_run p kept o = record {
  trace = λ n. kept_events kept (kept_moment p kept o n).world.trace;
  goes = λ n. is_none (fault_of (kept_step p kept o (kept_moment p kept o n)));
  rests = λ n. is_idle (kept_step p kept o (kept_moment p kept o n));
  most = λ n. 8000 * kept_steps_by p kept o n;
  least = λ n. 0;
}

-- the run with all its events
abbrev pub source_run : Setting → Run (Happening Byte)
source_run s = record {
  trace = λ n. (moment s n).world.trace;
  goes = λ n. is_none (fault_of (step s (moment s n)));
  rests = λ n. is_idle (step s (moment s n));
  most = λ n. 8000 * steps_by s n;
  least = λ n. 0;
}

-- Up to each moment it is what is seen of the run under some schedule by the length of the whole trace.
abbrev pub KeptSourceRunsAreRuns : Type 0
KeptSourceRunsAreRuns =
    (p : Program) (kept : List Bool) (o : Outside) (n : ℕ)
    → (schedule : Schedule) × IsKeptOf kept (kept_source_run p kept o) (source_run (setting_of p (with_schedule o schedule))) n

-- A micro-step makes one kept event at most and counts as one step at most; by each number of steps the run comes there, rests, or has an
-- undefined one, behind which it goes no further.
pub record IsSteadyRun {E : Type 0} (u : Run E) (steps : ℕ → ℕ) : Type 0 where
  pub none_yet : steps 0 ≡ 0
  pub later : (i j : ℕ) → i ≤ j → steps i ≤ steps j
  pub once : (i : ℕ) → steps (suc i) ≤ steps i + 1
  pub silent : length (u.trace 0) ≡ 0
  pub single : (i : ℕ) → length (u.trace (suc i)) ≤ length (u.trace i) + 1
  pub stays : (i j : ℕ) → i ≤ j → u.goes i ≡ false → u.trace j ≡ u.trace i
  pub price : (i : ℕ) → u.most i ≡ 8000 * steps i
  pub counts : Counts u steps

abbrev pub KeptRunsAreSteady : Type 0
KeptRunsAreSteady = (p : Program) (kept : List Bool) (o : Outside) → IsProper p → IsOfBytes o → IsSteadyRun (kept_source_run p kept o) (kept_steps_by p kept o)
