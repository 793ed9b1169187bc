-- Where a run of the source of the code is, and what is known of its undefined steps.
use Rattle.std.specs.Prelude.{ℕ, ◌+◌, ◌*◌, ◌≡◌, ◌<◌, ◌≤◌, ◌⊎◌, true, length, Option, Some, None}
use Rattle.pic_map.specs.MapContent.{MapContent}
use Rattle.run_compare.specs.declared.source_run.Fault.{Fault as CodeFault}
use Rattle.run_compare.specs.declared.source_run.Going.{Going}
use Rattle.run_compare.specs.declared.source_run.Going.TheVariants as goings
use Rattle.run_compare.specs.declared.source_run.SourceRun.{SourceRun}
use Rattle.src_machine.specs.Sources.{IsSource}
use Rattle.src_rules.specs.Runs.{Fault, after, fault_after, is_idle_after, main_steps_after, runs_after}
use Rattle.src_values.specs.Memory.{Setting}

abbrev pub fault_in : CodeFault → Fault
fault_in fault = record { kind = fault.kind; line = fault.line }

-- ---- a run
-- It is behind so many steps of the run of the definition, with so many events, and none of them was undefined.
pub record IsRun (s : Setting) (map : MapContent) (run : SourceRun) : Type 0 where
  pub source : IsSource s map run.steps run.source
  pub events : run.events ≡ length (after s run.steps).world.trace
  pub defined : (k : ℕ) → k < run.steps → fault_after s k ≡ None

abbrev pub taken_by : Going → ℕ
taken_by goings.Went = 1
taken_by goings.Idle = 0
taken_by (goings.Undefined fault) = 0

-- How the step of this number went.
abbrev pub Goes : Setting → MapContent → ℕ → Going → SourceRun → Type 0
Goes s map n goings.Went next = IsRun s map next
Goes s map n goings.Idle next = (is_idle_after s n ≡ true) × IsRun s map next
Goes s map n (goings.Undefined fault) next = (fault_after s n ≡ Some (fault_in fault))

-- How the step of this number ended.
abbrev pub Took : Setting → ℕ → Going → Type 0
Took s n goings.Went = fault_after s n ≡ None
Took s n goings.Idle = is_idle_after s n ≡ true
Took s n (goings.Undefined fault) = fault_after s n ≡ Some (fault_in fault)

-- ---- the first undefined step
-- it is among so many first ones, and begins while the trace is so long at most
pub record IsFirst (s : Setting) (most longest : ℕ) (fault : Fault) : Type 0 where
  pub step : ℕ
  pub early : step < most
  pub short : length (after s step).world.trace ≤ longest
  pub is : fault_after s step ≡ Some fault
  pub before : (k : ℕ) → k < step → fault_after s k ≡ None

-- Among so many first steps that begin while the trace is so long at most: the undefined one, or that there is none.
abbrev pub Looked : Setting → ℕ → ℕ → Option CodeFault → Type 0
Looked s most longest None = (k : ℕ) → k < most → length (after s k).world.trace ≤ longest → fault_after s k ≡ None
Looked s most longest (Some fault) = IsFirst s most longest (fault_in fault)

-- ---- up to an end
-- It is at its end before its step of number k: main has taken so many steps, or main and the handler together twice as many; it is
-- idle; or more runs of the handler than so many would have begun.
abbrev pub IsEndOf : Setting → ℕ → ℕ → ℕ → Type 0
IsEndOf s most runs k = (most ≤ main_steps_after s k) ⊎ ((2 * most ≤ k) ⊎ ((is_idle_after s k ≡ true) ⊎ (runs < runs_after s (k + 1))))

pub record MeetsFault (s : Setting) (most runs : ℕ) (fault : Fault) : Type 0 where
  pub step : ℕ
  pub going : (k : ℕ) → k ≤ step → IsEndOf s most runs k → ⊥
  pub is : fault_after s step ≡ Some fault

-- the undefined step that is met before the end, or that there is none
abbrev pub Met : Setting → ℕ → ℕ → Option CodeFault → Type 0
Met s most runs None = (fault : Fault) → MeetsFault s most runs fault → ⊥
Met s most runs (Some fault) = MeetsFault s most runs (fault_in fault)
