-- Runs of the source, seen by the cells of which its trace is kept: the device registers, and the static objects that are kept. The flags of
-- interrupts arrive by the length of that trace. All accesses are events of the run, as ever; those on other objects are left out of what is
-- seen.
use Rattle.std.specs.Prelude.{◌≡◌, ℕ, zero, suc, ◌+◌, ◌≤◌, Bool, true, false, ◌&&◌, List, get_or, length}
use Rattle.std.specs.List.{filter}
use Rattle.c_typed.specs.Trees.{Program}
use Rattle.pic_world.specs.World.{Happening, ReadOf, WriteOf, Ended, World, Outside}
use Rattle.pic_world.specs.World as world
use Rattle.pic_world.specs.declared.Cell.{Cell}
use Rattle.pic_world.specs.declared.Cell.TheVariants as cells
use Rattle.run_links.specs.Runs.{Run}
use Rattle.src_rules.specs.Laws.{IsProper, IsOfBytes}
use Rattle.src_rules.specs.Runs.{gone, moment, is_taken, one_if, steps_by}
use Rattle.src_rules.specs.Standing.{Keeps, Stands}
use Rattle.src_rules.specs.State.{State, Outcome}
use Rattle.src_rules.specs.Step.{counts, start, step}
use Rattle.src_values.specs.Memory.{Setting}

-- ---- kept traces
abbrev pub is_kept_cell : List Bool → Cell → Bool
is_kept_cell kept (cells.Device address) = true
is_kept_cell kept (cells.Static object offset) = get_or kept object false

abbrev pub is_kept : {B : Type 0} → List Bool → Happening B → Bool
is_kept kept (ReadOf cell byte) = is_kept_cell kept cell
is_kept kept (WriteOf cell byte) = is_kept_cell kept cell
is_kept kept Ended = true

abbrev pub kept_events : {B : Type 0} → List Bool → List (Happening B) → List (Happening B)
kept_events kept events = filter (is_kept kept) events

abbrev pub kept_length : {B : Type 0} → List Bool → World B → ℕ
kept_length kept w = length (kept_events kept w.trace)

-- ---- kept runs
abbrev pub with_schedule : Outside → world.Schedule → Outside
with_schedule o schedule = record o { schedule = schedule }

abbrev pub setting_of : Program → Outside → Setting
setting_of p o = record { program = p; outside = o }

-- What arrives now is what the schedule has at the length of the kept trace. It is asked again behind each event that isn't kept; to raise a flag again
-- changes nothing, since only a write to its register clears it, and that is an event that is kept.
abbrev pub by_kept : {B : Type 0} → List Bool → Outside → World B → Outside
by_kept kept o w = with_schedule o (λ n. o.schedule (kept_length kept w))

abbrev pub kept_setting : Program → List Bool → Outside → State → Setting
kept_setting p kept o t = setting_of p (by_kept kept o t.world)

abbrev pub kept_step : Program → List Bool → Outside → State → Outcome
kept_step p kept o t = step (kept_setting p kept o t) t

-- the state after so many micro-steps of a program
unfoldable pub kept_moment : Program → List Bool → Outside → ℕ → State
kept_moment p kept o zero = start (setting_of p o)
kept_moment p kept o (suc n) = let t = kept_moment p kept o n in gone t (kept_step p kept o t)

abbrev pub kept_counts : Program → List Bool → Outside → State → Bool
kept_counts p kept o t = counts (kept_setting p kept o t) t

-- how many steps the first micro-steps hold
unfoldable pub kept_steps_by : Program → List Bool → Outside → ℕ → ℕ
kept_steps_by p kept o zero = 0
kept_steps_by p kept o (suc n) = let t = kept_moment p kept o n in kept_steps_by p kept o n + one_if (kept_counts p kept o t && is_taken (kept_step p kept o t))

-- Up to a moment one run is what is seen of another one.
pub record IsKeptOf {B : Type 0} (kept : List Bool) (seen whole : Run (Happening B)) (n : ℕ) : Type 0 where
  pub trace : (i : ℕ) → i ≤ n → seen.trace i ≡ kept_events kept (whole.trace i)
  pub goes : (i : ℕ) → i ≤ n → seen.goes i ≡ whole.goes i
  pub rests : (i : ℕ) → i ≤ n → seen.rests i ≡ whole.rests i
  pub most : (i : ℕ) → i ≤ n → seen.most i ≡ whole.most i
  pub least : (i : ℕ) → i ≤ n → seen.least i ≡ whole.least i

-- ---- a schedule by the length of the whole trace
-- Up to a moment a kept run is the run under this schedule, which has, at each length of the whole trace that comes, what the given one has
-- at the length of the kept trace. So whatever holds of runs under all schedules holds of it.
pub record IsRunUnder (p : Program) (kept : List Bool) (o : Outside) (n : ℕ) (schedule : world.Schedule) : Type 0 where
  pub moments : (i : ℕ) → i ≤ n → moment (setting_of p (with_schedule o schedule)) i ≡ kept_moment p kept o i
  pub lengths : (i : ℕ) → i ≤ n → schedule (length (kept_moment p kept o i).world.trace) ≡ o.schedule (kept_length kept (kept_moment p kept o i).world)
  pub goes : (i : ℕ) → i ≤ n → step (setting_of p (with_schedule o schedule)) (kept_moment p kept o i) ≡ kept_step p kept o (kept_moment p kept o i)
  pub steps : (i : ℕ) → i ≤ n → steps_by (setting_of p (with_schedule o schedule)) i ≡ kept_steps_by p kept o i

abbrev pub KeptRunsAreRuns : Type 0
KeptRunsAreRuns = (p : Program) (kept : List Bool) (o : Outside) (n : ℕ) → (schedule : world.Schedule) × IsRunUnder p kept o n schedule

-- Each moment of a kept run stands, and a rule is there for its step.
abbrev pub KeptMomentsStand : Type 0
KeptMomentsStand =
    (p : Program) (kept : List Bool) (o : Outside) → IsProper p → IsOfBytes o → (n : ℕ)
    → Stands p (kept_moment p kept o n) × Keeps p (kept_step p kept o (kept_moment p kept o n))
