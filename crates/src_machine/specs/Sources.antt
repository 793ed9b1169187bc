-- The run of the definition that a source of the code makes, step by step.
use Rattle.std.specs.Prelude.{ℕ, ◌≡◌, ◌+◌, ◌≤◌, ◌⊎◌, true, Option, Some, None, option_map}
use Rattle.pic_map.specs.MapContent.{MapContent}
use Rattle.pic_world.specs.World.{Happening, World, world_at_start}
use Rattle.src_machine.specs.Progress.{main_steps_of, runs_of, undefined_in}
use Rattle.src_machine.specs.Seen.{state_in}
use Rattle.src_machine.specs.Steps.{CanGo, settled}
use Rattle.src_machine.specs.declared.machine.Machine.{Machine}
use Rattle.src_machine.specs.declared.machine.SrcEnd.{SrcEnd}
use Rattle.src_machine.specs.declared.machine.SrcEnd.TheVariants as ends
use Rattle.src_machine.specs.declared.progress.Source.{Source}
use Rattle.src_memory.specs.Seen.{events_of}
use Rattle.src_memory.specs.Shown.{address_of, shown}
use Rattle.src_rules.specs.Runs.{after, fault_after, is_idle_after, is_taken, main_steps_after, ready, runs_after, take}
use Rattle.src_rules.specs.State.{State, Outcome, Went}
use Rattle.src_rules.specs.Step.{start}
use Rattle.src_values.specs.Memory.{Setting}
use Rattle.src_values.specs.declared.objects.Byte.{Byte}

-- ---- the start
-- The code is at the start of the program's run under any outside of which bytes come. The numbers of static objects are such
-- as events have.
pub record BeginsAt (s : Setting) (map : MapContent) (m : Machine) : Type 0 where
  pub can : CanGo s map m world_at_start
  pub start : state_in m world_at_start ≡ start s
  pub events : events_of m.world ≡ 0

-- ---- behind so many steps
-- The code is where so many steps of the run lead; or, where no step is left to take, where there is none, with the flags set
-- that have arrived.
abbrev pub IsBehind : Setting → ℕ → State → Type 0
IsBehind s n t = (t ≡ after s n) ⊎ ((is_idle_after s n ≡ true) × (t ≡ settled s.outside (ready s (after s n))))

-- It counts main's steps and the handler's runs, and no step was undefined.
pub record IsSource (s : Setting) (map : MapContent) (n : ℕ) (source : Source) : Type 0 where
  pub world : World Byte
  pub can : CanGo s map source.machine world
  pub behind : IsBehind s n (state_in source.machine world)
  pub few : events_of source.machine.world ≤ n
  pub main_steps : main_steps_of source ≡ main_steps_after s n
  pub runs : runs_of source ≡ runs_after s n
  pub defined : undefined_in source ≡ None

-- ---- the step behind them
abbrev pub event_in : Outcome → Option (Happening Byte)
event_in (Went u event) = event
event_in _ = None

-- A step went with the event, shown, of the definition's; or it is undefined, with the definition's kind and line; or there is
-- none, exactly where the definition has none.
abbrev pub TellsNext : Setting → MapContent → ℕ → SrcEnd → Source → Type 0
TellsNext s map n (ends.Went event) next =
    (is_taken (take s (after s n)) ≡ true) × (event ≡ option_map (shown (address_of s.program map)) (event_in (take s (after s n)))) × IsSource s map (n + 1) next
TellsNext s map n (ends.Undefined kind line) next = fault_after s n ≡ Some (record { kind = kind; line = line })
TellsNext s map n ends.Idle next = (is_idle_after s n ≡ true) × IsSource s map n next

-- How the step of this number ended, whether or not one more can be counted: it was taken; it is undefined, with this kind and line; or
-- there is none.
abbrev pub EndsAs : Setting → ℕ → SrcEnd → Type 0
EndsAs s n (ends.Went event) = is_taken (take s (after s n)) ≡ true
EndsAs s n (ends.Undefined kind line) = fault_after s n ≡ Some (record { kind = kind; line = line })
EndsAs s n ends.Idle = is_idle_after s n ≡ true
