-- What one step of a trace does: it takes the run's next step by the definitions of the source, and prints the line of its event.
use Rattle.std.specs.Prelude.{ℕ, ◌≡◌, ◌<◌, ◌^◌, ◌+◌, true, List, length, Option, Some, None, option_map, option_to_list}
use Rattle.c_typed.specs.Views.{program_of}
use Rattle.c_typed.specs.declared.program.Typed.{Typed}
use Rattle.host_io.specs.Host.{PrintsPrefix}
use Rattle.pic_map.specs.MapContent.{MapContent}
use Rattle.pic_world.specs.declared.Event.{Event}
use Rattle.pic_world.specs.declared.script.Script.{Script}
use Rattle.picc_cli.specs.declared.tracing.Ended.{Ended}
use Rattle.picc_cli.specs.declared.tracing.Ended.TheVariants.{Done, Undefined, Refused, CannotReadText, NoScript, CannotPrint, NoMemory}
use Rattle.picc_cli.specs.Lines.{event_lines}
use Rattle.picc_cli.specs.Traced.{Prints}
use Rattle.src_machine.specs.Sources.{IsSource, event_in}
use Rattle.src_machine.specs.declared.progress.Source.{Source}
use Rattle.src_memory.specs.Seen.{outside_by}
use Rattle.src_memory.specs.Shown.{address_of, shown}
use Rattle.src_rules.specs.Runs.{after, fault_after, is_idle_after, is_taken, take}
use Rattle.src_values.specs.Memory.{Setting}

-- ---- where a step is taken
-- what the run of a typed program under a script goes by
abbrev pub setting_by : Typed → Script → Setting
setting_by typed script = record { program = program_of typed; outside = outside_by script }

-- The code stands behind so many steps of a run under this script, of a program whose objects are those of the map.
pub record IsBehind (content : MapContent) (script : Script) (n : ℕ) (source : Source) : Type 0 where
  pub setting : Setting
  pub outside : setting.outside ≡ outside_by script
  pub objects : length content.objects ≡ length setting.program.statics
  pub at : IsSource setting content n source

-- one more step can be counted
pub record CanStep (content : MapContent) (script : Script) (source : Source) : Type 0 where
  pub number : ℕ
  pub few : number + 1 < 2 ^ 60
  pub behind : IsBehind content script number source

-- ---- what it does
module _ (s : Setting) (content : MapContent) where
  -- the event of the step behind the first n, as the map shows it
  abbrev pub events_at : ℕ → List Event
  events_at n = option_to_list (option_map (shown (address_of s.program content)) (event_in (take s (after s n))))

  -- Behind n steps the next one was taken, and the line of its event printed, if it makes one; or why the run doesn't go on.
  abbrev pub Steps : ℕ → Source → Option (List ℕ) → Option (List ℕ) → Option Ended → Type 0
  Steps n next old new None = (is_taken (take s (after s n)) ≡ true) × IsSource s content (n + 1) next × Prints s content old new (events_at n)
  Steps n next old new (Some Done) = (is_idle_after s n ≡ true) × (new ≡ old)
  Steps n next old new (Some (Undefined kind line)) = (fault_after s n ≡ Some (record { kind = kind; line = line })) × (new ≡ old)
  Steps n next old new (Some CannotPrint) = (is_taken (take s (after s n)) ≡ true) × PrintsPrefix old new (event_lines content (events_at n))
  Steps n next old new (Some NoMemory) = (is_taken (take s (after s n)) ≡ true) × PrintsPrefix old new (event_lines content (events_at n))
  Steps n next old new (Some (Refused refusal)) = ⊥
  Steps n next old new (Some CannotReadText) = ⊥
  Steps n next old new (Some (NoScript end)) = ⊥
