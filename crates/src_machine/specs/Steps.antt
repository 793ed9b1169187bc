-- What a step of the code is given, and what it tells: the next step of the definition, behind the micro-steps that don't count.
use Rattle.std.specs.Prelude.{ℕ, ◌≡◌, ◌+◌, ◌≤◌, ◌⊎◌, Bool, true, false, Option, Some, None}
use Rattle.std.specs.Vec.{vec_capacity}
use Rattle.c_typed.specs.Chains.{graph_of}
use Rattle.call_graph.specs.Levels.{IsAcyclic}
use Rattle.pic_map.specs.MapContent.{MapContent}
use Rattle.pic_world.specs.World.{World, Outside, arrived}
use Rattle.src_machine.specs.Progress.{taken_by}
use Rattle.src_machine.specs.Seen.{IsAt, state_in}
use Rattle.src_machine.specs.Stepping.{Rests, is_ending, taker_of}
use Rattle.src_machine.specs.Telling.{Tells}
use Rattle.src_machine.specs.declared.machine.Machine.{Machine}
use Rattle.src_machine.specs.declared.machine.Outcome.{Outcome}
use Rattle.src_machine.specs.declared.machine.Outcome.TheVariants as outcomes
use Rattle.src_machine.specs.declared.machine.SrcEnd.{SrcEnd}
use Rattle.src_machine.specs.declared.machine.SrcEnd.TheVariants as ends
use Rattle.src_machine.specs.declared.machine.Taker.{Taker}
use Rattle.src_memory.specs.Seen.{events_of}
use Rattle.src_memory.specs.Shape.{IsShaped}
use Rattle.src_memory.specs.Shown.{address_of}
use Rattle.src_rules.specs.Laws.{IsOfBytes, IsProper, entries}
use Rattle.src_rules.specs.Runs.{moment, ready, take}
use Rattle.src_rules.specs.State.{State, state}
use Rattle.src_values.specs.Memory.{Setting}
use Rattle.src_values.specs.Objects.{handler_in}
use Rattle.src_values.specs.declared.objects.Byte.{Byte}

-- ---- how a step ends
-- the end of a step as that of its last micro-step
abbrev pub outcome_of : SrcEnd → Outcome
outcome_of (ends.Went event) = outcomes.Went event
outcome_of (ends.Undefined kind line) = outcomes.Undefined kind line
outcome_of ends.Idle = outcomes.Idle

abbrev pub went_if : Bool → Outcome → Option SrcEnd
went_if true (outcomes.Went event) = Some (ends.Went event)
went_if false (outcomes.Went event) = None
went_if counted (outcomes.Undefined kind line) = Some (ends.Undefined kind line)
went_if counted outcomes.Idle = Some ends.Idle
went_if counted outcomes.Lost = Some ends.Idle

-- ---- where a run stands
-- A proper program in which no function reaches itself, and bytes from outside.
pub record IsGiven (s : Setting) : Type 0 where
  pub proper : IsProper s.program
  pub acyclic : IsAcyclic (graph_of s.program)
  pub bytes : IsOfBytes s.outside

-- At each moment of the run there is room for what waits, and for three entries more, as a micro-step may want.
abbrev pub IsRoom : Setting → ℕ → Type 0
IsRoom s room = (n : ℕ) → entries (moment s n).stack + 3 ≤ room

-- the state when what has arrived has set its flags
abbrev pub settled : Outside → State → State
settled o t = state t.copy t.focus t.stack t.memory (arrived o t.world)

-- a moment of the run, up to flags that have arrived
pub record IsOnRun (s : Setting) (t : State) : Type 0 where
  pub number : ℕ
  pub at : (t ≡ moment s number) ⊎ (t ≡ settled s.outside (moment s number))

-- The code stands at a moment of the run, and has room for all that ever waits.
pub record CanGo (s : Setting) (map : MapContent) (m : Machine) (w : World Byte) : Type 0 where
  pub given : IsGiven s
  pub at : IsAt s map m w
  pub handler : m.handler ≡ handler_in s.program
  pub run : IsOnRun s (state_in m w)
  pub room : IsRoom s (vec_capacity m.stack)

-- ---- a step
-- It is the next one from a state, taken by whoever takes that, and the code goes on from where that leads.
pub record TellsTake (s : Setting) (map : MapContent) (t : State) (by : Taker) (end : SrcEnd) (before after : Machine) : Type 0 where
  pub told : Tells s.outside (address_of s.program map) (outcome_of end) after (take s t)
  pub taker : by ≡ taker_of s (ready s t)
  pub rests : Rests s (outcome_of end) after (ready s t)
  pub program : after.program ≡ before.program
  pub handler : after.handler ≡ before.handler
  pub shaped : IsShaped s.program map after.memory
  pub few : is_ending (outcome_of end) ≡ false → events_of after.world ≤ events_of before.world + taken_by end
  pub room : vec_capacity before.stack ≤ vec_capacity after.stack
