-- What a micro-step of the code is given, and what it tells: the one of the definition, who takes it, and whether it counts.
use Rattle.std.specs.Prelude.{◌≡◌, ◌+◌, ◌≤◌, Bool, true, false}
use Rattle.std.specs.Vec.{vec_capacity}
use Rattle.pic_map.specs.MapContent.{MapContent}
use Rattle.pic_world.specs.World.{World, arrived}
use Rattle.pic_world.specs.declared.Root.{Root}
use Rattle.pic_world.specs.declared.Root.TheVariants as roots
use Rattle.src_machine.specs.Seen.{HasRoom, IsAt, state_in}
use Rattle.src_machine.specs.Telling.{Tells}
use Rattle.src_machine.specs.declared.machine.Machine.{Machine}
use Rattle.src_machine.specs.declared.machine.Outcome.{Outcome}
use Rattle.src_machine.specs.declared.machine.Outcome.TheVariants as ends
use Rattle.src_machine.specs.declared.machine.Taker.{Taker}
use Rattle.src_machine.specs.declared.machine.Taker.TheVariants as takers
use Rattle.src_memory.specs.Seen.{IsWorld, events_of}
use Rattle.src_memory.specs.Shape.{IsShaped}
use Rattle.src_memory.specs.Shown.{address_of}
use Rattle.src_rules.specs.Laws.{IsOfBytes, IsProper}
use Rattle.src_rules.specs.Standing.{Stands}
use Rattle.src_rules.specs.State.{State, state}
use Rattle.src_rules.specs.Step.{counts, enters, step}
use Rattle.src_values.specs.Memory.{Setting}
use Rattle.src_values.specs.Objects.{handler_in}
use Rattle.src_values.specs.declared.objects.Byte.{Byte}

-- The code stands at a state of a run of a proper program, and three frames more may wait.
pub record CanStep (s : Setting) (map : MapContent) (m : Machine) (w : World Byte) : Type 0 where
  pub at : IsAt s map m w
  pub handler : m.handler ≡ handler_in s.program
  pub proper : IsProper s.program
  pub bytes : IsOfBytes s.outside
  pub stands : Stands s.program (state_in m w)
  pub room : HasRoom 3 m

-- who takes the micro-step of a state
abbrev pub taker_at : Bool → Root → Taker
taker_at true root = takers.Interrupt
taker_at false roots.Main = takers.Main
taker_at false roots.Isr = takers.Handler

abbrev pub taker_of : Setting → State → Taker
taker_of s t = taker_at (enters s t) t.copy.root

-- the state at which the code rests, where there is no micro-step to take: what had arrived has
abbrev pub Rests : Setting → Outcome → Machine → State → Type 0
Rests s ends.Idle m t = (state_in m (arrived s.outside t.world) ≡ state t.copy t.focus t.stack t.memory (arrived s.outside t.world)) × IsWorld s.outside m.world (arrived s.outside t.world)
Rests s (ends.Went event) m t = Unit {0}
Rests s (ends.Undefined kind line) m t = Unit {0}
Rests s ends.Lost m t = Unit {0}

-- the run is over with an undefined step
abbrev pub is_ending : Outcome → Bool
is_ending (ends.Went event) = false
is_ending (ends.Undefined kind line) = true
is_ending ends.Idle = false
is_ending ends.Lost = false

-- What a micro-step from a state tells, and what it keeps.
pub record TellsStep (s : Setting) (map : MapContent) (t : State) (by : Taker) (counting : Bool) (outcome : Outcome) (before after : Machine) : Type 0 where
  pub told : Tells s.outside (address_of s.program map) outcome after (step s t)
  pub counted : counting ≡ counts s t
  pub taker : by ≡ taker_of s t
  pub rests : Rests s outcome after t
  pub program : after.program ≡ before.program
  pub handler : after.handler ≡ before.handler
  pub shaped : IsShaped s.program map after.memory
  pub few : is_ending outcome ≡ false → events_of after.world ≤ events_of before.world + 1
  pub room : vec_capacity before.stack ≤ vec_capacity after.stack
