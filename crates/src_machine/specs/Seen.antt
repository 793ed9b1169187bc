-- The state that the code has, as the definition has it, and what a micro-step of the code says of the one of the definition.
use Rattle.std.specs.Prelude.{ℕ, ◌≡◌, ◌+◌, ◌≤◌, ◌<◌, ◌^◌, Bool, true, false, not, ◌&&◌, List, [], ◌∷◌, reverse, Some, None}
use Rattle.std.specs.Vec.{vec_len, vec_capacity}
use Rattle.c_typed.specs.Trees as tree
use Rattle.c_typed.specs.Trees.{Expression, Expressions, Item, Statement}
use Rattle.c_typed.specs.Views.{program_of}
use Rattle.pic_world.specs.World.{World, Outside}
use Rattle.src_machine.specs.declared.machine.Machine.{Machine}
use Rattle.src_machine.specs.declared.machine.Outcome.{Outcome}
use Rattle.src_machine.specs.declared.machine.Outcome.TheVariants.{Went, Undefined, Idle, Lost}
use Rattle.src_memory.specs.Cells.{memory_in}
use Rattle.src_memory.specs.Seen.{IsWorld, events_of}
use Rattle.src_memory.specs.Shape.{IsShaped}
use Rattle.pic_map.specs.MapContent.{MapContent}
use Rattle.src_rules.specs.State as rules
use Rattle.src_rules.specs.State.{State, state}
use Rattle.src_values.specs.Control as control
use Rattle.src_values.specs.Memory.{Memory, Setting}
use Rattle.src_values.specs.Seen.{focus_in, frames_in, values_on, arguments_from, expressions_from, is_over}
use Rattle.src_values.specs.Objects.{same_copy}
use Rattle.src_values.specs.declared.control.Pending.{Pending}
use Rattle.src_values.specs.declared.control.Pending.TheVariants as frames
use Rattle.src_values.specs.declared.objects.Byte.{Byte}
use Rattle.src_values.specs.declared.objects.CopyOf.{CopyOf}

-- what waits, the top first
abbrev pub waiting : Machine → List Pending
waiting m = reverse m.stack.items

-- what the handler interrupted
abbrev pub interrupted_in : Machine → control.Focus
interrupted_in m = focus_in m.interrupted

-- the stack, and the one with something more on top
abbrev pub stack_of : Machine → List control.Pending
stack_of m = frames_in (interrupted_in m) (waiting m)

abbrev pub above : Machine → Pending → List control.Pending
above m pending = frames_in (interrupted_in m) (pending ∷ waiting m)

abbrev pub memory_of : Machine → Memory
memory_of m = memory_in m.memory

abbrev pub state_in : Machine → World Byte → State
state_in m w = state m.copy (focus_in m.focus) (stack_of m) (memory_of m) w

-- Of a micro-step that makes no event and leaves the world alone.
abbrev pub silent : Outcome → Machine → World Byte → rules.Outcome
silent (Went None) m w = rules.Went (state_in m w) None
silent (Went (Some event)) m w = rules.Idle
silent (Undefined kind line) m w = rules.Undefined kind line
silent Idle m w = rules.Idle
silent Lost m w = rules.Lost

-- so much more can wait
abbrev pub HasRoom : ℕ → Machine → Type 0
HasRoom n m = vec_len m.stack + n ≤ vec_capacity m.stack

-- no value of an argument stands on top
abbrev pub HasNoValue : Machine → Type 0
HasNoValue m = values_on (waiting m) ≡ []

-- these are the arguments of the call
abbrev pub AreArgumentsOf : Expression → Expressions → Type 0
AreArgumentsOf e es = (n : ℕ) → arguments_from n e ≡ expressions_from n es

-- what the run goes by, with this from outside
abbrev pub setting_of : Machine → Outside → Setting
setting_of m o = record { program = program_of m.program.now; outside = o }

-- the copies that are active
abbrev pub active_in : Machine → List CopyOf
active_in m = control.active m.copy (focus_in m.focus) (stack_of m)

-- what waits is a caller, or what the handler interrupted, in this copy
abbrev pub calls_from : control.Focus → Pending → CopyOf → Bool
calls_from x (frames.Returns d) c = same_copy d c
calls_from x (frames.Resumes d) c = same_copy d c && not (is_over x)
calls_from x _ c = false

-- main hasn't ended
abbrev pub IsGoing : Machine → Type 0
IsGoing m = is_over (focus_in m.focus) ≡ false

-- The code is where the definition is: its program, objects and world are those of the setting, and few events were made.
pub record IsAt (s : Setting) (map : MapContent) (m : Machine) (w : World Byte) : Type 0 where
  pub program : s.program ≡ program_of m.program.now
  pub shaped : IsShaped s.program map m.memory
  pub world : IsWorld s.outside m.world w
  pub few : events_of m.world < 2 ^ 60

-- ---- a node that only reads
abbrev pub is_read : Expression → Bool
is_read (tree.Read place ty line) = true
is_read _ = false

abbrev pub only_reads : List control.Pending → Bool
only_reads (control.In e (control.At spot) ∷ k) = is_read e
only_reads _ = false

-- ---- statements that give a local its first value
abbrev pub IsListOf : Statement → ℕ → List Item → Type 0
IsListOf (tree.InitList local all line) n items = (local ≡ n) × (all ≡ items)
IsListOf _ n items = ⊥

abbrev pub is_scalar : Statement → Bool
is_scalar (tree.InitScalar local e line) = true
is_scalar _ = false
