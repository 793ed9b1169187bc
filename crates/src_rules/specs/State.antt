-- Where a run stands, and how a micro-step ends.
use Rattle.std.specs.Prelude.{ℕ, List, Option}
use Rattle.pic_world.specs.World.{Happening, World}
use Rattle.src_values.specs.Memory.{Memory}
use Rattle.src_values.specs.Control.{Focus, Pending}
use Rattle.src_values.specs.declared.objects.Byte.{Byte}
use Rattle.src_values.specs.declared.objects.CopyOf.{CopyOf}
use Rattle.src_values.specs.declared.objects.Undef.{Undef}

pub record State : Type 0 where
  -- the function copy whose code runs
  pub copy : CopyOf
  pub focus : Focus
  pub stack : List Pending
  pub memory : Memory
  pub world : World Byte

-- A step goes on, with the event that it makes if it makes one; it is undefined, at this line; there is none to take; or
-- no rule is there for the state, which no run of a program comes to.
pub data Outcome : Type 0 where
  Went : State → Option (Happening Byte) → Outcome
  Undefined : Undef → ℕ → Outcome
  Idle : Outcome
  Lost : Outcome

abbrev pub state : CopyOf → Focus → List Pending → Memory → World Byte → State
state c x k m w = record { copy = c; focus = x; stack = k; memory = m; world = w }
