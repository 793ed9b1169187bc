-- Events whose cell has a name: a register of the data sheet's table, by its lowest address, or a byte of a static object.
use Rattle.std.specs.Prelude.{◌≡◌, ℕ, ◌<◌, true, is_some, List, [], ◌∷◌, length, Option, Some, None}
use Rattle.c_typed.specs.Trees.{Program}
use Rattle.pic_world.specs.Registers.{name_at}
use Rattle.pic_world.specs.World.{Happening, ReadOf, WriteOf, Ended}
use Rattle.pic_world.specs.declared.Cell.{Cell}
use Rattle.pic_world.specs.declared.Cell.TheVariants.{Device, Static}
use Rattle.src_rules.specs.Laws.{IsProper, IsOfBytes}
use Rattle.src_rules.specs.Runs.{after, take}
use Rattle.src_rules.specs.Standing.{Stands}
use Rattle.src_rules.specs.State.{State, Outcome, Went, Undefined, Idle, Lost}
use Rattle.src_rules.specs.Step.{step}
use Rattle.src_values.specs.Memory.{Setting}
use Rattle.src_values.specs.Objects.{object_bytes}
use Rattle.src_values.specs.declared.objects.Byte.{Byte}
use Rattle.src_values.specs.declared.objects.Object.TheVariants.{Fixed}

abbrev pub IsNamedCell : Program → Cell → Type 0
IsNamedCell p (Device address) = is_some (name_at address) ≡ true
IsNamedCell p (Static object offset) = (object < length p.statics) × (offset < object_bytes p (Fixed object))

-- the end of main has no cell
abbrev pub IsNamed : Program → Happening Byte → Type 0
IsNamed p (ReadOf cell byte) = IsNamedCell p cell
IsNamed p (WriteOf cell byte) = IsNamedCell p cell
IsNamed p Ended = Unit {0}

abbrev pub IsNamedIfAny : Program → Option (Happening Byte) → Type 0
IsNamedIfAny p None = Unit {0}
IsNamedIfAny p (Some event) = IsNamed p event

-- what a step makes
abbrev pub MakesNamed : Program → Outcome → Type 0
MakesNamed p (Went t event) = IsNamedIfAny p event
MakesNamed p (Undefined kind line) = Unit {0}
MakesNamed p Idle = Unit {0}
MakesNamed p Lost = Unit {0}

abbrev pub AllNamed : Program → List (Happening Byte) → Type 0
AllNamed p [] = Unit {0}
AllNamed p (event ∷ events) = IsNamed p event × AllNamed p events

-- ---- the laws
-- each micro-step from a state that stands
abbrev pub StepsAreNamed : Type 0
StepsAreNamed = (s : Setting) (t : State) → Stands s.program t → MakesNamed s.program (step s t)

-- the step behind so many
abbrev pub TakenAreNamed : Type 0
TakenAreNamed = (s : Setting) → IsProper s.program → IsOfBytes s.outside → (n : ℕ) → MakesNamed s.program (take s (after s n))

-- and all events of so many
abbrev pub TracesAreNamed : Type 0
TracesAreNamed = (s : Setting) → IsProper s.program → IsOfBytes s.outside → (n : ℕ) → AllNamed s.program (after s n).world.trace
