-- The world that the code has, as the definitions have it.
use Rattle.std.specs.Prelude.{ℕ, ◌≡◌, ◌≤◌, true, length}
use Rattle.pic_world.specs.Control.{Control}
use Rattle.pic_world.specs.World as spec
use Rattle.pic_world.specs.World.{Outside, outside_of, arrived}
use Rattle.pic_world.specs.declared.script.Script.{Script}
use Rattle.src_memory.specs.declared.world.World.{World}
use Rattle.src_values.specs.declared.objects.Byte.{Byte}

-- ---- the world
abbrev pub control_of : ℕ → ℕ → ℕ → Control
control_of intcon pir1 pie1 = record { intcon = intcon; pir1 = pir1; pie1 = pie1 }

abbrev pub control_in : World → Control
control_in w = control_of w.intcon w.pir1 w.pie1

-- what comes from outside with a script
abbrev pub outside_by : Script → Outside
outside_by script = outside_of script.input.items script.arrivals.items

abbrev pub events_of : World → ℕ
events_of w = w.events

-- The code counts the events, and has the arrivals of a length set their flags once.
pub record IsWorld (o : Outside) (code : World) (w : spec.World Byte) : Type 0 where
  pub control : w.control ≡ control_in code
  pub inside : w.inside ≡ code.inside
  pub taken : w.taken ≡ code.taken
  pub count : length w.trace ≡ code.events
  pub few : code.taken ≤ code.events
  pub settled : code.arrived ≡ true → arrived o w ≡ w
