-- A machine of the code that was copied stands where the other one does.
use Rattle.std.specs.Prelude.{◌≡◌, ◌≤◌}
use Rattle.std.specs.Vec.{vec_capacity}
use Rattle.src_machine.specs.declared.machine.Machine.{Machine}
use Rattle.src_memory.specs.Cells.{cell_in}
use Rattle.src_values.specs.declared.objects.Object.{Object}

pub record IsCopyOf (a b : Machine) : Type 0 where
  pub program : b.program ≡ a.program
  pub copy : b.copy ≡ a.copy
  pub focus : b.focus ≡ a.focus
  pub interrupted : b.interrupted ≡ a.interrupted
  pub items : b.stack.items ≡ a.stack.items
  pub room : vec_capacity a.stack ≤ vec_capacity b.stack
  pub memory : (o : Object) → cell_in b.memory o ≡ cell_in a.memory o
  pub world : b.world ≡ a.world
  pub handler : b.handler ≡ a.handler
