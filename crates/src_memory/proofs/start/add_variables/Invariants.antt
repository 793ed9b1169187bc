use Rattle.std.proofs.Common.{◌≡◌, ◌<◌, ◌++◌, length, map}
use Rattle.c_typed.specs.Views.{size_of, variable_of}
use Rattle.src_memory.specs.Cells.{cells_seen}
use Rattle.src_memory.specs.Start.{address_behind, variable_cells}
use Rattle.src_memory.proofs.start.add_variables.Given as goal

abbrev pub invariant-loop-variables : goal.invariant-loop-variables
invariant-loop-variables l = record {
  small : l.address < 512;
  behind : address_behind (map size_of l.structures) l.address (map variable_of l.variables) ≡ address_behind (map size_of l.structures) l.start (map variable_of l.initial.variables);
  cells : cells_seen l.cells.items ++ variable_cells (map size_of l.structures) l.address (map variable_of l.variables) ≡ cells_seen l.initial.cells.items ++ variable_cells (map size_of l.structures) l.start (map variable_of l.initial.variables);
}

abbrev pub decreases-loop-variables : goal.decreases-loop-variables
decreases-loop-variables l = length l.variables
