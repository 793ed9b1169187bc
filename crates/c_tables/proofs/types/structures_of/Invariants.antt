use Rattle.std.proofs.Common.{◌≡◌, ◌++◌, map}
use Rattle.c_typed.specs.Views.{structure_of}
use Rattle.type_rules.specs.Units.{structure_tree}
use Rattle.c_tables.specs.Tables.{shape_of}
use Rattle.c_tables.proofs.types.structures_of.Given as goal

abbrev pub invariant-loop-shape : goal.invariant-loop-shape
invariant-loop-shape l = map structure_of l.structures.items ++ map structure_tree (map shape_of l.shape-iterator.rest.items) ≡ map structure_tree (map shape_of l.fn.shapes.items)
