use Rattle.std.proofs.Common.{◌≡◌, ◌++◌, map}
use Rattle.c_typed.specs.Views.{member_of}
use Rattle.c_tables.proofs.Sights.{member_trees}
use Rattle.c_tables.proofs.types.structure_of.Given as goal

abbrev pub invariant-loop-name : goal.invariant-loop-name
invariant-loop-name l = map member_of l.members.items ++ member_trees l.name-iterator ≡ member_trees l.fn.shape.fields.entries
