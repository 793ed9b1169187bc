use Rattle.std.proofs.Common.{◌≡◌, ◌++◌, drop, map}
use Rattle.c_nodes.specs.Words.{kinds_of, flat}
use Rattle.c_nodes.specs.Programs.{spelled_unit}
use Rattle.c_nodes.specs.ProgramViews.{unit_of}
use Rattle.c_tree.specs.Statements.{spell_item}
use Rattle.c_tree.proofs.printing.spell.Given as goal

abbrev pub invariant-loop-item : goal.invariant-loop-item
invariant-loop-item l = l.out.items ++ kinds_of (flat (map spell_item (drop l.item-index l.item-items))) ≡ kinds_of (spelled_unit (unit_of l.unit))
