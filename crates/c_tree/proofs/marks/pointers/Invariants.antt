use Rattle.std.proofs.Common.{◌≡◌, ◌++◌, drop}
use Rattle.c_nodes.specs.Words.{kinds_of, spell_pointers}
use Rattle.c_tree.proofs.marks.pointers.Given as goal

abbrev pub invariant-loop-each : goal.invariant-loop-each
invariant-loop-each l = l.out.items ++ kinds_of (spell_pointers (drop l.each-index l.pointers)) ≡ l.fn.out.items ++ kinds_of (spell_pointers l.pointers)
