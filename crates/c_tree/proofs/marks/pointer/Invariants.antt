use Rattle.std.proofs.Common.{◌≡◌, ◌++◌, drop, map}
use Rattle.c_nodes.specs.Words.{kinds_of, keyed, spell_pointer}
use Rattle.c_tree.proofs.marks.pointer.Given as goal

abbrev pub invariant-loop-qualifier : goal.invariant-loop-qualifier
invariant-loop-qualifier l = l.out.items ++ kinds_of (map keyed (drop l.qualifier-index l.qualifier-items)) ≡ l.fn.out.items ++ kinds_of (spell_pointer l.pointer)
