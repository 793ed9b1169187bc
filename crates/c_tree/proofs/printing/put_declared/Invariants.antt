use Rattle.std.proofs.Common.{◌≡◌, ◌++◌, drop, map}
use Rattle.c_nodes.specs.Words.{kinds_of, flat}
use Rattle.c_tree.specs.Statements.{spell_declared, spell_next_init_declarator}
use Rattle.c_tree.proofs.printing.put_declared.Given as goal

abbrev pub invariant-loop-next : goal.invariant-loop-next
invariant-loop-next l = l.out.items ++ kinds_of (flat (map spell_next_init_declarator (drop l.next-index l.next-items))) ≡ l.fn.out.items ++ kinds_of (spell_declared l.fn.declared)
