use Rattle.std.proofs.Common.{◌≡◌, ◌++◌, drop, map}
use Rattle.c_nodes.specs.Words.{kinds_of, flat}
use Rattle.c_tree.specs.Statements.{spell_next_init}
use Rattle.c_tree.proofs.printing.+initial.Given as goal

abbrev pub invariant-put_next_inits-loop-next : goal.invariant-put_next_inits-loop-next
invariant-put_next_inits-loop-next l = l.out.items ++ kinds_of (flat (map spell_next_init (drop l.next-index l.others))) ≡ l.fn.out.items ++ kinds_of (flat (map spell_next_init l.others))
