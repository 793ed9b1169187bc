use Rattle.c_nodes.specs.Words.{spell_pointer}
use Rattle.c_tree.proofs.Append.{one_more}
use Rattle.c_tree.proofs.marks.pointers.Goals as goal

pub loop-each-preserved : goal.loop-each-preserved
loop-each-preserved c = one_more spell_pointer _ _ c.each-item.result _ _ _ c.loop-each-test.true c.each-item.is c.in_ok-pointer.ensures c.loop-each.invariant
