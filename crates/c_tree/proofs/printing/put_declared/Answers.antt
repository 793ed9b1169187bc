use Rattle.c_tree.specs.Statements.{spell_next_init_declarator}
use Rattle.c_tree.proofs.Append.{one_more}
use Rattle.c_tree.proofs.printing.put_declared.Goals as goal

pub loop-next-preserved : goal.loop-next-preserved
loop-next-preserved c = one_more spell_next_init_declarator _ _ c.next-item.result _ _ _ c.loop-next-test.true c.next-item.is c.in_ok-put_next_init_declarator.ensures c.loop-next.invariant
