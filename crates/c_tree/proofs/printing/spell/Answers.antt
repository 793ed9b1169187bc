use Rattle.c_tree.specs.Statements.{spell_item}
use Rattle.c_tree.proofs.Append.{one_more}
use Rattle.c_tree.proofs.printing.spell.Goals as goal

pub loop-item-preserved : goal.loop-item-preserved
loop-item-preserved c = one_more spell_item _ _ c.item-item.result _ _ _ c.loop-item-test.true c.item-item.is c.in_ok-put_item.ensures c.loop-item.invariant
