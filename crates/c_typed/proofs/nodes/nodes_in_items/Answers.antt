use Rattle.c_typed.specs.Nodes.{item_nodes}
use Rattle.c_typed.proofs.Counts.{one_more, all_counted}
use Rattle.c_typed.proofs.nodes.nodes_in_items.Goals as goal

pub loop-item-preserved : goal.loop-item-preserved
loop-item-preserved c = one_more item_nodes _ _ c.item-item.result _ _ _ _ c.loop-item-test.true c.item-item.is c.nodes_in_item.ensures c.plus-count.ensures c.plus-count.type_inv c.loop-item.invariant

pub returns : goal.returns
returns c = all_counted item_nodes _ _ _ _ c.loop-item-test.false c.loop-item.invariant
