use Rattle.call_graph.proofs.Appends.{puts, all_put}
use Rattle.call_graph.proofs.CallLists.{item_calls_in, items_calls_in, items_calls_none, items_calls_more}
use Rattle.call_graph.proofs.calls.put_items_calls.Goals as goal

pub loop-item-preserved : goal.loop-item-preserved
loop-item-preserved c = puts item_calls_in items_calls_in items_calls_more _ _ c.item-item.result _ _ _ c.loop-item-test.true c.item-item.is c.in_ok-put_item_calls.ensures c.loop-item.invariant

pub returns : goal.returns
returns c = all_put items_calls_in items_calls_none _ _ _ _ c.loop-item-test.false c.loop-item.invariant
