use Rattle.std.proofs.Common.{◌≡◌, ◌++◌, drop}
use Rattle.call_graph.proofs.CallLists.{items_calls_in}
use Rattle.call_graph.proofs.calls.put_items_calls.Given as goal

abbrev pub invariant-loop-item : goal.invariant-loop-item
invariant-loop-item l = l.out.items ++ items_calls_in (drop l.item-index l.items) ≡ l.fn.out.items ++ items_calls_in l.items
