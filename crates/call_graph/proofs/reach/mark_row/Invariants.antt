use Rattle.std.proofs.Common.{take}
use Rattle.call_graph.specs.Search.{Found}
use Rattle.call_graph.proofs.reach.mark_row.Given as goal

abbrev pub invariant-loop-number : goal.invariant-loop-number
invariant-loop-number l = Found (take l.number-index l.row) l.fn.marks l.fn.stack.items l.marks l.stack.items
