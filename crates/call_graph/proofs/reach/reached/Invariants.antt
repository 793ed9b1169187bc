use Rattle.std.proofs.Common.{◌+◌, length}
use Rattle.call_graph.specs.Rows.{rows_of}
use Rattle.call_graph.specs.Search.{unmarked}
use Rattle.call_graph.proofs.Reaching.{Seeks}
use Rattle.call_graph.proofs.reach.reached.Given as goal

abbrev pub invariant-loop-number : goal.invariant-loop-number
invariant-loop-number l = Seeks (rows_of l.rows) l.from l.marks.items l.stack.items

abbrev pub decreases-loop-number : goal.decreases-loop-number
decreases-loop-number l = unmarked l.marks.items + length l.stack.items
