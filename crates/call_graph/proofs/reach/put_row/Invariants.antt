use Rattle.std.proofs.Common.{take}
use Rattle.call_graph.specs.Rows.{rows_of}
use Rattle.call_graph.specs.Search.{CalledBy}
use Rattle.call_graph.proofs.reach.put_row.Given as goal

abbrev pub invariant-loop-callee : goal.invariant-loop-callee
invariant-loop-callee l = CalledBy l.number (take l.callee-index l.row) (rows_of l.fn.callers) (rows_of l.callers)
