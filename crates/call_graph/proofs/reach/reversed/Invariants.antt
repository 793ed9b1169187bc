use Rattle.call_graph.specs.Rows.{rows_of}
use Rattle.call_graph.proofs.Callers.{AreKnown}
use Rattle.call_graph.proofs.reach.reversed.Given as goal

abbrev pub invariant-loop-number : goal.invariant-loop-number
invariant-loop-number l = AreKnown (rows_of l.rows) l.number (rows_of l.callers.items)
