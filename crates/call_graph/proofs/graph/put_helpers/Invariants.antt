use Rattle.std.proofs.Common.{◌≡◌, ◌++◌, [], replicate}
use Rattle.call_graph.specs.Rows.{rows_of}
use Rattle.call_graph.proofs.graph.put_helpers.Given as goal

abbrev pub invariant-loop-helper : goal.invariant-loop-helper
invariant-loop-helper l = rows_of l.rows.items ≡ rows_of l.fn.rows.items ++ replicate l._helper []
