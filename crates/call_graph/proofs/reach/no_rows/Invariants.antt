use Rattle.std.proofs.Common.{◌≡◌, [], replicate}
use Rattle.call_graph.specs.Rows.{rows_of}
use Rattle.call_graph.proofs.reach.no_rows.Given as goal

abbrev pub invariant-loop-row : goal.invariant-loop-row
invariant-loop-row l = rows_of l.rows.items ≡ replicate l._row []
