use Rattle.std.proofs.Common.{◌≡◌, drop}
use Rattle.c_typed.specs.Roots.{is_called}
use Rattle.call_graph.specs.Rows.{rows_of}
use Rattle.call_graph.proofs.roots.names.Given as goal

abbrev pub invariant-loop-row : goal.invariant-loop-row
invariant-loop-row l = is_called (rows_of (drop l.row-index l.rows)) l.number ≡ is_called (rows_of l.rows) l.number
