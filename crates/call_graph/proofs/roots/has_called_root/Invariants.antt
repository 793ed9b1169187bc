use Rattle.std.proofs.Common.{◌≡◌, drop}
use Rattle.call_graph.specs.Rows.{rows_of}
use Rattle.call_graph.proofs.Searches.{roots_in}
use Rattle.call_graph.proofs.roots.has_called_root.Given as goal

abbrev pub invariant-loop-number : goal.invariant-loop-number
invariant-loop-number l = roots_in (rows_of l.rows) (drop l.number l.functions) l.number ≡ roots_in (rows_of l.rows) l.functions 0
