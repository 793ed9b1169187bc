use Rattle.std.proofs.Common.{take}
use Rattle.call_graph.specs.Rows.{rows_of}
use Rattle.call_graph.specs.Waves.{Raised, callees}
use Rattle.call_graph.proofs.levels.raise_callees.Given as goal

abbrev pub invariant-loop-number : goal.invariant-loop-number
invariant-loop-number l = Raised l.level (callees (rows_of l.rows) (take l.number-index l.numbers)) l.fn.levels l.levels
