use Rattle.std.proofs.Common.{take}
use Rattle.call_graph.specs.Waves.{Raised}
use Rattle.call_graph.proofs.levels.raise_row.Given as goal

abbrev pub invariant-loop-number : goal.invariant-loop-number
invariant-loop-number l = Raised l.level (take l.number-index l.row) l.fn.levels l.levels
