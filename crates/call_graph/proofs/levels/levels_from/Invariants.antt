use Rattle.std.proofs.Common.{◌-◌, length}
use Rattle.call_graph.specs.Rows.{rows_of}
use Rattle.call_graph.proofs.Rising.{Knows}
use Rattle.call_graph.proofs.levels.levels_from.Given as goal

abbrev pub invariant-waves : goal.invariant-waves
invariant-waves l = Knows (rows_of l.rows) l.root l.longest l.levels.items l.wave.items

abbrev pub decreases-waves : goal.decreases-waves
decreases-waves l = length l.rows - l.longest
