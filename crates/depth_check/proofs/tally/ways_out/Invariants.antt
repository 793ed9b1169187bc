use Rattle.std.proofs.Common.{drop}
use Rattle.depth_check.proofs.Counts.{ReturnsSoFar}
use Rattle.depth_check.proofs.tally.ways_out.Given as goal

abbrev pub invariant-loop-row : goal.invariant-loop-row
invariant-loop-row l = ReturnsSoFar l.image l.rows (drop l.row-index l.rows) l.marks
