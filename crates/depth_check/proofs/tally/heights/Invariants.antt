use Rattle.std.proofs.Common.{drop}
use Rattle.depth_check.specs.Certificate.{seen}
use Rattle.depth_check.proofs.Counts.{HeightsSoFar}
use Rattle.depth_check.proofs.tally.heights.Given as goal

abbrev pub invariant-loop-row : goal.invariant-loop-row
invariant-loop-row l = HeightsSoFar l.image (seen l.h) (drop l.row-index l.h.rows.items) l.found
