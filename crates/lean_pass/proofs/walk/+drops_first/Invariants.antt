use Rattle.std.proofs.Common.{length}
use Rattle.lean_pass.proofs.walk.+drops_first.Given as goal

abbrev pub decreases-drops_first : goal.decreases-drops_first
decreases-drops_first l = length l.rows.now
