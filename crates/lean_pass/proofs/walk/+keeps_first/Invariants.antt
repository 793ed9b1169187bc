use Rattle.std.proofs.Common.{length}
use Rattle.lean_pass.proofs.walk.+keeps_first.Given as goal

abbrev pub decreases-keeps_first : goal.decreases-keeps_first
decreases-keeps_first l = length l.rows.now
