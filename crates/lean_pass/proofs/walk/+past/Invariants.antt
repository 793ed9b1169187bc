use Rattle.std.proofs.Common.{length}
use Rattle.lean_pass.proofs.walk.+past.Given as goal

abbrev pub decreases-past : goal.decreases-past
decreases-past l = length l.rows.now
