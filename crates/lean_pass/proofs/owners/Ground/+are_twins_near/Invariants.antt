use Rattle.std.proofs.Common.{length}
use Rattle.lean_pass.proofs.owners.Ground.+are_twins_near.Given as goal

abbrev pub decreases-are_twins_near : goal.decreases-are_twins_near
decreases-are_twins_near l = length l.list.now
