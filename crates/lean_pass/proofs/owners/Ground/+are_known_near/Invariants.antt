use Rattle.std.proofs.Common.{length}
use Rattle.lean_pass.proofs.owners.Ground.+are_known_near.Given as goal

abbrev pub decreases-are_known_near : goal.decreases-are_known_near
decreases-are_known_near l = length l.list.now
