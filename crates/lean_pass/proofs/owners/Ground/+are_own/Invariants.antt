use Rattle.std.proofs.Common.{length}
use Rattle.lean_pass.proofs.owners.Ground.+are_own.Given as goal

abbrev pub decreases-are_own : goal.decreases-are_own
decreases-are_own l = length l.list.now
