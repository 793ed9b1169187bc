use Rattle.std.proofs.Common.{length}
use Rattle.lean_pass.proofs.sets.+are_in.Given as goal

abbrev pub decreases-are_in : goal.decreases-are_in
decreases-are_in l = length l.list.now
