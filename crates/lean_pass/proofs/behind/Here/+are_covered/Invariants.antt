use Rattle.std.proofs.Common.{length}
use Rattle.lean_pass.proofs.behind.Here.+are_covered.Given as goal

abbrev pub decreases-are_covered : goal.decreases-are_covered
decreases-are_covered l = length l.list.now
