use Rattle.std.proofs.Common.{length}
use Rattle.lean_pass.proofs.behind.Here.+are_copies.Given as goal

abbrev pub decreases-are_copies : goal.decreases-are_copies
decreases-are_copies l = length l.list.now
