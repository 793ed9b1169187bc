use Rattle.std.proofs.Common.{length}
use Rattle.lean_pass.proofs.admissible.+are_admissible.Given as goal

abbrev pub decreases-are_admissible : goal.decreases-are_admissible
decreases-are_admissible l = length l.blocks.now
