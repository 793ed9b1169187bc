use Rattle.std.proofs.Common.{length}
use Rattle.lean_pass.proofs.owners.Ground.+are_right_blocks.Given as goal

abbrev pub decreases-are_right_blocks : goal.decreases-are_right_blocks
decreases-are_right_blocks l = length l.blocks.now
