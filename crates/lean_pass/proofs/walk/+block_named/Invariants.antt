use Rattle.std.proofs.Common.{length}
use Rattle.lean_pass.proofs.walk.+block_named.Given as goal

abbrev pub decreases-block_named : goal.decreases-block_named
decreases-block_named l = length l.blocks.now
