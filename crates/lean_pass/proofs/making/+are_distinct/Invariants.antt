use Rattle.std.proofs.Common.{length}
use Rattle.lean_pass.proofs.making.+are_distinct.Given as goal

abbrev pub decreases-are_distinct : goal.decreases-are_distinct
decreases-are_distinct l = length l.blocks.now
