use Rattle.std.proofs.Common.{length}
use Rattle.lean_pass.proofs.testing.+finds_word.Given as goal

abbrev pub decreases-finds_word : goal.decreases-finds_word
decreases-finds_word l = length l.rows.now
