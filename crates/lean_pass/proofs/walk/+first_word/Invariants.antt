use Rattle.std.proofs.Common.{length}
use Rattle.lean_pass.proofs.walk.+first_word.Given as goal

abbrev pub decreases-first_word : goal.decreases-first_word
decreases-first_word l = length l.rows.now
