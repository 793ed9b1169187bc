use Rattle.std.proofs.Common.{length}
use Rattle.lean_pass.proofs.walk.+labels_in_front.Given as goal

abbrev pub decreases-labels_in_front : goal.decreases-labels_in_front
decreases-labels_in_front l = length l.rows.now
