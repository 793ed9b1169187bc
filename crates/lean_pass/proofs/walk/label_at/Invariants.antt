use Rattle.std.proofs.Common.{◌≡◌, ◌+◌, length}
use Rattle.lean_pass.specs.Ways.{label_in}
use Rattle.lean_pass.proofs.walk.label_at.Given as goal

abbrev pub invariant-loop-row : goal.invariant-loop-row
invariant-loop-row l = (label_in l.left l.label l.at ≡ label_in l.rows l.label 0) × (l.at + length l.left ≡ length l.rows)

abbrev pub decreases-loop-row : goal.decreases-loop-row
decreases-loop-row l = length l.left
