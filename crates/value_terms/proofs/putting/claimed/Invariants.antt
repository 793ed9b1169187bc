-- What is left says what all claims say.
use Rattle.std.proofs.Common.{◌≡◌, length}
use Rattle.value_terms.specs.Putting.{claimed}
use Rattle.value_terms.proofs.putting.claimed.Given as goal

abbrev pub invariant-loop-left : goal.invariant-loop-left
invariant-loop-left l = claimed l.claims l.kind l.number ≡ claimed l.left l.kind l.number

abbrev pub decreases-loop-left : goal.decreases-loop-left
decreases-loop-left l = length l.left
