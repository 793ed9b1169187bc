use Rattle.std.proofs.Common.{◌≡◌, ◌+◌, length}
use Rattle.schedule.specs.Reading.{digits_length}
use Rattle.schedule.proofs.read.digits_length.Given as goal

abbrev pub invariant-loop-left : goal.invariant-loop-left
invariant-loop-left l = (l.count + digits_length l.left ≡ digits_length l.text) × (l.count + length l.left ≡ length l.text)

abbrev pub decreases-loop-left : goal.decreases-loop-left
decreases-loop-left l = length l.left
