use Rattle.std.proofs.Common.{◌≡◌, length}
use Rattle.schedule.specs.Reading.{time_onto}
use Rattle.schedule.proofs.read.time.Given as goal

abbrev pub invariant-loop-left : goal.invariant-loop-left
invariant-loop-left l = time_onto l.number l.left ≡ time_onto 0 l.digits

abbrev pub decreases-loop-left : goal.decreases-loop-left
decreases-loop-left l = length l.left
