use Rattle.std.proofs.Common.{length}
use Rattle.schedule.specs.Putting.{Puts}
use Rattle.schedule.proofs.off.put_arrivals.Given as goal

abbrev pub decreases-loop-left : goal.decreases-loop-left
decreases-loop-left l = length l.left

abbrev pub invariant-loop-left : goal.invariant-loop-left
invariant-loop-left l =
    Puts l.moment l.earlier l.events l.arrivals l.left l.initial.reading.lengths.items l.reading.lengths.items l.initial.reading.before.items l.reading.before.items
