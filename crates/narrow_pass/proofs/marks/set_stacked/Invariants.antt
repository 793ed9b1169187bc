use Rattle.std.proofs.Common.{◌≡◌}
use Rattle.narrow_code.specs.Marks.{stacked}
use Rattle.narrow_pass.specs.Ways.{mark_of, marks_of, set_bytes}
use Rattle.narrow_pass.proofs.marks.set_stacked.Given as goal

abbrev pub invariant-loop-k : goal.invariant-loop-k
invariant-loop-k l = marks_of l.here.items ≡ set_bytes (marks_of l.initial.here.items) l.at l.k (stacked (mark_of l.low) (mark_of l.high))
