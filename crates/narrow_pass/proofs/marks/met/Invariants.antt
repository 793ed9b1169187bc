use Rattle.std.proofs.Common.{◌≡◌, take}
use Rattle.narrow_code.specs.Checked.{met}
use Rattle.narrow_pass.specs.Ways.{marks_of}
use Rattle.narrow_pass.proofs.marks.met.Given as goal

abbrev pub invariant-loop-k : goal.invariant-loop-k
invariant-loop-k l = marks_of l.made.items ≡ met (marks_of (take l.k l.said)) (marks_of l.known)
