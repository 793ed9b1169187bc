use Rattle.std.proofs.Common.{◌≡◌, true, take}
use Rattle.narrow_code.specs.Checked.{all_below}
use Rattle.narrow_pass.specs.Ways.{marks_of}
use Rattle.narrow_pass.proofs.marks.all_below.Given as goal

abbrev pub invariant-loop-k : goal.invariant-loop-k
invariant-loop-k l = all_below (marks_of (take l.k l.said)) (marks_of l.known) ≡ true
