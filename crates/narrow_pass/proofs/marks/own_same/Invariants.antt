use Rattle.std.proofs.Common.{◌≡◌, true}
use Rattle.narrow_pass.specs.Ways.{marks_of, all_same}
use Rattle.narrow_pass.proofs.marks.own_same.Given as goal

abbrev pub invariant-loop-k : goal.invariant-loop-k
invariant-loop-k l = all_same (marks_of l.here) l.at l.k ≡ true
