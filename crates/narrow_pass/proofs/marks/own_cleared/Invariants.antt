use Rattle.std.proofs.Common.{◌≡◌}
use Rattle.narrow_pass.specs.Ways.{marks_of, all_cleared}
use Rattle.narrow_pass.proofs.marks.own_cleared.Given as goal

abbrev pub invariant-loop-k : goal.invariant-loop-k
invariant-loop-k l = l.all ≡ all_cleared (marks_of l.here) l.at l.k
