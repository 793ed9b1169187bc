use Rattle.std.proofs.Common.{◌≡◌}
use Rattle.narrow_code.specs.Marks.{Zero}
use Rattle.narrow_pass.specs.Ways.{marks_of, set_bytes}
use Rattle.narrow_pass.proofs.marks.put_nowhere.Given as goal

abbrev pub invariant-loop-k : goal.invariant-loop-k
invariant-loop-k l = marks_of l.here.items ≡ set_bytes (marks_of l.initial.here.items) 0 l.k (λ i. Zero)
