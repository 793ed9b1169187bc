use Rattle.std.proofs.Common.{◌≡◌, replicate, None}
use Rattle.depth_check.proofs.search.blank_outs.Given as goal

abbrev pub invariant-loop-at : goal.invariant-loop-at
invariant-loop-at l = l.outs.items ≡ replicate l._at None
