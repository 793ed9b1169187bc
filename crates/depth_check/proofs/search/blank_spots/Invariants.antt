use Rattle.std.proofs.Common.{◌≡◌, replicate, None}
use Rattle.depth_check.proofs.search.blank_spots.Given as goal

abbrev pub invariant-loop-at : goal.invariant-loop-at
invariant-loop-at l = l.spots.items ≡ replicate l._at None
