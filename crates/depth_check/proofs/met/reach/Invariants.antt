use Rattle.std.proofs.Common.{◌≤◌, ◌-◌}
use Rattle.depth_check.specs.Certificate.{seen}
use Rattle.depth_check.specs.Marks.{IsUnderway}
use Rattle.depth_check.proofs.met.reach.Given as goal

abbrev pub invariant-loop-turn : goal.invariant-loop-turn
invariant-loop-turn l = IsUnderway l.image (seen l.h) l.met l.turn × (l.turn ≤ 8192)

abbrev pub decreases-loop-turn : goal.decreases-loop-turn
decreases-loop-turn l = 8192 - l.turn
