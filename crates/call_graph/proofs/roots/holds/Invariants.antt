use Rattle.std.proofs.Common.{◌≡◌, length}
use Rattle.c_typed.specs.Roots.{holds}
use Rattle.call_graph.proofs.roots.holds.Given as goal

abbrev pub invariant-loop-left : goal.invariant-loop-left
invariant-loop-left l = holds l.left l.number ≡ holds l.row l.number

abbrev pub decreases-loop-left : goal.decreases-loop-left
decreases-loop-left l = length l.left
