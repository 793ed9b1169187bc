use Rattle.std.proofs.Common.{◌≡◌, drop}
use Rattle.select_wide.specs.Blocks.{body_at}
use Rattle.select_wide.proofs.selection.body_of.Given as goal

abbrev pub invariant-loop-body : goal.invariant-loop-body
invariant-loop-body l = body_at l.bodies l.number ≡ body_at (drop l.body-index l.bodies) l.number
