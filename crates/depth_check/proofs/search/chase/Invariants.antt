use Rattle.depth_check.specs.Search.{tables}
use Rattle.depth_check.specs.Found.{Goes}
use Rattle.depth_check.proofs.search.chase.Given as goal

abbrev pub invariant-loop-turn : goal.invariant-loop-turn
invariant-loop-turn l = Goes l.image (tables l.fn.s) (tables l.s)
