use Rattle.depth_check.specs.Search.{tables, unchanged}
use Rattle.depth_check.proofs.Settling.{IsPassed}
use Rattle.depth_check.proofs.search.pass.Given as goal

abbrev pub invariant-loop-at : goal.invariant-loop-at
invariant-loop-at l = IsPassed l.image (unchanged (tables l.fn.s)) (tables l.s) l.at
