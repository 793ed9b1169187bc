use Rattle.std.proofs.Common.{◌+◌}
use Rattle.depth_check.specs.Search.{tables}
use Rattle.depth_check.specs.Found.{IsSearch, IsOver, size, flag_size}
use Rattle.depth_check.proofs.search.found.Given as goal

abbrev pub invariant-loop-s : goal.invariant-loop-s
invariant-loop-s l = IsSearch l.image l.interrupts l.cell (tables l.s) × IsOver l.image (tables l.s)

abbrev pub decreases-loop-s : goal.decreases-loop-s
decreases-loop-s l = size (tables l.s) + flag_size l.s.changed
