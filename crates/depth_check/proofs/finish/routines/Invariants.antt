use Rattle.std.proofs.Common.{◌≡◌, ◌++◌, drop}
use Rattle.depth_check.specs.Search.{tables, routines_for}
use Rattle.depth_check.proofs.finish.routines.Given as goal

abbrev pub invariant-loop-i : goal.invariant-loop-i
invariant-loop-i l = l.found.items ++ routines_for (tables l.s) (drop l.i l.entries) ≡ routines_for (tables l.s) l.entries
