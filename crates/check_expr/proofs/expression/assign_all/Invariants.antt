use Rattle.std.proofs.Common.{◌≡◌, length, map}
use Rattle.c_tables.specs.Tables.{known_of}
use Rattle.c_terms.specs.Terms.{term_of}
use Rattle.check_expr.specs.Folds.{assigned_back}
use Rattle.check_expr.specs.Kept.{side_in}
use Rattle.check_expr.proofs.expression.assign_all.Given as goal

abbrev pub invariant-loop-target : goal.invariant-loop-target
invariant-loop-target l = assigned_back (map side_in l.targets.items) (term_of l.value) (known_of l.checker) ≡ assigned_back (map side_in l.fn.targets.items) (term_of l.fn.value) (known_of l.fn.checker)

abbrev pub decreases-loop-target : goal.decreases-loop-target
decreases-loop-target l = length l.targets.items
