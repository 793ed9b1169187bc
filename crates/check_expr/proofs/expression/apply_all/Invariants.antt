use Rattle.std.proofs.Common.{◌≡◌, length, map}
use Rattle.c_tables.specs.Tables.{known_of}
use Rattle.c_terms.specs.Terms.{term_of}
use Rattle.check_expr.specs.Folds.{applied_back}
use Rattle.check_expr.specs.Kept.{applied_of}
use Rattle.check_expr.proofs.expression.apply_all.Given as goal

abbrev pub invariant-loop-prefix : goal.invariant-loop-prefix
invariant-loop-prefix l = applied_back (map applied_of l.prefixes.items) (term_of l.term) (known_of l.checker) ≡ applied_back (map applied_of l.fn.prefixes.items) (term_of l.fn.operand) (known_of l.fn.checker)

abbrev pub decreases-loop-prefix : goal.decreases-loop-prefix
decreases-loop-prefix l = length l.prefixes.items
