use Rattle.std.proofs.Common.{◌≡◌, length, map}
use Rattle.c_tables.specs.Tables.{known_of}
use Rattle.c_terms.specs.Terms.{term_of}
use Rattle.check_expr.specs.Folds.{chosen_back}
use Rattle.check_expr.specs.Kept.{choice_in}
use Rattle.check_expr.proofs.expression.choose_all.Given as goal

abbrev pub invariant-loop-choice : goal.invariant-loop-choice
invariant-loop-choice l = chosen_back (map choice_in l.choices.items) (term_of l.value) (known_of l.checker) ≡ chosen_back (map choice_in l.fn.choices.items) (term_of l.fn.last) (known_of l.fn.checker)

abbrev pub decreases-loop-choice : goal.decreases-loop-choice
decreases-loop-choice l = length l.choices.items
