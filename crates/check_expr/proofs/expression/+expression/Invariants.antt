use Rattle.std.proofs.Common.{◌≡◌, [], ◌∷◌, drop, map}
use Rattle.c_nodes.specs.Views.{choice_of, next_assign_of, next_operand_of, postfix_suffix_of, target_of}
use Rattle.c_tables.specs.Tables.{known_of}
use Rattle.c_terms.specs.Terms.{operand_of, term_of}
use Rattle.check_expr.specs.Folds.{sequenced_from, combined_from, posted_from, arguments_from, sides_from, choices_from}
use Rattle.check_expr.specs.Kept.{side_in, choice_in}
use Rattle.check_expr.proofs.expression.+expression.Given as goal

abbrev pub invariant-sequence-loop-next : goal.invariant-sequence-loop-next
invariant-sequence-loop-next l = sequenced_from (term_of l.left) (map next_assign_of (drop l.next-index l.others)) (known_of l.checker) ≡ sequenced_from (term_of l.fn.first) (map next_assign_of l.others) (known_of l.fn.checker)

abbrev pub invariant-places-loop-target : goal.invariant-places-loop-target
invariant-places-loop-target l = sides_from (map side_in l.places.items) (map target_of (drop l.target-index l.targets)) (known_of l.checker) ≡ sides_from [] (map target_of l.targets) (known_of l.fn.checker)

abbrev pub invariant-choices-loop-choice : goal.invariant-choices-loop-choice
invariant-choices-loop-choice l = choices_from (map choice_in l.chosen.items) (map choice_of (drop l.choice-index l.choices)) (known_of l.checker) ≡ choices_from [] (map choice_of l.choices) (known_of l.fn.checker)

abbrev pub invariant-chain-loop-next : goal.invariant-chain-loop-next
invariant-chain-loop-next l = combined_from (term_of l.left) (map next_operand_of (drop l.next-index l.others)) (known_of l.checker) ≡ combined_from (term_of l.fn.first) (map next_operand_of l.others) (known_of l.fn.checker)

abbrev pub invariant-suffixes-loop-suffix : goal.invariant-suffixes-loop-suffix
invariant-suffixes-loop-suffix l = posted_from (term_of l.term) (map postfix_suffix_of (drop l.suffix-index l.suffixes)) (known_of l.checker) ≡ posted_from (term_of l.fn.first) (map postfix_suffix_of l.suffixes) (known_of l.fn.checker)

abbrev pub invariant-further_arguments-loop-next : goal.invariant-further_arguments-loop-next
invariant-further_arguments-loop-next l = arguments_from (map operand_of l.arguments.items) (map next_assign_of (drop l.next-index l.others)) (known_of l.checker) ≡ arguments_from (operand_of l.fn.first ∷ []) (map next_assign_of l.others) (known_of l.fn.checker)
