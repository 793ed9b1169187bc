use Rattle.std.proofs.Common.{map, sym, ◌∙◌}
use Rattle.std.proofs.lemmas.Result.{err_from_is_err_and}
use Rattle.c_tables.specs.Tables.{known_of}
use Rattle.c_terms.specs.Terms.{term_of}
use Rattle.type_rules.specs.Terms.{used}
use Rattle.type_rules.specs.Operators.{choice}
use Rattle.check_expr.specs.Folds.{chosen_back}
use Rattle.check_expr.specs.Kept.{boxed, choice_in}
use Rattle.check_expr.proofs.Answering.{goes, stops, last_of, in_parts}
use Rattle.check_expr.proofs.Folded.{chosen_last}
use Rattle.check_expr.proofs.expression.choose_all.Goals as goal

pub returns-in_err-otherwise : goal.returns-in_err-otherwise
returns-in_err-otherwise c =
    let p = err_from_is_err_and c.from_residual.result c.from_residual.ensures.1 in
    rw (p.1, p.2) (stops _ (used (term_of c.loop-choice.value) (known_of c.loop-choice.checker)) _ _ c.in_err-otherwise.ensures (in_parts (λ x. choice (boxed c.in-Some.choice.condition) (boxed c.in-Some.choice.then) x) (chosen_back (map choice_in c.pop.new.self.items)) (used (term_of c.loop-choice.value) (known_of c.loop-choice.checker)) (sym (chosen_last (map choice_in c.pop.new.self.items) (choice_in c.in-Some.choice) (term_of c.loop-choice.value) (known_of c.loop-choice.checker)) ∙ last_of (λ bs. chosen_back bs (term_of c.loop-choice.value) (known_of c.loop-choice.checker)) choice_in c.loop-choice.choices.items c.pop.new.self.items c.in-Some.choice _ c.in-Some.ensures.items c.loop-choice.invariant)))

pub returns-in_err-value : goal.returns-in_err-value
returns-in_err-value c =
    let p = err_from_is_err_and c.from_residual-in_err-value.result c.from_residual-in_err-value.ensures.1 in
    rw (p.1, p.2) (stops _ _ _ _ (c.in_err-value.ensures (known_of c.used.new.checker)) (goes _ (used (term_of c.loop-choice.value) (known_of c.loop-choice.checker)) _ _ _ c.in_ok-otherwise.ensures (in_parts (λ x. choice (boxed c.in-Some.choice.condition) (boxed c.in-Some.choice.then) x) (chosen_back (map choice_in c.pop.new.self.items)) (used (term_of c.loop-choice.value) (known_of c.loop-choice.checker)) (sym (chosen_last (map choice_in c.pop.new.self.items) (choice_in c.in-Some.choice) (term_of c.loop-choice.value) (known_of c.loop-choice.checker)) ∙ last_of (λ bs. chosen_back bs (term_of c.loop-choice.value) (known_of c.loop-choice.checker)) choice_in c.loop-choice.choices.items c.pop.new.self.items c.in-Some.choice _ c.in-Some.ensures.items c.loop-choice.invariant))))

pub loop-choice-preserved : goal.loop-choice-preserved
loop-choice-preserved c = goes _ _ _ _ _ (c.in_ok-value.ensures (known_of c.used.new.checker)) (goes _ (used (term_of c.loop-choice.value) (known_of c.loop-choice.checker)) _ _ _ c.in_ok-otherwise.ensures (in_parts (λ x. choice (boxed c.in-Some.choice.condition) (boxed c.in-Some.choice.then) x) (chosen_back (map choice_in c.pop.new.self.items)) (used (term_of c.loop-choice.value) (known_of c.loop-choice.checker)) (sym (chosen_last (map choice_in c.pop.new.self.items) (choice_in c.in-Some.choice) (term_of c.loop-choice.value) (known_of c.loop-choice.checker)) ∙ last_of (λ bs. chosen_back bs (term_of c.loop-choice.value) (known_of c.loop-choice.checker)) choice_in c.loop-choice.choices.items c.pop.new.self.items c.in-Some.choice _ c.in-Some.ensures.items c.loop-choice.invariant)))
