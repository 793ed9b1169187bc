use Rattle.std.proofs.Common.{map, sym, ◌∙◌}
use Rattle.std.proofs.lemmas.Result.{err_from_is_err_and}
use Rattle.c_tables.specs.Tables.{known_of}
use Rattle.c_terms.specs.Terms.{term_of}
use Rattle.type_rules.specs.Terms.{used}
use Rattle.c_token.specs.declared.token.TokKind.TheVariants as kinds
use Rattle.type_rules.specs.Writes.{assignment}
use Rattle.check_expr.specs.Folds.{assigned_back}
use Rattle.check_expr.specs.Kept.{side_in}
use Rattle.check_expr.proofs.Answering.{goes, stops, last_of, in_parts}
use Rattle.check_expr.proofs.Folded.{assigned_last}
use Rattle.check_expr.proofs.expression.assign_all.Goals as goal

pub returns-in_err-from : goal.returns-in_err-from
returns-in_err-from c =
    let p = err_from_is_err_and c.from_residual.result c.from_residual.ensures.1 in
    rw (p.1, p.2) (stops _ (used (term_of c.loop-target.value) (known_of c.loop-target.checker)) _ _ c.in_err-from.ensures (in_parts (λ x. assignment (kinds.Punct c.in-Some.target.sign.punct) (term_of c.in-Some.target.term) x) (assigned_back (map side_in c.pop.new.self.items)) (used (term_of c.loop-target.value) (known_of c.loop-target.checker)) (sym (assigned_last (map side_in c.pop.new.self.items) (side_in c.in-Some.target) (term_of c.loop-target.value) (known_of c.loop-target.checker)) ∙ last_of (λ bs. assigned_back bs (term_of c.loop-target.value) (known_of c.loop-target.checker)) side_in c.loop-target.targets.items c.pop.new.self.items c.in-Some.target _ c.in-Some.ensures.items c.loop-target.invariant)))

pub returns-in_err-value : goal.returns-in_err-value
returns-in_err-value c =
    let p = err_from_is_err_and c.from_residual-in_err-value.result c.from_residual-in_err-value.ensures.1 in
    rw (p.1, p.2) (stops _ _ _ _ (c.in_err-value.ensures (known_of c.used.new.checker)) (goes _ (used (term_of c.loop-target.value) (known_of c.loop-target.checker)) _ _ _ c.in_ok-from.ensures (in_parts (λ x. assignment (kinds.Punct c.in-Some.target.sign.punct) (term_of c.in-Some.target.term) x) (assigned_back (map side_in c.pop.new.self.items)) (used (term_of c.loop-target.value) (known_of c.loop-target.checker)) (sym (assigned_last (map side_in c.pop.new.self.items) (side_in c.in-Some.target) (term_of c.loop-target.value) (known_of c.loop-target.checker)) ∙ last_of (λ bs. assigned_back bs (term_of c.loop-target.value) (known_of c.loop-target.checker)) side_in c.loop-target.targets.items c.pop.new.self.items c.in-Some.target _ c.in-Some.ensures.items c.loop-target.invariant))))

pub loop-target-preserved : goal.loop-target-preserved
loop-target-preserved c = goes _ _ _ _ _ (c.in_ok-value.ensures (known_of c.used.new.checker)) (goes _ (used (term_of c.loop-target.value) (known_of c.loop-target.checker)) _ _ _ c.in_ok-from.ensures (in_parts (λ x. assignment (kinds.Punct c.in-Some.target.sign.punct) (term_of c.in-Some.target.term) x) (assigned_back (map side_in c.pop.new.self.items)) (used (term_of c.loop-target.value) (known_of c.loop-target.checker)) (sym (assigned_last (map side_in c.pop.new.self.items) (side_in c.in-Some.target) (term_of c.loop-target.value) (known_of c.loop-target.checker)) ∙ last_of (λ bs. assigned_back bs (term_of c.loop-target.value) (known_of c.loop-target.checker)) side_in c.loop-target.targets.items c.pop.new.self.items c.in-Some.target _ c.in-Some.ensures.items c.loop-target.invariant)))
