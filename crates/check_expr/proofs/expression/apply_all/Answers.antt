use Rattle.std.proofs.Common.{map, sym, ◌∙◌}
use Rattle.std.proofs.lemmas.Result.{err_from_is_err_and}
use Rattle.c_tables.specs.Tables.{known_of}
use Rattle.c_terms.specs.Terms.{term_of}
use Rattle.check_expr.specs.Folds.{applied_back}
use Rattle.check_expr.specs.Kept.{applied_of}
use Rattle.check_expr.proofs.Answering.{goes, stops, last_of}
use Rattle.check_expr.proofs.Folded.{applied_last}
use Rattle.check_expr.proofs.expression.apply_all.Goals as goal

pub returns-in_err-term : goal.returns-in_err-term
returns-in_err-term c =
    let p = err_from_is_err_and c.from_residual.result c.from_residual.ensures.1 in
    rw (p.1, p.2) (stops _ _ _ _ c.in_err-term.ensures (sym (applied_last (map applied_of c.pop.new.self.items) (applied_of c.in-Some.prefix) (term_of c.loop-prefix.term) (known_of c.loop-prefix.checker)) ∙ last_of (λ bs. applied_back bs (term_of c.loop-prefix.term) (known_of c.loop-prefix.checker)) applied_of c.loop-prefix.prefixes.items c.pop.new.self.items c.in-Some.prefix _ c.in-Some.ensures.items c.loop-prefix.invariant))

pub loop-prefix-preserved : goal.loop-prefix-preserved
loop-prefix-preserved c = goes _ _ _ _ _ c.in_ok-term.ensures (sym (applied_last (map applied_of c.pop.new.self.items) (applied_of c.in-Some.prefix) (term_of c.loop-prefix.term) (known_of c.loop-prefix.checker)) ∙ last_of (λ bs. applied_back bs (term_of c.loop-prefix.term) (known_of c.loop-prefix.checker)) applied_of c.loop-prefix.prefixes.items c.pop.new.self.items c.in-Some.prefix _ c.in-Some.ensures.items c.loop-prefix.invariant)
