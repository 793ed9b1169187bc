use Rattle.std.proofs.Common.{ap, sym, refl, ◌∙◌}
use Rattle.c_nodes.specs.Views.{cond_of}
use Rattle.c_nodes.proofs.Shapes.{show_cond}
use Rattle.parse_expr.proofs.Unary.{choices_none, choices_same, choices_are_not, same_err}
use Rattle.parse_expr.proofs.operator.place.Goals as goal

pub returns-then-not-is_empty-clause-err : goal.returns-then-not-is_empty-clause-err
returns-then-not-is_empty-clause-err c = λ d h. (ap (λ x. cond_of x) (same_err c.cond.result d h) ∙ c.cond.ensures ∙ sym (show_cond c.args.value), choices_are_not c.args.value (sym c.is_empty.ensures ∙ c.if-not-is_empty.true))

pub returns-in-Ok-clause-ok : goal.returns-in-Ok-clause-ok
returns-in-Ok-clause-ok c = rw (choices_none c.args.value (sym c.is_empty.ensures ∙ c.if-not-is_empty.false)) c.in-Ok.ensures.ok

pub returns-in-Err-clause-err : goal.returns-in-Err-clause-err
returns-in-Err-clause-err c =
    let none = sym c.is_empty.ensures ∙ c.if-not-is_empty.false in
    let given = c.in-Err.ensures.err c.in-Err.last refl in
    λ d h. (ap (λ x. cond_of x) (same_err c.cond-in-Err.result d h) ∙ c.cond-in-Err.ensures ∙ choices_same c.args.value c.in-Err.last none given.0, rw (choices_none c.args.value none) given.1)
