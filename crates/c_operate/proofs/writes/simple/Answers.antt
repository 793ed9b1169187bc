use Rattle.std.proofs.Common.{sym, ap, subst, ◌∙◌}
use Rattle.c_typed.specs.Sameness.{is_struct}
use Rattle.c_typed.specs.Trees as typed
use Rattle.c_typed.specs.Types.{place_type}
use Rattle.c_typed.specs.Views.{expression_of, place_of}
use Rattle.type_rules.specs.Conversions.{assigned}
use Rattle.type_rules.specs.Terms.{value_term}
use Rattle.type_rules.specs.Writes as rule
use Rattle.c_tables.specs.Answers.{Refuses}
use Rattle.c_tables.specs.Tables.{types_in}
use Rattle.c_terms.specs.Terms.{operand_of, valued}
use Rattle.c_operate.proofs.WriteSteps.{not_assigned, is_assigned}
use Rattle.c_terms.proofs.Refusing.{made}
use Rattle.c_tables.proofs.Steps.{passed_on}
use Rattle.c_operate.proofs.writes.simple.Goals as goal

pub returns-in_err-value : goal.returns-in_err-value
returns-in_err-value c = λ known.
    let here = types_in c.args.types.now known in
    let place = place_of c.args.place in
    let from = operand_of c.args.from in
    let ty = (place_type place).ty in
    let e = c.in_err-value.field-0.0 in
    passed_on (valued c.args.line) c.from_residual.result here (rule.simple_assignment ty place from c.args.line here) e c.from_residual.ensures.1
    (not_assigned ty place from c.args.line here e (sym (c.if-is_struct.ensures ∙ ap (λ q. is_struct q.ty) c.ty-ty.ensures))
    (subst (λ q. Refuses e (assigned from q.ty c.args.line here)) c.ty-ty.ensures (c.in_err-value.ensures known)))

pub returns : goal.returns
returns c = λ known.
    let here = types_in c.args.types.now known in
    let place = place_of c.args.place in
    let from = operand_of c.args.from in
    let ty = (place_type place).ty in
    let value = expression_of c.in_ok-value.value in
    made (valued c.args.line) (rule.simple_assignment ty place from c.args.line here) c.in_ok-assign_node.field-0 _ here
    (is_assigned ty place from c.args.line here here value (sym (c.if-is_struct.ensures ∙ ap (λ q. is_struct q.ty) c.ty-ty.ensures))
    (ap (λ q. assigned from q.ty c.args.line here) (sym c.ty-ty.ensures) ∙ c.in_ok-value.ensures known))
    (ap (λ e. value_term e c.args.line) (c.in_ok-assign_node.ensures ∙ ap (λ q. typed.Assign place value q.ty c.args.line) c.ty-ty.ensures))
