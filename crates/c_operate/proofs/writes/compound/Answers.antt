use Rattle.std.proofs.Common.{false, refl, sym, ap, ◌∙◌}
use Rattle.c_typed.specs.Trees as typed
use Rattle.c_typed.specs.Types.{place_type}
use Rattle.c_typed.specs.Views.{place_of}
use Rattle.type_rules.specs.Conversions.{converted}
use Rattle.type_rules.specs.Known.{given}
use Rattle.type_rules.specs.Operations as operations
use Rattle.type_rules.specs.Terms.{value_term}
use Rattle.type_rules.specs.Writes as rule
use Rattle.c_tables.specs.Tables.{types_in}
use Rattle.c_terms.specs.Terms.{operand_of, operation_of, side_of, valued}
use Rattle.c_operate.proofs.WriteSteps.{is_updated}
use Rattle.c_terms.proofs.Refusing.{made, only_memory, given_is}
use Rattle.c_tables.proofs.Steps.{passed_on}
use Rattle.c_operate.proofs.writes.compound.Goals as goal

pub returns-in_err-value : goal.returns-in_err-value
returns-in_err-value c = λ known.
    let here = types_in c.args.types.now known in
    let said = rule.compound_assignment c.args.op (place_of c.args.place) (operand_of c.args.from) c.args.line here in
    passed_on (valued c.args.line) c.from_residual.result here said c.in_err-value.field-0.0 c.from_residual.ensures.1
    (only_memory c.in_err-value.field-0.0 _ (given (converted (operand_of c.args.from) c.in-Some.found.right) known) said (c.in_err-value.ensures known) refl)

pub returns : goal.returns
returns c = λ known.
    let here = types_in c.args.types.now known in
    let place = place_of c.args.place in
    let from = operand_of c.args.from in
    let found = operation_of c.in-Some.found in
    let line = c.args.line in
    made (valued line) (rule.compound_assignment c.args.op place from line here) c.in_ok-update_node.field-0 _ here
    (is_updated c.args.op place from line here found
    (sym (c.in-Some.ensures known ∙ (ap (λ q. operations.operation_of here c.args.op (record { ty = q.ty; null = false }) (side_of c.side.result)) c.ty-ty.ensures ∙ ap (operations.operation_of here c.args.op (record { ty = (place_type place).ty; null = false })) c.side.ensures)))
    (sym (c.if-not-keeps_type.ensures ∙ ap (λ q. rule.keeps_type found.node q.ty found.ty) c.ty-ty.ensures)))
    (ap (λ e. value_term e line) (c.in_ok-update_node.ensures ∙ (ap (λ v. typed.Update c.args.op place v found.left found.size c.ty-ty.result.ty line) (given_is _ _ known known (c.in_ok-value.ensures known)) ∙ ap (λ q. typed.Update c.args.op place (converted from found.right) found.left found.size q.ty line) c.ty-ty.ensures)))
