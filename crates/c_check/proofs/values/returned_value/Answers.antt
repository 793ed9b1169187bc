use Rattle.std.proofs.Common.{sym, ap, subst, ◌∙◌}
use Rattle.c_nodes.specs.Views.{expr_of}
use Rattle.c_typed.specs.Sameness.{is_void}
use Rattle.c_typed.specs.Views.{expression_of}
use Rattle.c_typed.specs.declared.types.Ty.{Ty}
use Rattle.type_rules.specs.Conversions.{assigned}
use Rattle.c_tables.specs.Answers.{Answers}
use Rattle.c_tables.specs.Tables.{known_of}
use Rattle.c_terms.specs.Terms.{operand_of}
use Rattle.c_check.proofs.Returning.{value_returned}
use Rattle.c_check.proofs.values.returned_value.Goals as goal

pub returns-else-is_void : goal.returns-else-is_void
returns-else-is_void c =
    let mid = known_of c.evaluated.new.checker in
    value_returned expression_of (expr_of c.args.expr.now) c.args.line (known_of c.args.checker.now) mid (operand_of c.in_ok-operand.operand) c.assigned.result mid c.in_ok-operand.ensures (sym (ap is_void c.result-returns.ensures) ∙ sym c.is_void.ensures ∙ c.if-is_void.false)
    (subst (λ (ty : Ty). Answers expression_of c.assigned.result mid (assigned (operand_of c.in_ok-operand.operand) ty c.args.line mid)) c.result-returns.ensures (c.assigned.ensures mid))
