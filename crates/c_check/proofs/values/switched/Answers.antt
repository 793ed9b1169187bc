use Rattle.std.proofs.Common.{sym, ap, ◌∙◌}
use Rattle.std.proofs.lemmas.Result.{err_from_is_err_and}
use Rattle.c_nodes.specs.Views.{expr_of}
use Rattle.c_typed.specs.Views.{expression_of}
use Rattle.type_rules.specs.Statements.{int_of}
use Rattle.c_tables.proofs.Steps.{out_of_memory}
use Rattle.c_tables.specs.Tables.{known_of}
use Rattle.c_terms.specs.Terms.{operand_of}
use Rattle.c_check.proofs.Returning.{switched_is}
use Rattle.c_check.proofs.values.switched.Goals as goal

pub returns-in_err-value : goal.returns-in_err-value
returns-in_err-value c =
    let p = err_from_is_err_and c.from_residual-in_err-value.result c.from_residual-in_err-value.ensures.1 in
    rw (p.1, p.2) (out_of_memory _ _ _ (c.in_err-value.ensures (known_of c.evaluated.new.checker)))

pub returns : goal.returns
returns c =
    switched_is (expr_of c.args.expr.now) (known_of c.args.checker.now) (known_of c.evaluated.new.checker) (operand_of c.in_ok-operand.operand) c.in-Some.ty c.promote-ty.result (expression_of c.in_ok-value.value) c.in_ok-operand.ensures (ap int_of (sym c.ty.ensures) ∙ sym c.in-Some.ensures) c.promote-ty.ensures.value (c.in_ok-value.ensures (known_of c.evaluated.new.checker))
