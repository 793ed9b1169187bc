use Rattle.std.proofs.Common.{sym, ap, ◌∙◌}
use Rattle.std.proofs.lemmas.Result.{err_from_is_err_and}
use Rattle.c_nodes.specs.Trees as tree
use Rattle.c_nodes.specs.Views.{prefix_of, type_name_of}
use Rattle.c_nodes.proofs.Shapes.{show_prefix_operator, show_prefix_sizeof, show_prefix_cast}
use Rattle.type_rules.specs.Known.{given}
use Rattle.c_tables.specs.Tables.{known_of}
use Rattle.check_expr.specs.Folds.{AppliedCast, type_before}
use Rattle.check_expr.proofs.Answering.{goes, stops}
use Rattle.check_expr.proofs.prefixes.with_type.Goals as goal

pub returns-in-Operator : goal.returns-in-Operator
returns-in-Operator c = ap (λ p. type_before p (known_of c.args.checker.now)) (ap prefix_of c.in-Operator.is ∙ show_prefix_operator c.in-Operator.sign)

pub returns-in-Sizeof : goal.returns-in-Sizeof
returns-in-Sizeof c = ap (λ p. type_before p (known_of c.args.checker.now)) (ap prefix_of c.in-Sizeof.is ∙ show_prefix_sizeof c.in-Sizeof.keyword)

pub returns-in_err-ty-in-Cast : goal.returns-in_err-ty-in-Cast
returns-in_err-ty-in-Cast c =
    let p = err_from_is_err_and c.from_residual.result c.from_residual.ensures.1 in
    rw (p.1, p.2) (stops (λ to. given (AppliedCast to c.in-Cast.opening)) _ _ _ c.in_err-ty-in-Cast.ensures (sym (ap (λ p. type_before p (known_of c.args.checker.now)) (ap prefix_of c.in-Cast.is ∙ show_prefix_cast c.in-Cast.opening c.in-Cast.type_name c.in-Cast.closing ∙ ap (λ n. tree.Cast c.in-Cast.opening (type_name_of n) c.in-Cast.closing) (sym c.deref.ensures)))))

pub returns-in_ok-ty-in-Cast : goal.returns-in_ok-ty-in-Cast
returns-in_ok-ty-in-Cast c = sym (goes (λ to. given (AppliedCast to c.in-Cast.opening)) _ _ _ _ c.in_ok-ty-in-Cast.ensures (sym (ap (λ p. type_before p (known_of c.args.checker.now)) (ap prefix_of c.in-Cast.is ∙ show_prefix_cast c.in-Cast.opening c.in-Cast.type_name c.in-Cast.closing ∙ ap (λ n. tree.Cast c.in-Cast.opening (type_name_of n) c.in-Cast.closing) (sym c.deref.ensures)))))
