use Rattle.std.proofs.Common.{refl}
use Rattle.std.proofs.lemmas.Result.{err_from_is_err_and}
use Rattle.c_nodes.specs.Views.{cond_of}
use Rattle.type_rules.specs.Constants.{number_of}
use Rattle.type_rules.specs.Expressions.{judged}
use Rattle.type_rules.specs.Terms.{used}
use Rattle.c_tables.specs.Tables.{known_of}
use Rattle.check_expr.proofs.Answering.{goes, stops, ends, in_parts}
use Rattle.check_expr.proofs.constants.constant_value.Goals as goal

pub returns-in_err-term : goal.returns-in_err-term
returns-in_err-term c =
    let p = err_from_is_err_and c.from_residual.result c.from_residual.ensures.1 in
    rw (p.1, p.2) (stops _ _ _ _ c.in_err-term.ensures (in_parts (λ t. used t) (λ x. number_of x) (judged (cond_of c.args.cond.now) (known_of c.args.checker.now)) refl))

pub returns-in_err-operand : goal.returns-in_err-operand
returns-in_err-operand c =
    let p = err_from_is_err_and c.from_residual-in_err-operand.result c.from_residual-in_err-operand.ensures.1 in
    rw (p.1, p.2) (stops _ _ _ _ c.in_err-operand.ensures (goes _ _ _ _ _ c.in_ok-term.ensures (in_parts (λ t. used t) (λ x. number_of x) (judged (cond_of c.args.cond.now) (known_of c.args.checker.now)) refl)))

pub returns : goal.returns
returns c = ends (λ v. v) _ _ _ _ (c.folded.ensures (known_of c.used.new.checker)) (goes _ _ _ _ _ c.in_ok-operand.ensures (goes _ _ _ _ _ c.in_ok-term.ensures (in_parts (λ t. used t) (λ x. number_of x) (judged (cond_of c.args.cond.now) (known_of c.args.checker.now)) refl)))
