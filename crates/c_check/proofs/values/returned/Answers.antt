use Rattle.std.proofs.Common.{sym, ap, ◌∙◌}
use Rattle.std.proofs.lemmas.Result.{err_from_is_err_and}
use Rattle.c_nodes.specs.ProgramViews.{any_of}
use Rattle.c_nodes.specs.Views.{expr_of}
use Rattle.type_rules.specs.Statements as rule
use Rattle.c_tables.specs.Tables.{known_of}
use Rattle.c_check.proofs.Answering.{stops}
use Rattle.c_check.proofs.Returning.{return_starts}
use Rattle.c_check.proofs.values.returned.Goals as goal

pub returns-in_err-returned_value-in-Some : goal.returns-in_err-returned_value-in-Some
returns-in_err-returned_value-in-Some c =
    let p = err_from_is_err_and c.from_residual.result c.from_residual.ensures.1 in
    rw (p.1, p.2) (stops _ _ _ _ c.in_err-returned_value-in-Some.ensures (return_starts (expr_of c.in-Some.expr) c.args.line (known_of c.args.checker.now) ∙ ap (λ o. rule.return_statement (any_of o) c.args.line (known_of c.args.checker.now)) (sym c.in-Some.is)))
