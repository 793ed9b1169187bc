use Rattle.std.proofs.Common.{ap, refl, ◌∙◌}
use Rattle.c_nodes.specs.Views.{cond_of}
use Rattle.parse_expr.specs.Reader.{symbols_in}
use Rattle.parse_expr.proofs.Unary.{no_target, same_err}
use Rattle.parse_expr.proofs.operator.behind_target.Goals as goal

pub returns-in-Err-clause-err : goal.returns-in-Err-clause-err
returns-in-Err-clause-err c =
    let given = c.in-Err.ensures.err c.in-Err.value refl in
    λ d h. (ap (λ x. cond_of x) (same_err c.in-Err.value d h) ∙ given.0, λ text. no_target (cond_of c.args.value) (symbols_in text c.args.toks.now) given.1)
