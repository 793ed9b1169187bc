use Rattle.std.proofs.Common.{[], arith}
use Rattle.c_token.specs.declared.token.Punct.TheVariants as marks
use Rattle.parse_expr.proofs.Whole.{punct_taken}
use Rattle.parse_expr.proofs.front.behind_assign.Goals as goal

pub returns-in-Some-clause-fewer : goal.returns-in-Some-clause-fewer
returns-in-Some-clause-fewer c =
    let lt = punct_taken marks.Comma [] c.args.toks.now c.in-Some.rest.now c.in-Some.comma (c.in-Some.ensures []) in
    omega (arith, lt)
