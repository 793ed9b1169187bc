use Rattle.std.proofs.Common.{map}
use Rattle.std.proofs.lemmas.Result.{err_from_is_err_and}
use Rattle.c_nodes.specs.Views.{specs_of}
use Rattle.c_nodes.specs.ProgramViews.{begun_of, next_begun_of}
use Rattle.parse_expr.specs.Reader.{symbols_in}
use Rattle.c_parse.proofs.Failing.{declared_err}
use Rattle.c_parse.proofs.declaration.declared_behind.Goals as goal

pub returns-in_err-semicolon : goal.returns-in_err-semicolon
returns-in_err-semicolon c =
    let text = c.args.text.now in
    let from = c.from_residual-in_err-semicolon in
    let p = err_from_is_err_and from.result from.ensures.1 in
    rw (p.1, p.2) (declared_err c.in_err-semicolon.field-0.0 c.args.fuel (specs_of c.args.specs) (begun_of c.args.first) (map next_begun_of c.in_ok-others.others.items) (symbols_in text c.args.toks.now) (symbols_in text c.in_ok-others.rest.now) c.in_ok-others.ensures (c.in_err-semicolon.ensures text))
