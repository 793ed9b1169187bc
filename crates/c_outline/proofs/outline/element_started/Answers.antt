use Rattle.std.proofs.lemmas.Result.{err_from_is_err_and}
use Rattle.c_tables.specs.Tables.{types_in}
use Rattle.c_outline.specs.Views.{outline_of}
use Rattle.c_outline.proofs.Outlining.{instead_made, instead_refused}
use Rattle.c_outline.proofs.outline.element_started.Goals as goal

pub returns-in_err-to : goal.returns-in_err-to
returns-in_err-to c known =
    let p = err_from_is_err_and c.from_residual.result c.from_residual.ensures.1 in
    rw (p.1, p.2) (instead_refused (outline_of c.args.outline.now) c.args.element (types_in c.args.types.now known) c.in_err-to.field-0.0 (c.in_err-to.ensures known))

pub returns : goal.returns
returns c known = rw c.plain.ensures (instead_made (outline_of c.args.outline.now) c.args.element c.in_ok-to.to (types_in c.args.types.now known) (types_in c.pointer_to.new.self known) (c.in_ok-to.ensures known))
