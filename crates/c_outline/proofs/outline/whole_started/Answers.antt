use Rattle.std.proofs.lemmas.Result.{err_from_is_err_and}
use Rattle.c_tables.specs.Tables.{types_in}
use Rattle.c_outline.specs.Views.{outline_of}
use Rattle.c_outline.proofs.Outlining.{started_made, started_refused}
use Rattle.c_outline.proofs.outline.whole_started.Goals as goal

pub returns-in_err-to : goal.returns-in_err-to
returns-in_err-to c known =
    let p = err_from_is_err_and c.from_residual.result c.from_residual.ensures.1 in
    rw (p.1, p.2, ← c.in-Some.ensures) (started_refused (outline_of c.args.outline) c.in-Some.whole c.in-Some.element (types_in c.args.types.now known) c.in_err-to.field-0.0 (rw (c.like-target.ensures, c.target.ensures known) at (c.in_err-to.ensures known)))

pub returns : goal.returns
returns c known = rw (← c.in-Some.ensures, c.plain.ensures) (started_made (outline_of c.args.outline) c.in-Some.whole c.in-Some.element c.in_ok-to.to (types_in c.args.types.now known) (types_in c.pointer_to.new.self known) (rw (c.like-target.ensures, c.target.ensures known) at (c.in_ok-to.ensures known)))
