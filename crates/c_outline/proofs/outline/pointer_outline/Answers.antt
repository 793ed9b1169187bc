use Rattle.std.proofs.lemmas.Result.{err_from_is_err_and}
use Rattle.c_tables.specs.Tables.{types_in}
use Rattle.c_outline.specs.Views.{outline_of}
use Rattle.c_outline.proofs.Outlining.{pointer_made, pointer_refused}
use Rattle.c_outline.proofs.outline.pointer_outline.Goals as goal

pub returns-in_err-to-in-Object : goal.returns-in_err-to-in-Object
returns-in_err-to-in-Object c known =
    let p = err_from_is_err_and c.from_residual.result c.from_residual.ensures.1 in
    rw (p.1, p.2, c.in-Object.is) (pointer_refused (outline_of c.args.element.now) c.in-Object.ty (types_in c.args.types.now known) c.in_err-to-in-Object.field-0.0 (c.in_err-to-in-Object.ensures known))

pub returns-in_ok-to-in-Object : goal.returns-in_ok-to-in-Object
returns-in_ok-to-in-Object c known = rw (c.in-Object.is, c.plain.ensures, c.either.ensures, c.is_void.ensures) (pointer_made (outline_of c.args.element.now) c.in-Object.ty c.in_ok-to-in-Object.to (types_in c.args.types.now known) (types_in c.pointer_to.new.self known) (c.in_ok-to-in-Object.ensures known))
