use Rattle.std.proofs.lemmas.Result.{err_from_is_err_and}
use Rattle.c_tables.specs.Tables.{types_in}
use Rattle.c_outline.specs.Views.{outline_of}
use Rattle.c_outline.proofs.Outlining.{array_made, array_refused, part_made}
use Rattle.c_outline.proofs.outline.array_or_part.Goals as goal

pub returns-in_err-ty : goal.returns-in_err-ty
returns-in_err-ty c known object =
    let p = err_from_is_err_and c.from_residual.result c.from_residual.ensures.1 in
    rw (p.1, p.2, ← c.if-is_complete.ensures known) (array_refused c.args.length (outline_of c.args.outline.now) c.args.element (types_in c.args.types.now known) c.in_err-ty.field-0.0 (c.in_err-ty.ensures known))

pub returns-in_ok-ty : goal.returns-in_ok-ty
returns-in_ok-ty c known object = rw (← c.if-is_complete.ensures known, c.either-bad.ensures, c.is_void.ensures) (array_made c.args.length (outline_of c.args.outline.now) c.args.element c.in_ok-ty.ty (types_in c.args.types.now known) (types_in c.array_of.new.self known) (c.in_ok-ty.ensures known))

pub returns-else-is_complete : goal.returns-else-is_complete
returns-else-is_complete c known object = rw (← c.if-is_complete.ensures known, c.either-bad.ensures, c.is_void.ensures, c.waits.ensures) (part_made c.args.length (outline_of c.args.outline.now) c.args.element (types_in c.args.types.now known) object)
