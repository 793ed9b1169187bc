use Rattle.std.proofs.Common.{sym}
use Rattle.std.proofs.lemmas.Result.{err_from_is_err_and}
use Rattle.c_tables.specs.Tables.{types_in}
use Rattle.c_outline.specs.Gathering.{named_of}
use Rattle.c_outline.proofs.Gathering.{grown_made, grown_unmade}
use Rattle.c_outline.proofs.specifiers.grown.Goals as goal

pub returns-in_err-ty : goal.returns-in_err-ty
returns-in_err-ty c known =
    let p = err_from_is_err_and c.from_residual.result c.from_residual.ensures.1 in
    rw (p.1, p.2) (grown_unmade _ c.args.count (named_of c.args.inner) (types_in c.args.types.now known) c.in_err-ty.field-0.0 (sym (c.if-not-is_element.ensures known)) (c.in_err-ty.ensures known))

pub returns : goal.returns
returns c known = rw c.wholly.ensures (grown_made _ c.args.count (named_of c.args.inner) c.in_ok-ty.ty (types_in c.args.types.now known) (types_in c.array_of.new.self known) (sym (c.if-not-is_element.ensures known)) (c.in_ok-ty.ensures known))
