use Rattle.std.proofs.lemmas.Result.{err_from_is_err_and}
use Rattle.c_typed.specs.Views.{program_of}
use Rattle.picc_core.proofs.Told.{place_told}
use Rattle.picc_core.proofs.stages.placed_of.Goals as goal

pub returns-in_err-place_below-clause-refused : goal.returns-in_err-place_below-clause-refused
returns-in_err-place_below-clause-refused c =
    let p = err_from_is_err_and c.from_residual.result c.from_residual.ensures.1 in
    rw (p.1, p.2) (place_told c.args.limits (program_of c.args.p.now) c.args.copies.now.list.items c.args.copies.now.depth c.place_below.result c.in_err-place_below.field-0.0 c.in_err-place_below.was c.requires.roots c.requires.recursion c.requires.depth c.requires.list c.place_below.ensures.exact)
