use Rattle.std.proofs.Common.{sym}
use Rattle.std.proofs.lemmas.Result.{err_from_is_err_and}
use Rattle.c_tables.specs.Tables.{types_in}
use Rattle.c_outline.specs.Gathering.{named_of}
use Rattle.c_outline.proofs.Gathering.{ends_badly, ends_well, ends_unmade}
use Rattle.c_outline.proofs.specifiers.Words.finished.Goals as goal

pub returns-then-is_refused : goal.returns-then-is_refused
returns-then-is_refused c g known e i = rw c.refused-then-is_refused.ensures (ends_badly c.args.site g c.args.line (types_in c.args.types.now known) c.args.self c.args.in_file (named_of c.in-Some.named) e i (sym c.in-Some.ensures) (sym c.if-is_refused.ensures))

pub returns-in_err-whole : goal.returns-in_err-whole
returns-in_err-whole c g known e i =
    let p = err_from_is_err_and c.from_residual.result c.from_residual.ensures.1 in
    rw (p.1, p.2) (ends_unmade c.args.site g c.args.line (types_in c.args.types.now known) c.args.self c.args.in_file (named_of c.in-Some.named) c.in_err-whole.field-0.0 e i (sym c.in-Some.ensures) (sym c.if-is_refused.ensures) (c.in_err-whole.ensures known))

pub returns : goal.returns
returns c g known e i = rw c.qualified.ensures (ends_well c.args.site g c.args.line (types_in c.args.types.now known) (types_in c.remade.new.types known) c.args.self c.args.in_file (named_of c.in-Some.named) c.in_ok-whole.whole e i (sym c.in-Some.ensures) (sym c.if-is_refused.ensures) (c.in_ok-whole.ensures known))
