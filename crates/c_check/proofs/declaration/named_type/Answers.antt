use Rattle.std.proofs.Common.{sym}
use Rattle.std.proofs.lemmas.Result.{err_from_is_err_and}
use Rattle.c_tables.specs.Tables.{known_of}
use Rattle.c_outline.specs.Views.{outline_of, specified_of}
use Rattle.c_check.proofs.Declared.{named_again, named_badly, named_well}
use Rattle.c_check.proofs.declaration.named_type.Goals as goal

pub returns-in_err-refuse_again : goal.returns-in_err-refuse_again
returns-in_err-refuse_again c =
    let p = err_from_is_err_and c.from_residual.result c.from_residual.ensures.1 in
    let known = known_of c.args.checker.now in
    rw (p.1, p.2) (named_again (specified_of c.args.specified) (outline_of c.args.outline.now) c.args.begun c.args.name.now c.args.line known _ (c.in_err-refuse_again.ensures known))

pub returns-then-is_no_type : goal.returns-then-is_no_type
returns-then-is_no_type c =
    let known = known_of c.args.checker.now in
    rw c.refused.ensures (named_badly (specified_of c.args.specified) (outline_of c.args.outline.now) c.args.begun c.args.name.now c.args.line known (c.in_ok-refuse_again.ensures known) (sym c.if-is_no_type.ensures))

pub returns : goal.returns
returns c =
    let known = known_of c.args.checker.now in
    rw (named_well (specified_of c.args.specified) (outline_of c.args.outline.now) c.args.begun c.args.name.now c.args.line known (c.in_ok-refuse_again.ensures known) (sym c.if-is_no_type.ensures)) (rw c.type_of-ty.ensures at (c.bind.ensures known))
