use Rattle.std.proofs.Common.{map}
use Rattle.std.proofs.lemmas.Result.{err_from_is_err_and}
use Rattle.c_nodes.specs.ProgramViews.{begun_of}
use Rattle.c_typed.specs.Views.{statement_of}
use Rattle.c_tables.specs.Tables.{known_of}
use Rattle.c_outline.specs.Views.{outline_of, specified_of}
use Rattle.c_check.proofs.Declared.{declarator_again, declarator_last}
use Rattle.c_check.proofs.declaration.block_declarator.Goals as goal

pub returns-in_err-refuse_again : goal.returns-in_err-refuse_again
returns-in_err-refuse_again c =
    let p = err_from_is_err_and c.from_residual-in_err-refuse_again.result c.from_residual-in_err-refuse_again.ensures.1 in
    let mid = known_of c.outline.new.checker in
    rw (p.1, p.2) (declarator_again (begun_of c.args.declared.now) (specified_of c.args.specified) (outline_of c.in_ok-outline.outline) c.name_of-name.result.now c.declarator_line-line.result (known_of c.args.checker.now) mid c.in_ok-outline.ensures c.name_of-name.ensures c.declarator_line-line.ensures _ (c.in_err-refuse_again.ensures mid))

pub returns : goal.returns
returns c =
    let mid = known_of c.outline.new.checker in
    declarator_last (begun_of c.args.declared.now) (specified_of c.args.specified) (outline_of c.in_ok-outline.outline) c.name_of-name.result.now c.declarator_line-line.result (known_of c.args.checker.now) mid c.in_ok-outline.ensures c.name_of-name.ensures c.declarator_line-line.ensures (λ made. map statement_of made.items) c.block_object.result (known_of c.block_object.new.checker) (c.in_ok-refuse_again.ensures mid) c.block_object.ensures
