use Rattle.std.proofs.Common.{map}
use Rattle.std.proofs.lemmas.Result.{err_from_is_err_and}
use Rattle.c_nodes.specs.ProgramViews.{equals_of}
use Rattle.c_typed.specs.Views.{statement_of}
use Rattle.c_tables.specs.Tables.{body_in, known_of}
use Rattle.c_outline.specs.Views.{outline_of, specified_of}
use Rattle.c_check.proofs.Declared.{block_first, block_next, block_last}
use Rattle.c_check.proofs.declaration.block_object.Goals as goal

pub returns-in_err-ty : goal.returns-in_err-ty
returns-in_err-ty c =
    let p = err_from_is_err_and c.from_residual.result c.from_residual.ensures.1 in
    let known = known_of c.args.checker.now in
    rw (p.1, p.2) (block_first (specified_of c.args.specified) (outline_of c.args.outline.now) (equals_of c.args.init.now) c.args.name.now c.args.line known c.is_given.result c.is_given.ensures.begun _ (c.in_err-ty.ensures known))

pub returns-in_err-declarator : goal.returns-in_err-declarator
returns-in_err-declarator c =
    let p = err_from_is_err_and c.from_residual-in_err-declarator.result c.from_residual-in_err-declarator.ensures.1 in
    let known = known_of c.args.checker.now in
    rw (p.1, p.2) (block_next (specified_of c.args.specified) (outline_of c.args.outline.now) (equals_of c.args.init.now) c.args.name.now c.args.line known c.is_given.result c.is_given.ensures.begun c.in_ok-ty.ty _ (c.in_ok-ty.ensures known) (c.in_err-declarator.ensures known))

pub returns : goal.returns
returns c =
    let known = known_of c.args.checker.now in
    block_last (specified_of c.args.specified) (outline_of c.args.outline.now) (equals_of c.args.init.now) c.args.name.now c.args.line known c.is_given.result c.is_given.ensures.begun (λ made. map statement_of made.items) c.in_ok-ty.ty c.in_ok-declarator.declarator (body_in c.next_declarator.new.self known) (known_of c.typed_object.new.checker) c.typed_object.result (c.in_ok-ty.ensures known) (c.in_ok-declarator.ensures known) c.typed_object.ensures
