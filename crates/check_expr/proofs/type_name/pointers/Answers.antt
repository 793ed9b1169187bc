use Rattle.std.proofs.Common.{◌∙◌}
use Rattle.std.proofs.lemmas.Result.{err_from_is_err_and}
use Rattle.c_tables.specs.Tables.{known_of}
use Rattle.check_expr.proofs.Pointers.{pointers_more, pointers_err}
use Rattle.check_expr.proofs.type_name.pointers.Goals as goal

pub returns-in_err-pointer_to : goal.returns-in_err-pointer_to
returns-in_err-pointer_to c =
    let p = err_from_is_err_and c.from_residual.result c.from_residual.ensures.1 in
    rw (p.1, p.2, c.loop-pointer.invariant) (pointers_err c.args.pointers.now c.loop-pointer.pointer-index c.pointer-item.result c.loop-pointer.ty (known_of c.loop-pointer.checker) c.in_err-pointer_to.field-0.0 c.loop-pointer-test.true c.pointer-item.is (c.in_err-pointer_to.ensures (known_of c.loop-pointer.checker)))

pub loop-pointer-preserved : goal.loop-pointer-preserved
loop-pointer-preserved c = c.loop-pointer.invariant ∙ pointers_more c.args.pointers.now c.loop-pointer.pointer-index c.pointer-item.result c.loop-pointer.ty c.with_qualifiers-ty.result _ (known_of c.loop-pointer.checker) _ c.loop-pointer-test.true c.pointer-item.is (c.in_ok-pointer_to.ensures (known_of c.loop-pointer.checker)) (λ rest k. rw (c.plain-to.ensures, c.deref.ensures.value) at (c.with_qualifiers-ty.ensures rest k))
