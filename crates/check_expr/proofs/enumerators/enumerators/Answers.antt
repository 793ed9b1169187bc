use Rattle.std.proofs.Common.{refl, map, to_z, of_z, w64}
use Rattle.std.proofs.lemmas.Int.{to_z-of_z}
use Rattle.std.proofs.lemmas.Result.{err_from_is_err_and}
use Rattle.c_nodes.specs.Views.{next_enumerator_of, enumerator_of}
use Rattle.c_tables.specs.Tables.{known_of}
use Rattle.check_expr.proofs.Enumerating.{rest_enumerators, enumerators_more, enumerators_refused, enumerators_end}
use Rattle.check_expr.proofs.enumerators.enumerators.Goals as goal

pub returns-in_err-next : goal.returns-in_err-next
returns-in_err-next c =
    let p = err_from_is_err_and c.from_residual.result c.from_residual.ensures.1 in
    let same = to_z-of_z w64 c.args.next c.ranges.next in
    rw (p.1, p.2) (enumerators_refused c.args.others.now c.loop-other.other-index c.other-item.result c.other-item.result.0 (enumerator_of c.other-item.result.1) (to_z w64 c.loop-other.next-bits) (rest_enumerators (map next_enumerator_of c.args.others.now) c.args.next (known_of c.args.checker.now)) (known_of c.loop-other.checker) c.in_err-next.field-0.0 c.loop-other-test.true c.other-item.is refl (rw same at c.loop-other.invariant) c.in_err-next.ensures)

pub loop-other-preserved : goal.loop-other-preserved
loop-other-preserved c =
    let told = rw c.in_ok-next.was at c.enumerator.type_inv in
    let same = to_z-of_z w64 c.in_ok-next.next (record { sfits = told.1.1.1.1.0.1 }) in
    rw same (enumerators_more c.args.others.now c.loop-other.other-index c.other-item.result c.other-item.result.0 (enumerator_of c.other-item.result.1) (to_z w64 c.loop-other.next-bits) c.in_ok-next.next (rest_enumerators (map next_enumerator_of c.args.others.now) (to_z w64 (of_z w64 c.args.next)) (known_of c.args.checker.now)) (known_of c.loop-other.checker) (known_of c.enumerator.new.checker) c.loop-other-test.true c.other-item.is refl c.loop-other.invariant c.in_ok-next.ensures)

pub returns : goal.returns
returns c =
    let same = to_z-of_z w64 c.args.next c.ranges.next in
    enumerators_end c.args.others.now c.loop-other.other-index (to_z w64 c.loop-other.next-bits) (rest_enumerators (map next_enumerator_of c.args.others.now) c.args.next (known_of c.args.checker.now)) (known_of c.loop-other.checker) c.loop-other-test.false (rw same at c.loop-other.invariant)
