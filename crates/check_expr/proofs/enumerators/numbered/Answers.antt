use Rattle.std.proofs.Common.{sym, w64}
use Rattle.std.proofs.lemmas.Int.{to_z-of_z}
use Rattle.std.proofs.lemmas.Result.{err_from_is_err_and}
use Rattle.c_nodes.specs.Words.{named}
use Rattle.c_tables.specs.Tables.{known_of}
use Rattle.check_expr.proofs.Enumerating.{number_again, number_wide, number_unbound, number_given, next_kept}
use Rattle.check_expr.proofs.enumerators.numbered.Goals as goal

pub returns-in_err-refuse_again : goal.returns-in_err-refuse_again
returns-in_err-refuse_again c =
    let p = err_from_is_err_and c.from_residual.result c.from_residual.ensures.1 in
    let known = known_of c.args.checker.now in
    rw (p.1, p.2) (number_again (named c.args.name.now) c.args.number known c.in_err-refuse_again.field-0.0 (rw c.deref.ensures.value at (c.in_err-refuse_again.ensures known)))

pub returns-then-not-is_int : goal.returns-then-not-is_int
returns-then-not-is_int c =
    let known = known_of c.args.checker.now in
    let same = to_z-of_z w64 c.args.number c.ranges.number in
    rw c.refused.ensures (number_wide (named c.args.name.now) c.args.number known known (rw c.deref.ensures.value at (c.in_ok-refuse_again.ensures known)) (sym (rw same at c.if-not-is_int.ensures)))

pub returns-in_err-bind : goal.returns-in_err-bind
returns-in_err-bind c =
    let p = err_from_is_err_and c.from_residual-in_err-bind.result c.from_residual-in_err-bind.ensures.1 in
    let known = known_of c.args.checker.now in
    let same = to_z-of_z w64 c.args.number c.ranges.number in
    rw (p.1, p.2) (number_unbound (named c.args.name.now) c.args.number known known c.in_err-bind.field-0.0 (rw c.deref.ensures.value at (c.in_ok-refuse_again.ensures known)) (sym (rw same at c.if-not-is_int.ensures)) (rw (c.deref-2.ensures.value, c.bits_of.ensures, same) at (c.in_err-bind.ensures known)))

pub returns : goal.returns
returns c =
    let known = known_of c.args.checker.now in
    let same = to_z-of_z w64 c.args.number c.ranges.number in
    let int = sym (rw same at c.if-not-is_int.ensures) in
    rw (same, next_kept c.args.number int) (number_given (named c.args.name.now) c.args.number known known _ (rw c.deref.ensures.value at (c.in_ok-refuse_again.ensures known)) int (rw (c.deref-2.ensures.value, c.bits_of.ensures, same) at (c.in_ok-bind.ensures known)))
