use Rattle.std.proofs.Common.{w64}
use Rattle.std.proofs.lemmas.Int.{to_z-of_z}
use Rattle.std.proofs.lemmas.Result.{err_from_is_err_and}
use Rattle.c_nodes.specs.Views.{cond_of}
use Rattle.c_nodes.specs.Words.{named}
use Rattle.c_nodes.proofs.Shapes.{show_enumerator_bare, show_enumerator_valued}
use Rattle.c_tables.specs.Tables.{known_of}
use Rattle.check_expr.proofs.Enumerating.{kept_number, valued_given, valued_refused}
use Rattle.check_expr.proofs.enumerators.enumerator.Goals as goal

pub returns-in-Bare : goal.returns-in-Bare
returns-in-Bare c = rw (c.in-Bare.is, show_enumerator_bare c.in-Bare.name) (rw (to_z-of_z w64 c.args.next c.ranges.next) at c.numbered.ensures)

pub returns-in_err-value-in-Valued : goal.returns-in_err-value-in-Valued
returns-in_err-value-in-Valued c =
    let p = err_from_is_err_and c.from_residual.result c.from_residual.ensures.1 in
    rw (p.1, p.2, c.in-Valued.is, show_enumerator_valued c.in-Valued.name c.in-Valued.equals c.in-Valued.value) (valued_refused (named c.in-Valued.name) c.in-Valued.equals (cond_of c.in-Valued.value.value) c.args.next (known_of c.args.checker.now) c.in_err-value-in-Valued.field-0.0 (rw c.deref.ensures at c.in_err-value-in-Valued.ensures))

pub returns-in_ok-value-in-Valued : goal.returns-in_ok-value-in-Valued
returns-in_ok-value-in-Valued c = rw (c.in-Valued.is, show_enumerator_valued c.in-Valued.name c.in-Valued.equals c.in-Valued.value, valued_given (named c.in-Valued.name) c.in-Valued.equals (cond_of c.in-Valued.value.value) c.args.next c.in_ok-value-in-Valued.value (known_of c.args.checker.now) (known_of c.constant_value.new.checker) (rw c.deref.ensures at c.in_ok-value-in-Valued.ensures)) (rw (kept_number c.number.result c.number.ensures.least c.number.ensures.greatest, c.number.ensures.value) at c.numbered-in-Valued.ensures)
