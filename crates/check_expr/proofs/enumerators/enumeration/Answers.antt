use Rattle.std.proofs.Common.{map, w64}
use Rattle.std.proofs.lemmas.Int.{to_z-of_z}
use Rattle.std.proofs.lemmas.Result.{err_from_is_err_and}
use Rattle.c_nodes.specs.Views.{enum_body_of, enumerator_of, next_enumerator_of}
use Rattle.c_nodes.specs.Words.{spell_tag}
use Rattle.c_nodes.specs.declared.expression.Binary.TheViews.{out-EnumBody}
use Rattle.c_nodes.proofs.Shapes.{show_enum_body}
use Rattle.c_tables.specs.Tables.{known_of}
use Rattle.check_expr.proofs.Enumerating.{unopened, first_unnumbered, rest_unnumbered, enumeration_closes}
use Rattle.check_expr.proofs.enumerators.enumeration.Goals as goal

pub returns-in_err-refuse_body : goal.returns-in_err-refuse_body
returns-in_err-refuse_body c =
    let p = err_from_is_err_and c.from_residual.result c.from_residual.ensures.1 in
    rw (p.1, p.2) (unopened (enum_body_of c.args.body.now) (out-EnumBody c.args.body.now).keyword (spell_tag (out-EnumBody c.args.body.now).tag) (out-EnumBody c.args.body.now).opening (enumerator_of (out-EnumBody c.args.body.now).first) (map next_enumerator_of (out-EnumBody c.args.body.now).others.items) (out-EnumBody c.args.body.now).last_comma (out-EnumBody c.args.body.now).closing c.args.bodies (known_of c.args.checker.now) (show_enum_body c.args.body.now) c.in_err-refuse_body.field-0.0 (c.in_err-refuse_body.ensures (known_of c.args.checker.now)))

pub returns-in_err-next : goal.returns-in_err-next
returns-in_err-next c =
    let p = err_from_is_err_and c.from_residual-in_err-next.result c.from_residual-in_err-next.ensures.1 in
    rw (p.1, p.2) (first_unnumbered (enum_body_of c.args.body.now) (out-EnumBody c.args.body.now).keyword (spell_tag (out-EnumBody c.args.body.now).tag) (out-EnumBody c.args.body.now).opening (enumerator_of (out-EnumBody c.args.body.now).first) (map next_enumerator_of (out-EnumBody c.args.body.now).others.items) (out-EnumBody c.args.body.now).last_comma (out-EnumBody c.args.body.now).closing c.args.bodies (known_of c.args.checker.now) (show_enum_body c.args.body.now) (c.in_ok-refuse_body.ensures (known_of c.args.checker.now)) c.in_err-next.field-0.0 c.in_err-next.ensures)

pub returns-in_err-_next : goal.returns-in_err-_next
returns-in_err-_next c =
    let p = err_from_is_err_and c.from_residual-in_err-_next.result c.from_residual-in_err-_next.ensures.1 in
    let told = rw c.in_ok-next.was at c.enumerator.type_inv in
    let same = to_z-of_z w64 c.in_ok-next.next (record { sfits = told.1.1.1.1.0.1 }) in
    rw (p.1, p.2) (rest_unnumbered (enum_body_of c.args.body.now) (out-EnumBody c.args.body.now).keyword (spell_tag (out-EnumBody c.args.body.now).tag) (out-EnumBody c.args.body.now).opening (enumerator_of (out-EnumBody c.args.body.now).first) (map next_enumerator_of (out-EnumBody c.args.body.now).others.items) (out-EnumBody c.args.body.now).last_comma (out-EnumBody c.args.body.now).closing c.args.bodies (known_of c.args.checker.now) (show_enum_body c.args.body.now) (c.in_ok-refuse_body.ensures (known_of c.args.checker.now)) c.in_ok-next.next _ c.in_ok-next.ensures c.in_err-_next.field-0.0 (rw (c.deref.ensures.value, same) at c.in_err-_next.ensures))

pub returns : goal.returns
returns c =
    let told = rw c.in_ok-next.was at c.enumerator.type_inv in
    let same = to_z-of_z w64 c.in_ok-next.next (record { sfits = told.1.1.1.1.0.1 }) in
    enumeration_closes (enum_body_of c.args.body.now) (out-EnumBody c.args.body.now).keyword (spell_tag (out-EnumBody c.args.body.now).tag) (out-EnumBody c.args.body.now).opening (enumerator_of (out-EnumBody c.args.body.now).first) (map next_enumerator_of (out-EnumBody c.args.body.now).others.items) (out-EnumBody c.args.body.now).last_comma (out-EnumBody c.args.body.now).closing c.args.bodies (known_of c.args.checker.now) (show_enum_body c.args.body.now) (c.in_ok-refuse_body.ensures (known_of c.args.checker.now)) c.in_ok-next.next _ c.in_ok-next.ensures c.in_ok-_next._next _ _ c.close.result (rw (c.deref.ensures.value, same) at c.in_ok-_next.ensures) (c.close.ensures (known_of c.enumerators.new.checker))
