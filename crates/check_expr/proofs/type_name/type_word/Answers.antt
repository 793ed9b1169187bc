use Rattle.std.proofs.Common.{Err, sym, ap}
use Rattle.std.proofs.lemmas.Result.{err_from_is_err_and}
use Rattle.c_nodes.specs.Views.{spec_of}
use Rattle.c_nodes.specs.declared.expression.Binary.TheViews.{out-EnumBody, out-StructBody}
use Rattle.c_nodes.proofs.Shapes.{show_spec_word, show_spec_reference, show_spec_body, show_struct_body, show_spec_type_name, show_spec_enum_reference, show_spec_enum_body, show_enum_body}
use Rattle.c_tables.specs.Tables.{known_of}
use Rattle.type_rules.specs.Faults as kind
use Rattle.type_rules.specs.Faults.{Kind}
use Rattle.type_rules.specs.Known.{wanted}
use Rattle.type_rules.specs.Names.{meaning_of}
use Rattle.type_rules.specs.Rows.{tagged}
use Rattle.type_rules.specs.Specifiers.{named_base}
use Rattle.type_rules.specs.TypeNames.{enum_of}
use Rattle.check_expr.proofs.Declaring.{word_named, base_given, base_refused}
use Rattle.check_expr.proofs.type_name.type_word.Goals as goal

pub returns-in-Word : goal.returns-in-Word
returns-in-Word c g e = word_named (spec_of c.args.spec.now) c.in-Word.word g c.args.words c.with_word.result (known_of c.args.checker.now) (rw c.in-Word.is (show_spec_word c.in-Word.word)) c.with_word.ensures e

pub returns-in-Reference : goal.returns-in-Reference
returns-in-Reference c g e = rw (c.refused.ensures, c.in-Reference.is, show_spec_reference c.in-Reference.keyword c.in-Reference.tag) (ap (λ (k : Kind). Err (record { kind = k; line = c.in-Reference.keyword })) (sym (c.refused_tag.ensures (known_of c.args.checker.now))))

pub returns-in-Body : goal.returns-in-Body
returns-in-Body c g e = rw (c.refused-in-Body.ensures, c.in-Body.is, show_spec_body c.in-Body.body, show_struct_body c.in-Body.body.value, c.deref-in-Body.ensures) (ap (λ (k : Kind). Err (record { kind = k; line = (out-StructBody c.in-Body.body.value).keyword })) (sym (rw c.deref.ensures at c.refused_body.ensures (known_of c.args.checker.now))))

pub returns-in_err-base-in-TypeName : goal.returns-in_err-base-in-TypeName
returns-in_err-base-in-TypeName c g e =
    let p = err_from_is_err_and c.from_residual.result c.from_residual.ensures.1 in
    let known = known_of c.args.checker.now in
    rw (p.1, p.2, c.in-TypeName.is, show_spec_type_name c.in-TypeName.name) (base_refused (wanted kind.Name c.in-TypeName.name.line (named_base (meaning_of known c.in-TypeName.name.bytes.items)) known) g c.in_err-base-in-TypeName.field-0.0 (c.in_err-base-in-TypeName.ensures known))

pub returns-in_ok-base-in-TypeName : goal.returns-in_ok-base-in-TypeName
returns-in_ok-base-in-TypeName c g e =
    let known = known_of c.args.checker.now in
    rw (c.in-TypeName.is, show_spec_type_name c.in-TypeName.name) (base_given (wanted kind.Name c.in-TypeName.name.line (named_base (meaning_of known c.in-TypeName.name.bytes.items)) known) g c.in_ok-base-in-TypeName.base c.args.words c.with_base.result known (c.in_ok-base-in-TypeName.ensures known) c.with_base.ensures e)

pub returns-in_err-base-in-EnumReference : goal.returns-in_err-base-in-EnumReference
returns-in_err-base-in-EnumReference c g e =
    let p = err_from_is_err_and c.from_residual-in_err-base-in-EnumReference.result c.from_residual-in_err-base-in-EnumReference.ensures.1 in
    let known = known_of c.args.checker.now in
    rw (p.1, p.2, c.in-EnumReference.is, show_spec_enum_reference c.in-EnumReference.keyword c.in-EnumReference.tag) (base_refused (enum_of (tagged known c.in-EnumReference.tag.bytes.items) c.in-EnumReference.keyword known) g c.in_err-base-in-EnumReference.field-0.0 (c.in_err-base-in-EnumReference.ensures known))

pub returns-in_ok-base-in-EnumReference : goal.returns-in_ok-base-in-EnumReference
returns-in_ok-base-in-EnumReference c g e =
    let known = known_of c.args.checker.now in
    rw (c.in-EnumReference.is, show_spec_enum_reference c.in-EnumReference.keyword c.in-EnumReference.tag) (base_given (enum_of (tagged known c.in-EnumReference.tag.bytes.items) c.in-EnumReference.keyword known) g c.in_ok-base-in-EnumReference.base c.args.words c.with_base-in-EnumReference.result known (c.in_ok-base-in-EnumReference.ensures known) c.with_base-in-EnumReference.ensures e)

pub returns-in-EnumBody : goal.returns-in-EnumBody
returns-in-EnumBody c g e = rw (c.refused-in-EnumBody.ensures, c.in-EnumBody.is, show_spec_enum_body c.in-EnumBody.body, show_enum_body c.in-EnumBody.body.value, c.deref-in-EnumBody-2.ensures) (ap (λ (k : Kind). Err (record { kind = k; line = (out-EnumBody c.in-EnumBody.body.value).keyword })) (sym (rw c.deref-in-EnumBody.ensures at c.refused_enum_body.ensures (known_of c.args.checker.now))))
