use Rattle.std.proofs.Common.{refl, ◌+◌, map, drop, ap, ◌∙◌, ◌∷◌, []}
use Rattle.std.proofs.lemmas.List.{map-append}
use Rattle.std.proofs.lemmas.Result.{err_from_is_err_and}
use Rattle.c_nodes.specs.Lists.{suffixes_of, more_members, more_params, more_enumerators}
use Rattle.c_nodes.specs.Views.{cond_of, declarator_of, member_of, next_declarator_of, next_param_of, param_of, spec_of, specs_of, struct_body_of, suffix_of, enumerator_of, next_enumerator_of}
use Rattle.c_nodes.specs.Words.{named, type_named, spell_pointers, spell_tag}
use Rattle.c_tables.specs.Tables.{known_of}
use Rattle.c_nodes.specs.declared.expression.Binary.TheViews.{out-Declarator, out-Member, out-Specs, out-StructBody, out-EnumBody}
use Rattle.c_nodes.proofs.Shapes.{show_declarator, show_member, show_param_named, show_param_unnamed, show_spec_word, show_spec_reference, show_spec_body, show_spec_type_name, show_spec_enum_reference, show_spec_enum_body, show_enum_body, show_specs, show_struct_body, show_suffix_array, show_suffix_array_unsized, show_suffix_empty, show_suffix_params, show_suffix_void}
use Rattle.type_rules.specs.Declarators.{members, spec_rule, specified}
use Rattle.type_rules.specs.Faults as kind
use Rattle.type_rules.specs.Known.{wanted}
use Rattle.type_rules.specs.Names.{meaning_of}
use Rattle.type_rules.specs.Rows.{tagged}
use Rattle.type_rules.specs.TypeNames.{enum_of}
use Rattle.type_rules.specs.Specifiers.{named_base, nothing_gathered, specs_line}
use Rattle.check_expr.specs.Lists.{body_rule}
use Rattle.c_outline.specs.Views as views
use Rattle.check_expr.specs.Views.{context_of}
use Rattle.c_outline.specs.Views.{made_of, outline_of, specified_of}
use Rattle.check_expr.proofs.Declaring as steps
use Rattle.check_expr.proofs.declarator.+declarator.Goals as goal

pub field-returns-in_err-outline : goal.field-returns-in_err-outline
field-returns-in_err-outline t c =
    let p = err_from_is_err_and c.from_residual.result c.from_residual.ensures.1 in
    rw (p.1, p.2) (steps.field_refused (declarator_of c.args.declarator.now) (spell_pointers (out-Declarator c.args.declarator.now).pointers.items) (named (out-Declarator c.args.declarator.now).name) (suffixes_of (map suffix_of (out-Declarator c.args.declarator.now).suffixes.items)) (specified_of c.args.specified) c.args.structure (known_of c.args.checker.now) c.in_err-outline.field-0.0 (show_declarator c.args.declarator.now) c.in_err-outline.ensures)

pub field-returns : goal.field-returns
field-returns t c = rw (steps.field_put (declarator_of c.args.declarator.now) (spell_pointers (out-Declarator c.args.declarator.now).pointers.items) (named (out-Declarator c.args.declarator.now).name) (suffixes_of (map suffix_of (out-Declarator c.args.declarator.now).suffixes.items)) (specified_of c.args.specified) (outline_of c.in_ok-outline.outline) c.args.structure c.declarator_line-line.result c.deref.result.now (known_of c.args.checker.now) (known_of c.outline.new.checker) (show_declarator c.args.declarator.now) c.deref.ensures.value c.declarator_line-line.ensures c.in_ok-outline.ensures) (c.add_field.ensures (known_of c.outline.new.checker))

pub members-returns-in_err-specified : goal.members-returns-in_err-specified
members-returns-in_err-specified t c =
    let p = err_from_is_err_and c.from_residual.result c.from_residual.ensures.1 in
    rw (p.1, p.2) (steps.fields_unspecified (member_of c.args.member.now) (specs_of (out-Member c.args.member.now).specs) (declarator_of (out-Member c.args.member.now).first) (map next_declarator_of (out-Member c.args.member.now).others.items) (out-Member c.args.member.now).semicolon c.args.structure (known_of c.args.checker.now) c.in_err-specified.field-0.0 (show_member c.args.member.now) c.in_err-specified.ensures)

pub members-returns-in_err-field : goal.members-returns-in_err-field
members-returns-in_err-field t c =
    let p = err_from_is_err_and c.from_residual-in_err-field.result c.from_residual-in_err-field.ensures.1 in
    rw (p.1, p.2) (steps.fields_first_refused (member_of c.args.member.now) (specs_of (out-Member c.args.member.now).specs) (declarator_of (out-Member c.args.member.now).first) (map next_declarator_of (out-Member c.args.member.now).others.items) (out-Member c.args.member.now).semicolon c.args.structure (specified_of c.in_ok-specified.specified) (known_of c.args.checker.now) (known_of c.specified.new.checker) c.in_err-field.field-0.0 (show_member c.args.member.now) c.in_ok-specified.ensures c.in_err-field.ensures)

pub members-loop-next-init : goal.members-loop-next-init
members-loop-next-init t c = rw c.deref-next-items.ensures.value (steps.fields_begin (member_of c.args.member.now) (specs_of (out-Member c.args.member.now).specs) (declarator_of (out-Member c.args.member.now).first) (map next_declarator_of (out-Member c.args.member.now).others.items) (out-Member c.args.member.now).semicolon c.args.structure (specified_of c.in_ok-specified.specified) (known_of c.args.checker.now) (known_of c.specified.new.checker) _ (show_member c.args.member.now) c.in_ok-specified.ensures c.in_ok-field.ensures)

pub members-returns-in_err-field-2 : goal.members-returns-in_err-field-2
members-returns-in_err-field-2 t c =
    let p = err_from_is_err_and c.from_residual-in_err-field-2.result c.from_residual-in_err-field-2.ensures.1 in
    rw (p.1, p.2) (steps.fields_refused c.deref-next-items.result.now c.loop-next.next-index c.next-item.result c.next-item.result.0 (declarator_of c.next-item.result.1) (specified_of c.in_ok-specified.specified) c.args.structure (members (member_of c.args.member.now) c.args.structure (known_of c.args.checker.now)) (known_of c.loop-next.checker) c.in_err-field-2.field-0.0 c.loop-next-test.true c.next-item.is refl c.loop-next.invariant c.in_err-field-2.ensures)

pub members-loop-next-preserved : goal.members-loop-next-preserved
members-loop-next-preserved t c = steps.fields_more c.deref-next-items.result.now c.loop-next.next-index c.next-item.result c.next-item.result.0 (declarator_of c.next-item.result.1) (specified_of c.in_ok-specified.specified) c.args.structure (members (member_of c.args.member.now) c.args.structure (known_of c.args.checker.now)) (known_of c.loop-next.checker) _ c.loop-next-test.true c.next-item.is refl c.loop-next.invariant c.in_ok-field-2.ensures

pub members-returns : goal.members-returns
members-returns t c = steps.fields_end c.deref-next-items.result.now c.loop-next.next-index (specified_of c.in_ok-specified.specified) c.args.structure (members (member_of c.args.member.now) c.args.structure (known_of c.args.checker.now)) (known_of c.loop-next.checker) c.loop-next-test.false c.loop-next.invariant

pub outline-returns-in_err-base : goal.outline-returns-in_err-base
outline-returns-in_err-base t c =
    let p = err_from_is_err_and c.from_residual.result c.from_residual.ensures.1 in
    rw (p.1, p.2) (steps.outline_unpointed (declarator_of c.args.declarator.now) (spell_pointers (out-Declarator c.args.declarator.now).pointers.items) (named (out-Declarator c.args.declarator.now).name) (suffixes_of (map suffix_of (out-Declarator c.args.declarator.now).suffixes.items)) (specified_of c.args.specified) c.args.bodies (known_of c.args.checker.now) c.in_err-base.field-0.0 (show_declarator c.args.declarator.now) (rw c.deref.ensures.value at c.in_err-base.ensures))

pub outline-returns-in_err-made : goal.outline-returns-in_err-made
outline-returns-in_err-made t c =
    let p = err_from_is_err_and c.from_residual-in_err-made.result c.from_residual-in_err-made.ensures.1 in
    rw (p.1, p.2) (steps.outline_unmade (declarator_of c.args.declarator.now) (spell_pointers (out-Declarator c.args.declarator.now).pointers.items) (named (out-Declarator c.args.declarator.now).name) (suffixes_of (map suffix_of (out-Declarator c.args.declarator.now).suffixes.items)) (specified_of c.args.specified) c.args.bodies c.in_ok-base.base (known_of c.args.checker.now) (known_of c.pointers.new.checker) c.in_err-made.field-0.0 (show_declarator c.args.declarator.now) (rw c.deref.ensures.value at c.in_ok-base.ensures) (rw c.deref-2.ensures.value at c.in_err-made.ensures))

pub outline-returns : goal.outline-returns
outline-returns t c = rw (steps.outline_ends (declarator_of c.args.declarator.now) (spell_pointers (out-Declarator c.args.declarator.now).pointers.items) (named (out-Declarator c.args.declarator.now).name) (suffixes_of (map suffix_of (out-Declarator c.args.declarator.now).suffixes.items)) (specified_of c.args.specified) c.args.bodies c.in_ok-base.base (map made_of c.in_ok-made.made.items) (known_of c.args.checker.now) (known_of c.pointers.new.checker) (known_of c.suffixes.new.checker) (show_declarator c.args.declarator.now) (rw c.deref.ensures.value at c.in_ok-base.ensures) (rw c.deref-2.ensures.value at c.in_ok-made.ensures)) (rw c.object.ensures at (c.outlined.ensures (known_of c.suffixes.new.checker)))

pub specified-returns-in_err-words : goal.specified-returns-in_err-words
specified-returns-in_err-words t c =
    let p = err_from_is_err_and c.from_residual.result c.from_residual.ensures.1 in
    rw (p.1, p.2) (steps.specs_refused (specs_of c.args.specs.now) (spec_of (out-Specs c.args.specs.now).first) (map spec_of (out-Specs c.args.specs.now).others.items) (context_of c.args.context) (known_of c.args.checker.now) c.in_err-words.field-0.0 (show_specs c.args.specs.now) (c.in_err-words.ensures nothing_gathered c.none.ensures))

pub specified-loop-spec-init : goal.specified-loop-spec-init
specified-loop-spec-init t c = rw c.deref-spec-items.ensures.value (steps.specs_begin (specs_of c.args.specs.now) (spec_of (out-Specs c.args.specs.now).first) (map spec_of (out-Specs c.args.specs.now).others.items) (context_of c.args.context) c.in_ok-words.words (known_of c.args.checker.now) _ (show_specs c.args.specs.now) (c.in_ok-words.ensures nothing_gathered c.none.ensures))

pub specified-returns-in_err-words-2 : goal.specified-returns-in_err-words-2
specified-returns-in_err-words-2 t c =
    let p = err_from_is_err_and c.from_residual-in_err-words-2.result c.from_residual-in_err-words-2.ensures.1 in
    rw (p.1, p.2) (steps.left_refused (steps.finish_specs (context_of c.args.context) (specs_line (specs_of c.args.specs.now))) (steps.rest_specs (map spec_of (drop c.loop-spec.spec-index c.deref-spec-items.result.now)) (context_of c.args.context)) (steps.rest_specs (map spec_of (drop (c.loop-spec.spec-index + 1) c.deref-spec-items.result.now)) (context_of c.args.context)) (spec_rule (spec_of c.spec-item.result) (context_of c.args.context)) c.loop-spec.words (known_of c.loop-spec.checker) (specified (specs_of c.args.specs.now) (context_of c.args.context) (known_of c.args.checker.now)) c.in_err-words-2.field-0.0 (steps.specs_at c.deref-spec-items.result.now c.loop-spec.spec-index c.spec-item.result (context_of c.args.context) c.loop-spec-test.true c.spec-item.is) c.loop-spec.invariant c.in_err-words-2.ensures)

pub specified-loop-spec-preserved : goal.specified-loop-spec-preserved
specified-loop-spec-preserved t c = steps.left_more (steps.finish_specs (context_of c.args.context) (specs_line (specs_of c.args.specs.now))) (steps.rest_specs (map spec_of (drop c.loop-spec.spec-index c.deref-spec-items.result.now)) (context_of c.args.context)) (steps.rest_specs (map spec_of (drop (c.loop-spec.spec-index + 1) c.deref-spec-items.result.now)) (context_of c.args.context)) (spec_rule (spec_of c.spec-item.result) (context_of c.args.context)) c.loop-spec.words c.in_ok-words-2.words (known_of c.loop-spec.checker) _ (specified (specs_of c.args.specs.now) (context_of c.args.context) (known_of c.args.checker.now)) (steps.specs_at c.deref-spec-items.result.now c.loop-spec.spec-index c.spec-item.result (context_of c.args.context) c.loop-spec-test.true c.spec-item.is) c.loop-spec.invariant c.in_ok-words-2.ensures

pub specified-returns : goal.specified-returns
specified-returns t c =
    let ends = steps.left_ends (steps.finish_specs (context_of c.args.context) (specs_line (specs_of c.args.specs.now))) (steps.rest_specs (map spec_of (drop c.loop-spec.spec-index c.deref-spec-items.result.now)) (context_of c.args.context)) c.loop-spec.words (known_of c.loop-spec.checker) (specified (specs_of c.args.specs.now) (context_of c.args.context) (known_of c.args.checker.now)) (steps.specs_end c.deref-spec-items.result.now c.loop-spec.spec-index (context_of c.args.context) c.loop-spec-test.false) c.loop-spec.invariant in
    rw ends (rw c.specs_line.ensures at (c.finished.ensures c.loop-spec.invariant.gathered (known_of c.loop-spec.checker) c.loop-spec.invariant.kept (c.is_file-in_file.ensures (known_of c.loop-spec.checker))))

pub specifier-returns-in-Word : goal.specifier-returns-in-Word
specifier-returns-in-Word t c g e = steps.word_given (spec_of c.args.spec.now) c.in-Word.word (context_of c.args.context) g c.args.words c.with_word.result (known_of c.args.checker.now) (rw c.in-Word.is (show_spec_word c.in-Word.word)) c.with_word.ensures e

pub specifier-returns-in_err-structure-in-Reference : goal.specifier-returns-in_err-structure-in-Reference
specifier-returns-in_err-structure-in-Reference t c g e =
    let p = err_from_is_err_and c.from_residual-in_err-structure-in-Reference.result c.from_residual-in_err-structure-in-Reference.ensures.1 in
    rw (p.1, p.2) (steps.tag_refused (spec_of c.args.spec.now) c.in-Reference.keyword (named c.in-Reference.tag) (context_of c.args.context) g (known_of c.args.checker.now) c.in_err-structure-in-Reference.field-0.0 (rw c.in-Reference.is (show_spec_reference c.in-Reference.keyword c.in-Reference.tag)) (rw c.deref.ensures.value at (c.in_err-structure-in-Reference.ensures (known_of c.args.checker.now))))

pub specifier-returns-in_ok-structure-in-Reference : goal.specifier-returns-in_ok-structure-in-Reference
specifier-returns-in_ok-structure-in-Reference t c g e = steps.tag_given (spec_of c.args.spec.now) c.in-Reference.keyword (named c.in-Reference.tag) (context_of c.args.context) g c.in_ok-structure-in-Reference.structure c.args.words c.with_base-in-Reference.result (known_of c.args.checker.now) _ (rw c.in-Reference.is (show_spec_reference c.in-Reference.keyword c.in-Reference.tag)) (rw c.deref.ensures.value at (c.in_ok-structure-in-Reference.ensures (known_of c.args.checker.now))) c.with_base-in-Reference.ensures e

pub specifier-returns-in_err-structure-in-Body : goal.specifier-returns-in_err-structure-in-Body
specifier-returns-in_err-structure-in-Body t c g e =
    let p = err_from_is_err_and c.from_residual-in_err-structure-in-Body.result c.from_residual-in_err-structure-in-Body.ensures.1 in
    rw (p.1, p.2) (steps.body_unopened (spec_of c.args.spec.now) (out-StructBody c.in-Body.body.value).keyword (spell_tag (out-StructBody c.in-Body.body.value).tag) (out-StructBody c.in-Body.body.value).opening (member_of (out-StructBody c.in-Body.body.value).first) (more_members (map member_of (out-StructBody c.in-Body.body.value).others.items)) (out-StructBody c.in-Body.body.value).closing (context_of c.args.context) g (known_of c.args.checker.now) c.in_err-structure-in-Body.field-0.0 (rw (c.in-Body.is, show_spec_body c.in-Body.body) (show_struct_body c.in-Body.body.value)) (rw (c.deref-in-Body.ensures, c.deref-in-Body-2.ensures) at (c.in_err-structure-in-Body.ensures (known_of c.args.checker.now))))

pub specifier-returns-in_err-structure_body-in-Body : goal.specifier-returns-in_err-structure_body-in-Body
specifier-returns-in_err-structure_body-in-Body t c g e =
    let p = err_from_is_err_and c.from_residual-in_err-structure_body-in-Body.result c.from_residual-in_err-structure_body-in-Body.ensures.1 in
    rw (p.1, p.2) (steps.body_unclosed (spec_of c.args.spec.now) (out-StructBody c.in-Body.body.value).keyword (spell_tag (out-StructBody c.in-Body.body.value).tag) (out-StructBody c.in-Body.body.value).opening (member_of (out-StructBody c.in-Body.body.value).first) (more_members (map member_of (out-StructBody c.in-Body.body.value).others.items)) (out-StructBody c.in-Body.body.value).closing c.in_ok-structure-in-Body.structure (context_of c.args.context) g (known_of c.args.checker.now) _ c.in_err-structure_body-in-Body.field-0.0 (rw (c.in-Body.is, show_spec_body c.in-Body.body) (show_struct_body c.in-Body.body.value)) (rw (c.deref-in-Body.ensures, c.deref-in-Body-2.ensures) at (c.in_ok-structure-in-Body.ensures (known_of c.args.checker.now))) (rw (c.in-Body.is, show_spec_body c.in-Body.body) (rw c.deref-in-Body-3.ensures at c.in_err-structure_body-in-Body.ensures)))

pub specifier-returns-in_ok-structure_body-in-Body : goal.specifier-returns-in_ok-structure_body-in-Body
specifier-returns-in_ok-structure_body-in-Body t c g e = steps.body_given (spec_of c.args.spec.now) (out-StructBody c.in-Body.body.value).keyword (spell_tag (out-StructBody c.in-Body.body.value).tag) (out-StructBody c.in-Body.body.value).opening (member_of (out-StructBody c.in-Body.body.value).first) (more_members (map member_of (out-StructBody c.in-Body.body.value).others.items)) (out-StructBody c.in-Body.body.value).closing c.in_ok-structure-in-Body.structure (context_of c.args.context) g c.args.words c.with_base-in-Body.result (known_of c.args.checker.now) _ _ (rw (c.in-Body.is, show_spec_body c.in-Body.body) (show_struct_body c.in-Body.body.value)) (rw (c.deref-in-Body.ensures, c.deref-in-Body-2.ensures) at (c.in_ok-structure-in-Body.ensures (known_of c.args.checker.now))) (rw (c.in-Body.is, show_spec_body c.in-Body.body) (rw c.deref-in-Body-3.ensures at c.in_ok-structure_body-in-Body.ensures)) c.with_base-in-Body.ensures e

pub specifier-returns-in_err-base-in-TypeName : goal.specifier-returns-in_err-base-in-TypeName
specifier-returns-in_err-base-in-TypeName t c g e =
    let p = err_from_is_err_and c.from_residual.result c.from_residual.ensures.1 in
    let known = known_of c.args.checker.now in
    rw (p.1, p.2, c.in-TypeName.is, show_spec_type_name c.in-TypeName.name, steps.named_type_given (type_named c.in-TypeName.name) (context_of c.args.context) g known) (steps.base_refused (wanted kind.Name c.in-TypeName.name.line (named_base (meaning_of known c.in-TypeName.name.bytes.items)) known) g c.in_err-base-in-TypeName.field-0.0 (c.in_err-base-in-TypeName.ensures known))

pub specifier-returns-in_ok-base-in-TypeName : goal.specifier-returns-in_ok-base-in-TypeName
specifier-returns-in_ok-base-in-TypeName t c g e =
    let known = known_of c.args.checker.now in
    rw (c.in-TypeName.is, show_spec_type_name c.in-TypeName.name, steps.named_type_given (type_named c.in-TypeName.name) (context_of c.args.context) g known) (steps.base_given (wanted kind.Name c.in-TypeName.name.line (named_base (meaning_of known c.in-TypeName.name.bytes.items)) known) g c.in_ok-base-in-TypeName.base c.args.words c.with_base.result known (c.in_ok-base-in-TypeName.ensures known) c.with_base.ensures e)

pub specifier-returns-in_err-base-in-EnumReference : goal.specifier-returns-in_err-base-in-EnumReference
specifier-returns-in_err-base-in-EnumReference t c g e =
    let p = err_from_is_err_and c.from_residual-in_err-base-in-EnumReference.result c.from_residual-in_err-base-in-EnumReference.ensures.1 in
    let known = known_of c.args.checker.now in
    rw (p.1, p.2, c.in-EnumReference.is, show_spec_enum_reference c.in-EnumReference.keyword c.in-EnumReference.tag, steps.enum_tagged_given c.in-EnumReference.keyword (named c.in-EnumReference.tag) (context_of c.args.context) g known) (steps.base_refused (enum_of (tagged known c.in-EnumReference.tag.bytes.items) c.in-EnumReference.keyword known) g c.in_err-base-in-EnumReference.field-0.0 (c.in_err-base-in-EnumReference.ensures known))

pub specifier-returns-in_ok-base-in-EnumReference : goal.specifier-returns-in_ok-base-in-EnumReference
specifier-returns-in_ok-base-in-EnumReference t c g e =
    let known = known_of c.args.checker.now in
    rw (c.in-EnumReference.is, show_spec_enum_reference c.in-EnumReference.keyword c.in-EnumReference.tag, steps.enum_tagged_given c.in-EnumReference.keyword (named c.in-EnumReference.tag) (context_of c.args.context) g known) (steps.base_given (enum_of (tagged known c.in-EnumReference.tag.bytes.items) c.in-EnumReference.keyword known) g c.in_ok-base-in-EnumReference.base c.args.words c.with_base-in-EnumReference.result known (c.in_ok-base-in-EnumReference.ensures known) c.with_base-in-EnumReference.ensures e)

pub specifier-returns-in_err-enumeration-in-EnumBody : goal.specifier-returns-in_err-enumeration-in-EnumBody
specifier-returns-in_err-enumeration-in-EnumBody t c g e =
    let p = err_from_is_err_and c.from_residual-in_err-enumeration-in-EnumBody.result c.from_residual-in_err-enumeration-in-EnumBody.ensures.1 in
    let body = c.in-EnumBody.body.value in
    rw (p.1, p.2) (steps.enum_refused (spec_of c.args.spec.now) (out-EnumBody body).keyword (spell_tag (out-EnumBody body).tag) (out-EnumBody body).opening (enumerator_of (out-EnumBody body).first) (more_enumerators (map next_enumerator_of (out-EnumBody body).others.items)) (out-EnumBody body).last_comma (out-EnumBody body).closing (context_of c.args.context) g (known_of c.args.checker.now) c.in_err-enumeration-in-EnumBody.field-0.0 (rw (c.in-EnumBody.is, show_spec_enum_body c.in-EnumBody.body) (show_enum_body body)) (rw (c.in-EnumBody.is, show_spec_enum_body c.in-EnumBody.body) (rw c.deref-in-EnumBody.ensures at c.in_err-enumeration-in-EnumBody.ensures)))

pub specifier-returns-in_ok-enumeration-in-EnumBody : goal.specifier-returns-in_ok-enumeration-in-EnumBody
specifier-returns-in_ok-enumeration-in-EnumBody t c g e =
    let body = c.in-EnumBody.body.value in
    steps.enum_given (spec_of c.args.spec.now) (out-EnumBody body).keyword (spell_tag (out-EnumBody body).tag) (out-EnumBody body).opening (enumerator_of (out-EnumBody body).first) (more_enumerators (map next_enumerator_of (out-EnumBody body).others.items)) (out-EnumBody body).last_comma (out-EnumBody body).closing (context_of c.args.context) g c.args.words c.with_base-in-EnumBody.result (known_of c.args.checker.now) _ (rw (c.in-EnumBody.is, show_spec_enum_body c.in-EnumBody.body) (show_enum_body body)) (rw (c.in-EnumBody.is, show_spec_enum_body c.in-EnumBody.body) (rw c.deref-in-EnumBody.ensures at c.in_ok-enumeration-in-EnumBody.ensures)) c.with_base-in-EnumBody.ensures e

pub structure_body-returns-in_err-members : goal.structure_body-returns-in_err-members
structure_body-returns-in_err-members t c =
    let p = err_from_is_err_and c.from_residual.result c.from_residual.ensures.1 in
    rw (p.1, p.2) (steps.body_refused (struct_body_of c.args.body.now) (out-StructBody c.args.body.now).keyword (spell_tag (out-StructBody c.args.body.now).tag) (out-StructBody c.args.body.now).opening (member_of (out-StructBody c.args.body.now).first) (map member_of (out-StructBody c.args.body.now).others.items) (out-StructBody c.args.body.now).closing c.args.structure (known_of c.args.checker.now) c.in_err-members.field-0.0 (show_struct_body c.args.body.now) c.in_err-members.ensures)

pub structure_body-loop-member-init : goal.structure_body-loop-member-init
structure_body-loop-member-init t c = rw c.deref-member-items.ensures.value (steps.body_begin (struct_body_of c.args.body.now) (out-StructBody c.args.body.now).keyword (spell_tag (out-StructBody c.args.body.now).tag) (out-StructBody c.args.body.now).opening (member_of (out-StructBody c.args.body.now).first) (map member_of (out-StructBody c.args.body.now).others.items) (out-StructBody c.args.body.now).closing c.args.structure (known_of c.args.checker.now) _ (show_struct_body c.args.body.now) c.in_ok-members.ensures)

pub structure_body-returns-in_err-members-2 : goal.structure_body-returns-in_err-members-2
structure_body-returns-in_err-members-2 t c =
    let p = err_from_is_err_and c.from_residual-in_err-members-2.result c.from_residual-in_err-members-2.ensures.1 in
    rw (p.1, p.2) (steps.members_refused c.deref-member-items.result.now c.loop-member.member-index c.member-item.result c.args.structure (body_rule (struct_body_of c.args.body.now) c.args.structure (known_of c.args.checker.now)) (known_of c.loop-member.checker) c.in_err-members-2.field-0.0 c.loop-member-test.true c.member-item.is c.loop-member.invariant c.in_err-members-2.ensures)

pub structure_body-loop-member-preserved : goal.structure_body-loop-member-preserved
structure_body-loop-member-preserved t c = steps.members_more c.deref-member-items.result.now c.loop-member.member-index c.member-item.result c.args.structure (body_rule (struct_body_of c.args.body.now) c.args.structure (known_of c.args.checker.now)) (known_of c.loop-member.checker) _ c.loop-member-test.true c.member-item.is c.loop-member.invariant c.in_ok-members-2.ensures

pub structure_body-returns : goal.structure_body-returns
structure_body-returns t c = steps.members_end c.deref-member-items.result.now c.loop-member.member-index c.args.structure (body_rule (struct_body_of c.args.body.now) c.args.structure (known_of c.args.checker.now)) (known_of c.loop-member.checker) _ c.loop-member-test.false c.loop-member.invariant (c.set_progress.ensures (known_of c.loop-member.checker))

pub suffixes-loop-suffix-init : goal.suffixes-loop-suffix-init
suffixes-loop-suffix-init t c = steps.suffixes_begin c.args.suffixes.now c.args.bodies (map made_of c.new-made.result.items) (known_of c.args.checker.now) (ap (map made_of) c.new-made.ensures.items)

pub suffixes-returns-in_err-suffix : goal.suffixes-returns-in_err-suffix
suffixes-returns-in_err-suffix t c =
    let p = err_from_is_err_and c.from_residual.result c.from_residual.ensures.1 in
    rw (p.1, p.2) (steps.suffixes_refused c.args.suffixes.now c.loop-suffix.suffix-index c.suffix-item.result c.args.bodies (map made_of c.loop-suffix.made.items) (steps.rest_suffixes (map suffix_of c.args.suffixes.now) c.args.bodies (known_of c.args.checker.now)) (known_of c.loop-suffix.checker) c.in_err-suffix.field-0.0 c.loop-suffix-test.true c.suffix-item.is c.loop-suffix.invariant c.in_err-suffix.ensures)

pub suffixes-loop-suffix-preserved : goal.suffixes-loop-suffix-preserved
suffixes-loop-suffix-preserved t c = steps.suffixes_more c.args.suffixes.now c.loop-suffix.suffix-index c.suffix-item.result c.args.bodies (map made_of c.loop-suffix.made.items) (map made_of c.push.new.self.items) _ (steps.rest_suffixes (map suffix_of c.args.suffixes.now) c.args.bodies (known_of c.args.checker.now)) (known_of c.loop-suffix.checker) _ c.loop-suffix-test.true c.suffix-item.is (ap (map made_of) c.in_ok-push.ensures.items ∙ map-append made_of c.loop-suffix.made.items (_ ∷ [])) c.loop-suffix.invariant c.in_ok-suffix.ensures

pub suffixes-returns : goal.suffixes-returns
suffixes-returns t c = steps.suffixes_end c.args.suffixes.now c.loop-suffix.suffix-index c.args.bodies (map made_of c.loop-suffix.made.items) (steps.rest_suffixes (map suffix_of c.args.suffixes.now) c.args.bodies (known_of c.args.checker.now)) (known_of c.loop-suffix.checker) c.loop-suffix-test.false c.loop-suffix.invariant

pub params-returns-in_err-param : goal.params-returns-in_err-param
params-returns-in_err-param t c =
    let p = err_from_is_err_and c.from_residual.result c.from_residual.ensures.1 in
    rw (p.1, p.2) (steps.params_refused c.args.others.now c.loop-next.next-index c.next-item.result c.next-item.result.0 (param_of c.next-item.result.1) c.args.bodies (map views.param_of c.loop-next.list.params.items) (steps.rest_params (map next_param_of c.args.others.now) c.args.bodies (map views.param_of c.args.list.now.params.items) (known_of c.args.checker.now)) (known_of c.loop-next.checker) c.in_err-param.field-0.0 c.loop-next-test.true c.next-item.is refl c.loop-next.invariant c.in_err-param.ensures)

pub params-loop-next-preserved : goal.params-loop-next-preserved
params-loop-next-preserved t c = steps.params_more c.args.others.now c.loop-next.next-index c.next-item.result c.next-item.result.0 (param_of c.next-item.result.1) c.args.bodies (map views.param_of c.loop-next.list.params.items) _ (steps.rest_params (map next_param_of c.args.others.now) c.args.bodies (map views.param_of c.args.list.now.params.items) (known_of c.args.checker.now)) (known_of c.loop-next.checker) _ c.loop-next-test.true c.next-item.is refl c.loop-next.invariant c.in_ok-param.ensures

pub params-returns : goal.params-returns
params-returns t c = steps.params_end c.args.others.now c.loop-next.next-index c.args.bodies (map views.param_of c.loop-next.list.params.items) (steps.rest_params (map next_param_of c.args.others.now) c.args.bodies (map views.param_of c.args.list.now.params.items) (known_of c.args.checker.now)) (known_of c.loop-next.checker) c.loop-next-test.false c.loop-next.invariant

pub suffix-returns-in_ok-array_length-in-Some : goal.suffix-returns-in_ok-array_length-in-Some
suffix-returns-in_ok-array_length-in-Some t c = rw (c.in-Array.is, c.in-Some.is, show_suffix_array c.in-Array.opening c.in-Some.length c.in-Array.closing) (steps.suffix_sized c.in-Array.opening (cond_of c.in-Some.length.value) c.in-Array.closing _ c.args.bodies (known_of c.args.checker.now) _ (rw c.deref.ensures at c.in_ok-array_length-in-Some.ensures))

pub suffix-returns-in_err-array_length-in-Some : goal.suffix-returns-in_err-array_length-in-Some
suffix-returns-in_err-array_length-in-Some t c =
    let p = err_from_is_err_and c.from_residual.result c.from_residual.ensures.1 in
    rw (p.1, p.2, c.in-Array.is, c.in-Some.is, show_suffix_array c.in-Array.opening c.in-Some.length c.in-Array.closing) (steps.suffix_unlengthed c.in-Array.opening (cond_of c.in-Some.length.value) c.in-Array.closing c.args.bodies (known_of c.args.checker.now) c.in_err-array_length-in-Some.field-0.0 (rw c.deref.ensures at c.in_err-array_length-in-Some.ensures))

pub suffix-returns-in-None : goal.suffix-returns-in-None
suffix-returns-in-None t c = rw (c.in-Array.is, c.in-None.is, show_suffix_array_unsized c.in-Array.opening c.in-Array.closing) (steps.suffix_unsized c.in-Array.opening c.in-Array.closing c.args.bodies (known_of c.args.checker.now))

pub suffix-returns-in_err-enter_list-in-Params : goal.suffix-returns-in_err-enter_list-in-Params
suffix-returns-in_err-enter_list-in-Params t c =
    let p = err_from_is_err_and c.from_residual-in_err-enter_list-in-Params.result c.from_residual-in_err-enter_list-in-Params.ensures.1 in
    rw (p.1, p.2, c.in-Params.is, show_suffix_params c.in-Params.opening c.in-Params.first c.in-Params.others c.in-Params.closing) (steps.params_closed c.in-Params.opening (param_of c.in-Params.first.value) (more_params (map next_param_of c.in-Params.others.items)) c.in-Params.closing c.args.bodies (known_of c.args.checker.now) c.in_err-enter_list-in-Params.field-0.0 (c.in_err-enter_list-in-Params.ensures (known_of c.args.checker.now)))

pub suffix-returns-in_err-param-in-Params : goal.suffix-returns-in_err-param-in-Params
suffix-returns-in_err-param-in-Params t c =
    let p = err_from_is_err_and c.from_residual-in_err-param-in-Params.result c.from_residual-in_err-param-in-Params.ensures.1 in
    rw (p.1, p.2, c.in-Params.is, show_suffix_params c.in-Params.opening c.in-Params.first c.in-Params.others c.in-Params.closing) (steps.params_first c.in-Params.opening (param_of c.in-Params.first.value) (more_params (map next_param_of c.in-Params.others.items)) c.in-Params.closing c.args.bodies (known_of c.args.checker.now) _ c.in_err-param-in-Params.field-0.0 (c.in_ok-enter_list-in-Params.ensures (known_of c.args.checker.now)) (rw (c.new-list.ensures.params, c.deref-in-Params.ensures) at c.in_err-param-in-Params.ensures))

pub suffix-returns-in_err-params-in-Params : goal.suffix-returns-in_err-params-in-Params
suffix-returns-in_err-params-in-Params t c =
    let p = err_from_is_err_and c.from_residual-in_err-params-in-Params.result c.from_residual-in_err-params-in-Params.ensures.1 in
    rw (p.1, p.2, c.in-Params.is, show_suffix_params c.in-Params.opening c.in-Params.first c.in-Params.others c.in-Params.closing) (steps.params_others c.in-Params.opening (param_of c.in-Params.first.value) (more_params (map next_param_of c.in-Params.others.items)) c.in-Params.closing c.args.bodies _ (known_of c.args.checker.now) _ _ c.in_err-params-in-Params.field-0.0 (c.in_ok-enter_list-in-Params.ensures (known_of c.args.checker.now)) (rw (c.new-list.ensures.params, c.deref-in-Params.ensures) at c.in_ok-param-in-Params.ensures) (rw c.deref-in-Params-2.ensures.value at c.in_err-params-in-Params.ensures))

pub suffix-returns-in_ok-params-in-Params : goal.suffix-returns-in_ok-params-in-Params
suffix-returns-in_ok-params-in-Params t c = rw (c.in-Params.is, show_suffix_params c.in-Params.opening c.in-Params.first c.in-Params.others c.in-Params.closing) (steps.params_whole c.in-Params.opening (param_of c.in-Params.first.value) (more_params (map next_param_of c.in-Params.others.items)) c.in-Params.closing c.args.bodies _ _ _ (known_of c.args.checker.now) _ _ _ _ (c.in_ok-enter_list-in-Params.ensures (known_of c.args.checker.now)) (rw (c.new-list.ensures.params, c.deref-in-Params.ensures) at c.in_ok-param-in-Params.ensures) (rw c.deref-in-Params-2.ensures.value at c.in_ok-params-in-Params.ensures) (c.leave_list.ensures (known_of c.params.new.checker)))

pub param-returns-in_err-specified-in-Named : goal.param-returns-in_err-specified-in-Named
param-returns-in_err-specified-in-Named t c =
    let p = err_from_is_err_and c.from_residual.result c.from_residual.ensures.1 in
    rw (p.1, p.2, c.in-Named.is, show_param_named c.in-Named.specs c.in-Named.declarator, show_declarator c.in-Named.declarator, steps.param_named (specs_of c.in-Named.specs) (spell_pointers (out-Declarator c.in-Named.declarator).pointers.items) (named (out-Declarator c.in-Named.declarator).name) (suffixes_of (map suffix_of (out-Declarator c.in-Named.declarator).suffixes.items)) c.args.bodies (map views.param_of c.args.list.now.params.items) (known_of c.args.checker.now)) (steps.param_unsaid (steps.named_shape (specs_of c.in-Named.specs) (spell_pointers (out-Declarator c.in-Named.declarator).pointers.items) (named (out-Declarator c.in-Named.declarator).name) (suffixes_of (map suffix_of (out-Declarator c.in-Named.declarator).suffixes.items))) c.args.bodies (map views.param_of c.args.list.now.params.items) (known_of c.args.checker.now) c.in_err-specified-in-Named.field-0.0 (rw c.param_context.ensures at c.in_err-specified-in-Named.ensures))

pub param-returns-in_err-base-in-Named : goal.param-returns-in_err-base-in-Named
param-returns-in_err-base-in-Named t c =
    let p = err_from_is_err_and c.from_residual-in_err-base-in-Named.result c.from_residual-in_err-base-in-Named.ensures.1 in
    rw (p.1, p.2, c.in-Named.is, show_param_named c.in-Named.specs c.in-Named.declarator, show_declarator c.in-Named.declarator, steps.param_named (specs_of c.in-Named.specs) (spell_pointers (out-Declarator c.in-Named.declarator).pointers.items) (named (out-Declarator c.in-Named.declarator).name) (suffixes_of (map suffix_of (out-Declarator c.in-Named.declarator).suffixes.items)) c.args.bodies (map views.param_of c.args.list.now.params.items) (known_of c.args.checker.now)) (steps.param_unpointed (steps.named_shape (specs_of c.in-Named.specs) (spell_pointers (out-Declarator c.in-Named.declarator).pointers.items) (named (out-Declarator c.in-Named.declarator).name) (suffixes_of (map suffix_of (out-Declarator c.in-Named.declarator).suffixes.items))) c.args.bodies (map views.param_of c.args.list.now.params.items) (specified_of c.in_ok-specified-in-Named.specified) (known_of c.args.checker.now) _ c.in_err-base-in-Named.field-0.0 (rw c.param_context.ensures at c.in_ok-specified-in-Named.ensures) (rw c.deref.ensures.value at c.in_err-base-in-Named.ensures))

pub param-returns-in_err-made-in-Named : goal.param-returns-in_err-made-in-Named
param-returns-in_err-made-in-Named t c =
    let p = err_from_is_err_and c.from_residual-in_err-made-in-Named.result c.from_residual-in_err-made-in-Named.ensures.1 in
    rw (p.1, p.2, c.in-Named.is, show_param_named c.in-Named.specs c.in-Named.declarator, show_declarator c.in-Named.declarator, steps.param_named (specs_of c.in-Named.specs) (spell_pointers (out-Declarator c.in-Named.declarator).pointers.items) (named (out-Declarator c.in-Named.declarator).name) (suffixes_of (map suffix_of (out-Declarator c.in-Named.declarator).suffixes.items)) c.args.bodies (map views.param_of c.args.list.now.params.items) (known_of c.args.checker.now)) (steps.param_unmade (steps.named_shape (specs_of c.in-Named.specs) (spell_pointers (out-Declarator c.in-Named.declarator).pointers.items) (named (out-Declarator c.in-Named.declarator).name) (suffixes_of (map suffix_of (out-Declarator c.in-Named.declarator).suffixes.items))) c.args.bodies (map views.param_of c.args.list.now.params.items) (specified_of c.in_ok-specified-in-Named.specified) c.in_ok-base-in-Named.base (known_of c.args.checker.now) _ _ c.in_err-made-in-Named.field-0.0 (rw c.param_context.ensures at c.in_ok-specified-in-Named.ensures) (rw c.deref.ensures.value at c.in_ok-base-in-Named.ensures) (rw c.deref-in-Named.ensures.value at c.in_err-made-in-Named.ensures))

pub param-returns-in_err-outline-in-Named : goal.param-returns-in_err-outline-in-Named
param-returns-in_err-outline-in-Named t c =
    let p = err_from_is_err_and c.from_residual-in_err-outline-in-Named.result c.from_residual-in_err-outline-in-Named.ensures.1 in
    rw (p.1, p.2, c.in-Named.is, show_param_named c.in-Named.specs c.in-Named.declarator, show_declarator c.in-Named.declarator, steps.param_named (specs_of c.in-Named.specs) (spell_pointers (out-Declarator c.in-Named.declarator).pointers.items) (named (out-Declarator c.in-Named.declarator).name) (suffixes_of (map suffix_of (out-Declarator c.in-Named.declarator).suffixes.items)) c.args.bodies (map views.param_of c.args.list.now.params.items) (known_of c.args.checker.now)) (steps.param_unlined (steps.named_shape (specs_of c.in-Named.specs) (spell_pointers (out-Declarator c.in-Named.declarator).pointers.items) (named (out-Declarator c.in-Named.declarator).name) (suffixes_of (map suffix_of (out-Declarator c.in-Named.declarator).suffixes.items))) c.args.bodies (map views.param_of c.args.list.now.params.items) (specified_of c.in_ok-specified-in-Named.specified) c.in_ok-base-in-Named.base (map made_of c.in_ok-made-in-Named.made.items) (known_of c.args.checker.now) _ _ _ c.in_err-outline-in-Named.field-0.0 (rw c.param_context.ensures at c.in_ok-specified-in-Named.ensures) (rw c.deref.ensures.value at c.in_ok-base-in-Named.ensures) (rw c.deref-in-Named.ensures.value at c.in_ok-made-in-Named.ensures) (rw c.object-object.ensures at (c.in_err-outline-in-Named.ensures (known_of c.suffixes.new.checker))))

pub param-returns-in_ok-outline-in-Named : goal.param-returns-in_ok-outline-in-Named
param-returns-in_ok-outline-in-Named t c = rw (c.in-Named.is, show_param_named c.in-Named.specs c.in-Named.declarator, show_declarator c.in-Named.declarator, steps.param_named (specs_of c.in-Named.specs) (spell_pointers (out-Declarator c.in-Named.declarator).pointers.items) (named (out-Declarator c.in-Named.declarator).name) (suffixes_of (map suffix_of (out-Declarator c.in-Named.declarator).suffixes.items)) c.args.bodies (map views.param_of c.args.list.now.params.items) (known_of c.args.checker.now), steps.param_whole (steps.named_shape (specs_of c.in-Named.specs) (spell_pointers (out-Declarator c.in-Named.declarator).pointers.items) (named (out-Declarator c.in-Named.declarator).name) (suffixes_of (map suffix_of (out-Declarator c.in-Named.declarator).suffixes.items))) c.args.bodies (map views.param_of c.args.list.now.params.items) (specified_of c.in_ok-specified-in-Named.specified) c.in_ok-base-in-Named.base (map made_of c.in_ok-made-in-Named.made.items) (outline_of c.in_ok-outline-in-Named.outline) (known_of c.args.checker.now) _ _ _ (known_of (record c.suffixes.new.checker { types = c.param_outlined.new.types })) (rw c.param_context.ensures at c.in_ok-specified-in-Named.ensures) (rw c.deref.ensures.value at c.in_ok-base-in-Named.ensures) (rw c.deref-in-Named.ensures.value at c.in_ok-made-in-Named.ensures) (rw c.object-object.ensures at (c.in_ok-outline-in-Named.ensures (known_of c.suffixes.new.checker)))) (rw (c.deref-in-Named-2.ensures.value, c.declarator_line-line.ensures, show_declarator c.in-Named.declarator) at c.add_param.ensures)

pub param-returns-in_err-specified-in-Unnamed : goal.param-returns-in_err-specified-in-Unnamed
param-returns-in_err-specified-in-Unnamed t c =
    let p = err_from_is_err_and c.from_residual-in_err-specified-in-Unnamed.result c.from_residual-in_err-specified-in-Unnamed.ensures.1 in
    rw (p.1, p.2, c.in-Unnamed.is, show_param_unnamed c.in-Unnamed.specs c.in-Unnamed.pointers c.in-Unnamed.suffixes, steps.param_unnamed (specs_of c.in-Unnamed.specs) (spell_pointers c.in-Unnamed.pointers.items) (suffixes_of (map suffix_of c.in-Unnamed.suffixes.items)) c.args.bodies (map views.param_of c.args.list.now.params.items) (known_of c.args.checker.now)) (steps.param_unsaid (steps.unnamed_shape (specs_of c.in-Unnamed.specs) (spell_pointers c.in-Unnamed.pointers.items) (suffixes_of (map suffix_of c.in-Unnamed.suffixes.items))) c.args.bodies (map views.param_of c.args.list.now.params.items) (known_of c.args.checker.now) c.in_err-specified-in-Unnamed.field-0.0 (rw c.param_context-in-Unnamed.ensures at c.in_err-specified-in-Unnamed.ensures))

pub param-returns-in_err-base-in-Unnamed : goal.param-returns-in_err-base-in-Unnamed
param-returns-in_err-base-in-Unnamed t c =
    let p = err_from_is_err_and c.from_residual-in_err-base-in-Unnamed.result c.from_residual-in_err-base-in-Unnamed.ensures.1 in
    rw (p.1, p.2, c.in-Unnamed.is, show_param_unnamed c.in-Unnamed.specs c.in-Unnamed.pointers c.in-Unnamed.suffixes, steps.param_unnamed (specs_of c.in-Unnamed.specs) (spell_pointers c.in-Unnamed.pointers.items) (suffixes_of (map suffix_of c.in-Unnamed.suffixes.items)) c.args.bodies (map views.param_of c.args.list.now.params.items) (known_of c.args.checker.now)) (steps.param_unpointed (steps.unnamed_shape (specs_of c.in-Unnamed.specs) (spell_pointers c.in-Unnamed.pointers.items) (suffixes_of (map suffix_of c.in-Unnamed.suffixes.items))) c.args.bodies (map views.param_of c.args.list.now.params.items) (specified_of c.in_ok-specified-in-Unnamed.specified) (known_of c.args.checker.now) _ c.in_err-base-in-Unnamed.field-0.0 (rw c.param_context-in-Unnamed.ensures at c.in_ok-specified-in-Unnamed.ensures) (rw c.deref-in-Unnamed.ensures.value at c.in_err-base-in-Unnamed.ensures))

pub param-returns-in_err-made-in-Unnamed : goal.param-returns-in_err-made-in-Unnamed
param-returns-in_err-made-in-Unnamed t c =
    let p = err_from_is_err_and c.from_residual-in_err-made-in-Unnamed.result c.from_residual-in_err-made-in-Unnamed.ensures.1 in
    rw (p.1, p.2, c.in-Unnamed.is, show_param_unnamed c.in-Unnamed.specs c.in-Unnamed.pointers c.in-Unnamed.suffixes, steps.param_unnamed (specs_of c.in-Unnamed.specs) (spell_pointers c.in-Unnamed.pointers.items) (suffixes_of (map suffix_of c.in-Unnamed.suffixes.items)) c.args.bodies (map views.param_of c.args.list.now.params.items) (known_of c.args.checker.now)) (steps.param_unmade (steps.unnamed_shape (specs_of c.in-Unnamed.specs) (spell_pointers c.in-Unnamed.pointers.items) (suffixes_of (map suffix_of c.in-Unnamed.suffixes.items))) c.args.bodies (map views.param_of c.args.list.now.params.items) (specified_of c.in_ok-specified-in-Unnamed.specified) c.in_ok-base-in-Unnamed.base (known_of c.args.checker.now) _ _ c.in_err-made-in-Unnamed.field-0.0 (rw c.param_context-in-Unnamed.ensures at c.in_ok-specified-in-Unnamed.ensures) (rw c.deref-in-Unnamed.ensures.value at c.in_ok-base-in-Unnamed.ensures) (rw c.deref-in-Unnamed-2.ensures.value at c.in_err-made-in-Unnamed.ensures))

pub param-returns-in_err-outline-in-Unnamed : goal.param-returns-in_err-outline-in-Unnamed
param-returns-in_err-outline-in-Unnamed t c =
    let p = err_from_is_err_and c.from_residual-in_err-outline-in-Unnamed.result c.from_residual-in_err-outline-in-Unnamed.ensures.1 in
    rw (p.1, p.2, c.in-Unnamed.is, show_param_unnamed c.in-Unnamed.specs c.in-Unnamed.pointers c.in-Unnamed.suffixes, steps.param_unnamed (specs_of c.in-Unnamed.specs) (spell_pointers c.in-Unnamed.pointers.items) (suffixes_of (map suffix_of c.in-Unnamed.suffixes.items)) c.args.bodies (map views.param_of c.args.list.now.params.items) (known_of c.args.checker.now)) (steps.param_unlined (steps.unnamed_shape (specs_of c.in-Unnamed.specs) (spell_pointers c.in-Unnamed.pointers.items) (suffixes_of (map suffix_of c.in-Unnamed.suffixes.items))) c.args.bodies (map views.param_of c.args.list.now.params.items) (specified_of c.in_ok-specified-in-Unnamed.specified) c.in_ok-base-in-Unnamed.base (map made_of c.in_ok-made-in-Unnamed.made.items) (known_of c.args.checker.now) _ _ _ c.in_err-outline-in-Unnamed.field-0.0 (rw c.param_context-in-Unnamed.ensures at c.in_ok-specified-in-Unnamed.ensures) (rw c.deref-in-Unnamed.ensures.value at c.in_ok-base-in-Unnamed.ensures) (rw c.deref-in-Unnamed-2.ensures.value at c.in_ok-made-in-Unnamed.ensures) (rw c.object-object-in-Unnamed.ensures at (c.in_err-outline-in-Unnamed.ensures (known_of c.suffixes-in-Unnamed.new.checker))))

pub param-returns-in_ok-outline-in-Unnamed : goal.param-returns-in_ok-outline-in-Unnamed
param-returns-in_ok-outline-in-Unnamed t c = rw (c.in-Unnamed.is, show_param_unnamed c.in-Unnamed.specs c.in-Unnamed.pointers c.in-Unnamed.suffixes, steps.param_unnamed (specs_of c.in-Unnamed.specs) (spell_pointers c.in-Unnamed.pointers.items) (suffixes_of (map suffix_of c.in-Unnamed.suffixes.items)) c.args.bodies (map views.param_of c.args.list.now.params.items) (known_of c.args.checker.now), steps.param_whole (steps.unnamed_shape (specs_of c.in-Unnamed.specs) (spell_pointers c.in-Unnamed.pointers.items) (suffixes_of (map suffix_of c.in-Unnamed.suffixes.items))) c.args.bodies (map views.param_of c.args.list.now.params.items) (specified_of c.in_ok-specified-in-Unnamed.specified) c.in_ok-base-in-Unnamed.base (map made_of c.in_ok-made-in-Unnamed.made.items) (outline_of c.in_ok-outline-in-Unnamed.outline) (known_of c.args.checker.now) _ _ _ (known_of (record c.suffixes-in-Unnamed.new.checker { types = c.param_outlined-in-Unnamed.new.types })) (rw c.param_context-in-Unnamed.ensures at c.in_ok-specified-in-Unnamed.ensures) (rw c.deref-in-Unnamed.ensures.value at c.in_ok-base-in-Unnamed.ensures) (rw c.deref-in-Unnamed-2.ensures.value at c.in_ok-made-in-Unnamed.ensures) (rw c.object-object-in-Unnamed.ensures at (c.in_ok-outline-in-Unnamed.ensures (known_of c.suffixes-in-Unnamed.new.checker)))) c.add_param-in-Unnamed.ensures

pub suffix-returns-in-Empty : goal.suffix-returns-in-Empty
suffix-returns-in-Empty t c = rw (c.in-Empty.is, show_suffix_empty c.in-Empty.opening c.in-Empty.closing, c.new.ensures.params, c.new.ensures.names) (steps.suffix_empty c.in-Empty.opening c.in-Empty.closing c.args.bodies (known_of c.args.checker.now))

pub suffix-returns-in-Void : goal.suffix-returns-in-Void
suffix-returns-in-Void t c = rw (c.in-Void.is, show_suffix_void c.in-Void.opening c.in-Void.void c.in-Void.closing, c.new-in-Void.ensures.params, c.new-in-Void.ensures.names) (steps.suffix_void c.in-Void.opening c.in-Void.void c.in-Void.closing c.args.bodies (known_of c.args.checker.now))
