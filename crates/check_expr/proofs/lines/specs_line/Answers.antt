use Rattle.c_nodes.proofs.Shapes.{show_specs, show_spec_word, show_spec_reference, show_spec_body, show_struct_body, show_spec_type_name, show_spec_enum_reference, show_spec_enum_body, show_enum_body}
use Rattle.check_expr.proofs.lines.specs_line.Goals as goal

pub returns-in-Word : goal.returns-in-Word
returns-in-Word c = rw (show_specs c.args.specs.now, c.in-Word.is, show_spec_word c.in-Word.word)

pub returns-in-Reference : goal.returns-in-Reference
returns-in-Reference c = rw (show_specs c.args.specs.now, c.in-Reference.is, show_spec_reference c.in-Reference.keyword c.in-Reference.tag)

pub returns-in-Body : goal.returns-in-Body
returns-in-Body c = rw (show_specs c.args.specs.now, c.in-Body.is, show_spec_body c.in-Body.body, show_struct_body c.in-Body.body.value, c.deref.ensures)

pub returns-in-TypeName : goal.returns-in-TypeName
returns-in-TypeName c = rw (show_specs c.args.specs.now, c.in-TypeName.is, show_spec_type_name c.in-TypeName.name)

pub returns-in-EnumReference : goal.returns-in-EnumReference
returns-in-EnumReference c = rw (show_specs c.args.specs.now, c.in-EnumReference.is, show_spec_enum_reference c.in-EnumReference.keyword c.in-EnumReference.tag)

pub returns-in-EnumBody : goal.returns-in-EnumBody
returns-in-EnumBody c = rw (show_specs c.args.specs.now, c.in-EnumBody.is, show_spec_enum_body c.in-EnumBody.body, show_enum_body c.in-EnumBody.body.value, c.deref-in-EnumBody.ensures)
