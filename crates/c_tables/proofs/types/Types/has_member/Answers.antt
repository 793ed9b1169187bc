use Rattle.std.proofs.Common.{is_some, ap, ◌∙◌}
use Rattle.type_rules.specs.Names.{entry_of}
use Rattle.type_rules.specs.Rows as rows
use Rattle.c_tables.proofs.Sights.{has_entry, shape_read, shape_past}
use Rattle.c_tables.proofs.types.Types.has_member.Goals as goal

pub returns-in-Some : goal.returns-in-Some
returns-in-Some c = λ known.
    c.contains_key.ensures ∙ has_entry c.in-Some.shape.now.fields.entries c.args.name.now
    ∙ ap (λ s. is_some (entry_of (rows.fields_in s) c.args.name.now)) (shape_read c.deref.result.now c.args.self.now.shapes.items c.args.number c.in-Some.shape.now c.deref.ensures.value c.in-Some.ensures.lookup.3.0 c.in-Some.ensures.lookup.1)

pub returns-in-None : goal.returns-in-None
returns-in-None c = λ known. ap (λ s. is_some (entry_of (rows.fields_in s) c.args.name.now)) (shape_past c.deref.result.now c.args.self.now.shapes.items c.args.number c.deref.ensures.value c.in-None.ensures.lookup.3)
