use Rattle.std.proofs.Common.{sym, ap, ◌∙◌}
use Rattle.type_rules.specs.Rows as rows
use Rattle.c_tables.specs.Tables.{types_in}
use Rattle.c_tables.proofs.Sights.{size_read}
use Rattle.c_tables.proofs.types.Types.bytes_of.Goals as goal

pub returns-in-Some : goal.returns-in-Some
returns-in-Some c = λ known.
    size_read c.deref.result.now c.args.self.now.shapes.items c.in-Struct.number c.in-Some.shape.now c.deref.ensures.value c.in-Some.ensures.lookup.3.0 c.in-Some.ensures.lookup.1
    ∙ ap (rows.bytes_of (types_in c.args.self.now known)) (sym c.in-Struct.is)
