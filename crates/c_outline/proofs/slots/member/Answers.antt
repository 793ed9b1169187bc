use Rattle.std.proofs.Common.{slice_get}
use Rattle.type_rules.specs.Rows.{fields_of}
use Rattle.c_tables.specs.Tables.{field_of, types_in}
use Rattle.c_outline.proofs.Parting.{member_is, member_none}
use Rattle.c_outline.proofs.slots.member.Goals as goal

pub returns-in-Some : goal.returns-in-Some
returns-in-Some c = λ known. member_is (slice_get (fields_of (types_in c.args.types.now known) c.args.structure) c.args.number) (field_of c.in-Some.field) c.args.slot.offset c.behind.result (c.in-Some.ensures known) c.behind.ensures.kept

pub returns-in-None : goal.returns-in-None
returns-in-None c = λ known. member_none (slice_get (fields_of (types_in c.args.types.now known) c.args.structure) c.args.number) c.args.slot.offset (c.in-None.ensures known)
