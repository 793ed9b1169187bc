use Rattle.c_tables.proofs.Sights.{member_some, member_none}
use Rattle.c_tables.proofs.types.found.Goals as goal

pub returns-in-Some : goal.returns-in-Some
returns-in-Some c = member_some c.args.fields.now.entries c.args.name.now c.in-Some.index c.in-Some.field.now c.in-Some.ensures.index c.in-Some.ensures.value

pub returns-in-None : goal.returns-in-None
returns-in-None c = member_none c.args.fields.now.entries c.args.name.now c.in-None.ensures.index c.in-None.ensures.value
