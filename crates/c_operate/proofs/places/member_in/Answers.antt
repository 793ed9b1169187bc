use Rattle.std.proofs.Common.{sym, ap, ◌∙◌}
use Rattle.type_rules.specs.Places as rule
use Rattle.c_tables.specs.Tables.{types_in}
use Rattle.c_operate.proofs.places.member_in.Goals as goal

pub returns-in-Struct : goal.returns-in-Struct
returns-in-Struct c = λ known. c.member.ensures known ∙ ap (λ ty. rule.member_in (types_in c.args.types.now known) ty c.args.name.now) (sym c.in-Struct.is)
