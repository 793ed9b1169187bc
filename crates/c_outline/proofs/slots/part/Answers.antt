use Rattle.std.proofs.Common.{sym, ap, ◌∙◌}
use Rattle.type_rules.specs.Slots as rule
use Rattle.c_tables.specs.Tables.{types_in}
use Rattle.c_outline.specs.Slots.{any_slot}
use Rattle.c_outline.proofs.slots.part.Goals as goal

pub returns-in-Some : goal.returns-in-Some
returns-in-Some c = λ known. c.part_of.ensures known ∙ ap (λ o. rule.part (types_in c.args.types.now known) (any_slot o) c.args.number) (sym c.in-Some.is)
