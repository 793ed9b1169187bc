use Rattle.std.proofs.Common.{sym, ap, ◌∙◌}
use Rattle.type_rules.specs.Slots as rule
use Rattle.c_tables.specs.Tables.{types_in}
use Rattle.c_outline.specs.Slots.{slot_of}
use Rattle.c_outline.proofs.Parting.{array_part, array_past}
use Rattle.c_outline.proofs.slots.part_of.Goals as goal

pub returns-then-is_past : goal.returns-then-is_past
returns-then-is_past c = λ known. array_past (types_in c.args.types.now known) (slot_of c.args.slot) c.args.slot.ty.ty c.in-Array.row c.in-Array.length c.in-Array.size c.args.number c.is_past.result c.in-Array.is c.is_past.ensures c.if-is_past.true

pub returns-else-is_past : goal.returns-else-is_past
returns-else-is_past c = λ known. array_part (types_in c.args.types.now known) (slot_of c.args.slot) c.args.slot.ty.ty c.in-Array.row c.in-Array.length c.in-Array.size c.args.number c.is_past.result (slot_of c.element.result) c.in-Array.is c.is_past.ensures c.if-is_past.false (c.element.ensures known)

pub returns-in-Struct : goal.returns-in-Struct
returns-in-Struct c = λ known. c.member.ensures known ∙ ap (λ t. rule.part_by (types_in c.args.types.now known) (slot_of c.args.slot) t c.args.number) (sym c.in-Struct.is)
