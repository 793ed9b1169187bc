use Rattle.std.proofs.Common.{Some, sym, ap, ◌∙◌}
use Rattle.type_rules.specs.Places as rule
use Rattle.c_tables.specs.Tables.{types_in}
use Rattle.c_operate.proofs.places.pointed_type.Goals as goal

pub returns-in-Pointer : goal.returns-in-Pointer
returns-in-Pointer c = λ known. ap Some (c.target.ensures known) ∙ ap (rule.pointed_type (types_in c.args.types.now known)) (sym c.in-Pointer.is)
