use Rattle.c_tables.specs.Tables.{types_in}
use Rattle.c_outline.specs.Slots.{slot_of}
use Rattle.c_outline.proofs.Parting.{element_is}
use Rattle.c_outline.proofs.slots.element.Goals as goal

pub returns : goal.returns
returns c = λ known. element_is (types_in c.args.types.now known) (slot_of c.args.slot) c.like-ty.result c.target.result c.bytes_of.result c.behind.result c.args.number c.args.row c.like-ty.ensures (c.target.ensures known) (c.bytes_of.ensures known) c.behind.ensures.kept
