use Rattle.pic_world.proofs.Risings.{any_order}
use Rattle.pic_world.proofs.script.arrivals_in_any_order.Goals as goal

pub returns : goal.returns
returns c = any_order
