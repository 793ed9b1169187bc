use Rattle.headline_trace.proofs.Had.{bodies_had}
use Rattle.headline_trace.proofs.image_links.bodies_are_had.Goals as goal

pub returns : goal.returns
returns c = bodies_had
