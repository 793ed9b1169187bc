use Rattle.headline_trace.proofs.Selects.{selects_had}
use Rattle.headline_trace.proofs.image_links.selects_are_had.Goals as goal

pub returns : goal.returns
returns c = selects_had
