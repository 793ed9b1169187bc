use Rattle.headline_trace.proofs.Had.{start_had}
use Rattle.headline_trace.proofs.image_links.start_is_had.Goals as goal

pub returns : goal.returns
returns c = start_had
