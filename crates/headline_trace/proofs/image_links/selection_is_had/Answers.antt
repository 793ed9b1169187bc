use Rattle.headline_trace.proofs.Selecting.{selection_had}
use Rattle.headline_trace.proofs.image_links.selection_is_had.Goals as goal

pub returns : goal.returns
returns c = selection_had
