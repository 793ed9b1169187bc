use Rattle.headline_trace.proofs.StartGiven.{beginning_had}
use Rattle.headline_trace.proofs.image_links.beginning_is_had.Goals as goal

pub returns : goal.returns
returns c = beginning_had
