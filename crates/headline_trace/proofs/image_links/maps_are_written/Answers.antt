use Rattle.headline_trace.proofs.Written.{maps_written}
use Rattle.headline_trace.proofs.image_links.maps_are_written.Goals as goal

pub returns : goal.returns
returns c = maps_written
