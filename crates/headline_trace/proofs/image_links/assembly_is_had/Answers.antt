use Rattle.headline_trace.proofs.Assembling.{assembly_had}
use Rattle.headline_trace.proofs.image_links.assembly_is_had.Goals as goal

pub returns : goal.returns
returns c = assembly_had
