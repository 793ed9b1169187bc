use Rattle.headline_trace.proofs.Priced.{lean_had}
use Rattle.headline_trace.proofs.image_links.lean_is_had.Goals as goal

pub returns : goal.returns
returns c = lean_had
