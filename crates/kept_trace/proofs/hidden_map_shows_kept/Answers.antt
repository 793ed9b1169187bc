use Rattle.kept_trace.proofs.HiddenMaps.{hidden_shows}
use Rattle.kept_trace.proofs.hidden_map_shows_kept.Goals as goal

pub returns : goal.returns
returns c = hidden_shows
