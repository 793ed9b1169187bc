use Rattle.kept_trace.proofs.Sources.{kept_source}
use Rattle.kept_trace.proofs.kept_source_is_the_source.Goals as goal

pub returns : goal.returns
returns c = kept_source
