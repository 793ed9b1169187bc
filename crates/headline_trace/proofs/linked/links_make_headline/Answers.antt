use Rattle.headline_trace.proofs.Whole.{makes_headline}
use Rattle.headline_trace.proofs.linked.links_make_headline.Goals as goal

pub returns : goal.returns
returns c = makes_headline
