use Rattle.headline_trace.proofs.Within.{translations_within}
use Rattle.headline_trace.proofs.image_links.translations_stay_within.Goals as goal

pub returns : goal.returns
returns c = translations_within
