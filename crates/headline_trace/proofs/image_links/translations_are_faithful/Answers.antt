use Rattle.headline_trace.proofs.Faithful.{translations_faithful}
use Rattle.headline_trace.proofs.image_links.translations_are_faithful.Goals as goal

pub returns : goal.returns
returns c = translations_faithful
