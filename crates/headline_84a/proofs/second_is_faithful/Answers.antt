use Rattle.headline.specs.SourceOf.{source_of}
use Rattle.headline_84a.proofs.Second.{second}
use Rattle.headline_84a.proofs.second_is_faithful.Goals as goal

pub returns : goal.returns
returns c = λ p copies shown. second (source_of p copies shown)
