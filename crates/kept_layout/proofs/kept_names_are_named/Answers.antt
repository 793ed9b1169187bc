use Rattle.kept_layout.proofs.Within.{keeps_named}
use Rattle.kept_layout.proofs.kept_names_are_named.Goals as goal

pub returns : goal.returns
returns c = keeps_named
