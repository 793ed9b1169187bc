use Rattle.kept_layout.proofs.Named.{named_open}
use Rattle.kept_layout.proofs.named_code_opens.Goals as goal

pub returns : goal.returns
returns c = named_open
