use Rattle.picc_core.proofs.OneSecond.{one_second}
use Rattle.picc_core.proofs.for_second.accepted_or_refused84.Goals as goal

pub returns : goal.returns
returns c text = one_second text
