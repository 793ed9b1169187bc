use Rattle.picc_core.proofs.OneAnswer.{one_answer}
use Rattle.picc_core.proofs.deciding.accepted_or_refused.Goals as goal

pub returns : goal.returns
returns c text = one_answer text
