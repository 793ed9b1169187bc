use Rattle.picc_core.proofs.OneTyping.{one_typing}
use Rattle.picc_core.proofs.typing.one_typing.Goals as goal

pub returns : goal.returns
returns c text = one_typing text
