use Rattle.chip_trace.proofs.ContextFinal.{sparing}
use Rattle.chip_trace.proofs.handler.handler_keeps.Goals as goal

pub returns : goal.returns
returns c = sparing
