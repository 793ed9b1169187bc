use Rattle.chip_trace.proofs.ContextFinal.{returning}
use Rattle.chip_trace.proofs.handler.context_returns.Goals as goal

pub returns : goal.returns
returns c = returning
