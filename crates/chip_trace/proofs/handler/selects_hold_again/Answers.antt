use Rattle.chip_trace.proofs.ContextFinal.{holding_selected}
use Rattle.chip_trace.proofs.handler.selects_hold_again.Goals as goal

pub returns : goal.returns
returns c = holding_selected
