use Rattle.chip_trace.proofs.ContextFinal.{passing}
use Rattle.chip_trace.proofs.handler.main_goes_past.Goals as goal

pub returns : goal.returns
returns c = passing
