use Rattle.chip_trace.proofs.StartFinal.{starting}
use Rattle.chip_trace.proofs.start.main_is_met.Goals as goal

pub returns : goal.returns
returns c = starting
