use Rattle.lower_trace.proofs.Lowered.{lowers}
use Rattle.lower_trace.proofs.lowering_keeps.Goals as goal

pub returns : goal.returns
returns c = lowers
