use Rattle.lag_trace.proofs.MarkedWalks.{marks_cost}
use Rattle.lag_trace.proofs.marks_cost.Goals as goal

pub returns : goal.returns
returns c = marks_cost
