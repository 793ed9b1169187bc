use Rattle.lag_trace.proofs.Paced.{keeps_pace}
use Rattle.lag_trace.proofs.keeps_pace.Goals as goal

pub returns : goal.returns
returns c = keeps_pace
