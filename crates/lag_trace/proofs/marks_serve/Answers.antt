use Rattle.lag_trace.proofs.Uncounted.{marks_serve}
use Rattle.lag_trace.proofs.marks_serve.Goals as goal

pub returns : goal.returns
returns c = marks_serve
