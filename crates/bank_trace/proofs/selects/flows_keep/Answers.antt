use Rattle.bank_trace.proofs.Chosen.{flows_keep}
use Rattle.bank_trace.proofs.selects.flows_keep.Goals as goal

pub returns : goal.returns
returns c = flows_keep
