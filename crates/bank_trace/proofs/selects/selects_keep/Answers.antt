use Rattle.bank_trace.proofs.Chosen.{chooses}
use Rattle.bank_trace.proofs.selects.selects_keep.Goals as goal

pub returns : goal.returns
returns c = chooses
