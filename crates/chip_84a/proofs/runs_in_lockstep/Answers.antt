use Rattle.chip_84a.proofs.Whole.{lockstep}
use Rattle.chip_84a.proofs.runs_in_lockstep.Goals as goal

pub returns : goal.returns
returns c = lockstep
