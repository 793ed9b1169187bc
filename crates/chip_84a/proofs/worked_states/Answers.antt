use Rattle.std.proofs.Common.{refl}
use Rattle.chip_84a.proofs.worked_states.Goals as goal

pub returns : goal.returns
returns c = record { all = refl }
