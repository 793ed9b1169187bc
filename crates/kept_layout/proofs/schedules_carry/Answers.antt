use Rattle.kept_layout.proofs.Carrying.{carries}
use Rattle.kept_layout.proofs.schedules_carry.Goals as goal

pub returns : goal.returns
returns c = carries
