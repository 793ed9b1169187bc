use Rattle.lean_code.proofs.Worked as worked
use Rattle.lean_code.proofs.sample_passes.Goals as goal

pub returns : goal.returns
returns c = worked.sample_passes
