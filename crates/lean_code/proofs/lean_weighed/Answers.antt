use Rattle.lean_code.proofs.Weighed as weighed
use Rattle.lean_code.proofs.lean_weighed.Goals as goal

pub returns : goal.returns
returns c = weighed.lean_weighed
