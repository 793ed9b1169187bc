use Rattle.lean_code.proofs.Checking as checking
use Rattle.lean_code.proofs.test_is_right.Goals as goal

pub returns : goal.returns
returns c = checking.test_is_right
