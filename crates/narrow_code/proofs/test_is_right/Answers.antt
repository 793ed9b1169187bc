use Rattle.narrow_code.proofs.Checking as checking
use Rattle.narrow_code.proofs.test_is_right.Goals as goal

pub returns-clause-fits : goal.returns-clause-fits
returns-clause-fits c = checking.test_is_right

pub returns-clause-given : goal.returns-clause-given
returns-clause-given c = checking.plans_are_of_code
