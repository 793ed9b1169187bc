use Rattle.lean_code.proofs.Admitting as admitting
use Rattle.lean_code.proofs.tested_is_admissible.Goals as goal

pub returns-clause-admissible : goal.returns-clause-admissible
returns-clause-admissible c = admitting.tested_is_admissible

pub returns-clause-same : goal.returns-clause-same
returns-clause-same c = admitting.kept_is_same
