use Rattle.lean_code.proofs.Shrinking as shrinking
use Rattle.lean_code.proofs.Whole as whole
use Rattle.lean_code.proofs.lean_keeps.Goals as goal

pub returns-clause-follows : goal.returns-clause-follows
returns-clause-follows c = whole.lean_keeps

pub returns-clause-carried : goal.returns-clause-carried
returns-clause-carried c = shrinking.carried_is_cheaper
