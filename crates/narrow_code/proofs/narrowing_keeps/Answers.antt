use Rattle.narrow_code.proofs.Lending as lending
use Rattle.narrow_code.proofs.Whole as whole
use Rattle.narrow_code.proofs.narrowing_keeps.Goals as goal

pub returns-clause-follows : goal.returns-clause-follows
returns-clause-follows c = whole.narrowing_keeps

pub returns-clause-in_step : goal.returns-clause-in_step
returns-clause-in_step c = whole.narrowing_in_step

pub returns-clause-lending : goal.returns-clause-lending
returns-clause-lending c = lending.always_open
