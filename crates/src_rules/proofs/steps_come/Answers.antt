use Rattle.src_rules.proofs.Readies.{falls, comes, compose, are_moments}
use Rattle.src_rules.proofs.steps_come.Goals as goal

pub returns-clause-falls : goal.returns-clause-falls
returns-clause-falls c = falls

pub returns-clause-comes : goal.returns-clause-comes
returns-clause-comes c = comes

pub returns-clause-compose : goal.returns-clause-compose
returns-clause-compose c = compose

pub returns-clause-moments : goal.returns-clause-moments
returns-clause-moments c = are_moments
