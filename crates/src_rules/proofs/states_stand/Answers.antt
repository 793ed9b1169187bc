use Rattle.src_rules.proofs.Moments.{starts, steps, moments}
use Rattle.src_rules.proofs.states_stand.Goals as goal

pub returns-clause-start : goal.returns-clause-start
returns-clause-start c = starts

pub returns-clause-steps : goal.returns-clause-steps
returns-clause-steps c = steps

pub returns-clause-moments : goal.returns-clause-moments
returns-clause-moments c = moments
