use Rattle.flow_facts.proofs.Kept.{thinning_keeps, thinning_has_flow}
use Rattle.flow_facts.proofs.laws.thinning_keeps.Goals as goal

pub returns-clause-keeps : goal.returns-clause-keeps
returns-clause-keeps c = thinning_keeps

pub returns-clause-flow : goal.returns-clause-flow
returns-clause-flow c = thinning_has_flow
