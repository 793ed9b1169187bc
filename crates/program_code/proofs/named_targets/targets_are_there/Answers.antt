use Rattle.program_code.proofs.PlacedTargets.{all_is_there}
use Rattle.program_code.proofs.AllTargets as whole
use Rattle.program_code.proofs.named_targets.targets_are_there.Goals as goal

pub returns-clause-targets : goal.returns-clause-targets
returns-clause-targets c = whole.targets_are_there

pub returns-clause-ends : goal.returns-clause-ends
returns-clause-ends c = whole.ends_are_there

pub returns-clause-all : goal.returns-clause-all
returns-clause-all c = all_is_there
