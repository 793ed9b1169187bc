use Rattle.chip_84a.proofs.Members.{members_fit}
use Rattle.chip_84a.proofs.Together.{keeps_step}
use Rattle.chip_84a.proofs.members_keep_step.Goals as goal

pub returns-clause-law : goal.returns-clause-law
returns-clause-law c = keeps_step

pub returns-clause-members : goal.returns-clause-members
returns-clause-members c = members_fit
