use Rattle.src_rules.proofs.Above.{same_above}
use Rattle.src_rules.proofs.Changes.{entry_keeps, below_stays, leave_goes_on, entry_is_behind, start_is_mains}
use Rattle.src_rules.proofs.handler_waits.Goals as goal

pub returns-clause-enters : goal.returns-clause-enters
returns-clause-enters c = entry_keeps

pub returns-clause-stays : goal.returns-clause-stays
returns-clause-stays c = below_stays

pub returns-clause-leaves : goal.returns-clause-leaves
returns-clause-leaves c = leave_goes_on

pub returns-clause-behind : goal.returns-clause-behind
returns-clause-behind c = entry_is_behind

pub returns-clause-above : goal.returns-clause-above
returns-clause-above c = same_above

pub returns-clause-start : goal.returns-clause-start
returns-clause-start c = start_is_mains
