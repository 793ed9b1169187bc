use Rattle.chip_84a.proofs.Resets.{begins, few_masks, goes_on, goes_on_by_script, stops_for_good}
use Rattle.chip_84a.proofs.runs_go_on.Goals as goal

pub returns-clause-arrivals : goal.returns-clause-arrivals
returns-clause-arrivals c = few_masks

pub returns-clause-first : goal.returns-clause-first
returns-clause-first c = begins

pub returns-clause-goes_on : goal.returns-clause-goes_on
returns-clause-goes_on c = goes_on

pub returns-clause-by_script : goal.returns-clause-by_script
returns-clause-by_script c = goes_on_by_script

pub returns-clause-stops : goal.returns-clause-stops
returns-clause-stops c = stops_for_good
