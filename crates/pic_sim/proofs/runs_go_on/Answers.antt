use Rattle.pic_sim.proofs.Answering.{answers_are_input, masks_are_arrivals}
use Rattle.pic_sim.proofs.FromReset.{begins, goes_on, goes_on_by_script, stops_for_good}
use Rattle.pic_sim.proofs.runs_go_on.Goals as goal

pub returns-clause-input : goal.returns-clause-input
returns-clause-input c = answers_are_input

pub returns-clause-arrivals : goal.returns-clause-arrivals
returns-clause-arrivals c = masks_are_arrivals

pub returns-clause-first : goal.returns-clause-first
returns-clause-first c = begins

pub returns-clause-goes_on : goal.returns-clause-goes_on
returns-clause-goes_on c = goes_on

pub returns-clause-by_script : goal.returns-clause-by_script
returns-clause-by_script c = goes_on_by_script

pub returns-clause-stops : goal.returns-clause-stops
returns-clause-stops c = stops_for_good
