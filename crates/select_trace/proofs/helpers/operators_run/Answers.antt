use Rattle.select_trace.proofs.Moves.{copies_run, convert_runs}
use Rattle.select_trace.proofs.Passed.{straight_runs}
use Rattle.select_trace.proofs.Selected.{binary_runs}
use Rattle.select_trace.proofs.Single.{unary_runs, test_runs}
use Rattle.select_trace.proofs.helpers.operators_run.Goals as goal

pub returns-clause-binary : goal.returns-clause-binary
returns-clause-binary c = binary_runs

pub returns-clause-unary : goal.returns-clause-unary
returns-clause-unary c = unary_runs

pub returns-clause-convert : goal.returns-clause-convert
returns-clause-convert c = convert_runs

pub returns-clause-copies : goal.returns-clause-copies
returns-clause-copies c = copies_run

pub returns-clause-test : goal.returns-clause-test
returns-clause-test c = test_runs

pub returns-clause-straight : goal.returns-clause-straight
returns-clause-straight c = straight_runs
