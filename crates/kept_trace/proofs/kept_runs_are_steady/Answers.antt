use Rattle.kept_trace.proofs.Steady.{kept_source_runs, steady}
use Rattle.kept_trace.proofs.kept_runs_are_steady.Goals as goal

pub returns-clause-runs : goal.returns-clause-runs
returns-clause-runs c = kept_source_runs

pub returns-clause-steady : goal.returns-clause-steady
returns-clause-steady c = steady
