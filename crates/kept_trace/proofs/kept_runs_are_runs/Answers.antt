use Rattle.kept_trace.proofs.Schedules.{kept_runs, kept_moments}
use Rattle.kept_trace.proofs.kept_runs_are_runs.Goals as goal

pub returns-clause-runs : goal.returns-clause-runs
returns-clause-runs c = kept_runs

pub returns-clause-moments : goal.returns-clause-moments
returns-clause-moments c = kept_moments
