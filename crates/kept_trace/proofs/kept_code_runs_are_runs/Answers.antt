use Rattle.kept_trace.proofs.CodeSchedules.{kept_code}
use Rattle.kept_trace.proofs.kept_code_runs_are_runs.Goals as goal

pub returns : goal.returns
returns c = kept_code
