use Rattle.kept_trace.proofs.Filtering.{filters}
use Rattle.kept_trace.proofs.runs_are_filtered.Goals as goal

pub returns : goal.returns
returns g c = filters g.row.S.Denot g.row.E.Denot g.row.V.Denot
