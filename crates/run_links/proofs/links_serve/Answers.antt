use Rattle.run_links.proofs.Links.{pace, not_stuck}
use Rattle.run_links.proofs.links_serve.Goals as goal

pub returns-clause-pace : goal.returns-clause-pace
returns-clause-pace g c = pace g.row.E.Denot g.row.F.Denot

pub returns-clause-goes : goal.returns-clause-goes
returns-clause-goes g c = not_stuck g.row.E.Denot g.row.F.Denot
