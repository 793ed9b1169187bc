use Rattle.run_links.proofs.Links.{compose, slow_composes, lag_composes}
use Rattle.run_links.proofs.links_compose.Goals as goal

pub returns-clause-follows : goal.returns-clause-follows
returns-clause-follows g c = compose g.row.E.Denot g.row.F.Denot g.row.G.Denot

pub returns-clause-slow : goal.returns-clause-slow
returns-clause-slow g c = slow_composes g.row.E.Denot g.row.F.Denot g.row.G.Denot

pub returns-clause-lags : goal.returns-clause-lags
returns-clause-lags g c = lag_composes g.row.F.Denot g.row.G.Denot
