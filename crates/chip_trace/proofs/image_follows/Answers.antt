use Rattle.chip_trace.proofs.Final.{arriving, fitting}
use Rattle.chip_trace.proofs.image_follows.Goals as goal

pub returns-clause-follows : goal.returns-clause-follows
returns-clause-follows c = arriving

pub returns-clause-fit : goal.returns-clause-fit
returns-clause-fit c = fitting
