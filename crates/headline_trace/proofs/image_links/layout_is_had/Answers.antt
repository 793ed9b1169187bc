use Rattle.headline_trace.proofs.Had.{layout_had, layout_serves}
use Rattle.headline_trace.proofs.image_links.layout_is_had.Goals as goal

pub returns-clause-layout : goal.returns-clause-layout
returns-clause-layout c = layout_had

pub returns-clause-laid_out : goal.returns-clause-laid_out
returns-clause-laid_out c = layout_serves
