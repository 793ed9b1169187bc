use Rattle.headline_trace.proofs.Depths.{reach_had, levels_had, depth_had}
use Rattle.headline_trace.proofs.image_links.calls_are_had.Goals as goal

pub returns-clause-reach : goal.returns-clause-reach
returns-clause-reach c = reach_had

pub returns-clause-levels : goal.returns-clause-levels
returns-clause-levels c = levels_had

pub returns-clause-depth : goal.returns-clause-depth
returns-clause-depth c = depth_had
