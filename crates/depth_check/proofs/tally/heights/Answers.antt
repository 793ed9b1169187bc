use Rattle.depth_check.specs.Certificate.{seen}
use Rattle.depth_check.proofs.Counts.{none_raised}
use Rattle.depth_check.proofs.tally.heights.Goals as goal

pub loop-row-init : goal.loop-row-init
loop-row-init c = none_raised c.args.image.now (seen c.args.h.now)
