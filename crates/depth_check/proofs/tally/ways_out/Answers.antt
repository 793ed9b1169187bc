use Rattle.depth_check.proofs.Counts.{none_noted}
use Rattle.depth_check.proofs.tally.ways_out.Goals as goal

pub loop-row-init : goal.loop-row-init
loop-row-init c = none_noted c.args.image.now c.args.rows.now
