use Rattle.chip_trace.proofs.Final.{keeping_within}
use Rattle.chip_trace.proofs.image_keeps_within.Goals as goal

pub returns : goal.returns
returns c = keeping_within
