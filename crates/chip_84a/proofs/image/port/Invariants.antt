use Rattle.chip_84a.proofs.Filled.{IsFilled}
use Rattle.chip_84a.proofs.image.port.Given as goal

abbrev pub invariant-loop-at : goal.invariant-loop-at
invariant-loop-at l = IsFilled l.image l.ported l.at
