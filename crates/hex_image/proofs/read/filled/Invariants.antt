use Rattle.std.proofs.Common.{take}
use Rattle.hex_image.specs.Answers.{IsFilled}
use Rattle.hex_image.proofs.read.filled.Given as goal

abbrev pub invariant-loop-address : goal.invariant-loop-address
invariant-loop-address l = IsFilled (take l.address-index l.given) l.image
