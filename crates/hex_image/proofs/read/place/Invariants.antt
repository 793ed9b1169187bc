use Rattle.std.proofs.Common.{◌≡◌, length}
use Rattle.hex_image.specs.Reading.{placed}
use Rattle.hex_image.proofs.read.place.Given as goal

abbrev pub invariant-loop-left : goal.invariant-loop-left
invariant-loop-left l = placed l.number l.given l.at l.left ≡ placed l.number l.fn.given l.address l.bytes

abbrev pub decreases-loop-left : goal.decreases-loop-left
decreases-loop-left l = length l.left
