use Rattle.std.proofs.Common.{◌≡◌, ◌+◌, length}
use Rattle.pic_map.specs.Reading.{name_length}
use Rattle.pic_map.proofs.read.name_length.Given as goal

abbrev pub invariant-loop-left : goal.invariant-loop-left
invariant-loop-left l = (l.count + name_length l.left ≡ name_length l.text) × (l.count + length l.left ≡ length l.text)

abbrev pub decreases-loop-left : goal.decreases-loop-left
decreases-loop-left l = length l.left
