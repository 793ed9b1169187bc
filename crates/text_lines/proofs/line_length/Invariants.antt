use Rattle.std.proofs.Common.{◌≡◌, ◌+◌, length}
use Rattle.text_lines.specs.Front.{line_length}
use Rattle.text_lines.proofs.line_length.Given as goal

abbrev pub invariant-loop-left : goal.invariant-loop-left
invariant-loop-left l = (l.count + line_length l.left ≡ line_length l.text) × (l.count + length l.left ≡ length l.text)

abbrev pub decreases-loop-left : goal.decreases-loop-left
decreases-loop-left l = length l.left
