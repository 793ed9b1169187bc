use Rattle.std.proofs.Common.{◌≡◌, ◌≤◌, ◌+◌, length}
use Rattle.text_lines.specs.Text.{lines_of}
use Rattle.pic_map.specs.MapView.{content_of}
use Rattle.pic_map.specs.Answers.{reading_of}
use Rattle.pic_map.specs.Reading.{read_on}
use Rattle.pic_map.proofs.Going.{slack}
use Rattle.pic_map.proofs.read.read_lines.Given as goal

abbrev pub invariant-loop-line : goal.invariant-loop-line
invariant-loop-line l =
    (read_on l.number l.stage (content_of l.map) (lines_of l.rest) ≡ reading_of l.bytes)
    × (l.number + length l.rest + slack l.stage ≤ length l.bytes + 1)

abbrev pub decreases-loop-line : goal.decreases-loop-line
decreases-loop-line l = length l.rest
