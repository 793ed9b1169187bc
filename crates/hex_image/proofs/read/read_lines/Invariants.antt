use Rattle.std.proofs.Common.{◌≡◌, ◌≤◌, ◌+◌, length}
use Rattle.text_lines.specs.Text.{lines_of}
use Rattle.hex_image.specs.Reading.{read_on, reading_of}
use Rattle.hex_image.proofs.read.read_lines.Given as goal

abbrev pub invariant-loop-line : goal.invariant-loop-line
invariant-loop-line l =
    (read_on (l.before + 1) l.upper l.given (lines_of l.rest) ≡ reading_of l.bytes)
    × (l.before + length l.rest ≤ length l.bytes)

abbrev pub decreases-loop-line : goal.decreases-loop-line
decreases-loop-line l = length l.rest
