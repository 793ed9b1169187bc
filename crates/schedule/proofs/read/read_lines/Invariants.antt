use Rattle.std.proofs.Common.{◌≡◌, ◌≤◌, ◌+◌, length}
use Rattle.text_lines.specs.Text.{lines_of}
use Rattle.schedule.specs.Answers.{reading_of}
use Rattle.schedule.specs.Reading.{read_on}
use Rattle.schedule.specs.ScriptFile.{content_of}
use Rattle.schedule.proofs.read.read_lines.Given as goal

abbrev pub invariant-loop-line : goal.invariant-loop-line
invariant-loop-line l =
    (read_on (l.before + 1) (content_of l.script) (lines_of l.rest) ≡ reading_of l.bytes)
    × (l.before + length l.rest ≤ length l.bytes)

abbrev pub decreases-loop-line : goal.decreases-loop-line
decreases-loop-line l = length l.rest
