use Rattle.std.proofs.Common.{◌≡◌, ◌+◌, ◌∙◌, sym, ap, []}
use Rattle.text_lines.specs.Text.{lines_of, split_lines}
use Rattle.schedule.specs.Reading.{after_line, read_on}
use Rattle.schedule.specs.ScriptFile.{content_of}
use Rattle.schedule.proofs.Going.{step_bad, not_good, at_the_end}
use Rattle.schedule.proofs.read.read_lines.Goals as goal

pub returns-in-Ok-false : goal.returns-in-Ok-false
returns-in-Ok-false c = record {
  exact =
      sym c.loop-line.invariant.0
      ∙ step_bad (c.loop-line.before + 1) (content_of c.loop-line.script) (lines_of c.loop-line.rest.now) c.in-Some.line.now (lines_of c.in-Some.behind.now) c.in-Some.ensures.some
      (not_good c.in-Ok-false.field-0 (after_line (content_of c.loop-line.script) c.in-Some.line.now) (content_of c.take_line.new.script) c.in-Ok-false.field-0-test c.in-Ok-false.ensures);
}

pub returns : goal.returns
unfolding split_lines
returns c =
    let nothing_left : c.loop-line.rest.now ≡ [] = c.in_default.ensures.none in
    record {
      exact = sym c.loop-line.invariant.0
          ∙ ap (λ r. read_on (c.loop-line.before + 1) (content_of c.loop-line.script) (lines_of r)) nothing_left ∙ at_the_end (c.loop-line.before + 1) (content_of c.loop-line.script);
    }
