use Rattle.std.proofs.Common.{◌≡◌, ◌∙◌, sym, ap, arith, []}
use Rattle.std.specs.Option.{option_map}
use Rattle.text_lines.specs.Text.{lines_of, split_lines}
use Rattle.pic_map.specs.MapView.{content_of}
use Rattle.pic_map.specs.declared.read.Stage.TheVariants.{Ended}
use Rattle.pic_map.specs.Reading.{read_on}
use Rattle.pic_map.proofs.Going.{step_none, not_ended, at_the_end, counted}
use Rattle.pic_map.proofs.read.read_lines.Goals as goal

pub returns-in_default-next : goal.returns-in_default-next
returns-in_default-next c =
    let read = c.in-Ok.ensures in
    record {
      exact =
          sym c.loop-line.invariant.0
          ∙ step_none c.loop-line.number c.loop-line.stage (content_of c.loop-line.map) (lines_of c.loop-line.rest.now) c.in-Some.line.now (lines_of c.in-Some.behind.now) c.in-Some.ensures.some
          (read ∙ ap (option_map (λ s. (s, content_of c.take_line.new.map))) c.in_default-next.is);
    }

pub overflow_add-number : goal.overflow_add-number
overflow_add-number c =
    let read = c.in-Ok.ensures ∙ ap (option_map (λ s. (s, content_of c.take_line.new.map))) c.in-Some-next.is in
    let long = counted c.loop-line.stage c.in-Some-next.next (content_of c.loop-line.map) (content_of c.take_line.new.map) c.in-Some.line.now read in
    let bound = c.loop-line.invariant.1 in
    let first = c.in-Some.ensures.shorter.0 in
    let most = c.requires in
    let two = long.0 in
    omega (arith, two, bound, first, most)

pub returns-in-Ended : goal.returns-in-Ended
unfolding split_lines
returns-in-Ended c =
    let nothing_left : c.loop-line.rest.now ≡ [] = c.in_default.ensures.none in
    record {
      exact = sym c.loop-line.invariant.0 ∙ ap (λ s. read_on c.loop-line.number s (content_of c.loop-line.map) (lines_of c.loop-line.rest.now)) c.in-Ended.is
          ∙ ap (λ r. read_on c.loop-line.number Ended (content_of c.loop-line.map) (lines_of r)) nothing_left ∙ at_the_end c.loop-line.number (content_of c.loop-line.map);
    }

pub returns-in_default-stage : goal.returns-in_default-stage
unfolding split_lines
returns-in_default-stage c =
    let nothing_left : c.loop-line.rest.now ≡ [] = c.in_default.ensures.none in
    record {
      exact = sym c.loop-line.invariant.0
          ∙ ap (λ r. read_on c.loop-line.number c.loop-line.stage (content_of c.loop-line.map) (lines_of r)) nothing_left ∙ not_ended c.loop-line.number c.loop-line.stage (content_of c.loop-line.map) c.in_default-stage.not-Ended;
    }
