use Rattle.std.proofs.Common.{Ok, ◌∙◌, ◌+◌, ap, sym, arith}
use Rattle.text_lines.specs.Text.{lines_of}
use Rattle.hex_image.proofs.Leading.{passed, step_on, step_ends, step_refused, no_end}
use Rattle.hex_image.proofs.read.read_lines.Goals as goal

pub returns-in_err-next : goal.returns-in_err-next
returns-in_err-next c = record {
  exact =
      passed _ c.from_residual-in_err-next.result c.in_err-next.field-0.0 _ c.from_residual-in_err-next.ensures.1
      (step_refused (c.loop-line.before + 1) c.loop-line.upper c.loop-line.given (lines_of c.loop-line.rest.now) c.in-Some.line.now (lines_of c.in-Some.behind.now) c.in_err-next.field-0.0 _ c.in-Some.ensures.some c.in_err-next.ensures c.loop-line.invariant.0);
}

pub returns-in-None : goal.returns-in-None
returns-in-None c = record {
  exact =
      sym c.loop-line.invariant.0
      ∙ step_ends (c.loop-line.before + 1) c.loop-line.upper c.loop-line.given c.take_line.new.given (lines_of c.loop-line.rest.now) c.in-Some.line.now (lines_of c.in-Some.behind.now) c.in-Some.ensures.some
      (c.in_ok-next.ensures ∙ ap (λ next. Ok (next, c.take_line.new.given)) c.in-None.is);
}

pub loop-line-preserved : goal.loop-line-preserved
loop-line-preserved c =
    let bound = c.loop-line.invariant.1 in
    let shorter = c.in-Some.ensures.shorter in (
      sym (step_on (c.loop-line.before + 1) c.loop-line.upper c.in-Some-2.next c.loop-line.given c.take_line.new.given (lines_of c.loop-line.rest.now) c.in-Some.line.now (lines_of c.in-Some.behind.now) c.in-Some.ensures.some
          (c.in_ok-next.ensures ∙ ap (λ next. Ok (next, c.take_line.new.given)) c.in-Some-2.is))
          ∙ c.loop-line.invariant.0,
      omega (arith, bound, shorter.1),
    )

pub returns : goal.returns
returns c = record {
  exact = sym c.loop-line.invariant.0 ∙ no_end (c.loop-line.before + 1) c.loop-line.upper c.loop-line.given c.loop-line.rest.now c.in_default.ensures.none;
}
