use Rattle.std.proofs.Common.{◌∙◌, arith, length-drop}
use Rattle.c_token.proofs.Strings.{goes_on, breaks_here, tail_whole}
use Rattle.c_token.proofs.constant.string_end.Goals as goal

pub loop-passed-preserved : goal.loop-passed-preserved
loop-passed-preserved c =
    let a = c.in_ok-element.ensures in
    let w = tail_whole c.loop-passed.passed c.args.text.now in
    (omega (arith, rw w at a.bound.1, length-drop c.loop-passed.passed c.args.text.now), goes_on c.args.text.now c.loop-passed.passed c.in_ok-element.element c.loop-passed.invariant.1 c.loop-passed-test.true c.if-text-passed-eq34.false a.value a.bound.0)

pub returns-in_err-element-clause-value : goal.returns-in_err-element-clause-value
returns-in_err-element-clause-value c = c.from_residual.ensures ∙ breaks_here c.args.text.now c.loop-passed.passed c.loop-passed.invariant.1 c.loop-passed-test.true c.if-text-passed-eq34.false c.in_err-element.ensures.value
