use Rattle.std.proofs.Common.{◌+◌, ap, ◌∙◌, arith}
use Rattle.lean_pass.proofs.Along.{place_front}
use Rattle.lean_pass.proofs.walk.place_of.Goals as goal

pub returns : goal.returns
returns c =
    ap (λ n. c.loop-more.place + n) c.labels_in_front.ensures.value
    ∙ place_front c.loop-more.left.now c.loop-more.place c.loop-more.more _ (omega (arith, c.loop-more-test.false)) c.loop-more.invariant.0
