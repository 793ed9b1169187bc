use Rattle.std.proofs.Common.{◌≡◌, ◌<◌, ap, ◌∙◌, sym, bit_or}
use Rattle.pic_world.proofs.Masks.{mask_end, mask_small, or_nothing}
use Rattle.pic_world.proofs.Risings.{rest_step, rest_later}
use Rattle.pic_world.proofs.script.Script.mask_at.Goals as goal

pub returns-then-arrival-index-clause-value : goal.returns-then-arrival-index-clause-value
returns-then-arrival-index-clause-value c =
    sym (ap (bit_or c.loop-rest.mask) (rest_later c.loop-rest.rest.now c.args.index _ c.in-len1-up.len_at_least c.if-arrival-index.true c.loop-rest.invariant.2) ∙ or_nothing c.loop-rest.mask)
    ∙ c.loop-rest.invariant.0

pub loop-rest-preserved : goal.loop-rest-preserved
loop-rest-preserved c =
    let step = rest_step c.loop-rest.mask c.loop-rest.rest.now c.args.index _ c.in-len1-up.len_at_least c.if-arrival-index.false c.loop-rest.invariant.2 in
    rw c.bit_of-mask.ensures.value (step.0 ∙ c.loop-rest.invariant.0, mask_small c.loop-rest.mask _ c.loop-rest.invariant.1, step.1)

pub returns-clause-value : goal.returns-clause-value
returns-clause-value c = sym (mask_end c.loop-rest.mask c.loop-rest.rest.now c.args.index c.in_default.len_below) ∙ c.loop-rest.invariant.0
