use Rattle.std.proofs.Common.{refl}
use Rattle.vol_opt.proofs.Lists.{one_more, all_seen, static_in, statics_in}
use Rattle.vol_opt.proofs.keeping.mark_initial.Goals as goal

pub loop-object-preserved : goal.loop-object-preserved
loop-object-preserved c = one_more static_in statics_in (λ x xs. refl) _ _ c.object-item.result _ _ _ c.loop-object-test.true c.object-item.is (rw c.deref.ensures.value at c.mark_first_bytes.ensures) c.loop-object.invariant

pub returns : goal.returns
returns c = all_seen statics_in refl _ _ _ _ c.loop-object-test.false c.loop-object.invariant
