use Rattle.typed_numbers.proofs.Gathered.{OneStatic, Statics, all_gathered, gathered, one_static}
use Rattle.typed_numbers.proofs.numbers.see_statics.Goals as goal

pub loop-object-preserved : goal.loop-object-preserved
loop-object-preserved c = gathered OneStatic Statics one_static _ _ c.object-item.result c.loop-object-test.true c.object-item.is (rw c.deref.ensures.value at c.see_initials.ensures) c.loop-object.invariant

pub returns : goal.returns
returns c = all_gathered Statics tt _ _ c.loop-object-test.false c.loop-object.invariant
