use Rattle.std.proofs.Common.{refl}
use Rattle.std.specs.Vec.Iter.{into_iter_items}
use Rattle.c_check.proofs.Units.{variables_more}
use Rattle.c_check.proofs.unit.variables.Goals as goal

pub loop-param-preserved : goal.loop-param-preserved
loop-param-preserved c = variables_more c.loop-param.variables.items c.push.new.self.items _ (into_iter_items c.loop-param.param-iterator) (into_iter_items c.next.new.self) c.in-Some.param _ c.in-Some.ensures.steps.0 c.in_ok-push.ensures.items refl c.loop-param.invariant
