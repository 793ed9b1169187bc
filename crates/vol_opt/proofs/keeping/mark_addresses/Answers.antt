use Rattle.std.proofs.Common.{refl}
use Rattle.vol_opt.proofs.Lists.{one_more, all_seen, function_in, functions_in}
use Rattle.vol_opt.proofs.keeping.mark_addresses.Goals as goal

pub loop-function-preserved : goal.loop-function-preserved
loop-function-preserved c = one_more function_in functions_in (λ x xs. refl) _ _ c.function-item.result _ _ _ c.loop-function-test.true c.function-item.is (rw c.deref.ensures.value at c.mark_statements.ensures) c.loop-function.invariant

pub returns : goal.returns
returns c = all_seen functions_in refl _ _ _ _ c.loop-function-test.false c.loop-function.invariant
