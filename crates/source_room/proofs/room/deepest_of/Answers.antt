use Rattle.std.proofs.Common.{refl}
use Rattle.source_room.proofs.Seen.{one_deeper, all_deeper, function_in, deepest_in}
use Rattle.source_room.proofs.room.deepest_of.Goals as goal

pub loop-function-preserved : goal.loop-function-preserved
loop-function-preserved c = one_deeper function_in deepest_in _ _ c.function-item.result _ _ _ _ refl c.loop-function-test.true c.function-item.is c.depth_of_function.ensures c.greatest-deepest.ensures c.greatest-deepest.type_inv c.loop-function.invariant

pub returns : goal.returns
returns c = all_deeper deepest_in _ _ _ _ refl c.loop-function-test.false c.loop-function.invariant
