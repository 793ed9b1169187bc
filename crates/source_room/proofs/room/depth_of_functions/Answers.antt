use Rattle.std.proofs.Common.{refl}
use Rattle.source_room.proofs.Seen.{one_more, all_counted, function_in, functions_in}
use Rattle.source_room.proofs.room.depth_of_functions.Goals as goal

pub loop-function-preserved : goal.loop-function-preserved
loop-function-preserved c = one_more function_in functions_in _ _ c.function-item.result _ _ _ _ refl c.loop-function-test.true c.function-item.is c.depth_of_function.ensures c.plus-count.ensures c.plus-count.type_inv c.loop-function.invariant

pub returns : goal.returns
returns c = all_counted functions_in _ _ _ _ refl c.loop-function-test.false c.loop-function.invariant
