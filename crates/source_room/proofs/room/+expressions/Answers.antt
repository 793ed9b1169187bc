use Rattle.source_room.proofs.Seen.{one_argument, all_arguments}
use Rattle.source_room.proofs.room.+expressions.Goals as goal

pub depth_of_arguments-loop-argument-preserved : goal.depth_of_arguments-loop-argument-preserved
depth_of_arguments-loop-argument-preserved t c = one_argument _ _ c.argument-item.result _ _ _ _ _ _ _ c.loop-argument-test.true c.argument-item.is c.depth_of_expression.ensures c.plus.ensures c.greatest-deepest.ensures c.plus-before.ensures c.greatest-deepest.type_inv c.plus-before.type_inv c.loop-argument.invariant

pub depth_of_arguments-returns : goal.depth_of_arguments-returns
depth_of_arguments-returns t c = all_arguments _ _ _ _ _ _ c.loop-argument-test.false c.greatest.ensures c.loop-argument.invariant
