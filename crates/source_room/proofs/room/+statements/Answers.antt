use Rattle.source_room.proofs.Seen.{one_deeper, all_deeper, statement_in, statements_in, more_statements, no_statements, arm_in, arms_in, more_arms, no_arms}
use Rattle.source_room.proofs.room.+statements.Goals as goal

pub depth_of_statements-loop-statement-preserved : goal.depth_of_statements-loop-statement-preserved
depth_of_statements-loop-statement-preserved t c = one_deeper statement_in statements_in _ _ c.statement-item.result _ _ _ _ (more_statements _ _) c.loop-statement-test.true c.statement-item.is c.depth_of_statement.ensures c.greatest-deepest.ensures c.greatest-deepest.type_inv c.loop-statement.invariant

pub depth_of_statements-returns : goal.depth_of_statements-returns
depth_of_statements-returns t c = all_deeper statements_in _ _ _ _ no_statements c.loop-statement-test.false c.loop-statement.invariant

pub depth_of_arms-loop-arm-preserved : goal.depth_of_arms-loop-arm-preserved
depth_of_arms-loop-arm-preserved t c = one_deeper arm_in arms_in _ _ c.arm-item.result _ _ _ _ (more_arms _ _) c.loop-arm-test.true c.arm-item.is c.depth_of_arm.ensures c.greatest-deepest.ensures c.greatest-deepest.type_inv c.loop-arm.invariant

pub depth_of_arms-returns : goal.depth_of_arms-returns
depth_of_arms-returns t c = all_deeper arms_in _ _ _ _ no_arms c.loop-arm-test.false c.loop-arm.invariant
