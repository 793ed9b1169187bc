use Rattle.vol_opt.proofs.Lists.{one_more, all_seen, statement_in, statements_in, statements_none, statements_more, arm_in, arms_in, arms_none, arms_more}
use Rattle.vol_opt.proofs.marking.+statements.Goals as goal

pub mark_statements-loop-statement-preserved : goal.mark_statements-loop-statement-preserved
mark_statements-loop-statement-preserved t c = one_more (statement_in c.args.names) (statements_in c.args.names) (statements_more c.args.names) _ _ c.statement-item.result _ _ _ c.loop-statement-test.true c.statement-item.is c.mark_statement.ensures c.loop-statement.invariant

pub mark_statements-returns : goal.mark_statements-returns
mark_statements-returns t c = all_seen (statements_in c.args.names) (statements_none c.args.names) _ _ _ _ c.loop-statement-test.false c.loop-statement.invariant

pub mark_arms-loop-arm-preserved : goal.mark_arms-loop-arm-preserved
mark_arms-loop-arm-preserved t c = one_more (arm_in c.args.names) (arms_in c.args.names) (arms_more c.args.names) _ _ c.arm-item.result _ _ _ c.loop-arm-test.true c.arm-item.is c.mark_arm.ensures c.loop-arm.invariant

pub mark_arms-returns : goal.mark_arms-returns
mark_arms-returns t c = all_seen (arms_in c.args.names) (arms_none c.args.names) _ _ _ _ c.loop-arm-test.false c.loop-arm.invariant
