use Rattle.named_registers.proofs.Lists.{one_more, all_seen, statement_in, statements_in, statements_none, statements_more, arm_in, arms_in, arms_none, arms_more}
use Rattle.named_registers.proofs.foreign.+statements.Goals as goal

pub after_statements-loop-statement-preserved : goal.after_statements-loop-statement-preserved
after_statements-loop-statement-preserved t c = one_more statement_in statements_in statements_more _ _ c.statement-item.result _ _ _ c.loop-statement-test.true c.statement-item.is c.after_statement-found.ensures c.loop-statement.invariant

pub after_statements-returns : goal.after_statements-returns
after_statements-returns t c = all_seen statements_in statements_none _ _ _ _ c.loop-statement-test.false c.loop-statement.invariant

pub after_arms-loop-arm-preserved : goal.after_arms-loop-arm-preserved
after_arms-loop-arm-preserved t c = one_more arm_in arms_in arms_more _ _ c.arm-item.result _ _ _ c.loop-arm-test.true c.arm-item.is c.after_arm-found.ensures c.loop-arm.invariant

pub after_arms-returns : goal.after_arms-returns
after_arms-returns t c = all_seen arms_in arms_none _ _ _ _ c.loop-arm-test.false c.loop-arm.invariant
