use Rattle.call_graph.proofs.Appends.{puts, all_put}
use Rattle.call_graph.proofs.CallLists.{statement_calls_in, statements_calls_in, statements_calls_none, statements_calls_more, arm_calls_in, arms_calls_in, arms_calls_none, arms_calls_more}
use Rattle.call_graph.proofs.calls.+statement_calls.Goals as goal

pub put_statements_calls-loop-statement-preserved : goal.put_statements_calls-loop-statement-preserved
put_statements_calls-loop-statement-preserved t c = puts statement_calls_in statements_calls_in statements_calls_more _ _ c.statement-item.result _ _ _ c.loop-statement-test.true c.statement-item.is c.in_ok-put_statement_calls.ensures c.loop-statement.invariant

pub put_statements_calls-returns : goal.put_statements_calls-returns
put_statements_calls-returns t c = all_put statements_calls_in statements_calls_none _ _ _ _ c.loop-statement-test.false c.loop-statement.invariant

pub put_arms_calls-loop-arm-preserved : goal.put_arms_calls-loop-arm-preserved
put_arms_calls-loop-arm-preserved t c = puts arm_calls_in arms_calls_in arms_calls_more _ _ c.arm-item.result _ _ _ c.loop-arm-test.true c.arm-item.is c.in_ok-put_arm_calls.ensures c.loop-arm.invariant

pub put_arms_calls-returns : goal.put_arms_calls-returns
put_arms_calls-returns t c = all_put arms_calls_in arms_calls_none _ _ _ _ c.loop-arm-test.false c.loop-arm.invariant
