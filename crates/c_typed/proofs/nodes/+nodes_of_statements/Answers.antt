use Rattle.c_typed.specs.Nodes.{statement_nodes, arm_nodes}
use Rattle.c_typed.proofs.Counts.{one_more, all_counted}
use Rattle.c_typed.proofs.nodes.+nodes_of_statements.Goals as goal

pub nodes_in_statements-loop-statement-preserved : goal.nodes_in_statements-loop-statement-preserved
nodes_in_statements-loop-statement-preserved t c = one_more statement_nodes _ _ c.statement-item.result _ _ _ _ c.loop-statement-test.true c.statement-item.is c.nodes_in_statement.ensures c.plus-count.ensures c.plus-count.type_inv c.loop-statement.invariant

pub nodes_in_statements-returns : goal.nodes_in_statements-returns
nodes_in_statements-returns t c = all_counted statement_nodes _ _ _ _ c.loop-statement-test.false c.loop-statement.invariant

pub nodes_in_arms-loop-arm-preserved : goal.nodes_in_arms-loop-arm-preserved
nodes_in_arms-loop-arm-preserved t c = one_more arm_nodes _ _ c.arm-item.result _ _ _ _ c.loop-arm-test.true c.arm-item.is c.nodes_in_arm.ensures c.plus-count.ensures c.plus-count.type_inv c.loop-arm.invariant

pub nodes_in_arms-returns : goal.nodes_in_arms-returns
nodes_in_arms-returns t c = all_counted arm_nodes _ _ _ _ c.loop-arm-test.false c.loop-arm.invariant
