use Rattle.c_typed.specs.Nodes.{expression_nodes}
use Rattle.c_typed.proofs.Counts.{one_more, all_counted}
use Rattle.c_typed.proofs.nodes.+nodes.Goals as goal

pub nodes_in_arguments-loop-argument-preserved : goal.nodes_in_arguments-loop-argument-preserved
nodes_in_arguments-loop-argument-preserved t c = one_more expression_nodes _ _ c.argument-item.result _ _ _ _ c.loop-argument-test.true c.argument-item.is c.nodes_in_expression.ensures c.plus-count.ensures c.plus-count.type_inv c.loop-argument.invariant

pub nodes_in_arguments-returns : goal.nodes_in_arguments-returns
nodes_in_arguments-returns t c = all_counted expression_nodes _ _ _ _ c.loop-argument-test.false c.loop-argument.invariant
