use Rattle.c_typed.specs.Nodes.{function_nodes}
use Rattle.c_typed.proofs.Counts.{one_more, all_counted}
use Rattle.c_typed.proofs.nodes.nodes_in_functions.Goals as goal

pub loop-function-preserved : goal.loop-function-preserved
loop-function-preserved c = one_more function_nodes _ _ c.function-item.result _ _ _ _ c.loop-function-test.true c.function-item.is c.nodes_in_function.ensures c.plus-count.ensures c.plus-count.type_inv c.loop-function.invariant

pub returns : goal.returns
returns c = all_counted function_nodes _ _ _ _ c.loop-function-test.false c.loop-function.invariant
