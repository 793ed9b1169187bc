use Rattle.std.proofs.Common.{arith}
use Rattle.c_typed.specs.Roots.{is_handler}
use Rattle.call_graph.proofs.Searches.{count_more, none_left, counted_one, counted_none}
use Rattle.call_graph.proofs.roots.handlers.Goals as goal
use Rattle.call_graph.proofs.roots.handlers.Goals.{then-function, else-function}

pub loop-function-preserved : goal.loop-function-preserved
loop-function-preserved c =
    elim c.if-function.branch [ then-function w ↦ counted_one _ _ _ _ _ _ c.function-item.result.interrupt w.if-function.true (count_more is_handler _ _ c.function-item.result c.loop-function-test.true c.function-item.is) w.count-is c.loop-function.invariant | else-function w ↦ counted_none _ _ _ _ _ _ c.function-item.result.interrupt w.if-function.false (count_more is_handler _ _ c.function-item.result c.loop-function-test.true c.function-item.is) w.count-is c.loop-function.invariant ]

pub returns : goal.returns
returns c = let none = none_left is_handler c.args.functions.now c.loop-function.function-index c.loop-function-test.false in omega (arith, none, c.loop-function.invariant.1)
