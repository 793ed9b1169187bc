use Rattle.call_graph.proofs.Appends.{puts, all_put}
use Rattle.call_graph.proofs.CallLists.{calls_in, arguments_calls_in, arguments_calls_none, arguments_calls_more}
use Rattle.call_graph.proofs.calls.+calls.Goals as goal

pub put_argument_calls-loop-argument-preserved : goal.put_argument_calls-loop-argument-preserved
put_argument_calls-loop-argument-preserved t c = puts calls_in arguments_calls_in arguments_calls_more _ _ c.argument-item.result _ _ _ c.loop-argument-test.true c.argument-item.is c.in_ok-put_calls.ensures c.loop-argument.invariant

pub put_argument_calls-returns : goal.put_argument_calls-returns
put_argument_calls-returns t c = all_put arguments_calls_in arguments_calls_none _ _ _ _ c.loop-argument-test.false c.loop-argument.invariant
