use Rattle.std.proofs.Common.{◌≡◌, ◌++◌, drop}
use Rattle.call_graph.proofs.CallLists.{arguments_calls_in}
use Rattle.call_graph.proofs.calls.+calls.Given as goal

abbrev pub invariant-put_argument_calls-loop-argument : goal.invariant-put_argument_calls-loop-argument
invariant-put_argument_calls-loop-argument l = l.out.items ++ arguments_calls_in (drop l.argument-index l.arguments) ≡ l.fn.out.items ++ arguments_calls_in l.arguments
