use Rattle.std.proofs.Common.{◌≡◌, ◌++◌, drop}
use Rattle.call_graph.proofs.CallLists.{statements_calls_in, arms_calls_in}
use Rattle.call_graph.proofs.calls.+statement_calls.Given as goal

abbrev pub invariant-put_statements_calls-loop-statement : goal.invariant-put_statements_calls-loop-statement
invariant-put_statements_calls-loop-statement l = l.out.items ++ statements_calls_in (drop l.statement-index l.statements) ≡ l.fn.out.items ++ statements_calls_in l.statements

abbrev pub invariant-put_arms_calls-loop-arm : goal.invariant-put_arms_calls-loop-arm
invariant-put_arms_calls-loop-arm l = l.out.items ++ arms_calls_in (drop l.arm-index l.arms) ≡ l.fn.out.items ++ arms_calls_in l.arms
