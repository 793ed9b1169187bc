use Rattle.named_registers.proofs.Lists.{one_more, all_seen, expression_in, arguments_in, arguments_none, arguments_more}
use Rattle.named_registers.proofs.foreign.+expressions.Goals as goal

pub after_arguments-loop-argument-preserved : goal.after_arguments-loop-argument-preserved
after_arguments-loop-argument-preserved t c = one_more expression_in arguments_in arguments_more _ _ c.argument-item.result _ _ _ c.loop-argument-test.true c.argument-item.is c.after_expression-found.ensures c.loop-argument.invariant

pub after_arguments-returns : goal.after_arguments-returns
after_arguments-returns t c = all_seen arguments_in arguments_none _ _ _ _ c.loop-argument-test.false c.loop-argument.invariant
