use Rattle.vol_opt.proofs.Lists.{one_more, all_seen, expression_in, arguments_in, arguments_none, arguments_more}
use Rattle.vol_opt.proofs.marking.+expressions.Goals as goal

pub mark_arguments-loop-argument-preserved : goal.mark_arguments-loop-argument-preserved
mark_arguments-loop-argument-preserved t c = one_more (expression_in c.args.names) (arguments_in c.args.names) (arguments_more c.args.names) _ _ c.argument-item.result _ _ _ c.loop-argument-test.true c.argument-item.is c.mark_expression.ensures c.loop-argument.invariant

pub mark_arguments-returns : goal.mark_arguments-returns
mark_arguments-returns t c = all_seen (arguments_in c.args.names) (arguments_none c.args.names) _ _ _ _ c.loop-argument-test.false c.loop-argument.invariant
