use Rattle.typed_numbers.proofs.Gathered.{Argument, Arguments, all_gathered, gathered, one_argument}
use Rattle.typed_numbers.proofs.numbers.+numbers.Goals as goal

pub see_arguments-loop-argument-preserved : goal.see_arguments-loop-argument-preserved
see_arguments-loop-argument-preserved t c = gathered Argument Arguments one_argument _ _ c.argument-item.result c.loop-argument-test.true c.argument-item.is c.see_expression.ensures c.loop-argument.invariant

pub see_arguments-returns : goal.see_arguments-returns
see_arguments-returns t c = all_gathered Arguments tt _ _ c.loop-argument-test.false c.loop-argument.invariant
