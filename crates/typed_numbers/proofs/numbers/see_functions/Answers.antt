use Rattle.typed_numbers.proofs.Gathered.{Functions, OneFunction, all_gathered, gathered, one_function}
use Rattle.typed_numbers.proofs.numbers.see_functions.Goals as goal

pub loop-function-preserved : goal.loop-function-preserved
loop-function-preserved c = gathered OneFunction Functions one_function _ _ c.function-item.result c.loop-function-test.true c.function-item.is (rw c.deref.ensures.value at c.see_statements.ensures) c.loop-function.invariant

pub returns : goal.returns
returns c = all_gathered Functions tt _ _ c.loop-function-test.false c.loop-function.invariant
