use Rattle.c_typed.specs.Roots.{is_handler}
use Rattle.call_graph.proofs.Searches.{first_found, first_on, first_nowhere}
use Rattle.vol_opt.proofs.keeping.handler_of.Goals as goal

pub loop-number-preserved : goal.loop-number-preserved
loop-number-preserved c = first_on is_handler _ _ c.index-functions-number.result _ c.loop-number-test.true c.index-functions-number.is c.if-function.false c.loop-number.invariant

pub returns-then-function : goal.returns-then-function
returns-then-function c = first_found is_handler _ _ c.index-functions-number.result _ c.loop-number-test.true c.index-functions-number.is c.if-function.true c.loop-number.invariant

pub returns : goal.returns
returns c = first_nowhere is_handler _ _ _ c.loop-number-test.false c.loop-number.invariant
