use Rattle.std.proofs.Common.{sym, ◌∙◌}
use Rattle.c_typed.specs.Roots.{is_bad_handler}
use Rattle.call_graph.proofs.Searches.{goes_on, found, nowhere}
use Rattle.call_graph.proofs.roots.has_bad_handler.Goals as goal

pub loop-function-preserved : goal.loop-function-preserved
loop-function-preserved c = goes_on is_bad_handler _ _ c.function-item.result _ c.loop-function-test.true c.function-item.is (sym c.is_bad_handler.ensures ∙ c.if-is_bad_handler.false) c.loop-function.invariant

pub returns-then-is_bad_handler : goal.returns-then-is_bad_handler
returns-then-is_bad_handler c = found is_bad_handler _ _ c.function-item.result _ c.loop-function-test.true c.function-item.is (sym c.is_bad_handler.ensures ∙ c.if-is_bad_handler.true) c.loop-function.invariant

pub returns : goal.returns
returns c = nowhere is_bad_handler _ _ _ c.loop-function-test.false c.loop-function.invariant
