use Rattle.std.proofs.Common.{sym, ◌∙◌}
use Rattle.c_typed.specs.Roots.{is_main}
use Rattle.call_graph.proofs.Searches.{goes_on, found, nowhere}
use Rattle.call_graph.proofs.roots.has_main.Goals as goal

pub loop-function-preserved : goal.loop-function-preserved
loop-function-preserved c = goes_on is_main _ _ c.function-item.result _ c.loop-function-test.true c.function-item.is (sym c.is_main.ensures ∙ c.if-is_main.false) c.loop-function.invariant

pub returns-then-is_main : goal.returns-then-is_main
returns-then-is_main c = found is_main _ _ c.function-item.result _ c.loop-function-test.true c.function-item.is (sym c.is_main.ensures ∙ c.if-is_main.true) c.loop-function.invariant

pub returns : goal.returns
returns c = nowhere is_main _ _ _ c.loop-function-test.false c.loop-function.invariant
