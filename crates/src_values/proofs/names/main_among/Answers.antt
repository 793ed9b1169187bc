use Rattle.std.proofs.Common.{sym, ◌∙◌}
use Rattle.c_typed.specs.Roots.{is_main}
use Rattle.src_values.proofs.Searches.{first_found, first_on, first_nowhere}
use Rattle.src_values.proofs.names.main_among.Goals as goal

pub loop-number-preserved : goal.loop-number-preserved
loop-number-preserved c = first_on is_main _ _ c.index-functions-number.result _ c.loop-number-test.true c.index-functions-number.is (sym c.is_main.ensures ∙ c.if-is_main.false) c.loop-number.invariant

pub returns-then-is_main : goal.returns-then-is_main
returns-then-is_main c = first_found is_main _ _ c.index-functions-number.result _ c.loop-number-test.true c.index-functions-number.is (sym c.is_main.ensures ∙ c.if-is_main.true) c.loop-number.invariant

pub returns : goal.returns
returns c = first_nowhere is_main _ _ _ c.loop-number-test.false c.loop-number.invariant
