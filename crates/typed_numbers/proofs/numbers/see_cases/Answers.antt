use Rattle.src_rules.specs.Numbers.{CasesHaveNumbers}
use Rattle.typed_numbers.proofs.Gathered.{OneCase, all_gathered, gathered, one_case}
use Rattle.typed_numbers.proofs.numbers.see_cases.Goals as goal

pub loop-case-preserved : goal.loop-case-preserved
loop-case-preserved c = gathered OneCase CasesHaveNumbers one_case _ _ c.case-item.result c.loop-case-test.true c.case-item.is c.see_value.ensures c.loop-case.invariant

pub returns : goal.returns
returns c = all_gathered CasesHaveNumbers tt _ _ c.loop-case-test.false c.loop-case.invariant
