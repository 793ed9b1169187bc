use Rattle.std.proofs.Common.{drop}
use Rattle.src_rules.specs.Numbers.{CasesHaveNumbers}
use Rattle.typed_numbers.proofs.numbers.see_cases.Given as goal

abbrev pub invariant-loop-case : goal.invariant-loop-case
invariant-loop-case l = CasesHaveNumbers (drop l.case-index l.cases) → CasesHaveNumbers l.cases
