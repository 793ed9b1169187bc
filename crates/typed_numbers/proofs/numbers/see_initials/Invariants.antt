use Rattle.std.proofs.Common.{drop}
use Rattle.src_rules.specs.Numbers.{InitialsHaveNumbers}
use Rattle.typed_numbers.proofs.numbers.see_initials.Given as goal

abbrev pub invariant-loop-initial : goal.invariant-loop-initial
invariant-loop-initial l = InitialsHaveNumbers (drop l.initial-index l.initials) → InitialsHaveNumbers l.initials
