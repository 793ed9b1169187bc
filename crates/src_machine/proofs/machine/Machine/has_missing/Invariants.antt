use Rattle.std.proofs.Common.{◌≡◌, drop}
use Rattle.src_machine.specs.Passing.{values_among}
use Rattle.src_rules.specs.Step.{has_missing}
use Rattle.src_machine.proofs.machine.Machine.has_missing.Given as goal

abbrev pub invariant-loop-at : goal.invariant-loop-at
invariant-loop-at l = has_missing (values_among (drop l.at l.self.stack.items)) ≡ has_missing (values_among (drop l.first l.self.stack.items))
