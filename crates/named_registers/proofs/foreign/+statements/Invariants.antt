use Rattle.std.proofs.Common.{◌≡◌, drop}
use Rattle.named_registers.specs.Foreign.{foreign_of}
use Rattle.named_registers.proofs.Lists.{statements_in, arms_in}
use Rattle.named_registers.proofs.foreign.+statements.Given as goal

abbrev pub invariant-after_statements-loop-statement : goal.invariant-after_statements-loop-statement
invariant-after_statements-loop-statement l = foreign_of l.found (statements_in (drop l.statement-index l.statements)) ≡ foreign_of l.fn.first (statements_in l.statements)

abbrev pub invariant-after_arms-loop-arm : goal.invariant-after_arms-loop-arm
invariant-after_arms-loop-arm l = foreign_of l.found (arms_in (drop l.arm-index l.arms)) ≡ foreign_of l.fn.first (arms_in l.arms)
