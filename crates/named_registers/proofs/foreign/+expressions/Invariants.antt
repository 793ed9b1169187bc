use Rattle.std.proofs.Common.{◌≡◌, drop}
use Rattle.named_registers.specs.Foreign.{foreign_of}
use Rattle.named_registers.proofs.Lists.{arguments_in}
use Rattle.named_registers.proofs.foreign.+expressions.Given as goal

abbrev pub invariant-after_arguments-loop-argument : goal.invariant-after_arguments-loop-argument
invariant-after_arguments-loop-argument l = foreign_of l.found (arguments_in (drop l.argument-index l.arguments)) ≡ foreign_of l.fn.first (arguments_in l.arguments)
