use Rattle.std.proofs.Common.{◌≡◌, None, drop}
use Rattle.named_registers.specs.Foreign.{foreign_of}
use Rattle.named_registers.proofs.Lists.{functions_in}
use Rattle.named_registers.proofs.foreign.after_functions.Given as goal

abbrev pub invariant-loop-function : goal.invariant-loop-function
invariant-loop-function l = foreign_of l.found (functions_in (drop l.function-index l.functions)) ≡ foreign_of None (functions_in l.functions)
