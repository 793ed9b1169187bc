use Rattle.std.proofs.Common.{drop}
use Rattle.typed_numbers.proofs.Gathered.{Functions}
use Rattle.typed_numbers.proofs.numbers.see_functions.Given as goal

abbrev pub invariant-loop-function : goal.invariant-loop-function
invariant-loop-function l = Functions (drop l.function-index l.functions) → Functions l.functions
