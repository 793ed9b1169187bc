use Rattle.std.proofs.Common.{drop}
use Rattle.typed_numbers.proofs.Gathered.{Arguments}
use Rattle.typed_numbers.proofs.numbers.+numbers.Given as goal

abbrev pub invariant-see_arguments-loop-argument : goal.invariant-see_arguments-loop-argument
invariant-see_arguments-loop-argument l = Arguments (drop l.argument-index l.arguments) → Arguments l.arguments
