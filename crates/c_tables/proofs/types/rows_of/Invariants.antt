use Rattle.std.proofs.Common.{◌≡◌, ◌++◌}
use Rattle.c_tables.proofs.types.rows_of.Given as goal

abbrev pub invariant-loop-target : goal.invariant-loop-target
invariant-loop-target l = l.listed.items ++ l.target-iterator ≡ l.fn.targets.keys
