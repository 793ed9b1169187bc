use Rattle.std.proofs.Common.{◌≡◌, drop, map}
use Rattle.c_typed.specs.Views.{size_of, variable_of}
use Rattle.lower_stmt.specs.Frames.{end_from}
use Rattle.lower_stmt.proofs.frames.end_from.Given as goal

abbrev pub invariant-loop-variable : goal.invariant-loop-variable
invariant-loop-variable l = end_from (map size_of l.structures) l.at (map variable_of (drop l.variable-index l.variables)) ≡ end_from (map size_of l.structures) l.fn.start (map variable_of l.variables)
