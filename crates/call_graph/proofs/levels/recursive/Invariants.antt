use Rattle.std.proofs.Common.{ℕ, ◌<◌}
use Rattle.c_typed.specs.Chains.{ReachesItself}
use Rattle.call_graph.specs.Rows.{rows_of}
use Rattle.call_graph.proofs.levels.recursive.Given as goal

abbrev pub invariant-loop-number : goal.invariant-loop-number
invariant-loop-number l = (f : ℕ) → f < l.number → ReachesItself (rows_of l.rows) f → ⊥
