use Rattle.std.proofs.Common.{◌≡◌, drop}
use Rattle.call_graph.specs.Adding.{is_at_level}
use Rattle.call_graph.proofs.levels.is_at_level.Given as goal

abbrev pub invariant-loop-function : goal.invariant-loop-function
invariant-loop-function l = is_at_level (drop l.function-index l.functions) l.levels l.level ≡ is_at_level l.functions l.levels l.level
