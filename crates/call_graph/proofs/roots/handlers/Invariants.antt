use Rattle.std.proofs.Common.{◌≡◌, ◌+◌, ◌≤◌, drop}
use Rattle.call_graph.proofs.Searches.{count_in}
use Rattle.c_typed.specs.Roots.{is_handler}
use Rattle.call_graph.proofs.roots.handlers.Given as goal

abbrev pub invariant-loop-function : goal.invariant-loop-function
invariant-loop-function l = (l.count ≤ l.function-index) × (l.count + count_in is_handler (drop l.function-index l.functions) ≡ count_in is_handler l.functions)
