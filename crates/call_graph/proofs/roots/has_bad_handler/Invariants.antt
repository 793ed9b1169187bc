use Rattle.std.proofs.Common.{◌≡◌, drop}
use Rattle.c_typed.specs.Roots.{is_bad_handler}
use Rattle.call_graph.proofs.Searches.{has_in}
use Rattle.call_graph.proofs.roots.has_bad_handler.Given as goal

abbrev pub invariant-loop-function : goal.invariant-loop-function
invariant-loop-function l = has_in is_bad_handler (drop l.function-index l.functions) ≡ has_in is_bad_handler l.functions
