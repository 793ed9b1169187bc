use Rattle.std.proofs.Common.{◌≡◌, drop}
use Rattle.c_typed.specs.Roots.{is_main}
use Rattle.call_graph.proofs.Searches.{has_in, first_in}
use Rattle.call_graph.proofs.roots.main_of.Given as goal

abbrev pub invariant-loop-number : goal.invariant-loop-number
invariant-loop-number l = (has_in is_main (drop l.number l.functions) ≡ has_in is_main l.functions) × (first_in is_main (drop l.number l.functions) l.number ≡ first_in is_main l.functions 0)
