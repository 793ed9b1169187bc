use Rattle.std.proofs.Common.{◌≡◌, drop}
use Rattle.c_typed.specs.Roots.{is_handler}
use Rattle.call_graph.proofs.Searches.{first_in}
use Rattle.vol_opt.proofs.keeping.handler_of.Given as goal

abbrev pub invariant-loop-number : goal.invariant-loop-number
invariant-loop-number l = first_in is_handler (drop l.number l.functions) l.number ≡ first_in is_handler l.functions 0
