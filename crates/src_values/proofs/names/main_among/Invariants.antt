use Rattle.std.proofs.Common.{◌≡◌, drop}
use Rattle.c_typed.specs.Roots.{is_main}
use Rattle.src_values.proofs.Searches.{first_in}
use Rattle.src_values.proofs.names.main_among.Given as goal

abbrev pub invariant-loop-number : goal.invariant-loop-number
invariant-loop-number l = first_in is_main (drop l.number l.functions) l.number ≡ first_in is_main l.functions 0
