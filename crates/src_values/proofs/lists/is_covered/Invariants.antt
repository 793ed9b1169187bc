use Rattle.std.proofs.Common.{◌≡◌, drop}
use Rattle.c_typed.specs.Views.{program_of}
use Rattle.src_values.proofs.Covers.{covered_in}
use Rattle.src_values.proofs.lists.is_covered.Given as goal

abbrev pub invariant-loop-item : goal.invariant-loop-item
invariant-loop-item l = covered_in (program_of l.program).sizes l.at (drop l.item-index l.items) ≡ covered_in (program_of l.program).sizes l.at l.items
