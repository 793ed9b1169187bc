use Rattle.code_place.proofs.Filled.{Filled}
use Rattle.code_place.proofs.assembly.assemble.Given as goal

abbrev pub invariant-loop-number : goal.invariant-loop-number
invariant-loop-number l = Filled l.placed l.s.blocks.items l.at l.number l.image
