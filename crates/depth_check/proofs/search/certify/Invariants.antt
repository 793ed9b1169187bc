use Rattle.depth_check.proofs.Cells.{NoneBelow}
use Rattle.depth_check.proofs.search.certify.Given as goal

-- no certificate with a cell that was tried is valid
abbrev pub invariant-loop-cell : goal.invariant-loop-cell
invariant-loop-cell l = NoneBelow l.image l.cell
