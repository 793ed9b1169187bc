use Rattle.std.proofs.Common.{◌≡◌, length}
use Rattle.lean_code.specs.Checked.{rows_in}
use Rattle.lean_code.specs.Steady.{is_steady}
use Rattle.lean_pass.specs.Views.{rows_of}
use Rattle.lean_pass.proofs.steady.is_steady.Given as goal

abbrev pub invariant-loop-row : goal.invariant-loop-row
invariant-loop-row l = is_steady (rows_in (rows_of l.left)) ≡ is_steady (rows_in (rows_of l.rows))

abbrev pub decreases-loop-row : goal.decreases-loop-row
decreases-loop-row l = length l.left
