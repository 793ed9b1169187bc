use Rattle.std.proofs.Common.{◌≡◌, length}
use Rattle.lean_code.specs.Checked.{rows_in}
use Rattle.lean_code.specs.Admissible.{are_admissible_rows}
use Rattle.lean_pass.specs.Views.{rows_of, variables_of}
use Rattle.lean_pass.proofs.admissible.are_admissible_rows.Given as goal

abbrev pub invariant-loop-row : goal.invariant-loop-row
invariant-loop-row l = are_admissible_rows (variables_of l.variables) l.whole (rows_in (rows_of l.left)) ≡ are_admissible_rows (variables_of l.variables) l.whole (rows_in (rows_of l.rows))

abbrev pub decreases-loop-row : goal.decreases-loop-row
decreases-loop-row l = length l.left
