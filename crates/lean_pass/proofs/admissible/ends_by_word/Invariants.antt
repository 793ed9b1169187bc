use Rattle.std.proofs.Common.{◌≡◌, true, length}
use Rattle.lean_code.specs.Checked.{rows_in}
use Rattle.lean_code.specs.Admissible.{ends_by_word}
use Rattle.lean_code.specs.Rows.{puts}
use Rattle.lean_pass.specs.Views.{rows_of}
use Rattle.lean_pass.proofs.admissible.ends_by_word.Given as goal

abbrev pub invariant-loop-row : goal.invariant-loop-row
invariant-loop-row l = ends_by_word l.last (puts (rows_in (rows_of l.left))) ≡ ends_by_word true (puts (rows_in (rows_of l.rows)))

abbrev pub decreases-loop-row : goal.decreases-loop-row
decreases-loop-row l = length l.left
