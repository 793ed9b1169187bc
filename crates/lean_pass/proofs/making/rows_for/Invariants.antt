use Rattle.std.proofs.Common.{◌≡◌, ◌++◌, length}
use Rattle.lean_code.specs.Rows.{olds}
use Rattle.lean_code.specs.Checked.{rows_in}
use Rattle.lean_pass.specs.Views.{rows_of}
use Rattle.lean_pass.proofs.making.rows_for.Given as goal

abbrev pub invariant-loop-sym : goal.invariant-loop-sym
invariant-loop-sym l = olds (rows_in (rows_of l.rows.items)) ++ l.left ≡ l.list

abbrev pub decreases-loop-sym : goal.decreases-loop-sym
decreases-loop-sym l = length l.left
