use Rattle.std.proofs.Common.{◌≡◌, ◌++◌, true, length}
use Rattle.sym_code.specs.WellFormed.{are_well_formed}
use Rattle.lean_code.specs.Rows.{olds, puts}
use Rattle.lean_code.specs.Checked.{rows_in}
use Rattle.lean_pass.specs.Views.{rows_of}
use Rattle.lean_pass.proofs.making.put_rows.Given as goal

abbrev pub invariant-loop-row : goal.invariant-loop-row
invariant-loop-row l = (are_well_formed (olds (rows_in (rows_of l.left))) ≡ true) × (l.out.name ≡ l.fn.out.name) × (l.out.list.items ++ puts (rows_in (rows_of l.left)) ≡ puts (rows_in (rows_of l.rows)))

abbrev pub decreases-loop-row : goal.decreases-loop-row
decreases-loop-row l = length l.left
