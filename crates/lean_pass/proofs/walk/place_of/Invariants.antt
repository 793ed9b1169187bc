use Rattle.std.proofs.Common.{◌≡◌, ◌+◌, ◌≤◌, length}
use Rattle.lean_code.specs.Rows.{place_in}
use Rattle.lean_code.specs.Checked.{rows_in}
use Rattle.lean_pass.specs.Views.{rows_of}
use Rattle.lean_pass.proofs.walk.place_of.Given as goal

abbrev pub invariant-loop-more : goal.invariant-loop-more
invariant-loop-more l = (l.place + place_in (rows_in (rows_of l.left)) l.more ≡ place_in (rows_in (rows_of l.rows)) l.at) × (l.place + l.more ≤ l.at) × (l.place + length l.left ≤ length l.rows)

abbrev pub decreases-loop-more : goal.decreases-loop-more
decreases-loop-more l = l.more
