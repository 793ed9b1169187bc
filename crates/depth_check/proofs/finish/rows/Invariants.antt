use Rattle.std.proofs.Common.{◌≡◌, ◌++◌, drop}
use Rattle.depth_check.specs.Search.{rows_from}
use Rattle.depth_check.proofs.finish.rows.Given as goal

abbrev pub invariant-loop-at : goal.invariant-loop-at
invariant-loop-at l = l.rows.items ++ rows_from l.entries.list.items l.at (drop l.at l.s.spots.items) ≡ rows_from l.entries.list.items 0 l.s.spots.items
