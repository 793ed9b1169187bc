use Rattle.std.proofs.Common.{◌≤◌, ◌-◌, length}
use Rattle.depth_check.specs.Ordered.{rows_before}
use Rattle.depth_check.proofs.check.rows_before.Given as goal

abbrev pub invariant-loop-low : goal.invariant-loop-low
invariant-loop-low l = (l.low ≤ rows_before l.rows l.at) × (rows_before l.rows l.at ≤ l.high) × (l.high ≤ length l.rows)

abbrev pub decreases-loop-low : goal.decreases-loop-low
decreases-loop-low l = l.high - l.low
