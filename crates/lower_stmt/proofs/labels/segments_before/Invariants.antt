use Rattle.std.proofs.Common.{◌≡◌, ◌+◌, ◌≤◌, drop}
use Rattle.lower_stmt.specs.Labels.{segments_before}
use Rattle.lower_stmt.proofs.labels.segments_before.Given as goal

abbrev pub invariant-loop-i : goal.invariant-loop-i
invariant-loop-i l = record { small : l.count ≤ l.i; so_far : l.count + segments_before l.statements (drop l.i l.found) ≡ segments_before l.statements l.found }
