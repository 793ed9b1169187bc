use Rattle.std.proofs.Common.{◌≡◌, ◌++◌, drop, map}
use Rattle.lower_stmt.specs.Labels.{target_of}
use Rattle.lower_stmt.proofs.labels.labels_of.Given as goal

abbrev pub invariant-loop-case : goal.invariant-loop-case
invariant-loop-case l = l.found.items ++ map target_of (drop l.case-index l.cases) ≡ map target_of l.cases
