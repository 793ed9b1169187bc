use Rattle.std.proofs.Common.{◌≡◌, drop}
use Rattle.lower_stmt.specs.Labels.{has}
use Rattle.lower_stmt.proofs.labels.has.Given as goal

abbrev pub invariant-loop-label : goal.invariant-loop-label
invariant-loop-label l = has (drop l.label-index l.found) l.statements ≡ has l.found l.statements
