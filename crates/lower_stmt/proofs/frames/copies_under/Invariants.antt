use Rattle.std.proofs.Common.{◌≡◌, drop}
use Rattle.std.specs.Prelude.{None, replicate}
use Rattle.lower_stmt.specs.Frames.{marked}
use Rattle.lower_stmt.proofs.frames.copies_under.Given as goal

abbrev pub invariant-loop-number : goal.invariant-loop-number
invariant-loop-number l = marked l.root l.number (drop l.number l.list) l.numbers.items ≡ marked l.root 0 l.list (replicate l.functions None)
