use Rattle.std.proofs.Common.{◌≡◌}
use Rattle.lower_stmt.specs.FirstBytes.{bytes_in}
use Rattle.lower_stmt.proofs.initials.bytes_in.Given as goal

abbrev pub invariant-loop-offset : goal.invariant-loop-offset
invariant-loop-offset l = l.bytes.items ≡ bytes_in l.values l.offset
