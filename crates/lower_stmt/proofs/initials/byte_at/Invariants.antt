use Rattle.std.proofs.Common.{◌≡◌, drop}
use Rattle.lower_stmt.specs.FirstBytes.{byte_at}
use Rattle.lower_stmt.proofs.initials.byte_at.Given as goal

abbrev pub invariant-loop-given : goal.invariant-loop-given
invariant-loop-given l = byte_at (drop l.given-index l.values) l.offset ≡ byte_at l.values l.offset
