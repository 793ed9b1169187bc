use Rattle.std.proofs.Common.{◌≡◌, ◌+◌, ◌++◌, drop}
use Rattle.type_rules.specs.Slots.{bytes_at}
use Rattle.c_check.proofs.parts.push_bytes.Given as goal

-- what is left goes on from the bytes so far
abbrev pub invariant-loop-byte : goal.invariant-loop-byte
invariant-loop-byte l = (l.at ≡ l.offset + l.byte-index) × (l.begun.items ++ bytes_at l.at (drop l.byte-index l.bytes) ≡ l.fn.begun.items ++ bytes_at l.offset l.bytes)
