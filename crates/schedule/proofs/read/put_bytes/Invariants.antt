use Rattle.std.proofs.Common.{◌≡◌, length}
use Rattle.schedule.specs.Reading.{bytes_in}
use Rattle.schedule.proofs.Bytes.{behind}
use Rattle.schedule.proofs.read.put_bytes.Given as goal

abbrev pub invariant-loop-byte : goal.invariant-loop-byte
invariant-loop-byte l = behind l.input.items (bytes_in l.left) ≡ behind l.fn.input.items (bytes_in l.digits)

abbrev pub decreases-loop-byte : goal.decreases-loop-byte
decreases-loop-byte l = length l.left
