use Rattle.std.proofs.Common.{◌≡◌, ◌≤◌, drop, length}
use Rattle.src_memory.specs.Start.{with_initials}
use Rattle.src_memory.proofs.start.put_initials.Given as goal

abbrev pub invariant-loop-left : goal.invariant-loop-left
invariant-loop-left l = (l.bytes.items ≡ with_initials (drop l.left l.initials) l.initial.bytes.items) × (l.left ≤ length l.initials)

abbrev pub decreases-loop-left : goal.decreases-loop-left
decreases-loop-left l = l.left
