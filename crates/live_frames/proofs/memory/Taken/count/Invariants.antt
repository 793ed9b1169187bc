use Rattle.std.proofs.Common.{◌≡◌, ◌≤◌}
use Rattle.live_frames.specs.Memory.{is_taken, count_below}
use Rattle.live_frames.proofs.memory.Taken.count.Given as goal

abbrev pub invariant-loop-address : goal.invariant-loop-address
invariant-loop-address l = (l.count ≡ count_below (is_taken l.self.marks) l.address) × (l.count ≤ l.address)
