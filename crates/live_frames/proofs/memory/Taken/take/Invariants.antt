use Rattle.std.proofs.Common.{◌≡◌, ℕ, ◌<◌, ◌||◌}
use Rattle.live_frames.specs.Memory.{is_taken, covers}
use Rattle.live_frames.proofs.memory.Taken.take.Given as goal

abbrev pub invariant-loop-k : goal.invariant-loop-k
invariant-loop-k l = (x : ℕ) → x < 512 → is_taken l.self.marks x ≡ (covers l.span.address l.k x || is_taken l.fn.self.marks x)
