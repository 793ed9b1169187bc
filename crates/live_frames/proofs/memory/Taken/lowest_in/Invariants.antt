use Rattle.std.proofs.Common.{◌≡◌, ℕ, ◌+◌, ◌<◌, true}
use Rattle.live_frames.specs.Memory.{is_taken, IsPlace}
use Rattle.live_frames.proofs.memory.Taken.lowest_in.Given as goal

abbrev pub invariant-loop-k : goal.invariant-loop-k
invariant-loop-k l = (b : ℕ) → b < l.region.address + l.k → IsPlace (λ x. is_taken l.self.marks x ≡ true) l.region l.size b → ⊥
