use Rattle.std.proofs.Common.{◌≡◌, true}
use Rattle.live_frames.specs.Memory.{is_taken, IsFree}
use Rattle.live_frames.proofs.memory.Taken.is_free.Given as goal

abbrev pub invariant-loop-k : goal.invariant-loop-k
invariant-loop-k l = IsFree (λ x. is_taken l.self.marks x ≡ true) l.span.address l.k
