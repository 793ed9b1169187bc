use Rattle.std.proofs.Common.{◌≡◌, ℕ, Bool, ◌||◌, sym, ap}
use Rattle.live_frames.specs.Memory.{is_taken}
use Rattle.live_frames.proofs.FreeRuns.{taken_more, none_covered}
use Rattle.live_frames.proofs.memory.Taken.take.Goals as goal

pub loop-k-init : goal.loop-k-init
loop-k-init c = λ x small. sym (ap (λ (b : Bool). b || is_taken c.args.self.now.marks x) (none_covered c.args.span.address x))

pub loop-k-preserved : goal.loop-k-preserved
loop-k-preserved c = taken_more c.args.span.address c.loop-k.k c.args.self.now.marks c.loop-k.self.marks c.mark.new.self.marks c.mark.ensures.here c.mark.ensures.others c.loop-k.invariant
