use Rattle.std.proofs.Common.{◌≡◌, ℕ, true}
use Rattle.live_frames.specs.Memory.{is_taken}
use Rattle.live_frames.proofs.FreeRuns.{no_place, no_place_more}
use Rattle.live_frames.proofs.memory.Taken.lowest_in.Goals as goal

pub loop-k-preserved : goal.loop-k-preserved
loop-k-preserved c = no_place_more (λ (x : ℕ). is_taken c.args.self.now.marks x ≡ true) c.args.region c.args.size c.loop-k.k c.is_free.result c.if-is_free.false c.is_free.ensures.1 c.loop-k.invariant

pub returns : goal.returns
returns c = no_place (λ (x : ℕ). is_taken c.args.self.now.marks x ≡ true) c.args.region c.args.size c.loop-k.k c.if-size-region.false c.loop-k-test.false c.loop-k.invariant
