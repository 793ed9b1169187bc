use Rattle.std.proofs.Common.{◌≡◌, sym, ap, ◌+◌, ◌∙◌, arith}
use Rattle.live_frames.specs.Memory.{is_taken}
use Rattle.live_frames.proofs.FreeRuns.{count_none, count_more, counted_small}
use Rattle.live_frames.proofs.memory.Taken.count.Goals as goal

pub loop-address-init : goal.loop-address-init
loop-address-init c = (sym (count_none (is_taken c.args.self.now.marks)), omega arith)

pub loop-address-preserved : goal.loop-address-preserved
loop-address-preserved c =
    let more = count_more (is_taken c.args.self.now.marks) c.loop-address.address in
    let small = counted_small (is_taken c.args.self.now.marks) c.loop-address.address in
    (omega (arith, more, c.loop-address.invariant.0, c.counted-count.ensures), omega (arith, small, c.loop-address.invariant.1, c.counted-count.ensures))
