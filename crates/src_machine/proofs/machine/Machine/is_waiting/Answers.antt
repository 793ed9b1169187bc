use Rattle.std.proofs.Common.{◌∙◌, sym, arith, ◌-◌, length}
use Rattle.std.proofs.lemmas.List.{length-take-le}
use Rattle.src_machine.proofs.Waiting.{waits_below, waits_here}
use Rattle.src_machine.specs.Seen.{interrupted_in}
use Rattle.src_machine.proofs.machine.Machine.is_waiting.Goals as goal

pub loop-frames-preserved : goal.loop-frames-preserved
loop-frames-preserved c = (
  let shorter = length-take-le (length c.loop-frames.frames.now - 1) c.loop-frames.frames.now (omega arith) in omega (arith, shorter, c.loop-frames.invariant.0),
  waits_below (interrupted_in c.args.self.now) c.loop-frames.frames.now c.top-item.result c.args.copy _ c.in-len1-up.len_at_least c.top-item.is (sym c.is_caller.ensures ∙ c.if-is_caller.false) c.loop-frames.invariant.1,
)

pub returns-then-is_caller : goal.returns-then-is_caller
returns-then-is_caller c = waits_here (interrupted_in c.args.self.now) c.loop-frames.frames.now c.top-item.result c.args.copy _ c.in-len1-up.len_at_least c.top-item.is (sym c.is_caller.ensures ∙ c.if-is_caller.true) c.loop-frames.invariant.1
