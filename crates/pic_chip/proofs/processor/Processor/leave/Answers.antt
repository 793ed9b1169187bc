use Rattle.std.proofs.Common.{◌≡◌, ap, ◌∙◌, sym}
use Rattle.pic_world.specs.Bits.{set_bit}
use Rattle.pic_chip.specs.Changes.{popped}
use Rattle.pic_chip.proofs.Done.{pop_done}
use Rattle.pic_chip.proofs.processor.Processor.leave.Goals as goal

pub returns-clause-state : goal.returns-clause-state
returns-clause-state c =
    let s = c.args.self.now in
    c.pop.ensures ∙ ap popped c.allow.ensures ∙ pop_done s s.w (set_bit 7 s.intcon) c.pc.ensures.words
