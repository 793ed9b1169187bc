use Rattle.std.proofs.Common.{◌≡◌, ℕ, ap, ◌∙◌, sym}
use Rattle.pic_chip.specs.State.{State}
use Rattle.pic_world.specs.Bits.{clear_bit}
use Rattle.pic_chip.specs.Changes.{pushed}
use Rattle.pic_chip.proofs.Done.{enter_done}
use Rattle.pic_chip.proofs.processor.Processor.enter.Goals as goal

pub returns : goal.returns
returns c =
    let s = c.args.self.now in
    c.push.ensures ∙ ap (λ (p : ℕ). pushed p c.set_pc.new.self) c.pc-pc.ensures.value
    ∙ ap (pushed s.pc) (c.set_pc.ensures ∙ ap (λ (t : State). record t { pc = 4 }) c.forbid.ensures)
    ∙ enter_done s c.pc-pc.ensures.words
