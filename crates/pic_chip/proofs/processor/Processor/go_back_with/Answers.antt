use Rattle.std.proofs.Common.{◌≡◌, ap, ◌∙◌, sym}
use Rattle.pic_chip.specs.Changes.{popped}
use Rattle.pic_chip.proofs.Done.{pop_done}
use Rattle.pic_chip.proofs.processor.Processor.go_back_with.Goals as goal

pub returns-clause-state : goal.returns-clause-state
returns-clause-state c =
    let s = c.args.self.now in
    c.pop.ensures ∙ ap popped c.set_w.ensures ∙ pop_done s c.args.k s.intcon c.pc.ensures.words
