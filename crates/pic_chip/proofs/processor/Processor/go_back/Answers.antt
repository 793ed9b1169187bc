use Rattle.std.proofs.Common.{◌≡◌, ap, ◌∙◌, sym}
use Rattle.pic_chip.proofs.Done.{pop_done}
use Rattle.pic_chip.proofs.processor.Processor.go_back.Goals as goal

pub returns-clause-state : goal.returns-clause-state
returns-clause-state c =
    let s = c.args.self.now in
    c.pop.ensures ∙ pop_done s s.w s.intcon c.pc.ensures.words
