use Rattle.std.proofs.Common.{◌≡◌, ℕ, ◌+◌, ◌%◌, ◌*◌, ◌/◌, ap, ◌∙◌, sym}
use Rattle.pic_chip.specs.State.{State}
use Rattle.pic_chip.specs.Changes.{pushed}
use Rattle.pic_chip.proofs.Done.{call_done}
use Rattle.pic_chip.proofs.processor.Processor.call.Goals as goal

pub returns-clause-state : goal.returns-clause-state
returns-clause-state c =
    let s = c.args.self.now in
    c.push.ensures ∙ ap (λ t. pushed ((c.pc.result + 1) % 8192) t) c.jump.ensures.state
    ∙ ap (λ q. pushed ((q + 1) % 8192) (record s { pc = s.pclath / 8 % 4 * 2048 + c.args.k })) c.pc.ensures.value
    ∙ call_done s ((s.pc + 1) % 8192) (s.pclath / 8 % 4 * 2048 + c.args.k) s.intcon c.pc.ensures.words
