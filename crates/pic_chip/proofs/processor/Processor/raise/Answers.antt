use Rattle.std.proofs.Common.{arith, ◌<◌, ◌≡◌, ap, ◌∙◌, ◌%◌}
use Rattle.pic_chip.specs.State.{State}
use Rattle.pic_world.specs.Bits.{bit}
use Rattle.pic_chip.proofs.BitCases.{or_below_8}
use Rattle.pic_chip.proofs.processor.Processor.raise.Goals as goal

pub returns-clause-gie : goal.returns-clause-gie
returns-clause-gie c = or_below_8 (c.args.flags % 8) c.self.inside.intcon (omega arith) (omega arith) ∙ ap (λ (s : State). bit s.intcon 7) c.self.view_is
