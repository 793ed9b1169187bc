use Rattle.pic_chip.specs.Named.{named}
use Rattle.chip_84a.proofs.Boundary.{intcon_held}
use Rattle.chip_84a.proofs.chip.intcon.Goals as goal

pub returns : goal.returns
returns c = intcon_held c.args.processor.now (named c.operand.result) c.contents.result c.operand.ensures.leads c.contents.ensures
