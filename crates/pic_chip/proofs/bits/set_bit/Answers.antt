use Rattle.std.proofs.Common.{arith, ◌<◌}
use Rattle.pic_chip.proofs.BitCases.{or_bit}
use Rattle.pic_chip.proofs.bits.set_bit.Goals as goal

pub returns : goal.returns
returns c = or_bit c.args.place c.args.byte (omega arith) (omega arith)
