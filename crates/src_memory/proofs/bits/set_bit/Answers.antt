use Rattle.std.proofs.Common.{arith}
use Rattle.src_memory.proofs.BitCases.{or_bit}
use Rattle.src_memory.proofs.bits.set_bit.Goals as goal

pub returns : goal.returns
returns c = or_bit c.args.place c.args.byte (omega arith) (omega arith)
