use Rattle.std.proofs.Common.{arith}
use Rattle.src_memory.proofs.BitCases.{and_not_bit}
use Rattle.src_memory.proofs.bits.clear_bit.Goals as goal

pub returns : goal.returns
returns c = and_not_bit c.args.place c.args.byte (omega arith) (omega arith)
