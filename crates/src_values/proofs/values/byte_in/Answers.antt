use Rattle.std.proofs.Common.{arith}
use Rattle.src_values.proofs.Powers.{no_byte}
use Rattle.src_values.proofs.values.byte_in.Goals as goal

pub returns-in_default : goal.returns-in_default
returns-in_default c = let fits = c.ranges.bits.fits in no_byte c.args.bits c.args.k (omega (arith, fits)) (omega arith)
