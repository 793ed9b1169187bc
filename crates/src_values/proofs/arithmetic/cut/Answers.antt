use Rattle.std.proofs.Common.{arith}
use Rattle.std.proofs.lemmas.Int.{to_z-of_z}
use Rattle.src_values.proofs.Cut.{cut_low}
use Rattle.src_values.proofs.arithmetic.cut.Goals as goal

pub returns : goal.returns
returns c = let e = cut_low c.args.ty c.args.number in grind (arith, to_z-of_z)
