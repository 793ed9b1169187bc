use Rattle.std.proofs.Common.{arith}
use Rattle.std.proofs.lemmas.Int.{to_z-of_z}
use Rattle.c_ints.proofs.Cut.{same}
use Rattle.c_ints.proofs.operators.convert.Goals as goal

pub returns-clause-same : goal.returns-clause-same
returns-clause-same c = λ h. let e = same c.args.ty c.args.v.number h in grind (arith, to_z-of_z)
