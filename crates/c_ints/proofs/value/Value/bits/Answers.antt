use Rattle.std.proofs.Common.{arith}
use Rattle.std.proofs.lemmas.Int.{to_z-of_z}
use Rattle.c_ints.proofs.Cut.{again}
use Rattle.c_ints.proofs.value.Value.bits.Goals as goal

pub returns-clause-again : goal.returns-clause-again
returns-clause-again c = grind (arith, to_z-of_z, again c.args.self.ty c.args.self.number)
