use Rattle.std.proofs.Common.{arith}
use Rattle.typed_numbers.proofs.Gathered.{all_small}
use Rattle.typed_numbers.proofs.numbers.see_text.Goals as goal

pub returns : goal.returns
returns c = all_small c.args.bytes.now (λ i. omega (arith, c.type_inv.bytes i))
