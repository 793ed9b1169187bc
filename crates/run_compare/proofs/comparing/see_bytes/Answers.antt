use Rattle.std.proofs.Common.{◌<◌, arith}
use Rattle.std.proofs.lemmas.List.Elements.{All-from_get_or}
use Rattle.run_compare.proofs.comparing.see_bytes.Goals as goal

pub returns : goal.returns
returns c = record {
  all = All-from_get_or (λ n. n < 256) c.args.bytes.now 0 (λ i within. omega (arith, c.type_inv.bytes i));
  each = λ k. omega (arith, c.type_inv.bytes k);
}
