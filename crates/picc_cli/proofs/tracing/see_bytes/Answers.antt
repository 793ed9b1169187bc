use Rattle.std.proofs.Common.{◌<◌, arith}
use Rattle.std.proofs.lemmas.List.Elements.{All-from_get_or}
use Rattle.picc_cli.proofs.tracing.see_bytes.Goals as goal

pub returns : goal.returns
returns c = All-from_get_or (λ n. n < 256) c.args.bytes.now 0 (λ i within. omega (arith, c.type_inv.bytes i))
