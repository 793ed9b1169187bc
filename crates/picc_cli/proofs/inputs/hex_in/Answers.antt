use Rattle.std.proofs.Common.{refl}
use Rattle.picc_cli.proofs.InputFiles.{hex_none}
use Rattle.picc_cli.proofs.inputs.hex_in.Goals as goal

pub returns-clause-none : goal.returns-clause-none
returns-clause-none g c =
    hex_none _ _ _ _ _ _ _ c.in-Ok.ensures.found c.in-Ok.ensures.short c.deref.ensures.value c.in-Err-read_hex.ensures.only c.in-Err-read_hex.ensures.refused c.hex_end.ensures.value
    refl
