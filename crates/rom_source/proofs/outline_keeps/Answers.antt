use Rattle.rom_source.proofs.Laws.{outline_keeps_law}
use Rattle.rom_source.proofs.outline_keeps.Goals as goal

pub returns : goal.returns
returns c = outline_keeps_law
