use Rattle.rom_tables.proofs.Chains.{outlined_acyclic}
use Rattle.rom_tables.proofs.NamesKept.{outlined_names}
use Rattle.rom_tables.proofs.Programs.{outlined_sound}
use Rattle.rom_tables.proofs.RootsKept.{outlined_roots}
use Rattle.rom_tables.proofs.Sizes.{outlined_small}
use Rattle.rom_tables.proofs.laws.outlined_laws.Goals as goal

pub returns : goal.returns
returns c = record { sound = outlined_sound; small = outlined_small; acyclic = outlined_acyclic; roots = outlined_roots; names = outlined_names }
