use Rattle.program_laws.proofs.Lines.{lines_named}
use Rattle.program_laws.proofs.map_names.lines_are_named.Goals as goal

pub returns : goal.returns
returns c = record { named = lines_named }
