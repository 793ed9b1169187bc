use Rattle.program_laws.proofs.Units.{judged_named}
use Rattle.program_laws.proofs.typed_names.judged_named.Goals as goal

pub returns : goal.returns
returns c = record { named = judged_named }
