use Rattle.typed_laws.proofs.Units.{judged_sound}
use Rattle.typed_laws.proofs.soundness.judged_sound.Goals as goal

pub returns : goal.returns
returns c = record { sound = judged_sound }
