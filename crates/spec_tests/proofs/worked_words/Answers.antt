use Rattle.std.proofs.Common.{refl}
use Rattle.spec_tests.proofs.worked_words.Goals as goal

pub returns : goal.returns
returns c = record {
  a_label = λ placed. refl;
  to_targets = λ placed. refl;
  literals = λ placed. refl;
  selects = λ placed. refl;
  of_bytes = λ placed. refl;
}
