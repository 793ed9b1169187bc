use Rattle.typed_laws.proofs.UnitSizes.{judged_small, judged_bounded}
use Rattle.typed_laws.proofs.sizes.judged_small.Goals as goal

pub returns-clause-small : goal.returns-clause-small
returns-clause-small c = judged_small

pub returns-clause-bounded : goal.returns-clause-bounded
returns-clause-bounded c = judged_bounded
