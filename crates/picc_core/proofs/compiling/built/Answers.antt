use Rattle.picc_core.proofs.Translating.{coded_at, founded_at}
use Rattle.picc_core.proofs.compiling.built.Goals as goal

pub coded-requires : goal.coded-requires
coded-requires c = founded_at _ _ _ _ _ c.deref.ensures.value c.requires

pub returns-clause-code : goal.returns-clause-code
returns-clause-code c = coded_at _ _ _ _ _ _ _ _ c.deref.ensures.value c.in_ok-assembled.ensures
