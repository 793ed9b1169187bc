use Rattle.kept_layout.proofs.Sampled as sampled
use Rattle.kept_layout.proofs.Worked as worked
use Rattle.kept_layout.proofs.sample_switches.Goals as goal

pub returns-clause-traces : goal.returns-clause-traces
returns-clause-traces c = worked.sample_switches

pub returns-clause-meets : goal.returns-clause-meets
returns-clause-meets c = sampled.sample_meets
