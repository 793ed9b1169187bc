use Rattle.kept_layout.proofs.Switch.{switches, switched_follows}
use Rattle.kept_layout.proofs.layouts_switch.Goals as goal

pub returns-clause-moments : goal.returns-clause-moments
returns-clause-moments c = switches

pub returns-clause-follows : goal.returns-clause-follows
returns-clause-follows c = switched_follows
