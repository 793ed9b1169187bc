use Rattle.kept_layout.proofs.Routines.{routines_named}
use Rattle.kept_layout.proofs.routines_are_named.Goals as goal

pub returns : goal.returns
returns c = routines_named
