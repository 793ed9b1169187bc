use Rattle.c_nodes.specs.ProgramViews.{unit_of}
use Rattle.c_check.proofs.Units.{names_few}
use Rattle.c_check.proofs.unit.begun.Goals as goal

pub new-requires : goal.new-requires
new-requires c = names_few (unit_of c.args.unit.now) c.in_ok-names.names.keys c.in_ok-names.ensures.ok c.requires
