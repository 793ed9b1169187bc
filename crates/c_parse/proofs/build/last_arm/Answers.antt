use Rattle.c_nodes.proofs.ProgramShapes.{made_otherwise}
use Rattle.c_parse.proofs.build.last_arm.Goals as goal

pub returns : goal.returns
returns c = made_otherwise _
