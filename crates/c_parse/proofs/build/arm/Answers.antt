use Rattle.c_nodes.proofs.ProgramShapes.{made_arm}
use Rattle.c_parse.proofs.build.arm.Goals as goal

pub returns : goal.returns
returns c = made_arm _
