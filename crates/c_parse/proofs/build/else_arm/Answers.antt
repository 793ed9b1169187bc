use Rattle.c_nodes.proofs.ProgramShapes.{made_else_arm}
use Rattle.c_parse.proofs.build.else_arm.Goals as goal

pub returns : goal.returns
returns c = made_else_arm _
