use Rattle.c_nodes.proofs.ProgramShapes.{made_next_init}
use Rattle.c_parse.proofs.build.next_init.Goals as goal

pub returns : goal.returns
returns c = made_next_init _
