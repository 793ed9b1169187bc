use Rattle.c_nodes.proofs.ProgramShapes.{made_block}
use Rattle.c_parse.proofs.build.block.Goals as goal

pub returns : goal.returns
returns c = made_block _
