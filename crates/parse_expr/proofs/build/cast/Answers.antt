use Rattle.c_nodes.proofs.Shapes.{made_cast}
use Rattle.parse_expr.proofs.build.cast.Goals as goal

pub returns : goal.returns
returns c = made_cast _
