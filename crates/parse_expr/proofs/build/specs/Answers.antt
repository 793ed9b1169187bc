use Rattle.c_nodes.proofs.Shapes.{made_specs}
use Rattle.parse_expr.proofs.build.specs.Goals as goal

pub returns : goal.returns
returns c = made_specs _
