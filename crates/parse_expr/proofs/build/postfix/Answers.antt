use Rattle.c_nodes.proofs.Shapes.{made_postfix}
use Rattle.parse_expr.proofs.build.postfix.Goals as goal

pub returns : goal.returns
returns c = made_postfix _
