use Rattle.c_nodes.proofs.Shapes.{made_declarator}
use Rattle.parse_expr.proofs.build.declarator.Goals as goal

pub returns : goal.returns
returns c = made_declarator _
