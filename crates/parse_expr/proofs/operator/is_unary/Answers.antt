use Rattle.parse_expr.proofs.Unary.{first_is_unary, bare_is_unary}
use Rattle.parse_expr.proofs.operator.is_unary.Goals as goal

pub returns-in-Some : goal.returns-in-Some
returns-in-Some c = rw c.is_cast.ensures (first_is_unary c.deref.result.now c.args.cast.now c.in-Some.prefix.now c.deref.ensures.value c.in-Some.ensures.item.3.0 c.in-Some.ensures.item.1)

pub returns-in-None : goal.returns-in-None
returns-in-None c = rw c.is_unary_operand.ensures (bare_is_unary c.deref.result.now c.args.cast.now c.deref.ensures.value c.in-None.ensures.item.3)
