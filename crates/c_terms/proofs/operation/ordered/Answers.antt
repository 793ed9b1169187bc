use Rattle.std.proofs.Common.{Some, ap, sym, ◌∙◌}
use Rattle.type_rules.specs.Operations.{point_alike}
use Rattle.c_tables.specs.Tables.{types_in}
use Rattle.c_terms.proofs.Operating.{if_true, if_false}
use Rattle.c_terms.proofs.operation.ordered.Goals as goal

pub returns-then-point_alike : goal.returns-then-point_alike
returns-then-point_alike c = λ known. ap Some c.plain.ensures ∙ sym (if_true (point_alike (types_in c.args.types.now known) c.args.a c.args.b) _ _ (sym (c.point_alike.ensures known) ∙ c.if-point_alike.true))

pub returns-else-point_alike : goal.returns-else-point_alike
returns-else-point_alike c = λ known. sym (if_false (point_alike (types_in c.args.types.now known) c.args.a c.args.b) _ _ (sym (c.point_alike.ensures known) ∙ c.if-point_alike.false))
