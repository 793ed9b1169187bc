use Rattle.std.proofs.Common.{ap, ◌∙◌}
use Rattle.type_rules.specs.Conversions as rule
use Rattle.c_tables.specs.Tables.{types_in}
use Rattle.c_terms.specs.Terms.{side_of}
use Rattle.c_terms.proofs.Operating.{becomes_is}
use Rattle.c_terms.proofs.conversion.becomes_pointer.Goals as goal

pub returns-else-from : goal.returns-else-from
returns-else-from c = λ known. c.may_point.ensures ∙ (ap (λ q. rule.may_become q c.args.to) (c.target.ensures known) ∙ becomes_is (types_in c.args.types.now known) (side_of c.args.from) c.in-Pointer.source c.args.from.ty c.args.to c.in-Pointer.is c.if-from.false)
