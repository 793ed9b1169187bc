use Rattle.std.proofs.Common.{sym, ap, ◌∙◌}
use Rattle.type_rules.specs.Conversions as rule
use Rattle.c_tables.specs.Tables.{types_in}
use Rattle.c_terms.specs.Terms.{side_of}
use Rattle.c_terms.proofs.conversion.is_assignable.Goals as goal

pub returns-in-Pointer : goal.returns-in-Pointer
returns-in-Pointer c = λ known. c.becomes_pointer.ensures known ∙ (ap (λ q. rule.becomes_pointer (types_in c.args.types.now known) (side_of c.args.from) c.args.from.ty q) (c.target.ensures known) ∙ ap (λ t. rule.may_be_assigned (types_in c.args.types.now known) (side_of c.args.from) t) (sym c.in-Pointer.is))
