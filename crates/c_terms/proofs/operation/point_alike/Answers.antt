use Rattle.std.proofs.Common.{ap, ◌∙◌}
use Rattle.c_typed.specs.Sameness.{same_type}
use Rattle.type_rules.specs.Rows.{target_of}
use Rattle.c_tables.specs.Tables.{types_in}
use Rattle.c_terms.proofs.operation.point_alike.Goals as goal

pub returns : goal.returns
returns c = λ known. c.same_type.ensures ∙ (ap (λ q. same_type q.ty c.target-2.result.ty) (c.target.ensures known) ∙ ap (λ q. same_type (target_of (types_in c.args.types.now known) c.args.a).ty q.ty) (c.target-2.ensures known))
