use Rattle.std.proofs.Common.{ap, ◌∙◌}
use Rattle.c_nodes.specs.Views.{enum_body_of}
use Rattle.c_nodes.proofs.Shapes.{show_spec_enum_body, made_enum_body}
use Rattle.parse_expr.proofs.build.enum_body.Goals as goal

pub returns : goal.returns
returns c = show_spec_enum_body c.in_ok-new.field-0 ∙ ap (λ e. enum_body_of e) c.in_ok-new.ensures.ok ∙ made_enum_body _
