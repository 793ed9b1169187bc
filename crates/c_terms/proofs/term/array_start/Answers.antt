use Rattle.std.proofs.Common.{ap, ◌∙◌}
use Rattle.c_typed.specs.Types.{place_type}
use Rattle.c_typed.specs.Views.{expression_of, place_of}
use Rattle.type_rules.specs.Rows.{like}
use Rattle.type_rules.specs.Terms as rule
use Rattle.c_tables.specs.Tables.{types_in}
use Rattle.c_terms.proofs.Starts.{start_refused, start_is}
use Rattle.c_tables.proofs.Steps.{passed_on}
use Rattle.c_terms.proofs.term.array_start.Goals as goal

pub returns-in_err-ty : goal.returns-in_err-ty
returns-in_err-ty c = λ known.
    let said = rule.array_start (place_of c.args.place) c.args.element c.args.line (types_in c.args.types.now known) in
    passed_on expression_of c.from_residual.result (types_in c.pointer_to.new.self known) said c.in_err-ty.field-0.0 c.from_residual.ensures.1
    (start_refused c.in_err-ty.field-0.0 c.like-target.result (types_in c.args.types.now known) said (c.in_err-ty.ensures known))

pub returns : goal.returns
returns c = λ known.
    start_is (place_of c.args.place) c.args.element c.args.line (types_in c.args.types.now known) (types_in c.pointer_to.new.self known) c.like-target.result c.in_ok-ty.ty (expression_of c.in_ok-address_node.field-0)
    (c.like-target.ensures ∙ (ap (λ q. like q c.target.result.ty) c.ty.ensures ∙ ap (λ q. like (place_type (place_of c.args.place)) q.ty) (c.target.ensures known)))
    (c.in_ok-ty.ensures known) (c.in_ok-address_node.ensures)
