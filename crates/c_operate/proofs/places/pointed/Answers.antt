use Rattle.std.proofs.Common.{sym, ap, ◌∙◌}
use Rattle.type_rules.specs.Places as rule
use Rattle.c_tables.specs.Tables.{types_in}
use Rattle.c_terms.specs.Terms.{operand_of, term_of}
use Rattle.c_operate.proofs.PlaceSteps.{is_pointed, placed_as}
use Rattle.c_terms.proofs.Refusing.{made}
use Rattle.c_operate.proofs.places.pointed.Goals as goal

pub returns : goal.returns
returns c = λ known.
    let here = types_in c.args.types.now known in
    made term_of (rule.dereference (operand_of c.args.operand) c.args.line here) c.lvalue_term.result _ here
    (is_pointed (operand_of c.args.operand) c.args.line here c.in-Some.ty (sym (c.in-Some.ensures known ∙ ap (rule.object_pointed here) c.ty.ensures)))
    (placed_as _ _ _ _ _ c.args.line c.lvalue_term.ensures (c.behind_pointer.ensures.place ∙ c.in_ok-place.ensures) c.behind_pointer.ensures.reach)
