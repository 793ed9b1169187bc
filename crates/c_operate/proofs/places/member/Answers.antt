use Rattle.std.proofs.Common.{refl, sym, ap, ◌∙◌}
use Rattle.c_typed.specs.Views.{place_of}
use Rattle.type_rules.specs.Places as rule
use Rattle.c_tables.specs.Tables.{field_of, types_in}
use Rattle.c_terms.specs.Terms.{form_of, lvalue_reach, term_of}
use Rattle.c_operate.proofs.PlaceSteps.{no_table_member, is_member, member_as}
use Rattle.c_terms.proofs.Refusing.{made}
use Rattle.c_operate.proofs.places.member.Goals as goal

pub returns : goal.returns
returns c = λ known.
    let here = types_in c.args.types.now known in
    let whole = place_of c.in-Some.whole.place in
    let reach = lvalue_reach c.in-Some.whole in
    let field = field_of c.in-Some-member_in.field in
    made term_of (rule.member (term_of c.args.whole) c.args.name.now c.args.line here) c.lvalue_term.result _ here
    (no_table_member (term_of c.args.whole) c.args.name.now c.args.line here _ (c.in_ok-refuse_table.ensures here)
    (is_member (form_of c.args.whole.form) whole reach c.args.name.now c.args.line here (c.in-Some-member_in.index, field) (sym c.in-Some.ensures)
    (sym (c.in-Some-member_in.ensures known ∙ ap (λ ty. rule.member_in here ty.ty c.args.name.now) c.ty-ty.ensures))))
    (member_as _ _ whole reach c.args.line c.in-Some-member_in.index c.in-Some-member_in.index field c.ty-ty.result c.part_type-ty.result c.lvalue_term.ensures c.in_ok-place.ensures refl c.part_type-ty.ensures c.ty-ty.ensures)
