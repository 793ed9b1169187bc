use Rattle.std.proofs.Common.{refl, sym, ap, ◌∙◌}
use Rattle.c_typed.specs.Views.{place_of}
use Rattle.type_rules.specs.Places as rule
use Rattle.type_rules.specs.Rows.{pointer_to}
use Rattle.c_tables.specs.Tables.{types_in}
use Rattle.c_terms.specs.Terms.{form_of, lvalue_reach, term_of}
use Rattle.c_operate.proofs.PlaceSteps.{no_table_address, is_addressed, valued_as}
use Rattle.c_terms.proofs.Refusing.{made, only_memory}
use Rattle.c_tables.proofs.Steps.{passed_on}
use Rattle.c_operate.proofs.places.address.Goals as goal

pub returns-in_err-ty : goal.returns-in_err-ty
returns-in_err-ty c = λ known.
    let here = types_in c.args.types.now known in
    let said = rule.address (term_of c.args.term) c.args.line here in
    passed_on term_of c.from_residual-in_err-ty.result (types_in c.pointer_to.new.self known) said c.in_err-ty.field-0.0 c.from_residual-in_err-ty.ensures.1
    (only_memory c.in_err-ty.field-0.0 _ (pointer_to c.ty.result here) said (c.in_err-ty.ensures known) refl)

pub returns : goal.returns
returns c = λ known.
    let here = types_in c.args.types.now known in
    let after = types_in c.pointer_to.new.self known in
    let place = place_of c.in-Some.place.place in
    made term_of (rule.address (term_of c.args.term) c.args.line here) c.value_term.result _ after
    (no_table_address (term_of c.args.term) c.args.line here _ (c.in_ok-refuse_table.ensures here)
    (is_addressed (form_of c.args.term.form) place (lvalue_reach c.in-Some.place) c.args.line here after c.in_ok-ty.ty (sym c.in-Some.ensures) (sym c.if-not-is_addressable.ensures)
    (ap (λ ty. pointer_to ty here) (sym c.ty.ensures) ∙ c.in_ok-ty.ensures known)))
    (valued_as _ _ _ c.args.line c.value_term.ensures c.in_ok-value.ensures)
