use Rattle.std.proofs.Common.{sym, ap, ◌∙◌}
use Rattle.c_typed.specs.Trees as typed
use Rattle.c_typed.specs.Views.{place_of}
use Rattle.type_rules.specs.Writes as rule
use Rattle.c_tables.specs.Tables.{types_in}
use Rattle.c_terms.specs.Terms.{term_of}
use Rattle.c_operate.proofs.PlaceSteps.{valued_as}
use Rattle.c_operate.proofs.WriteSteps.{is_stepped}
use Rattle.c_terms.proofs.Refusing.{made}
use Rattle.c_operate.proofs.writes.stepped.Goals as goal

pub returns : goal.returns
returns c = λ known.
    let here = types_in c.args.types.now known in
    let place = place_of c.in_ok-place.place in
    let line = c.args.line in
    made term_of (rule.stepped c.args.op (term_of c.args.target) line here) c.value_term.result _ here
    (is_stepped c.args.op (term_of c.args.target) line here here place (c.in-Some.operation, c.in-Some.size) (c.in_ok-refuse_table.ensures here) (c.in_ok-place.ensures here)
    (sym (c.in-Some.ensures known ∙ ap (λ q. rule.counted here q.ty) c.ty-ty.ensures)))
    (valued_as _ _ _ line c.value_term.ensures (c.in_ok-value.ensures ∙ ap (λ q. typed.Step c.args.op place c.in-Some.operation c.in-Some.size q.ty line) c.ty-ty.ensures))
