use Rattle.std.proofs.Common.{◌≡◌, [], length, map, ap, sym, arith, ◌∙◌, ◌∷◌}
use Rattle.std.proofs.lemmas.List.{map-append}
use Rattle.std.specs.Vec.Iter.{into_iter_items}
use Rattle.c_typed.specs.Views.{arguments_of, expression_of}
use Rattle.type_rules.specs.Writes as rule
use Rattle.c_tables.specs.Tables.{types_in}
use Rattle.c_terms.specs.Terms.{operand_of}
use Rattle.c_operate.proofs.CallSteps.{nothing_left, passed_one, passed_none, passed_all, passed_to_all}
use Rattle.c_tables.proofs.Steps.{passed_on}
use Rattle.c_operate.proofs.calls.passed.Goals as goal

pub loop-ty-preserved : goal.loop-ty-preserved
loop-ty-preserved c = record {
  so_far = λ known.
      passed_one _ (map expression_of c.loop-ty.made.items) (map expression_of c.push.new.self.items) (map operand_of (into_iter_items c.loop-ty.left)) (map operand_of (into_iter_items c.next.new.self)) (operand_of c.in-Some-next.argument) c.loop-ty.rest.now c.in-Some.behind.now c.in-Some.ty c.args.line (types_in c.args.types.now known) (expression_of c.in_ok-assigned.field-0)
      (c.loop-ty.invariant.so_far known) (ap (map operand_of) c.in-Some-next.ensures.cases.0) c.in-Some.ensures (c.in_ok-assigned.ensures known)
      (ap (map expression_of) c.in_ok-push.ensures.items ∙ map-append expression_of c.loop-ty.made.items (c.in_ok-assigned.field-0 ∷ []));
  counted =
      let was = c.loop-ty.invariant.counted in
      let gone = c.in-Some-next.ensures.cases.1 in
      let short = ap length c.in-Some-next.ensures.cases.0 in
      omega arith;
}

pub returns-in_err-assigned : goal.returns-in_err-assigned
returns-in_err-assigned c = λ known.
    let here = types_in c.args.types.now known in
    let e = c.in_err-assigned.field-0.0 in
    let said = rule.passed (map operand_of c.args.arguments.items) c.args.params.now c.args.line here in
    passed_on (λ made. arguments_of (map expression_of made.items)) c.from_residual.result here said e c.from_residual.ensures.1
    (passed_none said (map expression_of c.loop-ty.made.items) (map operand_of (into_iter_items c.loop-ty.left)) (map operand_of (into_iter_items c.next.new.self)) (operand_of c.in-Some-next.argument) c.loop-ty.rest.now c.in-Some.behind.now c.in-Some.ty c.args.line here e
    (c.loop-ty.invariant.so_far known) (ap (map operand_of) c.in-Some-next.ensures.cases.0) c.in-Some.ensures (c.in_err-assigned.ensures known))

pub returns-in_default-next : goal.returns-in_default-next
returns-in_default-next c = λ known.
    let none : into_iter_items c.loop-ty.left ≡ [] = nothing_left (into_iter_items c.loop-ty.left) (sym c.loop-ty.invariant.counted ∙ c.in_default-next.ensures.cases.0) in
    passed_all _ (map expression_of c.loop-ty.made.items) (map operand_of (into_iter_items c.loop-ty.left)) c.loop-ty.rest.now c.args.line (types_in c.args.types.now known) (c.loop-ty.invariant.so_far known) (ap (map operand_of) none)

pub returns : goal.returns
returns c = λ known.
    passed_to_all _ (map expression_of c.loop-ty.made.items) (map operand_of (into_iter_items c.loop-ty.left)) c.loop-ty.rest.now c.args.line (types_in c.args.types.now known) (c.loop-ty.invariant.so_far known) c.in_default.ensures
