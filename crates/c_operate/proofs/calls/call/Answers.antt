use Rattle.std.proofs.Common.{◌≡◌, nat_eq, length, map, true, sym, ap, subst, ◌∙◌}
use Rattle.c_typed.specs.Views.{arguments_of, expression_of}
use Rattle.type_rules.specs.Writes as rule
use Rattle.c_tables.specs.Answers.{Refuses}
use Rattle.c_tables.specs.Tables.{known_of, signature_of}
use Rattle.c_terms.specs.Terms.{operand_of, term_of}
use Rattle.c_operate.proofs.CallSteps.{to_definition, not_passed, is_called}
use Rattle.c_operate.proofs.PlaceSteps.{valued_as}
use Rattle.c_terms.proofs.Refusing.{made}
use Rattle.c_tables.proofs.Steps.{passed_on}
use Rattle.c_operate.proofs.calls.call.Goals as goal

pub returns-in_err-values : goal.returns-in_err-values
returns-in_err-values c =
    let here = known_of c.args.checker.now in
    let arguments = map operand_of c.args.arguments.items in
    let signature = signature_of c.in-Some-signature.signature.now in
    let line = c.args.term.start in
    let e = c.in_err-values.field-0.0 in
    let said = rule.call (term_of c.args.term) arguments here in
    let same : nat_eq (length signature.params) (length arguments) ≡ true = sym (c.if-not-same_length.ensures ∙ (ap (λ p. nat_eq (length p) (length (map operand_of c.as_slice.result.now))) c.as_slice-params.ensures.value ∙ ap (λ a. nat_eq (length signature.params) (length (map operand_of a))) c.as_slice.ensures.value)) in
    passed_on term_of c.from_residual.result here said e c.from_residual.ensures.1
    (not_passed said arguments line here signature c.in-Some-definition.function e
    (to_definition (term_of c.args.term) arguments here c.in-Some.number signature c.in-Some-definition.function (sym c.in-Some.ensures) (sym c.in-Some-signature.ensures) c.in-Some-definition.is)
    same
    (subst (λ p. Refuses e (rule.passed arguments p line here)) c.as_slice-params.ensures.value (c.in_err-values.ensures here)))

pub returns : goal.returns
returns c =
    let here = known_of c.args.checker.now in
    let arguments = map operand_of c.args.arguments.items in
    let signature = signature_of c.in-Some-signature.signature.now in
    let line = c.args.term.start in
    let said = rule.call (term_of c.args.term) arguments here in
    let same : nat_eq (length signature.params) (length arguments) ≡ true = sym (c.if-not-same_length.ensures ∙ (ap (λ p. nat_eq (length p) (length (map operand_of c.as_slice.result.now))) c.as_slice-params.ensures.value ∙ ap (λ a. nat_eq (length signature.params) (length (map operand_of a))) c.as_slice.ensures.value)) in
    made term_of said c.value_term.result _ here
    (is_called said arguments line here here signature c.in-Some-definition.function (arguments_of (map expression_of c.in_ok-values.values.items))
    (to_definition (term_of c.args.term) arguments here c.in-Some.number signature c.in-Some-definition.function (sym c.in-Some.ensures) (sym c.in-Some-signature.ensures) c.in-Some-definition.is)
    same
    (ap (λ p. rule.passed arguments p line here) (sym c.as_slice-params.ensures.value) ∙ c.in_ok-values.ensures here))
    (valued_as _ _ _ line c.value_term.ensures c.call_node-value.ensures)
