use Rattle.std.proofs.Common.{[], ◌∷◌, map, Some, refl, ap, ◌∙◌, arith}
use Rattle.std.proofs.lemmas.List.{map-append}
use Rattle.c_nodes.specs.Lists.{chosen}
use Rattle.c_nodes.specs.Views.{assign_of, binary_of, choice_of, cond_of, expr_of, target_of}
use Rattle.parse_expr.specs.Reader.{symbols_in}
use Rattle.parse_expr.specs.Reading.{at}
use Rattle.parse_expr.specs.Waiting.{front_by, others_by, value_by}
use Rattle.parse_expr.specs.WaitingViews.{front_of}
use Rattle.parse_expr.proofs.Fronts.{target_front, value_others, same_reading}
use Rattle.parse_expr.proofs.Whole.{target_taken}
use Rattle.parse_expr.proofs.front.behind_value.Goals as goal

pub returns-in_ok-push-in-Ok-clause-reads : goal.returns-in_ok-push-in-Ok-clause-reads
returns-in_ok-push-in-Ok-clause-reads c text n =
    let front = c.args.front in
    target_front text n (front_of front) (chosen (map choice_of front.choices.items) (binary_of c.args.operand)) (cond_of c.cond.result) c.args.toks.now c.in-Ok.rest.now (target_of c.in-Ok.target) (map target_of c.push.new.self.items) (map choice_of c.new-choices.result.items)
    c.cond.ensures c.in-Ok.ensures.ok.0 (c.in-Ok.ensures.ok.1 text)
    (ap (map target_of) c.in_ok-push-in-Ok.ensures.items ∙ map-append target_of front.targets.items (c.in-Ok.target ∷ []))
    (ap (map choice_of) c.new-choices.ensures.items)

pub returns-in_ok-push-in-Ok-clause-fewer : goal.returns-in_ok-push-in-Ok-clause-fewer
returns-in_ok-push-in-Ok-clause-fewer c =
    let lt = target_taken [] (cond_of c.cond.result) c.args.toks.now c.in-Ok.rest.now (target_of c.in-Ok.target).1 (c.in-Ok.ensures.ok.1 []) in
    omega (arith, lt)

pub returns-in-Err-clause-reads : goal.returns-in-Err-clause-reads
returns-in-Err-clause-reads c =
    let front = c.args.front in
    let toks = c.args.toks.now in
    let value = chosen (map choice_of front.choices.items) (binary_of c.args.operand) in
    let given = c.in-Err.ensures.err c.in-Err.value refl in
    same_reading c.behind_assign.result
    (λ text n. others_by (at n) (front_of front).before (assign_of c.assign.result) (symbols_in text toks))
    (λ text n. value_by (at n) (front_of front) value (symbols_in text toks))
    (λ x text n. front_by (at n) (front_of x.0) (symbols_in text x.1.now))
    (λ e text n. Some (expr_of e, symbols_in text toks))
    (λ text n. value_others n (front_of front) value (cond_of c.cond.result) (cond_of c.in-Err.value) (assign_of c.assign.result) (symbols_in text toks) c.cond.ensures given.0 c.assign.ensures (given.1 text))
    c.behind_assign.ensures.reads
