use Rattle.std.proofs.Common.{◌∙◌, ap, sym, refl, ◌∷◌, ◌++◌, [], arith, length, true, false, set, List, ℕ, ◌≡◌, ◌<◌, get_or, Some, subst, reverse}
use Rattle.std.specs.Prelude.{All}
use Rattle.std.proofs.lemmas.Result.{err_from_is_err_and}
use Rattle.std.specs.declared.vec.Vec.{Vec}
use Rattle.std.specs.declared.alloc.Global.{Global}
use Rattle.c_pre.specs.declared.names.Named.{Named}
use Rattle.c_pre.specs.declared.replace.Frame.{Frame}
use Rattle.c_pre.specs.Replace.{Left, Replaced, at_line, IsInStep, IsMark}
use Rattle.c_pre.specs.LookedUp.{lists_of, open_at, tokens_at, waiting, cleared}
use Rattle.c_pre.proofs.Waiting.{waiting_done, waiting_left, waiting_replaced, in_step_done, in_step_replaced, marks_two, list_of_code, lists_length, cleared_done, cleared_left, cleared_replaced}
use Rattle.c_pre.proofs.Moving.{moves_still, moves_one, stops_one}
use Rattle.c_pre.proofs.replace.step.Goals as goal

pub returns-in-None-clause-moves : goal.returns-in-None-clause-moves
returns-in-None-clause-moves c =
    moves_still c.args.output.now _ _
    (waiting_done (lists_of c.args.lists.now) c.args.line c.args.stack.now.items c.args.frame c.args.busy.now
    (omega (arith, lists_length c.args.lists.now, c.requires.in_step.1)) c.in-None.ensures
    ∙ ap (λ b. waiting (lists_of c.args.lists.now) c.args.line b c.args.stack.now.items) (sym c.unmark.ensures))

pub returns-in-None-clause-in_step : goal.returns-in-None-clause-in_step
returns-in-None-clause-in_step c = in_step_done _ c.args.busy.now _ c.args.frame c.args.stack.now.items c.unmark.ensures c.requires.in_step

pub returns-in_ok-push-in-None-open_definition-clause-moves : goal.returns-in_ok-push-in-None-open_definition-clause-moves
returns-in_ok-push-in-None-open_definition-clause-moves c =
    let token = c.in-Some.named in
    let lists = lists_of c.args.lists.now in
    let g : Frame = record { rest = c.in-Some.rest; definition = c.args.frame.definition } in
    let o = sym c.in-None-open_definition.ensures.value in
    moves_one c.args.output.now c.leave.new.output (Left (at_line c.args.line token.token)) _ _
    (waiting_left lists c.args.line c.args.stack.now.items c.args.frame g c.args.busy.now token c.in-Some.rest.now
    (omega (arith, lists_length c.args.lists.now, c.requires.in_step.1)) c.in-Some.ensures refl refl o
    ∙ ap (λ (s : List Frame). Left (at_line c.args.line token.token) ∷ waiting lists c.args.line c.args.busy.now s) (sym c.in_ok-push-in-None-open_definition.ensures.ok))
    c.in_ok-leave-in-None-open_definition.ensures.passes

pub returns-in_err-leave-in-None-open_definition-clause-moves : goal.returns-in_err-leave-in-None-open_definition-clause-moves
returns-in_err-leave-in-None-open_definition-clause-moves c =
    let token = c.in-Some.named in
    let lists = lists_of c.args.lists.now in
    let g : Frame = record { rest = c.in-Some.rest; definition = c.args.frame.definition } in
    let o = sym c.in-None-open_definition.ensures.value in
    let p = err_from_is_err_and c.from_residual.result c.from_residual.ensures.1 in
    rw (p.1, p.2)
    (stops_one c.args.output.now c.leave.new.output (Left (at_line c.args.line token.token)) _ _ (waiting lists c.args.line c.args.busy.now c.args.stack.now.items) c.in_err-leave-in-None-open_definition.field-0.0
    (waiting_left lists c.args.line c.args.stack.now.items c.args.frame g c.args.busy.now token c.in-Some.rest.now
    (omega (arith, lists_length c.args.lists.now, c.requires.in_step.1)) c.in-Some.ensures refl refl o)
    c.in_err-leave-in-None-open_definition.ensures.passes)

pub returns-in_ok-push-in-Some-open_definition-2-clause-in_step : goal.returns-in_ok-push-in-Some-open_definition-2-clause-in_step
returns-in_ok-push-in-Some-open_definition-2-clause-in_step c =
    let k : ℕ = c.in-Some-open_definition.k in
    let token = c.in-Some.named in
    let lists = lists_of c.args.lists.now in
    let g : Frame = record { rest = c.in-Some.rest; definition = c.args.frame.definition } in
    let n : Frame = record { rest = c.deref.result; definition = Some k } in
    let is_open : open_at c.args.busy.now token.definition ≡ Some k = sym c.in-Some-open_definition.ensures.value in
    let is_free : get_or c.args.busy.now k false ≡ false = c.in-Some-open_definition.ensures.is_free in
    let known : k < length c.args.lists.now = omega (arith, c.requires.in_step.0, c.in-Some-open_definition.ensures.bound) in
    let inside : k < length c.args.busy.now = c.in-Some-open_definition.ensures.bound in
    let stacked = c.in_ok-push-in-Some-open_definition-2.ensures.ok ∙ ap (λ (s : List Frame). s ++ n ∷ []) c.in_ok-push-in-Some-open_definition.ensures.ok in
    subst (λ (s : List Frame). IsInStep (length c.args.lists.now) (set c.args.busy.now k true) s) (sym stacked)
    (in_step_replaced (length c.args.lists.now) c.args.busy.now c.args.frame g n c.args.stack.now.items k inside is_free c.requires.in_step)

pub returns-in_ok-push-in-Some-open_definition-2-clause-marks : goal.returns-in_ok-push-in-Some-open_definition-2-clause-marks
returns-in_ok-push-in-Some-open_definition-2-clause-marks c =
    let k : ℕ = c.in-Some-open_definition.k in
    let token = c.in-Some.named in
    let lists = lists_of c.args.lists.now in
    let g : Frame = record { rest = c.in-Some.rest; definition = c.args.frame.definition } in
    let n : Frame = record { rest = c.deref.result; definition = Some k } in
    let is_open : open_at c.args.busy.now token.definition ≡ Some k = sym c.in-Some-open_definition.ensures.value in
    let is_free : get_or c.args.busy.now k false ≡ false = c.in-Some-open_definition.ensures.is_free in
    let known : k < length c.args.lists.now = omega (arith, c.requires.in_step.0, c.in-Some-open_definition.ensures.bound) in
    let inside : k < length c.args.busy.now = c.in-Some-open_definition.ensures.bound in
    let stacked = c.in_ok-push-in-Some-open_definition-2.ensures.ok ∙ ap (λ (s : List Frame). s ++ n ∷ []) c.in_ok-push-in-Some-open_definition.ensures.ok in
    subst (λ (s : List Frame). All (IsMark (length c.args.lists.now)) s) (sym stacked)
    (marks_two (length c.args.lists.now) c.args.stack.now.items g n c.requires.marks c.requires.mark known)

pub returns-in_ok-push-in-Some-open_definition-2-clause-moves : goal.returns-in_ok-push-in-Some-open_definition-2-clause-moves
returns-in_ok-push-in-Some-open_definition-2-clause-moves c =
    let k : ℕ = c.in-Some-open_definition.k in
    let token = c.in-Some.named in
    let lists = lists_of c.args.lists.now in
    let g : Frame = record { rest = c.in-Some.rest; definition = c.args.frame.definition } in
    let n : Frame = record { rest = c.deref.result; definition = Some k } in
    let is_open : open_at c.args.busy.now token.definition ≡ Some k = sym c.in-Some-open_definition.ensures.value in
    let is_free : get_or c.args.busy.now k false ≡ false = c.in-Some-open_definition.ensures.is_free in
    let known : k < length c.args.lists.now = omega (arith, c.requires.in_step.0, c.in-Some-open_definition.ensures.bound) in
    let inside : k < length c.args.busy.now = c.in-Some-open_definition.ensures.bound in
    let stacked = c.in_ok-push-in-Some-open_definition-2.ensures.ok ∙ ap (λ (s : List Frame). s ++ n ∷ []) c.in_ok-push-in-Some-open_definition.ensures.ok in
    moves_one c.args.output.now c.count_name.new.output (Replaced c.args.line) _ _
    (waiting_replaced lists c.args.line c.args.stack.now.items c.args.frame g n c.args.busy.now token c.in-Some.rest.now k
    (omega (arith, lists_length c.args.lists.now, c.requires.in_step.1)) inside c.in-Some.ensures refl refl is_open is_free (c.deref.ensures.value ∙ ap (λ (v : Vec Named Global). v.items) c.index-lists-k.is ∙ list_of_code c.args.lists.now k c.index-lists-k.result known) refl
    ∙ ap (λ (s : List Frame). Replaced c.args.line ∷ waiting lists c.args.line (set c.args.busy.now k true) s) (sym stacked))
    c.in_ok-count_name-in-Some-open_definition.ensures.passes

pub returns-in_err-count_name-in-Some-open_definition-clause-moves : goal.returns-in_err-count_name-in-Some-open_definition-clause-moves
returns-in_err-count_name-in-Some-open_definition-clause-moves c =
    let k : ℕ = c.in-Some-open_definition.k in
    let token = c.in-Some.named in
    let lists = lists_of c.args.lists.now in
    let g : Frame = record { rest = c.in-Some.rest; definition = c.args.frame.definition } in
    let n : Frame = record { rest = record { ref_ptr = (0, 0); now = tokens_at lists k }; definition = Some k } in
    let is_open : open_at c.args.busy.now token.definition ≡ Some k = sym c.in-Some-open_definition.ensures.value in
    let is_free : get_or c.args.busy.now k false ≡ false = c.in-Some-open_definition.ensures.is_free in
    let known : k < length c.args.lists.now = omega (arith, c.requires.in_step.0, c.in-Some-open_definition.ensures.bound) in
    let inside : k < length c.args.busy.now = c.in-Some-open_definition.ensures.bound in
    let p = err_from_is_err_and c.from_residual-in_err-count_name-in-Some-open_definition.result c.from_residual-in_err-count_name-in-Some-open_definition.ensures.1 in
    rw (p.1, p.2)
    (stops_one c.args.output.now c.count_name.new.output (Replaced c.args.line) _ _ (waiting lists c.args.line c.args.busy.now c.args.stack.now.items) c.in_err-count_name-in-Some-open_definition.field-0.0
    (waiting_replaced lists c.args.line c.args.stack.now.items c.args.frame g n c.args.busy.now token c.in-Some.rest.now k
    (omega (arith, lists_length c.args.lists.now, c.requires.in_step.1)) inside c.in-Some.ensures refl refl is_open is_free refl refl)
    c.in_err-count_name-in-Some-open_definition.ensures.passes)

pub returns-in_ok-push-in-Some-open_definition-2-clause-cleared : goal.returns-in_ok-push-in-Some-open_definition-2-clause-cleared
returns-in_ok-push-in-Some-open_definition-2-clause-cleared c =
    let k : ℕ = c.in-Some-open_definition.k in
    let g : Frame = record { rest = c.in-Some.rest; definition = c.args.frame.definition } in
    let n : Frame = record { rest = c.deref.result; definition = Some k } in
    let stacked = c.in_ok-push-in-Some-open_definition-2.ensures.ok ∙ ap (λ (s : List Frame). s ++ n ∷ []) c.in_ok-push-in-Some-open_definition.ensures.ok in
    ap (λ (s : List Frame). cleared (set c.args.busy.now k true) (reverse s)) stacked
    ∙ cleared_replaced c.args.stack.now.items c.args.frame g n c.args.busy.now k c.in-Some-open_definition.ensures.is_free refl refl

pub returns-in_ok-push-in-None-open_definition-clause-cleared : goal.returns-in_ok-push-in-None-open_definition-clause-cleared
returns-in_ok-push-in-None-open_definition-clause-cleared c =
    let g : Frame = record { rest = c.in-Some.rest; definition = c.args.frame.definition } in
    ap (λ (s : List Frame). cleared c.args.busy.now (reverse s)) c.in_ok-push-in-None-open_definition.ensures.ok
    ∙ cleared_left c.args.stack.now.items c.args.frame g c.args.busy.now refl

pub returns-in-None-clause-cleared : goal.returns-in-None-clause-cleared
returns-in-None-clause-cleared c = cleared_done c.args.stack.now.items c.args.frame c.args.busy.now _ c.unmark.ensures
