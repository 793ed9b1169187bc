-- How many steps that count may still come without a mark from a state: what is ahead of it. Where an interrupt is enabled and no handler is
-- there, the next step that counts is undefined.
use Rattle.std.proofs.Common.{◌≡◌, ℕ, ◌+◌, ◌*◌, ◌≤◌, Bool, true, false, ◌&&◌, List, Option, Some, None, refl, sym, ap, ◌∙◌, subst, arith}
use Rattle.std.specs.Prelude.{if◌then◌else◌}
use Rattle.pic_world.proofs.WorldLaws.{arrived_again}
use Rattle.pic_world.specs.World.{Happening, arrived, is_due}
use Rattle.src_rules.proofs.Changes.{events_count}
use Rattle.src_rules.specs.Runs.{one_if}
use Rattle.src_rules.specs.State.{State, Outcome, Went, Undefined, Idle, Lost}
use Rattle.src_rules.specs.Step.{is_some_line, act, enter, refused, interrupted, enters, counts, step, start}
use Rattle.src_values.specs.Counting.{counted_line}
use Rattle.src_values.specs.Memory.{Setting}
use Rattle.src_values.specs.Objects.{function_at, handler_in, main_of}
use Rattle.src_values.specs.declared.objects.Byte.{Byte}
use Rattle.lag_trace.proofs.Ahead.{statements_ahead, with_focus, stack_ahead}
use Rattle.lag_trace.proofs.Bytes.{HasFewBytes}
use Rattle.lag_trace.proofs.Statements.{IsShort}
use Rattle.lag_trace.proofs.Stays.{Stays, counts_as}
use Rattle.lag_trace.proofs.Steps.{price, IsFit, act_stays}

refused_line : (line : Option ℕ) (next : Outcome) (u : State) (event : Option (Happening Byte)) → refused line next ≡ Went u event → is_some_line line ≡ false
refused_line None next u event e = refl
refused_line (Some line) (Went t event') u event e = absurd (cc)
refused_line (Some line) (Undefined kind at) u event e = absurd (cc)
refused_line (Some line) Idle u event e = absurd (cc)
refused_line (Some line) Lost u event e = absurd (cc)

module _ (s : Setting) where
  abbrev q : List ℕ
  q = s.program.sizes

  abbrev pub due : State → Bool
  due t = is_due (arrived s.outside t.world)

  abbrev pub ahead_of : State → ℕ
  ahead_of t = with_focus q t.focus t.stack (stack_ahead q t.stack)

  abbrev pub left_by : Bool → Option ℕ → ℕ → ℕ
  left_by true None n = 0
  left_by _ _ n = n

  unfoldable pub left : State → ℕ
  left t = left_by (due t) (handler_in s.program) (ahead_of t)

  abbrev pub price_by : Bool → Option ℕ → ℕ → ℕ
  price_by false o n = n
  price_by true (Some h) n = 1
  price_by true None n = 0

  -- the marks that the micro-step surely comes with
  unfoldable pub price_at : State → ℕ
  price_at t = price_by (due t) (handler_in s.program) (price t.focus t.stack)

  left_most : (t : State) → left t ≤ ahead_of t
  unfolding left
  left_most t = by (due t) (handler_in s.program)
    where
      by : (b : Bool) → (o : Option ℕ) → left_by b o (ahead_of t) ≤ ahead_of t
      by true None = omega arith
      by true (Some h) = omega arith
      by false None = omega arith
      by false (Some h) = omega arith

  module _ (room : ℕ) where
    -- what is known of a state
    pub record IsReady (t : State) : Type 0 where
      pub fit : IsFit q s.program room t.focus t.stack
      pub few : HasFewBytes s t.copy
      pub short : IsShort q room t.stack
      pub handler : (h : ℕ) → handler_in s.program ≡ Some h → statements_ahead q (function_at s.program h).body + 2 ≤ room

    -- by what the handler does with it
    acts_pace : (t u : State) (event : Option (Happening Byte)) → IsReady t → due t ≡ false → step s t ≡ Went u event → left u + one_if (counts s t) ≤ left t + price_at t * room
    unfolding step counts enters left price_at
    acts_pace t u event r free e =
        let w = arrived s.outside t.world in
        let x = t.focus in
        let k = t.stack in
        let now : act s x k t.copy t.memory w ≡ Went u event = sym (ap (λ b. if b then interrupted s (handler_in s.program) x k t.copy t.memory w else act s x k t.copy t.memory w) free) ∙ e in
        let most : ℕ = with_focus q x k (stack_ahead q k) + price x k * room in
        let n : ℕ = counts_as (counted_line s.program t.copy x k) in
        let a : n + with_focus q u.focus u.stack (stack_ahead q u.stack) ≤ most = subst (Stays q most n) now (act_stays s room most x k t.copy t.memory w r.fit r.few r.short (omega arith)) in
        let c : one_if (counts s t) ≡ n = ap (λ b. one_if (if b && is_some_line (handler_in s.program) then true else is_some_line (counted_line s.program t.copy x k))) free in
        let l : left t ≡ ahead_of t = ap (λ b. left_by b (handler_in s.program) (ahead_of t)) free ∙ all_ahead (handler_in s.program) in
        let d : price_at t * room ≡ price x k * room = ap (λ b. price_by b (handler_in s.program) (price x k) * room) free in
        let i = left_most u in
        omega arith
      where
        all_ahead : (o : Option ℕ) → left_by false o (ahead_of t) ≡ ahead_of t
        all_ahead None = refl
        all_ahead (Some h) = refl

    enters_pace : (t u : State) (event : Option (Happening Byte)) (h : ℕ) → IsReady t → due t ≡ true → handler_in s.program ≡ Some h → step s t ≡ Went u event → left u + one_if (counts s t) ≤ left t + price_at t * room
    unfolding step counts enters left price_at
    enters_pace t u event h r is some e =
        let w = arrived s.outside t.world in
        let x = t.focus in
        let k = t.stack in
        let now : enter s.program h x k t.copy t.memory w ≡ Went u event =
        sym (ap (λ b. if b then interrupted s (handler_in s.program) x k t.copy t.memory w else act s x k t.copy t.memory w) is ∙ ap (λ o. interrupted s o x k t.copy t.memory w) some) ∙ e in
        let most : ℕ = with_focus q x k (stack_ahead q k) + room in
        let b = r.handler h some in
        let g : Stays q most 1 (enter s.program h x k t.copy t.memory w) = omega arith in
        let a : 1 + with_focus q u.focus u.stack (stack_ahead q u.stack) ≤ most = subst (Stays q most 1) now g in
        let c : one_if (counts s t) ≡ 1 =
        ap (λ b. one_if (if b && is_some_line (handler_in s.program) then true else is_some_line (counted_line s.program t.copy x k))) is
        ∙ ap (λ o. one_if (if is_some_line o then true else is_some_line (counted_line s.program t.copy x k))) some in
        let l : left t ≡ ahead_of t = ap (λ b. left_by b (handler_in s.program) (ahead_of t)) is ∙ ap (λ o. left_by true o (ahead_of t)) some in
        let d : price_at t * room ≡ 1 * room = ap (λ b. price_by b (handler_in s.program) (price x k) * room) is ∙ ap (λ o. price_by true o (price x k) * room) some in
        let i = left_most u in
        omega arith

    -- no handler is there
    dooms_pace : (t u : State) (event : Option (Happening Byte)) → due t ≡ true → handler_in s.program ≡ None → step s t ≡ Went u event → left u + one_if (counts s t) ≤ left t + price_at t * room
    unfolding step counts enters left
    dooms_pace t u event is none e =
        let w = arrived s.outside t.world in
        let x = t.focus in
        let k = t.stack in
        let now : refused (counted_line s.program t.copy x k) (act s x k t.copy t.memory w) ≡ Went u event =
        sym (ap (λ b. if b then interrupted s (handler_in s.program) x k t.copy t.memory w else act s x k t.copy t.memory w) is ∙ ap (λ o. interrupted s o x k t.copy t.memory w) none) ∙ e in
        let line = refused_line (counted_line s.program t.copy x k) (act s x k t.copy t.memory w) u event now in
        let free : counts s t ≡ false =
        ap (λ b. if b && is_some_line (handler_in s.program) then true else is_some_line (counted_line s.program t.copy x k)) is
        ∙ ap (λ o. if is_some_line o then true else is_some_line (counted_line s.program t.copy x k)) none ∙ line in
        let world = (events_count s t u event e free).1 in
        let again : due u ≡ true = ap is_due (ap (arrived s.outside) world ∙ arrived_again s.outside t.world) ∙ is in
        let c = ap one_if free in
        let i : left u ≡ 0 = ap (λ b. left_by b (handler_in s.program) (ahead_of u)) again ∙ ap (λ o. left_by true o (ahead_of u)) none in
        omega arith

    -- A step that counts uses up one of what is left, and a mark makes room for as many as a body may have.
    pub paces : (t u : State) (event : Option (Happening Byte)) → IsReady t → step s t ≡ Went u event → left u + one_if (counts s t) ≤ left t + price_at t * room
    paces t u event r e = by (due t) refl (handler_in s.program) refl
      where
        by : (b : Bool) → due t ≡ b → (o : Option ℕ) → handler_in s.program ≡ o → left u + one_if (counts s t) ≤ left t + price_at t * room
        by false free o is = acts_pace t u event r free e
        by true d (Some h) is = enters_pace t u event h r d is e
        by true d None is = dooms_pace t u event d is e

    -- the start
    pub few_left : statements_ahead q (function_at s.program (main_of s.program)).body + 2 ≤ room → left (start s) + 1 ≤ room
    unfolding start
    few_left b = let m = left_most (start s) in omega arith
