-- How many steps that count may still come without cost from a state: what is ahead of it. Where an interrupt is enabled and no handler is
-- there, the next step that counts is undefined.
use Rattle.std.proofs.Common.{◌≡◌, ℕ, zero, suc, ◌+◌, ◌*◌, ◌<◌, ◌≤◌, Bool, true, false, ◌&&◌, List, [], ◌∷◌, length, Option, Some, None, refl, sym, ap, ◌∙◌, subst, arith}
use Rattle.std.proofs.lemmas.Bool.{and_parts}
use Rattle.std.proofs.lemmas.Option.{slice_get_past}
use Rattle.std.specs.Prelude.{if◌then◌else◌, slice_get}
use Rattle.c_typed.specs.TreeNodes.{statement_nodes, nodes_of_body, functions_nodes, nodes_of}
use Rattle.c_typed.specs.Trees.{FunctionTree, Program}
use Rattle.pic_world.proofs.ControlLaws.{raised_enabled, entered_disabled, due_enabled}
use Rattle.pic_world.proofs.WorldLaws.{arrived_again}
use Rattle.pic_world.specs.World.{World, Happening, Outside, arrived, is_due, entered}
use Rattle.src_rules.proofs.Changes.{events_count}
use Rattle.src_rules.proofs.Rooms.{Sized}
use Rattle.src_rules.specs.Runs.{one_if, is_idle}
use Rattle.src_rules.specs.Standing.{Stands}
use Rattle.src_rules.specs.State.{State, Outcome, Went, Undefined, Idle, Lost}
use Rattle.src_rules.specs.Step.{is_some_line, act, enter, refused, interrupted, enters, counts, step, start}
use Rattle.src_values.specs.Control as control
use Rattle.src_values.specs.Control.{Focus, Pending, In, To, Doing, Before, Returns, Resumes}
use Rattle.src_values.specs.Counting.{counted_line}
use Rattle.src_values.specs.Memory.{Setting}
use Rattle.src_values.specs.Objects.{or_no_function, function_at, handler_in, main_of}
use Rattle.src_values.specs.declared.objects.Byte.{Byte}
use Rattle.lower_trace.proofs.LagStays.{enabled, Stays, counts_as}
use Rattle.lower_trace.proofs.LagSteps.{price, IsTested, act_stays}
use Rattle.lower_trace.proofs.LagWeights.{with_focus, stack_ahead, few_statements}

-- ---- functions are no larger than their program
function_small : (fs : List FunctionTree) (f : ℕ) → 0 < length fs → 1 + nodes_of_body (or_no_function (slice_get fs f)).body ≤ functions_nodes fs
unfolding statement_nodes
function_small [] f some = absurd (omega arith)
function_small (g ∷ fs) zero some = omega arith
function_small (g ∷ []) (suc f) some = let e = ap (λ o. nodes_of_body (or_no_function o).body) (slice_get_past (g ∷ []) (suc f) (omega arith)) in omega arith
function_small (g ∷ h ∷ fs) (suc f) some = let d = function_small (h ∷ fs) f (omega arith) in omega arith

pub bodies_small : (p : Program) → 0 < length p.functions → (f : ℕ) → 1 + nodes_of_body (function_at p f).body ≤ nodes_of p
bodies_small p some f = function_small p.functions f some

-- ---- worlds
pub enabled_arrived : (o : Outside) (w : World Byte) → enabled (arrived o w) ≡ enabled w
unfolding enabled arrived
enabled_arrived o w = ap one_if (raised_enabled _ w.control)

pub due_one : (w : World Byte) → is_due w ≡ true → enabled w ≡ 1
unfolding enabled is_due
due_one w e = ap one_if (due_enabled w.control (and_parts _ _ e).1)

entered_none : (w : World Byte) → enabled (entered w) ≡ 0
unfolding enabled entered
entered_none w = ap one_if (entered_disabled w.control)

none_not_due : (w : World Byte) → enabled w ≡ 0 → is_due w ≡ false
none_not_due w e = by (is_due w) refl
  where
    by : (b : Bool) → is_due w ≡ b → b ≡ false
    by false d = refl
    by true d = let one = due_one w d in absurd (omega arith)

stack_some : (k : List Pending) → 1 ≤ stack_ahead k
stack_some [] = omega arith
stack_some (In e got ∷ k) = let d = stack_some k in omega arith
stack_some (To place ∷ k) = omega arith
stack_some (Doing t stage ∷ k) = let d = stack_some k in omega arith
stack_some (Before ss ∷ k) = let d = stack_some k in omega arith
stack_some (Returns c ∷ k) = stack_some k
stack_some (Resumes c x ∷ k) = omega arith

refused_line : (line : Option ℕ) (next : Outcome) (u : State) (event : Option (Happening Byte)) → refused line next ≡ Went u event → is_some_line line ≡ false
refused_line None next u event e = refl
refused_line (Some line) (Went t event') u event e = absurd (cc)
refused_line (Some line) (Undefined kind at) u event e = absurd (cc)
refused_line (Some line) Idle u event e = absurd (cc)
refused_line (Some line) Lost u event e = absurd (cc)

module _ (s : Setting) where
  abbrev pub due : State → Bool
  due t = is_due (arrived s.outside t.world)

  abbrev ahead_of : State → ℕ
  ahead_of t = with_focus t.focus (stack_ahead t.stack) + enabled t.world

  left_by : Bool → Option ℕ → ℕ → ℕ
  left_by true None n = 1
  left_by _ _ n = n

  pub left : State → ℕ
  left t = left_by (due t) (handler_in s.program) (ahead_of t)

  abbrev pub price_by : Bool → Option ℕ → ℕ → ℕ
  price_by false o n = n
  price_by true (Some h) n = 1
  price_by true None n = 0

  -- what the micro-step surely costs
  unfoldable pub price_at : State → ℕ
  price_at t = price_by (due t) (handler_in s.program) (price s.program t.focus t.stack)

  left_most : (t : State) → left t ≤ ahead_of t
  unfolding left left_by
  left_most t = by (due t) refl (handler_in s.program)
    where
      by : (b : Bool) → due t ≡ b → (o : Option ℕ) → left_by b o (ahead_of t) ≤ ahead_of t
      by true d None = let one = due_one (arrived s.outside t.world) d in let e = enabled_arrived s.outside t.world in omega arith
      by true d (Some h) = omega arith
      by false d None = omega arith
      by false d (Some h) = omega arith

  module _ (nodes : ℕ) (bodies : (f : ℕ) → 1 + nodes_of_body (function_at s.program f).body ≤ nodes) where
    -- by what the handler does with it
    acts_pace : (t u : State) (event : Option (Happening Byte)) (o : Option ℕ) → IsTested t.focus t.stack → Stands s.program t → Sized s.program t.copy t.stack → due t ≡ false → step s t ≡ Went u event → left u + one_if (counts s t) ≤ left t + price_at t * nodes
    unfolding step counts enters left left_by price_at
    acts_pace t u event o tested st z free e =
        let w = arrived s.outside t.world in
        let x = t.focus in
        let k = t.stack in
        let now : act s x k t.copy t.memory w ≡ Went u event = sym (ap (λ b. if b then interrupted s (handler_in s.program) x k t.copy t.memory w else act s x k t.copy t.memory w) free) ∙ e in
        let most : ℕ = with_focus x (stack_ahead k) + enabled w + price s.program x k * nodes in
        let n : ℕ = counts_as (counted_line s.program t.copy x k) in
        let a : n + (with_focus u.focus (stack_ahead u.stack) + enabled u.world) ≤ most = subst (Stays most n) now (act_stays s nodes bodies most x k t.copy t.memory w tested st.focus st.stack z (omega arith)) in
        let c : one_if (counts s t) ≡ n = ap (λ b. one_if (if b && is_some_line (handler_in s.program) then true else is_some_line (counted_line s.program t.copy x k))) free in
        let l : left t ≡ ahead_of t = ap (λ b. left_by b (handler_in s.program) (ahead_of t)) free ∙ all_ahead (handler_in s.program) in
        let r : price_at t * nodes ≡ price s.program x k * nodes = ap (λ b. price_by b (handler_in s.program) (price s.program x k) * nodes) free in
        let v = enabled_arrived s.outside t.world in
        let i = left_most u in
        omega arith
      where
        all_ahead : (o : Option ℕ) → left_by false o (ahead_of t) ≡ ahead_of t
        all_ahead None = refl
        all_ahead (Some h) = refl

    enters_pace : (t u : State) (event : Option (Happening Byte)) (h : ℕ) → due t ≡ true → handler_in s.program ≡ Some h → step s t ≡ Went u event → left u + one_if (counts s t) ≤ left t + price_at t * nodes
    unfolding step counts enters left left_by price_at
    enters_pace t u event h is some e =
        let w = arrived s.outside t.world in
        let x = t.focus in
        let k = t.stack in
        let now : enter s.program h x k t.copy t.memory w ≡ Went u event =
        sym (ap (λ b. if b then interrupted s (handler_in s.program) x k t.copy t.memory w else act s x k t.copy t.memory w) is ∙ ap (λ o. interrupted s o x k t.copy t.memory w) some) ∙ e in
        let most : ℕ = with_focus x (stack_ahead k) + enabled t.world + nodes in
        let one = due_one w is in
        let v = enabled_arrived s.outside t.world in
        let none = entered_none w in
        let b = bodies h in
        let f = few_statements (function_at s.program h).body in
        let g : Stays most 1 (enter s.program h x k t.copy t.memory w) = omega arith in
        let a : 1 + (with_focus u.focus (stack_ahead u.stack) + enabled u.world) ≤ most = subst (Stays most 1) now g in
        let c : one_if (counts s t) ≡ 1 =
        ap (λ b. one_if (if b && is_some_line (handler_in s.program) then true else is_some_line (counted_line s.program t.copy x k))) is
        ∙ ap (λ o. one_if (if is_some_line o then true else is_some_line (counted_line s.program t.copy x k))) some in
        let l : left t ≡ ahead_of t = ap (λ b. left_by b (handler_in s.program) (ahead_of t)) is ∙ ap (λ o. left_by true o (ahead_of t)) some in
        let r : price_at t * nodes ≡ 1 * nodes = ap (λ b. price_by b (handler_in s.program) (price s.program x k) * nodes) is ∙ ap (λ o. price_by true o (price s.program x k) * nodes) some in
        let i = left_most u in
        omega arith

    -- no handler is there
    dooms_pace : (t u : State) (event : Option (Happening Byte)) → due t ≡ true → handler_in s.program ≡ None → step s t ≡ Went u event → left u + one_if (counts s t) ≤ left t + price_at t * nodes
    unfolding step counts enters left left_by
    dooms_pace t u event is none e =
        let w = arrived s.outside t.world in
        let x = t.focus in
        let k = t.stack in
        let now : refused (counted_line s.program t.copy x k) (act s x k t.copy t.memory w) ≡ Went u event =
        sym (ap (λ b. if b then interrupted s (handler_in s.program) x k t.copy t.memory w else act s x k t.copy t.memory w) is ∙ ap (λ o. interrupted s o x k t.copy t.memory w) none) ∙ e in
        let line = refused_line (counted_line s.program t.copy x k) (act s x k t.copy t.memory w) u event now in
        let free : counts s t ≡ false =
        ap (λ b. if b && is_some_line (handler_in s.program) then true else is_some_line (counted_line s.program t.copy x k)) is
        ∙ ap (λ o. if is_some_line o then true else is_some_line (counted_line s.program t.copy x k)) none ∙ line in
        let world = (events_count s t u event e free).1 in
        let again : due u ≡ true = ap is_due (ap (arrived s.outside) world ∙ arrived_again s.outside t.world) ∙ is in
        let c = ap one_if free in
        let l : left t ≡ 1 = ap (λ b. left_by b (handler_in s.program) (ahead_of t)) is ∙ ap (λ o. left_by true o (ahead_of t)) none in
        let i : left u ≡ 1 = ap (λ b. left_by b (handler_in s.program) (ahead_of u)) again ∙ ap (λ o. left_by true o (ahead_of u)) none in
        omega arith

    -- A step that counts uses up one of what is left, and an instruction makes room for as many as the program has nodes.
    pub paces : (t u : State) (event : Option (Happening Byte)) → IsTested t.focus t.stack → Stands s.program t → Sized s.program t.copy t.stack → step s t ≡ Went u event → left u + one_if (counts s t) ≤ left t + price_at t * nodes
    paces t u event tested st z e = by (due t) refl (handler_in s.program) refl
      where
        by : (b : Bool) → due t ≡ b → (o : Option ℕ) → handler_in s.program ≡ o → left u + one_if (counts s t) ≤ left t + price_at t * nodes
        by false free o is = acts_pace t u event o tested st z free e
        by true d (Some h) is = enters_pace t u event h d is e
        by true d None is = dooms_pace t u event d is e

    -- the start
    pub few_left : left (start s) ≤ nodes
    unfolding start enabled
    few_left =
        let m = left_most (start s) in
        let b = bodies (main_of s.program) in
        let f = few_statements (function_at s.program (main_of s.program)).body in
        omega arith

  -- Where nothing is left main has ended, and no handler is due ..
  over_of : (x : Focus) (n : ℕ) → 1 ≤ n → with_focus x n ≡ 0 → x ≡ control.Over
  over_of control.Over n some e = refl
  over_of (control.Eval a) n some e = absurd (omega arith)
  over_of (control.Find place) n some e = absurd (omega arith)
  over_of (control.Holds v) n some e = absurd (omega arith)
  over_of (control.Found spot) n some e = absurd (omega arith)
  over_of (control.Run t) n some e = absurd (omega arith)
  over_of control.Past n some e = absurd (omega arith)
  over_of (control.Fetch spot read) n some e = absurd (omega arith)
  over_of (control.Skim spot left byte) n some e = absurd (omega arith)
  over_of (control.Write spot v at) n some e = absurd (omega arith)
  over_of (control.PutBit register number v old) n some e = absurd (omega arith)
  over_of (control.CopyRead to from left) n some e = absurd (omega arith)
  over_of (control.CopyWrite to from byte left) n some e = absurd (omega arith)
  over_of (control.Spell spot text left) n some e = absurd (omega arith)
  over_of (control.Blank at left) n some e = absurd (omega arith)
  over_of control.Calls n some e = absurd (omega arith)
  over_of (control.Leaves v) n some e = absurd (omega arith)
  over_of (control.Compares v labels) n some e = absurd (omega arith)

  pub record IsEnded (t : State) : Type 0 where
    pub over : t.focus ≡ control.Over
    pub free : due t ≡ false

  ended_of : (t : State) → ahead_of t ≡ 0 → IsEnded t
  ended_of t z =
      let some = stack_some t.stack in
      let v = enabled_arrived s.outside t.world in
      record { over = over_of t.focus (stack_ahead t.stack) some (omega arith); free = none_not_due (arrived s.outside t.world) (omega arith) }

  pub ended : (t : State) → left t ≡ 0 → IsEnded t
  unfolding left left_by
  ended t e = by (due t) (handler_in s.program) e
    where
      by : (b : Bool) → (o : Option ℕ) → left_by b o (ahead_of t) ≡ 0 → IsEnded t
      by true None e = absurd (omega arith)
      by true (Some h) e = ended_of t e
      by false None e = ended_of t e
      by false (Some h) e = ended_of t e

  -- .. and it rests.
  pub none_left : (t : State) → left t ≡ 0 → is_idle (step s t) ≡ true
  unfolding step act
  none_left t e =
      let w = arrived s.outside t.world in
      let d = ended t e in
      ap (λ b. is_idle (if b then interrupted s (handler_in s.program) t.focus t.stack t.copy t.memory w else act s t.focus t.stack t.copy t.memory w)) d.free
      ∙ ap (λ x. is_idle (act s x t.stack t.copy t.memory w)) d.over
