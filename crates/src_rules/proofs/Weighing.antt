-- The weight falls in each micro-step that doesn't count, and so the next one that counts comes.
use Rattle.std.proofs.Common.{◌≡◌, ℕ, ◌+◌, ◌<◌, ◌⊎◌, inr, ⊎_elim, Bool, true, false, ◌&&◌, List, [], ◌∷◌, Option, Some, None, refl, sym, ap, subst, arith}
use Rattle.std.proofs.lemmas.Bool.{false≢true}
use Rattle.std.specs.Prelude.{if◌then◌else◌, is_some}
use Rattle.c_typed.specs.Trees as tree
use Rattle.c_typed.specs.Trees.{Expression, Statement, Statements, Arm, Arms, LastArm, Program}
use Rattle.pic_world.specs.World.{World, arrived, is_due, left}
use Rattle.src_rules.proofs.Accessing.{skim_fetches}
use Rattle.src_rules.proofs.Fallen.{unmet, none_left, fetch_falls, skim_falls, items_fall, write_falls, copy_falls, spell_falls, blank_falls, turn_falls, test_falls, next_falls, arms_fall, unwound_weighs, compares_fall}
use Rattle.src_rules.proofs.Falling.{Rests, Falls, load, eval_falls, find_falls, found_falls, take_in_falls, take_to_falls, used_falls, branch_falls}
use Rattle.src_rules.specs.Giving.{take_for, give}
use Rattle.src_rules.specs.Standing.{listed, leaves, repeats, FocusStands, StackStands, Stands}
use Rattle.src_rules.specs.State.{State, Outcome, Went, Undefined, Idle, Lost}
use Rattle.src_rules.specs.Statements.{turned, proceed, handed, leave, begin}
use Rattle.src_rules.specs.Step.{is_some_line, act, refused, interrupted, step, enters, counts}
use Rattle.src_rules.specs.Weights.{part_weight, declarator_weight, statements_weight, stage_weight, stack_weight, weight}
use Rattle.src_values.specs.Control as control
use Rattle.src_values.specs.Control.{Focus, Past, Got, Called, Stage, Tests, Begins, Steps, Turns, Picks, InArm, AtItem, Pending, In, To, Doing, Before, Returns, Resumes, read_type, line_at}
use Rattle.src_values.specs.Counting.{counted_line, statement_counts, value_counts, past_counts}
use Rattle.src_values.specs.Data.{Datum}
use Rattle.src_values.specs.Memory.{Setting, Memory}
use Rattle.src_values.specs.Objects.{handler_in}
use Rattle.src_values.specs.Values.{truth_of}
use Rattle.src_values.specs.declared.objects.Byte.{Byte}
use Rattle.src_values.specs.declared.objects.CopyOf.{CopyOf}

pub some_none : {A : Type 0} (x : A) → Some x ≡ None → ⊥
some_none x e = false≢true (sym (ap is_some e))

module _ (s : Setting) where
  -- ---- statements take values
  take_for_falls : (t : Statement) (stage : Stage) (v : Datum) (k : List Pending) (c : CopyOf) (m : Memory) (w : World Byte) → StackStands s.program c (Doing t stage ∷ k) → Falls s.program (stage_weight t stage + stack_weight k) (take_for s t stage v k c m w)
  unfolding stage_weight
  take_for_falls (tree.Expr e line) Tests v k c m w st = inr (omega arith)
  take_for_falls (tree.InitScalar local e line) Tests v k c m w st = used_falls s.program _ v line _ (inr (omega arith))
  take_for_falls (tree.InitList local all line) (AtItem (tree.Scalar offset e) rest) v k c m w st = used_falls s.program _ v line _ (inr (omega arith))
  take_for_falls (tree.If chain otherwise line) (Picks (tree.OneArm condition chosen at) more) v k c m w st =
      branch_falls s.program _ (truth_of v) at _ _ (inr (omega arith)) (arms_fall s.program _ chain more otherwise line k c m w (omega arith))
  take_for_falls (tree.Loop shape first condition step body line) Begins v k c m w st =
      test_falls s.program _ c.function (listed k) (leaves k) (repeats k) shape first condition step body line k c m w st.0 (omega arith)
  take_for_falls (tree.Loop shape first condition step body line) Steps v k c m w st =
      test_falls s.program _ c.function (listed k) (leaves k) (repeats k) shape first condition step body line k c m w st.0 (omega arith)
  take_for_falls (tree.Loop shape first condition step body line) Tests v k c m w st =
      branch_falls s.program _ (truth_of v) line _ _ (turn_falls s.program _ c.function true true _ body k c m w st.0.3 (omega arith)) (inr (omega arith))
  take_for_falls (tree.Switch e cases default ss line) Tests v k c m w st = used_falls s.program _ v line _ (inr (omega arith))
  take_for_falls (tree.Return e line) Tests v k c m w st = used_falls s.program _ v line _ (inr (let d = unwound_weighs s.program k in omega arith))
  take_for_falls _ _ v k c m w st = tt

  give_falls : (v : Datum) (k : List Pending) (c : CopyOf) (m : Memory) (w : World Byte) → StackStands s.program c k → value_counts v k ≡ None → Falls s.program (stack_weight k) (give s v k c m w)
  give_falls v [] c m w st u = tt
  give_falls v (In e got ∷ k) c m w st u = take_in_falls s s.program e got v k c m w u
  give_falls v (To place ∷ k) c m w st u = take_to_falls s s.program place v k c m w
  give_falls v (Doing t stage ∷ k) c m w st u = take_for_falls t stage v k c m w st
  give_falls v (Before ss ∷ k) c m w st u = tt
  give_falls v (Returns d ∷ k) c m w st u = tt
  give_falls v (Resumes d x ∷ k) c m w st u = tt

  -- ---- statements begin and end
  turned_falls : (t : Statement) (stage : Stage) (k : List Pending) (c : CopyOf) (m : Memory) (w : World Byte) → StackStands s.program c (Doing t stage ∷ k) → Falls s.program (stage_weight t stage + stack_weight k) (turned t stage k c m w)
  unfolding stage_weight
  turned_falls (tree.Loop shape first condition step body line) Turns k c m w st =
      next_falls s.program _ c.function (listed k) (leaves k) (repeats k) shape first condition step body line k c m w st.0 (omega arith)
  turned_falls (tree.Switch e cases default ss line) Turns k c m w st = inr (omega arith)
  turned_falls (tree.If chain otherwise line) (InArm more) k c m w st = inr (omega arith)
  turned_falls _ _ k c m w st = tt

  proceed_falls : (k : List Pending) (c : CopyOf) (m : Memory) (w : World Byte) → StackStands s.program c k → past_counts s.program c k ≡ None → Falls s.program (stack_weight k) (proceed k c m w)
  unfolding statements_weight
  proceed_falls [] c m w st u = absurd (some_none _ u)
  proceed_falls (In e got ∷ k) c m w st u = tt
  proceed_falls (To place ∷ k) c m w st u = tt
  proceed_falls (Doing t stage ∷ k) c m w st u = turned_falls t stage k c m w st
  proceed_falls (Before tree.NoStatement ∷ k) c m w st u = inr (omega arith)
  proceed_falls (Before (tree.AndStatement t ts) ∷ k) c m w st u = inr (omega arith)
  proceed_falls (Returns d ∷ k) c m w st u = absurd (some_none _ u)
  proceed_falls (Resumes d x ∷ k) c m w st u = absurd (some_none _ u)

  begin_falls : (t : Statement) (k : List Pending) (c : CopyOf) (m : Memory) (w : World Byte) → statement_counts t ≡ None → Falls s.program (declarator_weight t + stack_weight k) (begin s t k c m w)
  unfolding declarator_weight stage_weight
  begin_falls (tree.Declare local line) k c m w u = inr (omega arith)
  begin_falls (tree.InitScalar local e line) k c m w u = inr (omega arith)
  begin_falls (tree.InitList local all line) k c m w u = items_fall s s.program _ local all line _ all k c _ w (omega arith)
  begin_falls (tree.Block ss line) k c m w u = absurd (some_none line u)
  begin_falls (tree.Empty line) k c m w u = absurd (some_none line u)
  begin_falls (tree.Expr e line) k c m w u = absurd (some_none line u)
  begin_falls (tree.If chain otherwise line) k c m w u = absurd (some_none line u)
  begin_falls (tree.Loop shape first condition step body line) k c m w u = absurd (some_none line u)
  begin_falls (tree.Switch e cases default ss line) k c m w u = absurd (some_none line u)
  begin_falls (tree.Break line) k c m w u = absurd (some_none line u)
  begin_falls (tree.Continue line) k c m w u = absurd (some_none line u)
  begin_falls (tree.Return e line) k c m w u = absurd (some_none line u)

  handed_falls : (v : Datum) (d : CopyOf) (k : List Pending) (m : Memory) (w : World Byte) → Falls s.program (stack_weight k) (handed v d k m w)
  unfolding part_weight
  handed_falls v d (In (tree.Call g arguments ty line) Called ∷ k) m w = inr (omega arith)
  handed_falls v d _ m w = tt

  leave_falls : (v : Datum) (k : List Pending) (m : Memory) (w : World Byte) → Falls s.program (stack_weight k) (leave v k m w)
  leave_falls v [] m w = tt
  leave_falls v (In e got ∷ k) m w = tt
  leave_falls v (To place ∷ k) m w = tt
  leave_falls v (Doing t stage ∷ k) m w = tt
  leave_falls v (Before ss ∷ k) m w = tt
  leave_falls v (Returns d ∷ k) m w = handed_falls v d k m w
  leave_falls v (Resumes d x ∷ k) m w = tt

  -- ---- one micro-step that doesn't count
  as_zero : (n : ℕ) (out : Outcome) → Falls s.program n out → Falls s.program (0 + n) out
  as_zero n out h = let e : n ≡ 0 + n = omega arith in subst (λ i. Falls s.program i out) e h

  act_falls : (x : Focus) (k : List Pending) (c : CopyOf) (m : Memory) (w : World Byte) → FocusStands s.program c x k → StackStands s.program c k → counted_line s.program c x k ≡ None → Falls s.program (load x k) (act s x k c m w)
  unfolding act counted_line
  act_falls (control.Eval e) k c m w f st u = eval_falls s.program e k c m w
  act_falls (control.Find place) k c m w f st u = find_falls s.program s place k c m w
  act_falls (control.Holds v) k c m w f st u = as_zero _ _ (give_falls v k c m w st u)
  act_falls (control.Found spot) k c m w f st u = as_zero _ _ (found_falls s s.program spot k c m w)
  act_falls (control.Run t) k c m w f st u = begin_falls t k c m w u
  act_falls control.Past k c m w f st u = as_zero _ _ (proceed_falls k c m w st u)
  act_falls (control.Fetch spot read) k c m w f st u = as_zero _ _ (fetch_falls s s.program spot read k c m w f.start f.node (unmet _ (line_at k) u))
  act_falls (control.Skim spot left byte) k c m w f st u = as_zero _ _ (skim_falls s s.program spot left byte k c m w f.start (skim_fetches k f.start f.node) (none_left left (line_at k) u))
  act_falls (control.Write spot v at) k c m w f st u = as_zero _ _ (write_falls s s.program spot v at k c m w (unmet _ (line_at k) u))
  act_falls (control.PutBit register number v old) k c m w f st u = absurd (some_none (line_at k) u)
  act_falls (control.CopyRead to from left) k c m w f st u = as_zero _ _ (copy_falls s s.program to from left k c m w (none_left left (line_at k) u))
  act_falls (control.CopyWrite to from byte left) k c m w f st u = absurd (some_none (line_at k) u)
  act_falls (control.Spell spot text left) k c m w f st u = as_zero _ _ (spell_falls s s.program spot text left k c m w (none_left left (line_at k) u))
  act_falls (control.Blank at left) k c m w f st u = as_zero _ _ (blank_falls s s.program at left k c m w u)
  act_falls control.Calls k c m w f st u = absurd (some_none (line_at k) u)
  act_falls (control.Leaves v) k c m w f st u = as_zero _ _ (leave_falls v k m w)
  act_falls (control.Compares v labels) k c m w f st u = as_zero _ _ (compares_fall s.program v labels k c m w u)
  act_falls control.Over k c m w f st u = tt

  step_uncounted : (x : Focus) (k : List Pending) (c : CopyOf) (m : Memory) (w : World Byte) (b : Bool) (o : Option ℕ) → FocusStands s.program c x k → StackStands s.program c k → (b && is_some_line o) ≡ false → counted_line s.program c x k ≡ None → Falls s.program (load x k) (if b then interrupted s o x k c m w else act s x k c m w)
  step_uncounted x k c m w true (Some h) f st e u = absurd (false≢true (sym e))
  step_uncounted x k c m w true None f st e u = refused_falls (counted_line s.program c x k) (act s x k c m w) u (act_falls x k c m w f st u)
    where
      refused_falls : (o : Option ℕ) (out : Outcome) → o ≡ None → Falls s.program (load x k) out → Falls s.program (load x k) (refused o out)
      refused_falls (Some line) out e h = absurd (some_none line e)
      refused_falls None (Went t event) e h = h
      refused_falls None (Undefined kind line) e h = tt
      refused_falls None Idle e h = tt
      refused_falls None Lost e h = tt
  step_uncounted x k c m w false o f st e u = act_falls x k c m w f st u

pub uncounted : (a : Bool) (o : Option ℕ) → (if a then true else is_some_line o) ≡ false → (a ≡ false) × (o ≡ None)
uncounted true o e = absurd (false≢true (sym e))
uncounted false (Some line) e = absurd (false≢true (sym e))
uncounted false None e = (refl, refl)

pub step_falls : (s : Setting) (t : State) → Stands s.program t → counts s t ≡ false → Falls s.program (load t.focus t.stack) (step s t)
unfolding step counts enters
step_falls s t h e =
    let u = uncounted _ _ e in
    step_uncounted s t.focus t.stack t.copy t.memory (arrived s.outside t.world) (is_due (arrived s.outside t.world)) (handler_in s.program) h.focus h.stack u.0 u.1

weighed_by : (a b : Bool) (l n : ℕ) → ((b ≡ true) × (0 < n)) ⊎ (l < n) → (if (if a then true else b) then 0 else l) < n
weighed_by true b l n r = ⊎_elim (λ h. h.1) (λ h. omega arith) r
weighed_by false true l n r = ⊎_elim (λ h. h.1) (λ h. omega arith) r
weighed_by false false l n r = ⊎_elim (λ h. absurd (false≢true h.0)) (λ h. h) r

weighed : (s : Setting) (u : State) (n : ℕ) → Rests s.program n u.copy u.focus u.stack → weight s u < n
unfolding weight counts
weighed s u n r = weighed_by (enters s u) (is_some_line (counted_line s.program u.copy u.focus u.stack)) (load u.focus u.stack) n r

loaded : (s : Setting) (t : State) → counts s t ≡ false → weight s t ≡ load t.focus t.stack
unfolding weight
loaded s t e = ap (λ b. if b then 0 else load t.focus t.stack) e

rests_went : (p : Program) (n : ℕ) (out : Outcome) (u : State) (event : _) → out ≡ Went u event → Falls p n out → Rests p n u.copy u.focus u.stack
rests_went p n out u event e h = subst (Falls p n) e h

pub weight_falls : (s : Setting) (t : State) → Stands s.program t → counts s t ≡ false → (u : State) (event : _) → step s t ≡ Went u event → weight s u < weight s t
weight_falls s t h e u event w = rw (loaded s t e) (weighed s u (load t.focus t.stack) (rests_went s.program (load t.focus t.stack) (step s t) u event w (step_falls s t h e)))
