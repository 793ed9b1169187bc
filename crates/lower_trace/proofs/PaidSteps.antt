-- Each micro-step that doesn't count is paid for by what the state before it owes.
use Rattle.std.proofs.Common.{◌≡◌, ℕ, length, ◌+◌, ◌≤◌, inl, inr, Bool, true, false, ◌&&◌, List, [], ◌∷◌, Option, Some, None, refl, sym, ap, subst, arith}
use Rattle.std.proofs.lemmas.Bool.{false≢true}
use Rattle.std.specs.Prelude.{if◌then◌else◌, is_some, nat_lt}
use Rattle.c_ints.specs.Range.{bytes_of}
use Rattle.c_typed.specs.Trees as tree
use Rattle.c_typed.specs.Trees.{Expression, Place, Item, Statement, Statements, Arm, Arms, LastArm, Program}
use Rattle.c_typed.specs.Types.{type_bytes}
use Rattle.pic_world.specs.World.{World, arrived, is_due}
use Rattle.src_rules.proofs.Fallen.{unmet, none_left}
use Rattle.src_rules.proofs.Weighing.{some_none, uncounted}
use Rattle.src_rules.specs.Accesses.{goes}
use Rattle.src_rules.specs.Giving.{used, statements_behind, take_for, give}
use Rattle.src_rules.specs.Parts.{AreStatementsOf}
use Rattle.src_rules.specs.Standing.{leaves, repeats, FocusStands, StackStands, Stands}
use Rattle.src_rules.specs.State.{State, Outcome, Went, Undefined, Idle, Lost}
use Rattle.src_rules.specs.Statements.{turned, proceed, handed, leave, begin, unwound}
use Rattle.src_rules.specs.Step.{is_some_line, act, refused, interrupted, step, enters, counts}
use Rattle.src_values.specs.Control as control
use Rattle.src_values.specs.Control.{Focus, Past, Got, Called, Stage, Tests, Begins, Steps, Turns, Picks, InArm, Fills, AtItem, Items, Pending, In, To, Doing, Before, Returns, Resumes, read_type, line_at}
use Rattle.src_values.specs.Counting.{counted_line, statement_counts, value_counts, past_counts, blank_counts}
use Rattle.src_values.specs.Data.{Datum, Number, Pointer, Missing}
use Rattle.src_values.specs.Memory.{Setting, Memory}
use Rattle.src_values.specs.Objects.{handler_in, behind, local_of}
use Rattle.src_values.specs.Values.{truth_of, written_bytes}
use Rattle.src_values.specs.declared.objects.Byte.{Byte}
use Rattle.src_values.specs.declared.objects.CopyOf.{CopyOf}
use Rattle.lower_trace.proofs.CodeLeft.{Switched, switch_on}
use Rattle.lower_trace.proofs.Falling.{falling, IsPartOf}
use Rattle.lower_trace.proofs.SegmentFrames.{InSegments}
use Rattle.lower_trace.proofs.Prices.{fetch_room, step_room, given_most_for, given_most, begin_most, past_most_for, past_most, skim_most, wrote_most, copy_most, spell_most, counted_room, blank_most, handed_most, left_most, most_at}
use Rattle.lower_trace.proofs.Burdens.{if_any, fetched_burden, skimmed_burden, copy_burden, bulk, declarator_burden, statements_burden, end_burden, value_burden, leave_burden, call_burden, stored_burden, load}
use Rattle.lower_trace.proofs.PaidExpressions.{Owes, Pays, bulk_end, eval_part, some_byte, met, branch_pays, eval_pays, find_pays, found_pays, take_in_pays, take_to_pays}
use Rattle.lower_trace.proofs.PaidAccesses.{begins_counted, typed_behind, joins_owed, fetch_pays, skim_pays, items_pay, write_pays, copy_pays, spell_pays, blank_pays, turn_pays, test_pays, next_pays, arms_pay, unwound_leaves, compares_pay}

-- a statement of the body of a switch counts where it begins
switch_typed : (p : Program) (c : CopyOf) (x : Switched) (k : List Pending) → switch_on k ≡ Some x → StackStands p c k → (r : Bool) × AreStatementsOf p c.function false true r x.body
switch_typed p c x (Doing (tree.Switch e cases default ss line) Turns ∷ k) is st =
    let q : record { value = e; cases = cases; default = default; body = ss } ≡ x = some_is is in
    (repeats k, subst (λ (y : Switched). AreStatementsOf p c.function false true (repeats k) y.body) q st.0.4)
  where
    some_is : {A : Type 0} {a b : A} → Some a ≡ Some b → a ≡ b
    some_is e = cc
switch_typed p c x _ is st = absurd (false≢true (ap is_some is))

first_counted : (p : Program) (f : ℕ) (r : Bool) (t : Statement) (ts ss : Statements) → ss ≡ tree.AndStatement t ts → AreStatementsOf p f false true r ss → is_some_line (statement_counts t) ≡ true
first_counted p f r t ts ss e h = begins_counted p f true r t (subst (AreStatementsOf p f false true r) e h).0

module _ (s : Setting) where
  -- ---- statements take values
  used_pays : (n : ℕ) (v : Datum) (line : ℕ) (next : Outcome) → Pays s.program n next → Pays s.program n (used v line next)
  used_pays n (Number q) line next h = h
  used_pays n (Pointer a) line next h = h
  used_pays n Missing line next h = tt

  -- a value that is written has bytes
  writes_counted : (n line offset local : ℕ) (v : Datum) (k : List Pending) (c : CopyOf) (m : Memory) (w : World Byte) → bulk s.program c k ≤ n → Pays s.program n (used v line (goes c (control.Write (behind (local_of s.program c local) offset) v 0) k m w))
  unfolding counted_line bulk
  writes_counted n line offset local (Number q) k c m w b = (inl (met s (nat_lt 0 (bytes_of q.ty)) (line_at k) (some_byte s q.ty), b), refl)
  writes_counted n line offset local (Pointer a) k c m w b = (inl (refl, b), refl)
  writes_counted n line offset local Missing k c m w b = tt

  pub take_for_pays : (n : ℕ) (t : Statement) (stage : Stage) (v : Datum) (k : List Pending) (c : CopyOf) (m : Memory) (w : World Byte) → StackStands s.program c (Doing t stage ∷ k) → given_most_for s.program.sizes t stage + n ≡ value_burden s.program c (Doing t stage ∷ k)
      → Pays s.program n (take_for s t stage v k c m w)
  unfolding value_burden bulk counted_line
  take_for_pays n (tree.Expr e line) Tests v k c m w st h = (inr (omega arith), refl)
  take_for_pays n (tree.InitScalar local e line) Tests v k c m w st h = writes_counted n line 0 local v (Doing (tree.InitScalar local e line) Fills ∷ k) c m w (let d = bulk_end s.program c k in omega arith)
  take_for_pays n (tree.InitList local all line) (AtItem (tree.Scalar offset e) rest) v k c m w st h = writes_counted n line offset local v (Doing (tree.InitList local all line) (Items (tree.Scalar offset e) rest) ∷ k) c m w (let d = bulk_end s.program c k in omega arith)
  take_for_pays n (tree.If chain otherwise line) (Picks (tree.OneArm condition chosen at) more) v k c m w st h =
      branch_pays s n (truth_of v) at _ _ ((inl (begins_counted s.program c.function (leaves k) (repeats k) chosen st.2.0.1, let d = bulk_end s.program c k in let j = joins_owed s.program.sizes chain more otherwise in omega arith), refl)) (arms_pay s n c.function (leaves k) (repeats k) chain more otherwise line k c m w st.0.2 (omega arith))
  take_for_pays n (tree.Loop shape first condition each body line) Begins v k c m w st h = test_pays s n c.function shape first condition each body line k c m w st.0.3 (omega arith)
  take_for_pays n (tree.Loop shape first condition each body line) Steps v k c m w st h = test_pays s n c.function shape first condition each body line k c m w st.0.3 (omega arith)
  take_for_pays n (tree.Loop shape first None step body line) Tests v k c m w st h =
      branch_pays s n (truth_of v) line _ _ (turn_pays s n c.function true true _ body k c m w st.0.3 (let d = bulk_end s.program c k in omega arith)) ((inr (omega arith), refl))
  take_for_pays n (tree.Loop shape first (Some e) step body line) Tests v k c m w st h =
      branch_pays s n (truth_of v) line _ _ (turn_pays s n c.function true true _ body k c m w st.0.3 (let d = bulk_end s.program c k in omega arith)) ((inr (omega arith), refl))
  take_for_pays n (tree.Switch e cases default ss line) Tests v k c m w st h = used_pays n v line _ ((inr (omega arith), refl))
  take_for_pays n (tree.Return (Some e) line) Tests v k c m w st h = used_pays n v line _ ((inr (let d = unwound_leaves s c k in let i : leave_burden s.program c (unwound k) ≤ n = omega arith in i), refl))
  take_for_pays n (tree.Return None line) Tests v k c m w st h = used_pays n v line _ ((inr (let d = unwound_leaves s c k in let i : leave_burden s.program c (unwound k) ≤ n = omega arith in i), refl))
  take_for_pays n _ _ v k c m w st h = tt

  give_pays : (n : ℕ) (v : Datum) (k : List Pending) (c : CopyOf) (m : Memory) (w : World Byte) → StackStands s.program c k → value_counts v k ≡ None → given_most s.program.sizes k + n ≡ value_burden s.program c k → Pays s.program n (give s v k c m w)
  give_pays n v [] c m w st u h = tt
  give_pays n v (In e got ∷ k) c m w st u h = take_in_pays s n e got v k c m w st.0 u h
  give_pays n v (To place ∷ k) c m w st u h = take_to_pays s n place v k c m w u
  give_pays n v (Doing t stage ∷ k) c m w st u h = take_for_pays n t stage v k c m w st h
  give_pays n v (Before ss ∷ k) c m w st u h = tt
  give_pays n v (Returns d ∷ k) c m w st u h = tt
  give_pays n v (Resumes d x ∷ k) c m w st u h = tt

  -- ---- statements begin and end
  turned_pays : (n : ℕ) (t : Statement) (stage : Stage) (k : List Pending) (c : CopyOf) (m : Memory) (w : World Byte) → StackStands s.program c (Doing t stage ∷ k) → past_most_for t stage + n ≡ end_burden s.program c (Doing t stage ∷ k) → Pays s.program n (turned t stage k c m w)
  unfolding end_burden bulk
  turned_pays n (tree.Loop shape first condition each body line) Turns k c m w st h = next_pays s n c.function shape first condition each body line k c m w st.0.3 (omega arith)
  turned_pays n (tree.Switch e cases default ss line) Turns k c m w st h = (inr (omega arith), refl)
  turned_pays n (tree.If chain otherwise line) (InArm more) k c m w st h = (inr (omega arith), refl)
  turned_pays n _ _ k c m w st h = tt

  before_pays : (n : ℕ) (t : Statement) (ts : Statements) (k : List Pending) (c : CopyOf) (m : Memory) (w : World Byte) (o : Option Switched) → switch_on k ≡ o → StackStands s.program c k → IsPartOf o (tree.AndStatement t ts)
      → falling o (tree.AndStatement t ts) + n ≡ falling (switch_on k) (tree.AndStatement t ts) + (statements_burden s.program.sizes (tree.AndStatement t ts) + end_burden s.program c k) → Owes s.program n c (control.Run t) (Before ts ∷ k)
  unfolding end_burden statements_burden bulk counted_line
  before_pays n t ts k c m w None is st part h =
      let f = ap (λ o. falling o ts) is in
      let g = ap (λ o. falling o (tree.AndStatement t ts)) is in
      (inr (omega arith), refl)
  before_pays n t ts k c m w (Some x) is st part h =
      let q = switch_typed s.program c x k is st in
      (inl (first_counted s.program c.function q.0 t ts (statements_behind part.index x.body) part.is (typed_behind s.program c.function false true q.0 part.index x.body q.1), let d = bulk_end s.program c k in let g = ap (λ o. falling o (tree.AndStatement t ts)) is in omega arith), refl)

  proceed_pays : (n : ℕ) (k : List Pending) (c : CopyOf) (m : Memory) (w : World Byte) → StackStands s.program c k → InSegments k → past_counts s.program c k ≡ None → past_most k + n ≡ end_burden s.program c k → Pays s.program n (proceed k c m w)
  unfolding end_burden statements_burden bulk
  proceed_pays n [] c m w st i u h = absurd (some_none _ u)
  proceed_pays n (In e got ∷ k) c m w st i u h = tt
  proceed_pays n (To place ∷ k) c m w st i u h = tt
  proceed_pays n (Doing t stage ∷ k) c m w st i u h = turned_pays n t stage k c m w st h
  proceed_pays n (Before tree.NoStatement ∷ k) c m w st i u h = (inr (omega arith), refl)
  proceed_pays n (Before (tree.AndStatement t ts) ∷ k) c m w st i u h = before_pays n t ts k c m w (switch_on k) refl st.2 i.0 h
  proceed_pays n (Returns d ∷ k) c m w st i u h = absurd (some_none _ u)
  proceed_pays n (Resumes d x ∷ k) c m w st i u h = absurd (some_none _ u)

  begin_pays : (n : ℕ) (t : Statement) (k : List Pending) (c : CopyOf) (m : Memory) (w : World Byte) → statement_counts t ≡ None → begin_most t + n ≡ declarator_burden s.program.sizes t + end_burden s.program c k → Pays s.program n (begin s t k c m w)
  unfolding value_burden bulk
  begin_pays n (tree.Declare local line) k c m w u h = (inr (omega arith), refl)
  begin_pays n (tree.InitScalar local e line) k c m w u h = (inr (let d = bulk_end s.program c k in eval_part s e (Doing (tree.InitScalar local e line) Tests ∷ k) c n (omega arith) (omega arith)), refl)
  begin_pays n (tree.InitList local all line) k c m w u h = items_pay s n local all line _ all k c _ w (omega arith)
  begin_pays n (tree.Block ss line) k c m w u h = absurd (some_none line u)
  begin_pays n (tree.Empty line) k c m w u h = absurd (some_none line u)
  begin_pays n (tree.Expr e line) k c m w u h = absurd (some_none line u)
  begin_pays n (tree.If chain otherwise line) k c m w u h = absurd (some_none line u)
  begin_pays n (tree.Loop shape first condition step body line) k c m w u h = absurd (some_none line u)
  begin_pays n (tree.Switch e cases default ss line) k c m w u h = absurd (some_none line u)
  begin_pays n (tree.Break line) k c m w u h = absurd (some_none line u)
  begin_pays n (tree.Continue line) k c m w u h = absurd (some_none line u)
  begin_pays n (tree.Return e line) k c m w u h = absurd (some_none line u)

  handed_pays : (n : ℕ) (v : Datum) (d : CopyOf) (k : List Pending) (m : Memory) (w : World Byte) → handed_most s.program.sizes k + n ≡ call_burden s.program d k → Pays s.program n (handed v d k m w)
  unfolding value_burden bulk
  handed_pays n v d (In (tree.Call g arguments ty line) Called ∷ k) m w h = (inr (omega arith), refl)
  handed_pays n v d _ m w h = tt

  leave_pays : (n : ℕ) (v : Datum) (k : List Pending) (c : CopyOf) (m : Memory) (w : World Byte) → left_most s.program.sizes k + n ≡ leave_burden s.program c k → Pays s.program n (leave v k m w)
  unfolding value_burden bulk
  leave_pays n v [] c m w h = tt
  leave_pays n v (In e got ∷ k) c m w h = tt
  leave_pays n v (To place ∷ k) c m w h = tt
  leave_pays n v (Doing t stage ∷ k) c m w h = tt
  leave_pays n v (Before ss ∷ k) c m w h = tt
  leave_pays n v (Returns d ∷ k) c m w h = handed_pays n v d k m w h
  leave_pays n v (Resumes d x ∷ k) c m w h = tt

  -- ---- one micro-step that doesn't count
  act_pays : (n : ℕ) (x : Focus) (k : List Pending) (c : CopyOf) (m : Memory) (w : World Byte) → FocusStands s.program c x k → StackStands s.program c k → InSegments k → counted_line s.program c x k ≡ None → most_at s.program x k + n ≡ load s.program c x k → Pays s.program n (act s x k c m w)
  unfolding act counted_line
  act_pays n (control.Eval e) k c m w f st i u h = eval_pays s n e k c m w h
  act_pays n (control.Find place) k c m w f st i u h = find_pays s n place k c m w (omega arith)
  act_pays n (control.Holds v) k c m w f st i u h = give_pays n v k c m w st u h
  act_pays n (control.Found spot) k c m w f st i u h = found_pays s n spot k c m w st u h
  act_pays n (control.Run t) k c m w f st i u h = begin_pays n t k c m w u h
  act_pays n control.Past k c m w f st i u h = proceed_pays n k c m w st i u h
  act_pays n (control.Fetch spot read) k c m w f st i u h =
      let e = unmet (nat_lt (length read) (type_bytes s.program.sizes (read_type k))) (line_at k) u in
      fetch_pays s n spot read k c m w f.start f.node e (let a = ap (λ b. if b then fetch_room else 27) e in let b = ap (λ b. if b then bulk s.program c k else fetched_burden s.program c k) e in omega arith)
  act_pays n (control.Skim spot left byte) k c m w f st i u h =
      let e = none_left left (line_at k) u in
      skim_pays s n spot left byte k c m w f.start f.node e (let a = ap (λ j. skim_most s.program.sizes j k) e in let b = ap (λ j. if_any j (bulk s.program c k) (skimmed_burden s.program c k)) e in omega arith)
  act_pays n (control.Write spot v at) k c m w f st i u h =
      let e = unmet (nat_lt at (written_bytes spot v)) (line_at k) u in
      write_pays s n spot v at k c m w e (let a = ap (λ b. if b then step_room else wrote_most k) e in let b = ap (λ b. if b then bulk s.program c k else stored_burden s.program c 28 k) e in omega arith)
  act_pays n (control.PutBit register number v old) k c m w f st i u h = absurd (some_none (line_at k) u)
  act_pays n (control.CopyRead to from left) k c m w f st i u h =
      let e = none_left left (line_at k) u in
      copy_pays s n to from left k c m w f.first f.other f.size f.node e (let a = ap (λ j. copy_most j k) e in let b = ap (λ j. if_any j (bulk s.program c k) (copy_burden s.program c k)) e in omega arith)
  act_pays n (control.CopyWrite to from byte left) k c m w f st i u h = absurd (some_none (line_at k) u)
  act_pays n (control.Spell spot text left) k c m w f st i u h =
      let e = none_left left (line_at k) u in
      let none = ap (λ j. spell_most j) e in
      spell_pays s n spot text left k c m w f.start f.whole f.size f.node e (omega arith)
  act_pays n (control.Blank at left) k c m w f st i u h = blank_pays s n at left k c m w u (blank_none at left k c u h)
    where
      blank_none : (at left : ℕ) (k : List Pending) (c : CopyOf) → blank_counts s.program at left k ≡ None → blank_most s.program at left k + n ≡ stored_burden s.program c 0 k → n ≡ stored_burden s.program c 0 k
      blank_none at left (Doing t stage ∷ k) c u h = let none = ap counted_room u in omega arith
      blank_none at left [] c u h = omega arith
      blank_none at left (In e got ∷ k) c u h = omega arith
      blank_none at left (To place ∷ k) c u h = omega arith
      blank_none at left (Before ss ∷ k) c u h = omega arith
      blank_none at left (Returns d ∷ k) c u h = omega arith
      blank_none at left (Resumes d x ∷ k) c u h = omega arith
  act_pays n control.Calls k c m w f st i u h = absurd (some_none (line_at k) u)
  act_pays n (control.Leaves v) k c m w f st i u h = leave_pays n v k c m w h
  act_pays n (control.Compares v labels) k c m w f st i u h = compares_pay s n v labels k c m w u h
  act_pays n control.Over k c m w f st i u h = tt

  step_by : (n : ℕ) (x : Focus) (k : List Pending) (c : CopyOf) (m : Memory) (w : World Byte) (b : Bool) (o : Option ℕ) → (b && is_some_line o) ≡ false → counted_line s.program c x k ≡ None → Pays s.program n (act s x k c m w) → Pays s.program n (if b then interrupted s o x k c m w else act s x k c m w)
  step_by n x k c m w true (Some h) e u q = absurd (false≢true (sym e))
  step_by n x k c m w true None e u q = refused_pays (counted_line s.program c x k) (act s x k c m w) u q
    where
      refused_pays : (o : Option ℕ) (out : Outcome) → o ≡ None → Pays s.program n out → Pays s.program n (refused o out)
      refused_pays (Some line) out e h = absurd (some_none line e)
      refused_pays None (Went t event) e h = h
      refused_pays None (Undefined kind line) e h = tt
      refused_pays None Idle e h = tt
      refused_pays None Lost e h = tt
  step_by n x k c m w false o e u q = q

  -- What a micro-step owes that doesn't count pays what it costs at most, and what is owed behind it.
  pub step_pays : (n : ℕ) (t : State) → Stands s.program t → InSegments t.stack → counts s t ≡ false → most_at s.program t.focus t.stack + n ≡ load s.program t.copy t.focus t.stack → Pays s.program n (step s t)
  unfolding step counts enters
  step_pays n t st i e h =
      let u = uncounted _ _ e in
      let w = arrived s.outside t.world in
      step_by n t.focus t.stack t.copy t.memory w (is_due w) (handler_in s.program) u.0 u.1 (act_pays n t.focus t.stack t.copy t.memory w st.focus st.stack i u.1 h)
