-- Each micro-step keeps that temporary bytes fit into the frames: statements, accesses, calls and the handler.
use Rattle.std.proofs.Common.{◌≡◌, ℕ, zero, suc, ◌+◌, ◌*◌, ◌≤◌, nat_lt, List, [], ◌∷◌, length, Option, Some, None, refl, ap, subst, arith}
use Rattle.std.specs.Prelude.{max}
use Rattle.c_typed.specs.Room.{item_room, items_room, room, place_room, any_room, statement_room, statements_room, arm_room, arms_room, last_room, switch_room}
use Rattle.c_typed.specs.Trees as tree
use Rattle.c_typed.specs.Trees.{Expression, Item, Statement, Statements, Arm, Arms, LastArm}
use Rattle.c_typed.specs.Types.{type_bytes, value_bytes, form_of}
use Rattle.c_typed.specs.declared.expression.PlaceForm.TheVariants as forms
use Rattle.c_typed.specs.declared.statement.LoopForm.{LoopForm}
use Rattle.c_typed.specs.declared.statement.LoopForm.TheVariants.{While, Do, For}
use Rattle.c_typed.specs.declared.statement.TCase.{TCase}
use Rattle.lower_stmt.specs.Ground.{Ground}
use Rattle.pic_world.specs.World.{World, arrived, is_due, left}
use Rattle.pic_world.specs.declared.Root.TheVariants.{Isr}
use Rattle.src_rules.specs.Accesses.{after_taking, after_putting, fetched, fetch, skim, items, stored_in, stored_for, stored, write_at, write, copy_read, spell, blank_at, blank_for, blank}
use Rattle.src_rules.specs.Giving.{take_for, statements_behind, jump, jump_if_any, compares_in, compares_for, compares, give}
use Rattle.src_rules.specs.Standing.{IsReached, StackStands, GotStands, Stands}
use Rattle.src_rules.specs.State.{State, Outcome, Went, Undefined, Idle, Lost}
use Rattle.src_rules.specs.Statements.{turn, test, first_of, next_of, loops, last, arms, break_at, continue_at, unwound, turned, proceed, handed, leave, begin}
use Rattle.src_rules.specs.Step.{copy_of, has_missing, call_in, call, act, refused, refused_at, interrupted, step}
use Rattle.src_values.specs.Accesses.{Taking, Takes, Breaks, Putting, Puts, Refuses}
use Rattle.src_values.specs.Control.{Focus, Eval, Find, Holds, Found, Run, Past, Fetch, Skim, Write, PutBit, CopyRead, CopyWrite, Spell, Blank, Calls, Leaves, Compares, Over, Got, Nothing, Chosen, One, At, AtWith, Stores, Copies, Args, Passed, Called, Stage, Tests, Begins, Steps, Turns, Picks, InArm, Chooses, Fills, AtItem, Items, Blanks, Pending, In, To, Doing, Before, Returns, Resumes, read_type}
use Rattle.src_values.specs.Data.{Datum, Missing}
use Rattle.src_values.specs.Memory as source
use Rattle.src_values.specs.Objects.{function_at, handler_in}
use Rattle.src_values.specs.Values.{truth_of, is_case}
use Rattle.src_values.specs.declared.objects.Byte.{Byte}
use Rattle.src_values.specs.declared.objects.CopyOf.{CopyOf}
use Rattle.src_values.specs.declared.objects.Object.{Object}
use Rattle.src_values.specs.declared.objects.Spot.{Spot}
use Rattle.src_values.specs.declared.objects.Spot.TheVariants as spots
use Rattle.lower_trace.proofs.CodeLeft.{Scene, ground_in, source_in, arm_count}
use Rattle.lower_trace.proofs.Fitting.{FocusFits, StageFits, StackFits, frame_of}
use Rattle.lower_trace.proofs.FitsKept.{KeepsFits, GotSplits, eval_fits, find_fits, found_fits, used_fits, branch_fits, either_fits, take_in_fits, take_to_fits}
use Rattle.lower_trace.proofs.Leaving.{IsResumable}
use Rattle.lower_trace.proofs.Shapes.{Shaped, AreShaped, ArmsShaped, LastShaped, behind_shaped}
use Rattle.lower_trace.proofs.Rooms.{two_parts, three_parts, assign_parts, struct_parts}

module _ (z : Scene) (c : CopyOf) where
  abbrev g : Ground
  g = ground_in z c

  abbrev sizes : List ℕ
  sizes = z.program.sizes

  -- a statement that begins, or waits
  abbrev pub Has : Statement → Type 0
  Has t = (g.base + statement_room sizes t ≤ frame_of z c) × Shaped t

  -- ---- lists of first values
  items_fit : (local : ℕ) (whole : List Item) (line : ℕ) (object : Object) (all : List Item) (k : List Pending) (m : source.Memory) (w : World Byte) → Has (tree.InitList local whole line) → g.base + items_room sizes all ≤ frame_of z c → StackFits z c k → KeepsFits z (items (source_in z) (tree.InitList local whole line) object all k c m w)
  items_fit local whole line object [] k m w has fits st = (tt, (has, tt, st))
  items_fit local whole line object (tree.Scalar offset value ∷ rest) k m w has fits st =
      let q = two_parts (item_room sizes (tree.Scalar offset value)) (items_room sizes rest) in
      let a = q.0 in
      let b = q.1 in
      let p = (assign_parts 0 forms.Fixed (room sizes value) (value_bytes sizes value)).1 in
      (omega arith, (has, omega arith, st))
  items_fit local whole line object (tree.Struct offset from size ∷ rest) k m w has fits st =
      let q = two_parts (item_room sizes (tree.Struct offset from size)) (items_room sizes rest) in
      let a = q.0 in
      let b = q.1 in
      let p = (struct_parts 0 forms.Fixed (place_room sizes from) (form_of from)).1 in
      (omega arith, (has, omega arith, st))
  items_fit local whole line object (tree.Text offset text size ∷ rest) k m w has fits st =
      let b = (two_parts (item_room sizes (tree.Text offset text size)) (items_room sizes rest)).1 in
      (tt, (has, omega arith, st))

  -- ---- loops
  loop_parts : (shape : LoopForm) (begins condition step : Option Expression) (body : Statement) (line : ℕ)
      → (any_room sizes begins ≤ statement_room sizes (tree.Loop shape begins condition step body line)) × (any_room sizes condition ≤ statement_room sizes (tree.Loop shape begins condition step body line))
      × (any_room sizes step ≤ statement_room sizes (tree.Loop shape begins condition step body line)) × (statement_room sizes body ≤ statement_room sizes (tree.Loop shape begins condition step body line))
  unfolding statement_room
  loop_parts shape begins condition step body line =
      let a = two_parts (any_room sizes begins) (max (any_room sizes condition) (max (any_room sizes step) (statement_room sizes body))) in
      let b = three_parts (any_room sizes condition) (any_room sizes step) (statement_room sizes body) in
      let a0 = a.0 in
      let a1 = a.1 in
      let b0 = b.0 in
      let b1 = b.1 in
      let b2 = b.2 in
      (a0, omega arith, omega arith, omega arith)

  turn_fits : (shape : LoopForm) (begins condition step : Option Expression) (body : Statement) (line : ℕ) (k : List Pending) (m : source.Memory) (w : World Byte) → Has (tree.Loop shape begins condition step body line) → StackFits z c k → KeepsFits z (turn (tree.Loop shape begins condition step body line) body k c m w)
  turn_fits shape begins condition step body line k m w has st = let q = (loop_parts shape begins condition step body line).3 in let h = has.0 in ((omega arith, has.1.1), (has, tt, st))

  test_fits : (shape : LoopForm) (begins condition step : Option Expression) (body : Statement) (line : ℕ) (k : List Pending) (m : source.Memory) (w : World Byte) → Has (tree.Loop shape begins condition step body line) → StackFits z c k → KeepsFits z (test (tree.Loop shape begins condition step body line) condition body k c m w)
  test_fits shape begins None step body line k m w has st = turn_fits shape begins None step body line k m w has st
  test_fits shape begins (Some e) step body line k m w has st = let q = (loop_parts shape begins (Some e) step body line).1 in let h = has.0 in (omega arith, (has, tt, st))

  first_fits : (shape : LoopForm) (begins condition step : Option Expression) (body : Statement) (line : ℕ) (k : List Pending) (m : source.Memory) (w : World Byte) → Has (tree.Loop shape begins condition step body line) → StackFits z c k → KeepsFits z (first_of (tree.Loop shape begins condition step body line) begins condition body k c m w)
  first_fits shape None condition step body line k m w has st = test_fits shape None condition step body line k m w has st
  first_fits shape (Some e) condition step body line k m w has st = let q = (loop_parts shape (Some e) condition step body line).0 in let h = has.0 in (omega arith, (has, tt, st))

  next_fits : (shape : LoopForm) (begins condition step : Option Expression) (body : Statement) (line : ℕ) (k : List Pending) (m : source.Memory) (w : World Byte) → Has (tree.Loop shape begins condition step body line) → StackFits z c k → KeepsFits z (next_of (tree.Loop shape begins condition step body line) step condition body k c m w)
  next_fits shape begins condition None body line k m w has st = test_fits shape begins condition None body line k m w has st
  next_fits shape begins condition (Some e) body line k m w has st = let q = (loop_parts shape begins condition (Some e) body line).2 in let h = has.0 in (omega arith, (has, tt, st))

  loops_fit : (shape : LoopForm) (begins condition step : Option Expression) (body : Statement) (line : ℕ) (k : List Pending) (m : source.Memory) (w : World Byte) → Has (tree.Loop shape begins condition step body line) → StackFits z c k → KeepsFits z (loops shape (tree.Loop shape begins condition step body line) begins condition body k c m w)
  loops_fit While begins condition step body line k m w has st = first_fits While begins condition step body line k m w has st
  loops_fit For begins condition step body line k m w has st = first_fits For begins condition step body line k m w has st
  loops_fit Do begins condition step body line k m w has st = turn_fits Do begins condition step body line k m w has st

  -- ---- chains of arms
  chain_parts : (chain : Arms) (otherwise : LastArm) (line : ℕ) → (arms_room sizes chain ≤ statement_room sizes (tree.If chain otherwise line)) × (last_room sizes otherwise ≤ statement_room sizes (tree.If chain otherwise line))
  unfolding statement_room
  chain_parts chain otherwise line = two_parts (arms_room sizes chain) (last_room sizes otherwise)

  arm_parts : (condition : Expression) (chosen : Statement) (line : ℕ) → (room sizes condition ≤ arm_room sizes (tree.OneArm condition chosen line)) × (statement_room sizes chosen ≤ arm_room sizes (tree.OneArm condition chosen line))
  unfolding statement_room
  arm_parts condition chosen line = two_parts (room sizes condition) (statement_room sizes chosen)

  more_parts : (arm : Arm) (more : Arms) → (arm_room sizes arm ≤ arms_room sizes (tree.AndArm arm more)) × (arms_room sizes more ≤ arms_room sizes (tree.AndArm arm more))
  unfolding statement_room
  more_parts arm more = two_parts (arm_room sizes arm) (arms_room sizes more)

  no_arms : arms_room sizes tree.NoArm ≡ 0
  unfolding statement_room
  no_arms = refl

  last_is : (t : Statement) → last_room sizes (tree.Last t) ≡ statement_room sizes t
  unfolding statement_room
  last_is t = refl

  last_fits : (chain : Arms) (otherwise chosen : LastArm) (line : ℕ) (k : List Pending) (m : source.Memory) (w : World Byte) → otherwise ≡ chosen → Has (tree.If chain otherwise line) → StackFits z c k → KeepsFits z (last (tree.If chain otherwise line) chosen k c m w)
  last_fits chain otherwise tree.NoLast line k m w is has st = (tt, st)
  last_fits chain otherwise (tree.Last t) line k m w is has st =
      let q = (chain_parts chain otherwise line).1 in
      let l = ap (last_room sizes) is in
      let s = last_is t in
      let n = no_arms in
      let h = has.0 in
      ((omega arith, subst LastShaped is has.1.1), (has, omega arith, st))

  arms_fit : (chain : Arms) (otherwise : LastArm) (line : ℕ) (more : Arms) (k : List Pending) (m : source.Memory) (w : World Byte) → Has (tree.If chain otherwise line) → g.base + arms_room sizes more ≤ frame_of z c → ArmsShaped more → arm_count more ≤ arm_count chain → StackFits z c k → KeepsFits z (arms (tree.If chain otherwise line) more otherwise k c m w)
  arms_fit chain otherwise line tree.NoArm k m w has fits s le st = last_fits chain otherwise otherwise line k m w refl has st
  arms_fit chain otherwise line (tree.AndArm (tree.OneArm condition chosen at) more) k m w has fits s le st =
      let q = more_parts (tree.OneArm condition chosen at) more in
      let a = q.0 in
      let b = q.1 in
      let e = (arm_parts condition chosen at).0 in
      (omega arith, (has, (omega arith, omega arith, s.0, s.1, omega arith), st))

  -- ---- jumps
  unwound_fits : (k : List Pending) → StackFits z c k → StackFits z c (unwound k)
  unwound_fits [] st = st
  unwound_fits (In e got ∷ k) st = st
  unwound_fits (To place ∷ k) st = st
  unwound_fits (Doing t Turns ∷ k) st = unwound_fits k st.2
  unwound_fits (Doing t (InArm more) ∷ k) st = unwound_fits k st.2
  unwound_fits (Doing t _ ∷ k) st = st
  unwound_fits (Before ss ∷ k) st = unwound_fits k st.1
  unwound_fits (Returns d ∷ k) st = st
  unwound_fits (Resumes d x ∷ k) st = st

  break_fits : (k : List Pending) (m : source.Memory) (w : World Byte) → StackFits z c k → KeepsFits z (break_at k c m w)
  break_fits [] m w st = tt
  break_fits (In e got ∷ k) m w st = tt
  break_fits (To place ∷ k) m w st = tt
  break_fits (Doing t Turns ∷ k) m w st = (tt, st.2)
  break_fits (Doing t (InArm more) ∷ k) m w st = break_fits k m w st.2
  break_fits (Doing t _ ∷ k) m w st = tt
  break_fits (Before ss ∷ k) m w st = break_fits k m w st.1
  break_fits (Returns d ∷ k) m w st = tt
  break_fits (Resumes d x ∷ k) m w st = tt

  continue_fits : (k : List Pending) (m : source.Memory) (w : World Byte) → StackFits z c k → KeepsFits z (continue_at k c m w)
  continue_fits [] m w st = tt
  continue_fits (In e got ∷ k) m w st = tt
  continue_fits (To place ∷ k) m w st = tt
  continue_fits (Doing (tree.Loop shape begins condition step body line) Turns ∷ k) m w st = (tt, st)
  continue_fits (Doing (tree.Switch e cases default ss line) Turns ∷ k) m w st = continue_fits k m w st.2
  continue_fits (Doing t (InArm more) ∷ k) m w st = continue_fits k m w st.2
  continue_fits (Doing _ _ ∷ k) m w st = tt
  continue_fits (Before ss ∷ k) m w st = continue_fits k m w st.1
  continue_fits (Returns d ∷ k) m w st = tt
  continue_fits (Resumes d x ∷ k) m w st = tt

  -- ---- what follows a statement
  turned_fits : (t : Statement) (stage : Stage) (k : List Pending) (m : source.Memory) (w : World Byte) → Has t → StackFits z c k → KeepsFits z (turned t stage k c m w)
  turned_fits (tree.Loop shape begins condition step body line) Turns k m w has st = next_fits shape begins condition step body line k m w has st
  turned_fits (tree.Switch e cases default ss line) Turns k m w has st = (tt, st)
  turned_fits (tree.If chain otherwise line) (InArm more) k m w has st = (tt, st)
  turned_fits _ _ k m w has st = tt

  next_statement : (t : Statement) (ts : Statements) → (statement_room sizes t ≤ statements_room sizes (tree.AndStatement t ts)) × (statements_room sizes ts ≤ statements_room sizes (tree.AndStatement t ts))
  unfolding statement_room
  next_statement t ts = two_parts (statement_room sizes t) (statements_room sizes ts)

  pub proceed_fits : (k : List Pending) (m : source.Memory) (w : World Byte) → StackFits z c k → KeepsFits z (proceed k c m w)
  proceed_fits [] m w st = (tt, tt, tt)
  proceed_fits (In e got ∷ k) m w st = tt
  proceed_fits (To place ∷ k) m w st = tt
  proceed_fits (Doing t stage ∷ k) m w st = turned_fits t stage k m w st.0 st.2
  proceed_fits (Before tree.NoStatement ∷ k) m w st = (tt, st.1)
  proceed_fits (Before (tree.AndStatement t ts) ∷ k) m w st =
      let q = next_statement t ts in
      let a = q.0 in
      let b = q.1 in
      let s = st.0.0 in
      ((omega arith, st.0.1.0), ((omega arith, st.0.1.1), st.1))
  proceed_fits (Returns d ∷ k) m w st = (tt, st)
  proceed_fits (Resumes d x ∷ k) m w st = (st.0, st.1)

  -- ---- statements begin
  statement_parts : (ss : Statements) (line : ℕ) → statement_room sizes (tree.Block ss line) ≡ statements_room sizes ss
  unfolding statement_room
  statement_parts ss line = refl

  expression_is : (e : Expression) (line : ℕ) → statement_room sizes (tree.Expr e line) ≡ room sizes e
  unfolding statement_room
  expression_is e line = refl

  scalar_is : (local : ℕ) (e : Expression) (line : ℕ) → room sizes e ≤ statement_room sizes (tree.InitScalar local e line)
  unfolding statement_room
  scalar_is local e line = let p = (assign_parts 0 forms.Fixed (room sizes e) (value_bytes sizes e)).1 in omega arith

  list_is : (local : ℕ) (all : List Item) (line : ℕ) → statement_room sizes (tree.InitList local all line) ≡ items_room sizes all
  unfolding statement_room
  list_is local all line = refl

  switch_parts : (e : Expression) (cases : List TCase) (default : Option ℕ) (ss : Statements) (line : ℕ) → (room sizes e ≤ statement_room sizes (tree.Switch e cases default ss line)) × (statements_room sizes ss ≤ statement_room sizes (tree.Switch e cases default ss line))
  unfolding statement_room
  switch_parts e cases default ss line =
      let q = two_parts (switch_room (room sizes e) (value_bytes sizes e)) (statements_room sizes ss) in
      let a = q.0 in
      let b = q.1 in
      let r = (two_parts (room sizes e) (2 * value_bytes sizes e + 2)).0 in
      (omega arith, b)

  return_is : (e : Expression) (line : ℕ) → statement_room sizes (tree.Return (Some e) line) ≡ room sizes e
  unfolding statement_room
  return_is e line = refl

  pub begin_fits : (t : Statement) (k : List Pending) (m : source.Memory) (w : World Byte) → Has t → StackFits z c k → KeepsFits z (begin (source_in z) t k c m w)
  begin_fits (tree.Block ss line) k m w has st = let q = statement_parts ss line in let h = has.0 in (tt, ((omega arith, has.1), st))
  begin_fits (tree.Empty line) k m w has st = (tt, st)
  begin_fits (tree.Expr e line) k m w has st = let q = expression_is e line in let h = has.0 in (omega arith, (has, tt, st))
  begin_fits (tree.Declare local line) k m w has st = (tt, st)
  begin_fits (tree.InitScalar local e line) k m w has st = let q = scalar_is local e line in let h = has.0 in (omega arith, (has, tt, st))
  begin_fits (tree.InitList local all line) k m w has st = let q = list_is local all line in let h = has.0 in items_fit local all line _ all k _ w has (omega arith) st
  begin_fits (tree.If chain otherwise line) k m w has st = let q = (chain_parts chain otherwise line).0 in let h = has.0 in arms_fit chain otherwise line chain k m w has (omega arith) has.1.0 (omega arith) st
  begin_fits (tree.Loop shape begins condition step body line) k m w has st = loops_fit shape begins condition step body line k m w has st
  begin_fits (tree.Switch e cases default ss line) k m w has st = let q = (switch_parts e cases default ss line).0 in let h = has.0 in (omega arith, (has, tt, st))
  begin_fits (tree.Break line) k m w has st = break_fits k m w st
  begin_fits (tree.Continue line) k m w has st = continue_fits k m w st
  begin_fits (tree.Return None line) k m w has st = proceed_fits (unwound k) m w (unwound_fits k st)
  begin_fits (tree.Return (Some e) line) k m w has st = let q = return_is e line in let h = has.0 in (omega arith, (has, tt, st))

  -- ---- switches
  behind_fits : (n : ℕ) (ss : Statements) → statements_room sizes (statements_behind n ss) ≤ statements_room sizes ss
  unfolding statement_room
  behind_fits zero ss = omega arith
  behind_fits (suc n) tree.NoStatement = omega arith
  behind_fits (suc n) (tree.AndStatement t ts) = let r = behind_fits n ts in let q = (two_parts (statement_room sizes t) (statements_room sizes ts)).1 in omega arith

  jump_fits : (e : Expression) (cases : List TCase) (default : Option ℕ) (ss : Statements) (line target : ℕ) (k : List Pending) (m : source.Memory) (w : World Byte) → Has (tree.Switch e cases default ss line) → StackFits z c k → KeepsFits z (jump (tree.Switch e cases default ss line) target ss k c m w)
  jump_fits e cases default ss line target k m w has st =
      let q = (switch_parts e cases default ss line).1 in
      let b = behind_fits target ss in
      let h = has.0 in
      (tt, ((omega arith, behind_shaped target ss has.1.1), (has, tt, st)))

  any_jump_fits : (e : Expression) (cases : List TCase) (default any : Option ℕ) (ss : Statements) (line : ℕ) (k : List Pending) (m : source.Memory) (w : World Byte) → Has (tree.Switch e cases default ss line) → StackFits z c k → KeepsFits z (jump_if_any (tree.Switch e cases default ss line) any ss k c m w)
  any_jump_fits e cases default None ss line k m w has st = (tt, st)
  any_jump_fits e cases default (Some target) ss line k m w has st = jump_fits e cases default ss line target k m w has st

  compares_in_fits : (e : Expression) (cases : List TCase) (default : Option ℕ) (ss : Statements) (line : ℕ) (v : Datum) (labels : List TCase) (k : List Pending) (m : source.Memory) (w : World Byte) → Has (tree.Switch e cases default ss line) → StackFits z c k → KeepsFits z (compares_in (tree.Switch e cases default ss line) ss default v labels k c m w)
  compares_in_fits e cases default ss line v [] k m w has st = any_jump_fits e cases default default ss line k m w has st
  compares_in_fits e cases default ss line v (label ∷ labels) k m w has st = either_fits z (is_case v label) _ _ (jump_fits e cases default ss line label.target k m w has st) (tt, (has, tt, st))

  compares_for_fits : (t : Statement) (stage : Stage) (v : Datum) (labels : List TCase) (k : List Pending) (m : source.Memory) (w : World Byte) → Has t → StackFits z c k → KeepsFits z (compares_for t stage v labels k c m w)
  compares_for_fits (tree.Switch e cases default ss line) Chooses v labels k m w has st = compares_in_fits e cases default ss line v labels k m w has st
  compares_for_fits _ _ v labels k m w has st = tt

  pub compares_fit : (v : Datum) (labels : List TCase) (k : List Pending) (m : source.Memory) (w : World Byte) → StackFits z c k → KeepsFits z (compares v labels k c m w)
  compares_fit v labels [] m w st = tt
  compares_fit v labels (In e got ∷ k) m w st = tt
  compares_fit v labels (To place ∷ k) m w st = tt
  compares_fit v labels (Doing t stage ∷ k) m w st = compares_for_fits t stage v labels k m w st.0 st.2
  compares_fit v labels (Before ss ∷ k) m w st = tt
  compares_fit v labels (Returns d ∷ k) m w st = tt
  compares_fit v labels (Resumes d x ∷ k) m w st = tt

  -- ---- statements take values
  take_for_fits : (t : Statement) (stage : Stage) (v : Datum) (k : List Pending) (m : source.Memory) (w : World Byte) → Has t → StageFits z c t stage → StackFits z c k → KeepsFits z (take_for (source_in z) t stage v k c m w)
  take_for_fits (tree.Expr e line) Tests v k m w has s st = (tt, st)
  take_for_fits (tree.InitScalar local e line) Tests v k m w has s st = used_fits z v line _ (tt, (has, tt, st))
  take_for_fits (tree.InitList local all line) (AtItem (tree.Scalar offset e) rest) v k m w has s st = used_fits z v line _ (tt, (has, s, st))
  take_for_fits (tree.If chain otherwise line) (Picks (tree.OneArm condition chosen at) more) v k m w has s st =
      let q = (arm_parts condition chosen at).1 in
      let s0 = s.0 in
      let s4 = s.4 in
      branch_fits z (truth_of v) at _ _ ((omega arith, s.2), (has, s.1, st)) (arms_fit chain otherwise line more k m w has s.1 s.3 (omega arith) st)
  take_for_fits (tree.Loop shape begins condition step body line) Begins v k m w has s st = test_fits shape begins condition step body line k m w has st
  take_for_fits (tree.Loop shape begins condition step body line) Steps v k m w has s st = test_fits shape begins condition step body line k m w has st
  take_for_fits (tree.Loop shape begins condition step body line) Tests v k m w has s st = branch_fits z (truth_of v) line _ _ (turn_fits shape begins condition step body line k m w has st) (tt, st)
  take_for_fits (tree.Switch e cases default ss line) Tests v k m w has s st = used_fits z v line _ (tt, (has, tt, st))
  take_for_fits (tree.Return e line) Tests v k m w has s st = used_fits z v line _ (tt, unwound_fits k st)
  take_for_fits _ _ v k m w has s st = tt

  splits_of : (e : Expression) (got : Got) → GotStands z.program c e got → GotSplits z e got
  splits_of (tree.Call function all ty line) (Args before more) s = s
  splits_of _ _ s = tt

  pub give_fits : frame_of z c ≤ 96 → (v : Datum) (k : List Pending) (m : source.Memory) (w : World Byte) → StackStands z.program c k → StackFits z c k → KeepsFits z (give (source_in z) v k c m w)
  give_fits small v [] m w h st = tt
  give_fits small v (In e got ∷ k) m w h st = take_in_fits z c small e got v k m w h.0 (splits_of e got h.2) st.0 st.1
  give_fits small v (To place ∷ k) m w h st = take_to_fits z c small place v k m w st.1
  give_fits small v (Doing t stage ∷ k) m w h st = take_for_fits t stage v k m w st.0 st.1 st.2
  give_fits small v (Before ss ∷ k) m w h st = tt
  give_fits small v (Returns d ∷ k) m w h st = tt
  give_fits small v (Resumes d x ∷ k) m w h st = tt

  -- ---- accesses
  taking_fits : (t : Taking) (next : Byte → Focus) (k : List Pending) (m : source.Memory) (line : ℕ) → ((byte : Byte) → FocusFits z c (next byte) k × IsResumable (next byte)) → StackFits z c k → KeepsFits z (after_taking t next c k m line)
  taking_fits (Takes byte w None) next k m line h st = ((h byte).0, st)
  taking_fits (Takes byte w (Some event)) next k m line h st = ((h byte).0, st, (h byte).1)
  taking_fits (Breaks kind) next k m line h st = tt

  putting_fits : (t : Putting) (next : Focus) (k : List Pending) (line : ℕ) → FocusFits z c next k × IsResumable next → StackFits z c k → KeepsFits z (after_putting t next c k line)
  putting_fits (Puts m w None) next k line h st = (h.0, st)
  putting_fits (Puts m w (Some event)) next k line h st = (h.0, st, h.1)
  putting_fits (Refuses kind) next k line h st = tt

  fetched_fits : (v : Datum) (k : List Pending) (m : source.Memory) (w : World Byte) → StackFits z c k → KeepsFits z (fetched v k c m w)
  fetched_fits v [] m w st = (tt, st)
  fetched_fits v (In (tree.Read place ty line) (At spot) ∷ k) m w st = (tt, st.1)
  fetched_fits v (In _ _ ∷ k) m w st = (tt, st)
  fetched_fits v (To place ∷ k) m w st = (tt, st)
  fetched_fits v (Doing t stage ∷ k) m w st = (tt, st)
  fetched_fits v (Before ss ∷ k) m w st = (tt, st)
  fetched_fits v (Returns d ∷ k) m w st = (tt, st)
  fetched_fits v (Resumes d x ∷ k) m w st = (tt, st)

  pub fetch_fits : (spot : Spot) (read : List Byte) (k : List Pending) (m : source.Memory) (w : World Byte) → StackFits z c k → KeepsFits z (fetch (source_in z) spot read k c m w)
  fetch_fits spot read k m w st =
      either_fits z (nat_lt (length read) (type_bytes z.program.sizes (read_type k))) _ _ (taking_fits _ _ k m _ (λ byte. (tt, tt)) st) (fetched_fits _ k m w st)

  pub skim_fits : (spot : Spot) (left : ℕ) (byte : Option Byte) (k : List Pending) (m : source.Memory) (w : World Byte) → StackFits z c k → KeepsFits z (skim (source_in z) spot left byte k c m w)
  skim_fits spot zero byte k m w st = fetched_fits Missing k m w st
  skim_fits spot (suc left) byte k m w st = taking_fits _ _ k m _ (λ next. (tt, tt)) st

  stored_in_fits : (e : Expression) (got : Got) (k : List Pending) (m : source.Memory) (w : World Byte) → StackFits z c k → KeepsFits z (stored_in e got k c m w)
  stored_in_fits e (Stores spot v) k m w st = (tt, st)
  stored_in_fits e Copies k m w st = (tt, st)
  stored_in_fits e Nothing k m w st = tt
  stored_in_fits e Chosen k m w st = tt
  stored_in_fits e (One v) k m w st = tt
  stored_in_fits e (At spot) k m w st = tt
  stored_in_fits e (AtWith spot v) k m w st = tt
  stored_in_fits e (Args before more) k m w st = tt
  stored_in_fits e (Passed values) k m w st = tt
  stored_in_fits e Called k m w st = tt

  stored_for_fits : (t : Statement) (stage : Stage) (k : List Pending) (m : source.Memory) (w : World Byte) → Has t → StageFits z c t stage → StackFits z c k → KeepsFits z (stored_for (source_in z) t stage k c m w)
  stored_for_fits (tree.InitScalar local e line) Fills k m w has s st = (tt, st)
  stored_for_fits (tree.InitList local all line) (Items item rest) k m w has s st = let q = (two_parts (item_room sizes item) (items_room sizes rest)).1 in items_fit local all line _ rest k m w has (omega arith) st
  stored_for_fits (tree.InitList local all line) Blanks k m w has s st = (tt, st)
  stored_for_fits _ _ k m w has s st = tt

  stored_fits : (k : List Pending) (m : source.Memory) (w : World Byte) → StackFits z c k → KeepsFits z (stored (source_in z) k c m w)
  stored_fits [] m w st = tt
  stored_fits (In e got ∷ k) m w st = stored_in_fits e got k m w st.1
  stored_fits (To place ∷ k) m w st = tt
  stored_fits (Doing t stage ∷ k) m w st = stored_for_fits t stage k m w st.0 st.1 st.2
  stored_fits (Before ss ∷ k) m w st = tt
  stored_fits (Returns d ∷ k) m w st = tt
  stored_fits (Resumes d x ∷ k) m w st = tt

  write_at_fits : (spot : Spot) (v : Datum) (at : ℕ) (k : List Pending) (m : source.Memory) (w : World Byte) → StackFits z c k → KeepsFits z (write_at (source_in z) spot v at k c m w)
  write_at_fits (spots.Bit register number) v at k m w st = (tt, st, tt)
  write_at_fits (spots.Device address) v at k m w st = putting_fits _ _ k _ (tt, tt) st
  write_at_fits (spots.Memory x) v at k m w st = putting_fits _ _ k _ (tt, tt) st

  pub write_fits : (spot : Spot) (v : Datum) (at : ℕ) (k : List Pending) (m : source.Memory) (w : World Byte) → StackFits z c k → KeepsFits z (write (source_in z) spot v at k c m w)
  write_fits spot v at k m w st = either_fits z _ _ _ (write_at_fits spot v at k m w st) (stored_fits k m w st)

  pub copy_read_fits : (to from : Spot) (left : ℕ) (k : List Pending) (m : source.Memory) (w : World Byte) → StackFits z c k → KeepsFits z (copy_read (source_in z) to from left k c m w)
  copy_read_fits to from zero k m w st = stored_fits k m w st
  copy_read_fits to from (suc left) k m w st = taking_fits _ _ k m _ (λ byte. (tt, tt)) st

  pub spell_fits : (spot : Spot) (text : List ℕ) (left : ℕ) (k : List Pending) (m : source.Memory) (w : World Byte) → StackFits z c k → KeepsFits z (spell (source_in z) spot text left k c m w)
  spell_fits spot text zero k m w st = stored_fits k m w st
  spell_fits spot text (suc left) k m w st = putting_fits _ _ k _ (tt, tt) st

  blank_at_fits : (object : Object) (at left : ℕ) (k : List Pending) (m : source.Memory) (w : World Byte) → StackFits z c k → KeepsFits z (blank_at (source_in z) object at left k c m w)
  blank_at_fits object at zero k m w st = stored_fits k m w st
  blank_at_fits object at (suc left) k m w st = putting_fits _ _ k _ (tt, tt) st

  blank_for_fits : (t : Statement) (at left : ℕ) (k : List Pending) (m : source.Memory) (w : World Byte) → StackFits z c k → KeepsFits z (blank_for (source_in z) t at left k c m w)
  blank_for_fits (tree.InitList local all line) at left k m w st = blank_at_fits _ _ _ k m w st
  blank_for_fits _ at left k m w st = tt

  pub blank_fits : (at left : ℕ) (k : List Pending) (m : source.Memory) (w : World Byte) → StackFits z c k → KeepsFits z (blank (source_in z) at left k c m w)
  blank_fits at left [] m w st = tt
  blank_fits at left (In e got ∷ k) m w st = tt
  blank_fits at left (To place ∷ k) m w st = tt
  blank_fits at left (Doing t stage ∷ k) m w st = blank_for_fits t at left (Doing t stage ∷ k) m w st
  blank_fits at left (Before ss ∷ k) m w st = tt
  blank_fits at left (Returns d ∷ k) m w st = tt
  blank_fits at left (Resumes d x ∷ k) m w st = tt

-- ---- calls, and the whole step
module _ (z : Scene) (small : (c : CopyOf) → IsReached z.program c → frame_of z c ≤ 96) (bodies : (c : CopyOf) → ((ground_in z c).base + statements_room z.program.sizes (function_at z.program c.function).body ≤ frame_of z c) × AreShaped (function_at z.program c.function).body) where
  call_in_fits : (e : Expression) (got : Got) (k : List Pending) (c : CopyOf) (m : source.Memory) (w : World Byte) → StackFits z c (In e got ∷ k) → KeepsFits z (call_in z.program e got k c m w)
  call_in_fits (tree.Call f arguments ty line) (Passed values) k c m w st = either_fits z (has_missing values) _ _ tt (tt, (bodies (copy_of c.root f), st))
  call_in_fits _ _ k c m w st = tt

  call_fits : (k : List Pending) (c : CopyOf) (m : source.Memory) (w : World Byte) → StackFits z c k → KeepsFits z (call z.program k c m w)
  call_fits [] c m w st = tt
  call_fits (In e got ∷ k) c m w st = call_in_fits e got k c m w st
  call_fits (To place ∷ k) c m w st = tt
  call_fits (Doing t stage ∷ k) c m w st = tt
  call_fits (Before ss ∷ k) c m w st = tt
  call_fits (Returns d ∷ k) c m w st = tt
  call_fits (Resumes d x ∷ k) c m w st = tt

  handed_fits : (v : Datum) (d : CopyOf) (k : List Pending) (m : source.Memory) (w : World Byte) → StackFits z d k → KeepsFits z (handed v d k m w)
  handed_fits v d (In (tree.Call function arguments ty line) Called ∷ k) m w st = (tt, st.1)
  handed_fits v d _ m w st = tt

  leave_fits : (v : Datum) (c : CopyOf) (k : List Pending) (m : source.Memory) (w : World Byte) → StackFits z c k → KeepsFits z (leave v k m w)
  leave_fits v c [] m w st = tt
  leave_fits v c (In e got ∷ k) m w st = tt
  leave_fits v c (To place ∷ k) m w st = tt
  leave_fits v c (Doing t stage ∷ k) m w st = tt
  leave_fits v c (Before ss ∷ k) m w st = tt
  leave_fits v c (Returns d ∷ k) m w st = handed_fits v d k m w st
  leave_fits v c (Resumes d x ∷ k) m w st = tt

  act_fits : (x : Focus) (k : List Pending) (c : CopyOf) (m : source.Memory) (w : World Byte) → IsReached z.program c → StackStands z.program c k → FocusFits z c x k → StackFits z c k → KeepsFits z (act (source_in z) x k c m w)
  unfolding act
  act_fits (Eval e) k c m w r h f st = eval_fits z c (small c r) e k m w f st
  act_fits (Find place) k c m w r h f st = find_fits z c (small c r) (source_in z) place k m w f st
  act_fits (Holds v) k c m w r h f st = give_fits z c (small c r) v k m w h st
  act_fits (Found spot) k c m w r h f st = found_fits z c (small c r) spot k m w st
  act_fits (Run t) k c m w r h f st = begin_fits z c t k m w f st
  act_fits Past k c m w r h f st = proceed_fits z c k m w st
  act_fits (Fetch spot read) k c m w r h f st = fetch_fits z c spot read k m w st
  act_fits (Skim spot left byte) k c m w r h f st = skim_fits z c spot left byte k m w st
  act_fits (Write spot v at) k c m w r h f st = write_fits z c spot v at k m w st
  act_fits (PutBit register number v old) k c m w r h f st = putting_fits z c _ _ k _ (tt, tt) st
  act_fits (CopyRead to from left) k c m w r h f st = copy_read_fits z c to from left k m w st
  act_fits (CopyWrite to from byte left) k c m w r h f st = putting_fits z c _ _ k _ (tt, tt) st
  act_fits (Spell spot text left) k c m w r h f st = spell_fits z c spot text left k m w st
  act_fits (Blank at left) k c m w r h f st = blank_fits z c at left k m w st
  act_fits Calls k c m w r h f st = call_fits k c m w st
  act_fits (Leaves v) k c m w r h f st = leave_fits v c k m w st
  act_fits (Compares v labels) k c m w r h f st = compares_fit z c v labels k m w st
  act_fits Over k c m w r h f st = tt

  refused_at_fits : (line : Option ℕ) (next : Outcome) → KeepsFits z next → KeepsFits z (refused_at line next)
  refused_at_fits (Some line) next h = tt
  refused_at_fits None next h = h

  refused_fits : (line : Option ℕ) (next : Outcome) → KeepsFits z next → KeepsFits z (refused line next)
  refused_fits line (Went u event) h = refused_at_fits line (Went u event) h
  refused_fits line (Undefined kind at) h = tt
  refused_fits line Idle h = refused_at_fits line Idle h
  refused_fits line Lost h = tt

  interrupted_fits : (handler : Option ℕ) (x : Focus) (k : List Pending) (c : CopyOf) (m : source.Memory) (w : World Byte) → IsReached z.program c → StackStands z.program c k → FocusFits z c x k → StackFits z c k → KeepsFits z (interrupted (source_in z) handler x k c m w)
  interrupted_fits (Some h) x k c m w r s f st = (tt, (bodies (copy_of Isr h), (f, st)))
  interrupted_fits None x k c m w r s f st = refused_fits _ _ (act_fits x k c m w r s f st)

  -- A micro-step keeps that all fits.
  pub step_fits : (t : State) → Stands z.program t → FocusFits z t.copy t.focus t.stack → StackFits z t.copy t.stack → KeepsFits z (step (source_in z) t)
  unfolding step
  step_fits t h f st =
      either_fits z (is_due (arrived z.outside t.world)) _ _
      (interrupted_fits (handler_in z.program) t.focus t.stack t.copy t.memory (arrived z.outside t.world) h.reached h.stack f st)
      (act_fits t.focus t.stack t.copy t.memory (arrived z.outside t.world) h.reached h.stack f st)
