-- Each micro-step keeps what is known of the parts that are under way: statements, accesses, calls and the handler.
use Rattle.std.proofs.Common.{◌≡◌, ℕ, zero, suc, true, nat_lt, List, [], ◌∷◌, ◌++◌, length, Option, Some, None}
use Rattle.std.proofs.lemmas.Bool.{false≢true}
use Rattle.c_typed.specs.Calls.{calls, place_calls, any_calls, items_calls, statement_calls, statements_calls, arms_calls, last_calls}
use Rattle.c_typed.specs.Trees as tree
use Rattle.c_typed.specs.Trees.{Expression, Item, Statement, Statements, Arm, Arms, LastArm, Program}
use Rattle.c_typed.specs.Types.{type_bytes, is_constant}
use Rattle.c_typed.specs.declared.statement.LoopForm.{LoopForm}
use Rattle.c_typed.specs.declared.statement.LoopForm.TheVariants.{While, Do, For}
use Rattle.c_typed.specs.declared.statement.TCase.{TCase}
use Rattle.c_typed.specs.declared.types.Ty.{Ty}
use Rattle.pic_world.specs.World.{World, arrived, is_due}
use Rattle.src_rules.specs.Accesses.{after_taking, after_putting, fetched, fetch, skim, items, stored_in, stored_for, stored, write_at, write, copy_read, spell, blank_at, blank_for, blank}
use Rattle.src_rules.specs.Giving.{take_for, statements_behind, jump, jump_if_any, compares_in, compares_for, compares, give}
use Rattle.src_rules.specs.Standing.{Fetches, Skims, Writes, Copying, Spells, IsWritten, FocusStands, StackStands, Stands}
use Rattle.src_rules.specs.State.{State, Outcome, Went, Undefined, Idle, Lost}
use Rattle.src_rules.specs.Statements.{turn, test, first_of, next_of, loops, last, arms, break_at, continue_at, unwound, turned, proceed, handed, leave, begin}
use Rattle.src_rules.specs.Step.{has_missing, call_in, call, act, refused, refused_at, interrupted, step, start}
use Rattle.src_values.specs.Accesses.{Taking, Takes, Breaks, Putting, Puts, Refuses}
use Rattle.src_values.specs.Control.{Focus, Eval, Find, Holds, Found, Run, Past, Fetch, Skim, Write, PutBit, CopyRead, CopyWrite, Spell, Blank, Calls, Leaves, Compares, Over, Got, Nothing, Chosen, One, At, AtWith, Stores, Copies, Args, Passed, Called, Stage, Tests, Begins, Steps, Turns, Picks, InArm, Chooses, Fills, AtItem, Items, Blanks, Pending, In, To, Doing, Before, Returns, Resumes, read_type}
use Rattle.src_values.specs.Data.{Datum, Missing}
use Rattle.src_values.specs.Memory as source
use Rattle.src_values.specs.Memory.{Setting}
use Rattle.src_values.specs.Objects.{handler_in}
use Rattle.src_values.specs.Values.{truth_of, is_case, answer_of}
use Rattle.src_values.specs.declared.objects.Byte.{Byte}
use Rattle.src_values.specs.declared.objects.CopyOf.{CopyOf}
use Rattle.src_values.specs.declared.objects.Object.{Object}
use Rattle.src_values.specs.declared.objects.Spot.{Spot}
use Rattle.src_values.specs.declared.objects.Spot.TheVariants as spots
use Rattle.lower_trace.proofs.PartsOf.{Has, StageHas, FocusHas, StackHas, KeepsParts, left_has, right_has, none_has, owed, free_given}
use Rattle.lower_trace.proofs.PartsKept.{used_parts, branch_parts, either_parts, eval_parts, find_parts, found_parts, take_in_parts, take_to_parts}

-- ---- nodes that write or copy are no constants
-- what stands on top may end with this write or copy
abbrev pub Ends : List Pending → Type 0
Ends (In e got ∷ k) = is_constant e ≡ true → ⊥
Ends _ = Unit {0}

ends_written : (p : Program) (c : CopyOf) (e : Expression) (spot : Spot) → IsWritten p c e spot → is_constant e ≡ true → ⊥
unfolding is_constant
ends_written p c (tree.Assign place value ty line) spot h = false≢true
ends_written p c (tree.Update op place value operation size ty line) spot h = false≢true
ends_written p c (tree.Step op place operation size ty line) spot h = false≢true
ends_written p c _ spot h = absurd h

writes_end : (p : Program) (c : CopyOf) (k : List Pending) (spot : Spot) (ty : Ty) → Writes p c k spot ty → StackStands p c k → Ends k
writes_end p c (In e (Stores start u) ∷ k) spot ty n h = ends_written p c e start h.2.0
writes_end p c (Doing t stage ∷ k) spot ty n h = tt
writes_end p c _ spot ty n h = absurd n

copies_end : (p : Program) (c : CopyOf) (k : List Pending) (to from : Spot) (n : ℕ) → Copying p c k to from n → Ends k
unfolding is_constant
copies_end p c (In (tree.StructAssign place other size line) Copies ∷ k) to from n h = false≢true
copies_end p c (Doing t stage ∷ k) to from n h = tt
copies_end p c _ to from n h = absurd h

spells_end : (p : Program) (c : CopyOf) (k : List Pending) (spot : Spot) (whole : List ℕ) (n : ℕ) → Spells p c k spot whole n → Ends k
spells_end p c (Doing t stage ∷ k) spot whole n h = tt
spells_end p c _ spot whole n h = absurd h

module _ (s : Setting) (c : CopyOf) where
  abbrev p : Program
  p = s.program

  abbrev f : ℕ
  f = c.function

  -- ---- lists of first values
  items_parts : (local : ℕ) (whole : List Item) (line : ℕ) (object : Object) (all : List Item) (k : List Pending) (m : source.Memory) (w : World Byte) → Has p f (statement_calls (tree.InitList local whole line)) → Has p f (items_calls all) → StackHas p c k → KeepsParts p (items s (tree.InitList local whole line) object all k c m w)
  items_parts local whole line object [] k m w h a st = (tt, (h, tt, st))
  items_parts local whole line object (tree.Scalar offset value ∷ rest) k m w h a st = ((left_has p f (calls value) (items_calls rest) a, tt), (h, right_has p f (calls value) (items_calls rest) a, st))
  items_parts local whole line object (tree.Struct offset from size ∷ rest) k m w h a st = (left_has p f (place_calls from) (items_calls rest) a, (h, right_has p f (place_calls from) (items_calls rest) a, st))
  items_parts local whole line object (tree.Text offset text size ∷ rest) k m w h a st = (tt, (h, right_has p f [] (items_calls rest) a, st))

  -- ---- loops
  loop_has : (shape : LoopForm) (begins condition step : Option Expression) (body : Statement) (line : ℕ) → Has p f (statement_calls (tree.Loop shape begins condition step body line)) → Has p f (any_calls begins) × Has p f (any_calls condition) × Has p f (any_calls step) × Has p f (statement_calls body)
  unfolding statement_calls
  loop_has shape begins condition step body line h =
      let three = left_has p f (any_calls begins ++ any_calls condition ++ any_calls step) (statement_calls body) h in
      let two = left_has p f (any_calls begins ++ any_calls condition) (any_calls step) three in
      (left_has p f (any_calls begins) (any_calls condition) two, right_has p f (any_calls begins) (any_calls condition) two, right_has p f (any_calls begins ++ any_calls condition) (any_calls step) three, right_has p f (any_calls begins ++ any_calls condition ++ any_calls step) (statement_calls body) h)

  turn_parts : (shape : LoopForm) (begins condition step : Option Expression) (body : Statement) (line : ℕ) (k : List Pending) (m : source.Memory) (w : World Byte) → Has p f (statement_calls (tree.Loop shape begins condition step body line)) → StackHas p c k → KeepsParts p (turn (tree.Loop shape begins condition step body line) body k c m w)
  turn_parts shape begins condition step body line k m w h st = ((loop_has shape begins condition step body line h).3, (h, tt, st))

  test_parts : (shape : LoopForm) (begins condition step : Option Expression) (body : Statement) (line : ℕ) (k : List Pending) (m : source.Memory) (w : World Byte) → Has p f (statement_calls (tree.Loop shape begins condition step body line)) → StackHas p c k → KeepsParts p (test (tree.Loop shape begins condition step body line) condition body k c m w)
  test_parts shape begins None step body line k m w h st = turn_parts shape begins None step body line k m w h st
  test_parts shape begins (Some e) step body line k m w h st = (((loop_has shape begins (Some e) step body line h).1, tt), (h, tt, st))

  first_parts : (shape : LoopForm) (begins condition step : Option Expression) (body : Statement) (line : ℕ) (k : List Pending) (m : source.Memory) (w : World Byte) → Has p f (statement_calls (tree.Loop shape begins condition step body line)) → StackHas p c k → KeepsParts p (first_of (tree.Loop shape begins condition step body line) begins condition body k c m w)
  first_parts shape None condition step body line k m w h st = test_parts shape None condition step body line k m w h st
  first_parts shape (Some e) condition step body line k m w h st = (((loop_has shape (Some e) condition step body line h).0, tt), (h, tt, st))

  next_parts : (shape : LoopForm) (begins condition step : Option Expression) (body : Statement) (line : ℕ) (k : List Pending) (m : source.Memory) (w : World Byte) → Has p f (statement_calls (tree.Loop shape begins condition step body line)) → StackHas p c k → KeepsParts p (next_of (tree.Loop shape begins condition step body line) step condition body k c m w)
  next_parts shape begins condition None body line k m w h st = test_parts shape begins condition None body line k m w h st
  next_parts shape begins condition (Some e) body line k m w h st = (((loop_has shape begins condition (Some e) body line h).2, tt), (h, tt, st))

  loops_parts : (shape : LoopForm) (begins condition step : Option Expression) (body : Statement) (line : ℕ) (k : List Pending) (m : source.Memory) (w : World Byte) → Has p f (statement_calls (tree.Loop shape begins condition step body line)) → StackHas p c k → KeepsParts p (loops shape (tree.Loop shape begins condition step body line) begins condition body k c m w)
  loops_parts While begins condition step body line k m w h st = first_parts While begins condition step body line k m w h st
  loops_parts For begins condition step body line k m w h st = first_parts For begins condition step body line k m w h st
  loops_parts Do begins condition step body line k m w h st = turn_parts Do begins condition step body line k m w h st

  -- ---- chains of arms
  last_parts : (t : Statement) (chosen : LastArm) (k : List Pending) (m : source.Memory) (w : World Byte) → Has p f (statement_calls t) → Has p f (last_calls chosen) → StackHas p c k → KeepsParts p (last t chosen k c m w)
  unfolding statement_calls
  last_parts t tree.NoLast k m w h a st = (tt, st)
  last_parts t (tree.Last chosen) k m w h a st = (a, (h, none_has p f, st))

  arms_parts : (t : Statement) (more : Arms) (otherwise : LastArm) (k : List Pending) (m : source.Memory) (w : World Byte) → Has p f (statement_calls t) → Has p f (arms_calls more) → Has p f (last_calls otherwise) → StackHas p c k → KeepsParts p (arms t more otherwise k c m w)
  unfolding statement_calls
  arms_parts t tree.NoArm otherwise k m w h a b st = last_parts t otherwise k m w h b st
  arms_parts t (tree.AndArm (tree.OneArm condition chosen at) more) otherwise k m w h a b st =
      let arm = left_has p f (calls condition ++ statement_calls chosen) (arms_calls more) a in
      ((left_has p f (calls condition) (statement_calls chosen) arm, tt), (h, (arm, right_has p f (calls condition ++ statement_calls chosen) (arms_calls more) a), st))

  chain_has : (chain : Arms) (otherwise : LastArm) (line : ℕ) → Has p f (statement_calls (tree.If chain otherwise line)) → Has p f (arms_calls chain) × Has p f (last_calls otherwise)
  unfolding statement_calls
  chain_has chain otherwise line h = (left_has p f (arms_calls chain) (last_calls otherwise) h, right_has p f (arms_calls chain) (last_calls otherwise) h)

  -- ---- jumps
  unwound_has : (k : List Pending) → StackHas p c k → StackHas p c (unwound k)
  unwound_has [] st = st
  unwound_has (In e got ∷ k) st = st
  unwound_has (To place ∷ k) st = st
  unwound_has (Doing t Turns ∷ k) st = unwound_has k st.2
  unwound_has (Doing t (InArm more) ∷ k) st = unwound_has k st.2
  unwound_has (Doing t _ ∷ k) st = st
  unwound_has (Before ss ∷ k) st = unwound_has k st.1
  unwound_has (Returns d ∷ k) st = st
  unwound_has (Resumes d x ∷ k) st = st

  break_parts : (k : List Pending) (m : source.Memory) (w : World Byte) → StackHas p c k → KeepsParts p (break_at k c m w)
  break_parts [] m w st = tt
  break_parts (In e got ∷ k) m w st = tt
  break_parts (To place ∷ k) m w st = tt
  break_parts (Doing t Turns ∷ k) m w st = (tt, st.2)
  break_parts (Doing t (InArm more) ∷ k) m w st = break_parts k m w st.2
  break_parts (Doing t _ ∷ k) m w st = tt
  break_parts (Before ss ∷ k) m w st = break_parts k m w st.1
  break_parts (Returns d ∷ k) m w st = tt
  break_parts (Resumes d x ∷ k) m w st = tt

  continue_parts : (k : List Pending) (m : source.Memory) (w : World Byte) → StackHas p c k → KeepsParts p (continue_at k c m w)
  continue_parts [] m w st = tt
  continue_parts (In e got ∷ k) m w st = tt
  continue_parts (To place ∷ k) m w st = tt
  continue_parts (Doing (tree.Loop shape begins condition step body line) Turns ∷ k) m w st = (tt, st)
  continue_parts (Doing (tree.Switch e cases default ss line) Turns ∷ k) m w st = continue_parts k m w st.2
  continue_parts (Doing t (InArm more) ∷ k) m w st = continue_parts k m w st.2
  continue_parts (Doing _ _ ∷ k) m w st = tt
  continue_parts (Before ss ∷ k) m w st = continue_parts k m w st.1
  continue_parts (Returns d ∷ k) m w st = tt
  continue_parts (Resumes d x ∷ k) m w st = tt

  -- ---- what follows a statement
  turned_parts : (t : Statement) (stage : Stage) (k : List Pending) (m : source.Memory) (w : World Byte) → Has p f (statement_calls t) → StackHas p c k → KeepsParts p (turned t stage k c m w)
  turned_parts (tree.Loop shape begins condition step body line) Turns k m w h st = next_parts shape begins condition step body line k m w h st
  turned_parts (tree.Switch e cases default ss line) Turns k m w h st = (tt, st)
  turned_parts (tree.If chain otherwise line) (InArm more) k m w h st = (tt, st)
  turned_parts _ _ k m w h st = tt

  proceed_parts : (k : List Pending) (m : source.Memory) (w : World Byte) → StackHas p c k → KeepsParts p (proceed k c m w)
  unfolding statement_calls
  proceed_parts [] m w st = (tt, tt)
  proceed_parts (In e got ∷ k) m w st = tt
  proceed_parts (To place ∷ k) m w st = tt
  proceed_parts (Doing t stage ∷ k) m w st = turned_parts t stage k m w st.0 st.2
  proceed_parts (Before tree.NoStatement ∷ k) m w st = (tt, st.1)
  proceed_parts (Before (tree.AndStatement t ts) ∷ k) m w st = (left_has p f (statement_calls t) (statements_calls ts) st.0, (right_has p f (statement_calls t) (statements_calls ts) st.0, st.1))
  proceed_parts (Returns d ∷ k) m w st = (tt, st)
  proceed_parts (Resumes d x ∷ k) m w st = st

  -- ---- statements begin
  begin_parts : (t : Statement) (k : List Pending) (m : source.Memory) (w : World Byte) → Has p f (statement_calls t) → StackHas p c k → KeepsParts p (begin s t k c m w)
  unfolding statement_calls
  begin_parts (tree.Block ss line) k m w h st = (tt, (h, st))
  begin_parts (tree.Empty line) k m w h st = (tt, st)
  begin_parts (tree.Expr e line) k m w h st = ((h, tt), (h, tt, st))
  begin_parts (tree.Declare local line) k m w h st = (tt, st)
  begin_parts (tree.InitScalar local e line) k m w h st = ((h, tt), (h, tt, st))
  begin_parts (tree.InitList local all line) k m w h st = items_parts local all line _ all k _ w h h st
  begin_parts (tree.If chain otherwise line) k m w h st = let q = chain_has chain otherwise line h in arms_parts (tree.If chain otherwise line) chain otherwise k m w h q.0 q.1 st
  begin_parts (tree.Loop shape begins condition step body line) k m w h st = loops_parts shape begins condition step body line k m w h st
  begin_parts (tree.Switch e cases default ss line) k m w h st = ((left_has p f (calls e) (statements_calls ss) h, tt), (h, tt, st))
  begin_parts (tree.Break line) k m w h st = break_parts k m w st
  begin_parts (tree.Continue line) k m w h st = continue_parts k m w st
  begin_parts (tree.Return None line) k m w h st = proceed_parts (unwound k) m w (unwound_has k st)
  begin_parts (tree.Return (Some e) line) k m w h st = ((h, tt), (h, tt, st))

  -- ---- a switch jumps
  behind_has : (n : ℕ) (ss : Statements) → Has p f (statements_calls ss) → Has p f (statements_calls (statements_behind n ss))
  unfolding statement_calls
  behind_has zero ss h = h
  behind_has (suc n) tree.NoStatement h = h
  behind_has (suc n) (tree.AndStatement t ts) h = behind_has n ts (right_has p f (statement_calls t) (statements_calls ts) h)

  switch_has : (e : Expression) (cases : List TCase) (default : Option ℕ) (ss : Statements) (line : ℕ) → Has p f (statement_calls (tree.Switch e cases default ss line)) → Has p f (statements_calls ss)
  unfolding statement_calls
  switch_has e cases default ss line h = right_has p f (calls e) (statements_calls ss) h

  jump_parts : (e : Expression) (cases : List TCase) (default : Option ℕ) (ss : Statements) (line target : ℕ) (k : List Pending) (m : source.Memory) (w : World Byte) → Has p f (statement_calls (tree.Switch e cases default ss line)) → StackHas p c k → KeepsParts p (jump (tree.Switch e cases default ss line) target ss k c m w)
  jump_parts e cases default ss line target k m w h st = (tt, (behind_has target ss (switch_has e cases default ss line h), (h, tt, st)))

  default_parts : (e : Expression) (cases : List TCase) (default : Option ℕ) (ss : Statements) (line : ℕ) (o : Option ℕ) (k : List Pending) (m : source.Memory) (w : World Byte) → Has p f (statement_calls (tree.Switch e cases default ss line)) → StackHas p c k → KeepsParts p (jump_if_any (tree.Switch e cases default ss line) o ss k c m w)
  default_parts e cases default ss line None k m w h st = (tt, st)
  default_parts e cases default ss line (Some target) k m w h st = jump_parts e cases default ss line target k m w h st

  labels_parts : (e : Expression) (cases : List TCase) (default : Option ℕ) (ss : Statements) (line : ℕ) (v : Datum) (labels : List TCase) (k : List Pending) (m : source.Memory) (w : World Byte) → Has p f (statement_calls (tree.Switch e cases default ss line)) → StackHas p c k → KeepsParts p (compares_in (tree.Switch e cases default ss line) ss default v labels k c m w)
  labels_parts e cases default ss line v [] k m w h st = default_parts e cases default ss line default k m w h st
  labels_parts e cases default ss line v (label ∷ labels) k m w h st = either_parts s c (is_case v label) _ _ (jump_parts e cases default ss line label.target k m w h st) (tt, (h, tt, st))

  compares_for_parts : (t : Statement) (stage : Stage) (v : Datum) (labels : List TCase) (k : List Pending) (m : source.Memory) (w : World Byte) → Has p f (statement_calls t) → StackHas p c k → KeepsParts p (compares_for t stage v labels k c m w)
  compares_for_parts (tree.Switch e cases default ss line) Chooses v labels k m w h st = labels_parts e cases default ss line v labels k m w h st
  compares_for_parts _ _ v labels k m w h st = tt

  compares_parts : (v : Datum) (labels : List TCase) (k : List Pending) (m : source.Memory) (w : World Byte) → StackHas p c k → KeepsParts p (compares v labels k c m w)
  compares_parts v labels (Doing t stage ∷ k) m w st = compares_for_parts t stage v labels k m w st.0 st.2
  compares_parts v labels _ m w st = tt

  -- ---- statements take values
  take_for_parts : (t : Statement) (stage : Stage) (v : Datum) (k : List Pending) (m : source.Memory) (w : World Byte) → Has p f (statement_calls t) → StageHas p f stage → StackHas p c k → KeepsParts p (take_for s t stage v k c m w)
  unfolding statement_calls
  take_for_parts (tree.Expr e line) Tests v k m w h a st = (tt, st)
  take_for_parts (tree.InitScalar local e line) Tests v k m w h a st = used_parts s c v line _ (tt, (h, tt, st))
  take_for_parts (tree.InitList local all line) (AtItem (tree.Scalar offset e) rest) v k m w h a st = used_parts s c v line _ (tt, (h, a, st))
  take_for_parts (tree.If chain otherwise line) (Picks (tree.OneArm condition chosen at) more) v k m w h a st =
      branch_parts s c (truth_of v) at _ _ (right_has p f (calls condition) (statement_calls chosen) a.0, (h, a.1, st)) (arms_parts (tree.If chain otherwise line) more otherwise k m w h a.1 (chain_has chain otherwise line h).1 st)
  take_for_parts (tree.Loop shape begins condition step body line) Begins v k m w h a st = test_parts shape begins condition step body line k m w h st
  take_for_parts (tree.Loop shape begins condition step body line) Steps v k m w h a st = test_parts shape begins condition step body line k m w h st
  take_for_parts (tree.Loop shape begins condition step body line) Tests v k m w h a st = branch_parts s c (truth_of v) line _ _ (turn_parts shape begins condition step body line k m w h st) (tt, st)
  take_for_parts (tree.Switch e cases default ss line) Tests v k m w h a st = used_parts s c v line _ (tt, (h, tt, st))
  take_for_parts (tree.Return e line) Tests v k m w h a st = used_parts s c v line _ (tt, unwound_has k st)
  take_for_parts _ _ v k m w h a st = tt

  give_parts : (v : Datum) (k : List Pending) (m : source.Memory) (w : World Byte) → FocusStands p c (Holds v) k → StackStands p c k → FocusHas p c (Holds v) k → StackHas p c k → KeepsParts p (give s v k c m w)
  give_parts v [] m w x h a st = tt
  give_parts v (In e got ∷ k) m w x h a st = take_in_parts s c e got v k m w h.0 h.2 x a st.0.0 st.0.1 st.1 st.2
  give_parts v (To place ∷ k) m w x h a st = take_to_parts s c place v k m w st.1
  give_parts v (Doing t stage ∷ k) m w x h a st = take_for_parts t stage v k m w st.0 st.1 st.2
  give_parts v (Before ss ∷ k) m w x h a st = tt
  give_parts v (Returns d ∷ k) m w x h a st = tt
  give_parts v (Resumes d y ∷ k) m w x h a st = tt

  -- ---- accesses
  taking_parts : (t : Taking) (next : Byte → Focus) (k : List Pending) (m : source.Memory) (line : ℕ) → ((byte : Byte) → FocusHas p c (next byte) k) → StackHas p c k → KeepsParts p (after_taking t next c k m line)
  taking_parts (Takes byte w event) next k m line h st = (h byte, st)
  taking_parts (Breaks kind) next k m line h st = tt

  putting_parts : (t : Putting) (next : Focus) (k : List Pending) (line : ℕ) → FocusHas p c next k → StackHas p c k → KeepsParts p (after_putting t next c k line)
  putting_parts (Puts m w event) next k line h st = (h, st)
  putting_parts (Refuses kind) next k line h st = tt

  fetched_parts : (v : Datum) (k : List Pending) (m : source.Memory) (w : World Byte) (start : Spot) → Fetches k start → StackHas p c k → KeepsParts p (fetched v k c m w)
  unfolding is_constant
  fetched_parts v (In (tree.Read place ty line) (At spot) ∷ k) m w start n st = (free_given (owed k) (tree.Read place ty line) v false≢true st.0.1, st.2)
  fetched_parts v (In (tree.Update op place value operation size ty line) (AtWith spot u) ∷ k) m w start n st = (tt, st)
  fetched_parts v (In (tree.Step op place operation size ty line) (At spot) ∷ k) m w start n st = (tt, st)
  fetched_parts v _ m w start n st = absurd n

  skimmed_parts : (v : Datum) (k : List Pending) (m : source.Memory) (w : World Byte) (start : Spot) → Skims k start → StackHas p c k → KeepsParts p (fetched v k c m w)
  unfolding is_constant
  skimmed_parts v (In (tree.Read place ty line) (At spot) ∷ k) m w start n st = (free_given (owed k) (tree.Read place ty line) v false≢true st.0.1, st.2)
  skimmed_parts v _ m w start n st = absurd n

  fetch_parts : (spot : Spot) (read : List Byte) (k : List Pending) (m : source.Memory) (w : World Byte) → FocusStands p c (Fetch spot read) k → StackHas p c k → KeepsParts p (fetch s spot read k c m w)
  fetch_parts spot read k m w x st = either_parts s c (nat_lt (length read) (type_bytes p.sizes (read_type k))) _ _ (taking_parts _ _ k m _ (λ byte. tt) st) (fetched_parts _ k m w x.start x.node st)

  skim_parts : (spot : Spot) (left : ℕ) (byte : Option Byte) (k : List Pending) (m : source.Memory) (w : World Byte) → FocusStands p c (Skim spot left byte) k → StackHas p c k → KeepsParts p (skim s spot left byte k c m w)
  skim_parts spot zero byte k m w x st = skimmed_parts Missing k m w x.start x.node st
  skim_parts spot (suc left) byte k m w x st = taking_parts _ _ k m _ (λ next. tt) st

  stored_in_parts : (e : Expression) (got : Got) (k : List Pending) (m : source.Memory) (w : World Byte) → (is_constant e ≡ true → ⊥) → StackHas p c (In e got ∷ k) → KeepsParts p (stored_in e got k c m w)
  stored_in_parts e (Stores spot v) k m w never st = (free_given (owed k) e (answer_of e spot v) never st.0.1, st.2)
  stored_in_parts e Copies k m w never st = (free_given (owed k) e Missing never st.0.1, st.2)
  stored_in_parts e Nothing k m w never st = tt
  stored_in_parts e Chosen k m w never st = tt
  stored_in_parts e (One v) k m w never st = tt
  stored_in_parts e (At spot) k m w never st = tt
  stored_in_parts e (AtWith spot v) k m w never st = tt
  stored_in_parts e (Args before more) k m w never st = tt
  stored_in_parts e (Passed values) k m w never st = tt
  stored_in_parts e Called k m w never st = tt

  stored_for_parts : (t : Statement) (stage : Stage) (k : List Pending) (m : source.Memory) (w : World Byte) → Has p f (statement_calls t) → StageHas p f stage → StackHas p c k → KeepsParts p (stored_for s t stage k c m w)
  stored_for_parts (tree.InitScalar local e line) Fills k m w h a st = (tt, st)
  stored_for_parts (tree.InitList local all line) (Items item rest) k m w h a st = items_parts local all line _ rest k m w h a st
  stored_for_parts (tree.InitList local all line) Blanks k m w h a st = (tt, st)
  stored_for_parts _ _ k m w h a st = tt

  stored_parts : (k : List Pending) (m : source.Memory) (w : World Byte) → Ends k → StackHas p c k → KeepsParts p (stored s k c m w)
  stored_parts [] m w never st = tt
  stored_parts (In e got ∷ k) m w never st = stored_in_parts e got k m w never st
  stored_parts (To place ∷ k) m w never st = tt
  stored_parts (Doing t stage ∷ k) m w never st = stored_for_parts t stage k m w st.0 st.1 st.2
  stored_parts (Before ss ∷ k) m w never st = tt
  stored_parts (Returns d ∷ k) m w never st = tt
  stored_parts (Resumes d x ∷ k) m w never st = tt

  write_at_parts : (spot : Spot) (v : Datum) (at : ℕ) (k : List Pending) (m : source.Memory) (w : World Byte) → StackHas p c k → KeepsParts p (write_at s spot v at k c m w)
  write_at_parts (spots.Bit register number) v at k m w st = (tt, st)
  write_at_parts (spots.Device address) v at k m w st = putting_parts _ _ k _ tt st
  write_at_parts (spots.Memory x) v at k m w st = putting_parts _ _ k _ tt st

  write_parts : (spot : Spot) (v : Datum) (at : ℕ) (k : List Pending) (m : source.Memory) (w : World Byte) → FocusStands p c (Write spot v at) k → StackStands p c k → StackHas p c k → KeepsParts p (write s spot v at k c m w)
  write_parts spot v at k m w x h st = either_parts s c _ _ _ (write_at_parts spot v at k m w st) (stored_parts k m w (writes_end p c k x.start x.type x.node h) st)

  copy_read_parts : (to from : Spot) (left : ℕ) (k : List Pending) (m : source.Memory) (w : World Byte) → FocusStands p c (CopyRead to from left) k → StackHas p c k → KeepsParts p (copy_read s to from left k c m w)
  copy_read_parts to from zero k m w x st = stored_parts k m w (copies_end p c k x.first x.other x.size x.node) st
  copy_read_parts to from (suc left) k m w x st = taking_parts _ _ k m _ (λ byte. tt) st

  spell_parts : (spot : Spot) (text : List ℕ) (left : ℕ) (k : List Pending) (m : source.Memory) (w : World Byte) → FocusStands p c (Spell spot text left) k → StackHas p c k → KeepsParts p (spell s spot text left k c m w)
  spell_parts spot text zero k m w x st = stored_parts k m w (spells_end p c k x.start x.whole x.size x.node) st
  spell_parts spot text (suc left) k m w x st = putting_parts _ _ k _ tt st

  blank_at_parts : (object : Object) (at left : ℕ) (t : Statement) (stage : Stage) (k : List Pending) (m : source.Memory) (w : World Byte) → StackHas p c (Doing t stage ∷ k) → KeepsParts p (blank_at s object at left (Doing t stage ∷ k) c m w)
  blank_at_parts object at zero t stage k m w st = stored_parts (Doing t stage ∷ k) m w tt st
  blank_at_parts object at (suc left) t stage k m w st = putting_parts _ _ (Doing t stage ∷ k) _ tt st

  blank_for_parts : (t : Statement) (at left : ℕ) (stage : Stage) (k : List Pending) (m : source.Memory) (w : World Byte) → StackHas p c (Doing t stage ∷ k) → KeepsParts p (blank_for s t at left (Doing t stage ∷ k) c m w)
  blank_for_parts (tree.InitList local all line) at left stage k m w st = blank_at_parts _ _ _ (tree.InitList local all line) stage k m w st
  blank_for_parts _ at left stage k m w st = tt

  blank_parts : (at left : ℕ) (k : List Pending) (m : source.Memory) (w : World Byte) → StackHas p c k → KeepsParts p (blank s at left k c m w)
  blank_parts at left (Doing t stage ∷ k) m w st = blank_for_parts t at left stage k m w st
  blank_parts at left _ m w st = tt

-- ---- calls, and the whole step
module _ (s : Setting) where
  abbrev q : Program
  q = s.program

  call_in_parts : (e : Expression) (got : Got) (k : List Pending) (c : CopyOf) (m : source.Memory) (w : World Byte) → StackHas q c (In e got ∷ k) → KeepsParts q (call_in q e got k c m w)
  call_in_parts (tree.Call g arguments ty line) (Passed values) k c m w st = either_parts s c (has_missing values) _ _ tt (tt, ((λ test e. e), (st.0, tt, st.2)))
  call_in_parts _ _ k c m w st = tt

  call_parts : (k : List Pending) (c : CopyOf) (m : source.Memory) (w : World Byte) → StackHas q c k → KeepsParts q (call q k c m w)
  call_parts (In e got ∷ k) c m w st = call_in_parts e got k c m w st
  call_parts _ c m w st = tt

  handed_parts : (v : Datum) (d : CopyOf) (k : List Pending) (m : source.Memory) (w : World Byte) → StackHas q d k → KeepsParts q (handed v d k m w)
  unfolding is_constant
  handed_parts v d (In (tree.Call function arguments ty line) Called ∷ k) m w st = (free_given (owed k) (tree.Call function arguments ty line) v false≢true st.0.1, st.2)
  handed_parts v d _ m w st = tt

  leave_parts : (v : Datum) (c : CopyOf) (k : List Pending) (m : source.Memory) (w : World Byte) → StackHas q c k → KeepsParts q (leave v k m w)
  leave_parts v c (Returns d ∷ k) m w st = handed_parts v d k m w st
  leave_parts v c _ m w st = tt

  act_parts : (x : Focus) (k : List Pending) (c : CopyOf) (m : source.Memory) (w : World Byte) → FocusStands q c x k → StackStands q c k → FocusHas q c x k → StackHas q c k → KeepsParts q (act s x k c m w)
  unfolding act
  act_parts (Eval e) k c m w x h a st = eval_parts s c e k m w a.0 a.1 st
  act_parts (Find place) k c m w x h a st = find_parts s c place k m w a st
  act_parts (Holds v) k c m w x h a st = give_parts s c v k m w x h a st
  act_parts (Found spot) k c m w x h a st = found_parts s c spot k m w st
  act_parts (Run t) k c m w x h a st = begin_parts s c t k m w a st
  act_parts Past k c m w x h a st = proceed_parts s c k m w st
  act_parts (Fetch spot read) k c m w x h a st = fetch_parts s c spot read k m w x st
  act_parts (Skim spot left byte) k c m w x h a st = skim_parts s c spot left byte k m w x st
  act_parts (Write spot v at) k c m w x h a st = write_parts s c spot v at k m w x h st
  act_parts (PutBit register number v old) k c m w x h a st = putting_parts s c _ _ k _ tt st
  act_parts (CopyRead to from left) k c m w x h a st = copy_read_parts s c to from left k m w x st
  act_parts (CopyWrite to from byte left) k c m w x h a st = putting_parts s c _ _ k _ tt st
  act_parts (Spell spot text left) k c m w x h a st = spell_parts s c spot text left k m w x st
  act_parts (Blank at left) k c m w x h a st = blank_parts s c at left k m w st
  act_parts Calls k c m w x h a st = call_parts k c m w st
  act_parts (Leaves v) k c m w x h a st = leave_parts v c k m w st
  act_parts (Compares v labels) k c m w x h a st = compares_parts s c v labels k m w st
  act_parts Over k c m w x h a st = tt

  refused_at_parts : (line : Option ℕ) (next : Outcome) → KeepsParts q next → KeepsParts q (refused_at line next)
  refused_at_parts (Some line) next h = tt
  refused_at_parts None next h = h

  refused_parts : (line : Option ℕ) (next : Outcome) → KeepsParts q next → KeepsParts q (refused line next)
  refused_parts line (Went u event) h = refused_at_parts line (Went u event) h
  refused_parts line (Undefined kind at) h = tt
  refused_parts line Idle h = refused_at_parts line Idle h
  refused_parts line Lost h = tt

  interrupted_parts : (handler : Option ℕ) (x : Focus) (k : List Pending) (c : CopyOf) (m : source.Memory) (w : World Byte) → FocusStands q c x k → StackStands q c k → FocusHas q c x k → StackHas q c k → KeepsParts q (interrupted s handler x k c m w)
  interrupted_parts (Some n) x k c m w y h a st = (tt, ((λ test e. e), (a, st)))
  interrupted_parts None x k c m w y h a st = refused_parts _ _ (act_parts x k c m w y h a st)

  -- A micro-step keeps it.
  pub step_parts : (t : State) → Stands q t → FocusHas q t.copy t.focus t.stack → StackHas q t.copy t.stack → KeepsParts q (step s t)
  unfolding step
  step_parts t h a st =
      either_parts s t.copy (is_due (arrived s.outside t.world)) _ _
      (interrupted_parts (handler_in q) t.focus t.stack t.copy t.memory (arrived s.outside t.world) h.focus h.stack a st)
      (act_parts t.focus t.stack t.copy t.memory (arrived s.outside t.world) h.focus h.stack a st)

  -- at the start the body of main is under way
  pub start_parts : FocusHas q (start s).copy (start s).focus (start s).stack × StackHas q (start s).copy (start s).stack
  unfolding start
  start_parts = (tt, ((λ test e. e), tt))
