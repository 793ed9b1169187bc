-- Each micro-step keeps what is sure of values: statements, accesses, calls and the handler.
use Rattle.std.proofs.Common.{◌≡◌, ℕ, zero, suc, ◌+◌, ◌<◌, ◌≤◌, nat_lt, List, [], ◌∷◌, length, Option, Some, None, refl, arith}
use Rattle.c_typed.specs.Room.{item_room, items_room, statement_room}
use Rattle.c_typed.specs.Trees as tree
use Rattle.c_typed.specs.Trees.{Expression, Item, Statement, Statements, Arms, LastArm}
use Rattle.c_typed.specs.Types.{type_bytes}
use Rattle.c_typed.specs.declared.statement.LoopForm.{LoopForm}
use Rattle.c_typed.specs.declared.statement.LoopForm.TheVariants.{While, Do, For}
use Rattle.c_typed.specs.declared.statement.TCase.{TCase}
use Rattle.pic_world.specs.World.{World, arrived, is_due}
use Rattle.src_rules.specs.Accesses.{after_taking, after_putting, fetched, fetch, skim, items, stored_in, stored_for, stored, write_at, write, copy_read, spell, blank_at, blank_for, blank}
use Rattle.src_rules.specs.Giving.{take_for, jump_if_any, compares_in, compares_for, compares, give}
use Rattle.src_rules.specs.Standing.{StackStands, Stands}
use Rattle.src_rules.specs.State.{State, Outcome, Went, Undefined, Idle, Lost}
use Rattle.src_rules.specs.Statements.{turn, test, first_of, next_of, loops, last, arms, break_at, continue_at, unwound, turned, proceed, handed, leave, begin}
use Rattle.src_rules.specs.Step.{has_missing, call_in, call, act, refused, refused_at, interrupted, step}
use Rattle.src_values.specs.Accesses.{Taking, Takes, Breaks, Putting, Puts, Refuses}
use Rattle.src_values.specs.Control.{Focus, Eval, Find, Holds, Found, Run, Past, Fetch, Skim, Write, PutBit, CopyRead, CopyWrite, Spell, Blank, Calls, Leaves, Compares, Over, Got, Nothing, Chosen, One, At, AtWith, Stores, Copies, Args, Passed, Called, Stage, Tests, Begins, Steps, Turns, Picks, InArm, Chooses, Fills, AtItem, Items, Blanks, Pending, In, To, Doing, Before, Returns, Resumes, read_type}
use Rattle.src_values.specs.Data.{Datum, Missing}
use Rattle.src_values.specs.Memory as source
use Rattle.src_values.specs.Objects.{handler_in}
use Rattle.src_values.specs.Values.{answer_of, byte_count, truth_of, is_case}
use Rattle.src_values.specs.declared.objects.Byte.{Byte}
use Rattle.src_values.specs.declared.objects.CopyOf.{CopyOf}
use Rattle.src_values.specs.declared.objects.Object.{Object}
use Rattle.src_values.specs.declared.objects.Spot.{Spot}
use Rattle.src_values.specs.declared.objects.Spot.TheVariants as spots
use Rattle.lower_trace.proofs.CodeLeft.{Scene, ground_in, source_in}
use Rattle.lower_trace.proofs.Fitting.{FocusFits, StackFits, StageFits, frame_of}
use Rattle.lower_trace.proofs.Rooms.{two_parts}
use Rattle.lower_trace.proofs.Sure.{FocusSure, IsStored, KeepsSure, StageSure, StackSure, any_value, constant_for, some_bytes}
use Rattle.lower_trace.proofs.SureKept.{branch_sure, either_sure, eval_sure, find_sure, found_sure, take_in_sure, take_to_sure, used_sure}

module _ (z : Scene) (c : CopyOf) where
  -- ---- lists of first values
  items_sure : (local : ℕ) (whole : List Item) (line : ℕ) (object : Object) (all : List Item) (k : List Pending) (m : source.Memory) (w : World Byte) → (ground_in z c).base + items_room z.program.sizes all ≤ frame_of z c → StackSure z c k → KeepsSure z (items (source_in z) (tree.InitList local whole line) object all k c m w)
  items_sure local whole line object [] k m w fits st = (tt, (tt, st))
  items_sure local whole line object (tree.Scalar offset value ∷ rest) k m w fits st = let q = (two_parts (item_room z.program.sizes (tree.Scalar offset value)) (items_room z.program.sizes rest)).0 in (tt, (omega arith, st))
  items_sure local whole line object (tree.Struct offset from size ∷ rest) k m w fits st = let q = (two_parts (item_room z.program.sizes (tree.Struct offset from size)) (items_room z.program.sizes rest)).0 in (tt, (omega arith, st))
  items_sure local whole line object (tree.Text offset text size ∷ rest) k m w fits st = let q = (two_parts (item_room z.program.sizes (tree.Text offset text size)) (items_room z.program.sizes rest)).0 in (tt, (omega arith, st))

  -- ---- loops
  turn_sure : (t body : Statement) (k : List Pending) (m : source.Memory) (w : World Byte) → StackSure z c k → KeepsSure z (turn t body k c m w)
  turn_sure t body k m w st = (tt, (tt, st))

  test_sure : (t : Statement) (condition : Option Expression) (body : Statement) (k : List Pending) (m : source.Memory) (w : World Byte) → StackSure z c k → KeepsSure z (test t condition body k c m w)
  test_sure t None body k m w st = (tt, (tt, st))
  test_sure t (Some e) body k m w st = (tt, (tt, st))

  first_sure : (t : Statement) (begins condition : Option Expression) (body : Statement) (k : List Pending) (m : source.Memory) (w : World Byte) → StackSure z c k → KeepsSure z (first_of t begins condition body k c m w)
  first_sure t None condition body k m w st = test_sure t condition body k m w st
  first_sure t (Some e) condition body k m w st = (tt, (tt, st))

  next_sure : (t : Statement) (step condition : Option Expression) (body : Statement) (k : List Pending) (m : source.Memory) (w : World Byte) → StackSure z c k → KeepsSure z (next_of t step condition body k c m w)
  next_sure t None condition body k m w st = test_sure t condition body k m w st
  next_sure t (Some e) condition body k m w st = (tt, (tt, st))

  loops_sure : (shape : LoopForm) (t : Statement) (begins condition : Option Expression) (body : Statement) (k : List Pending) (m : source.Memory) (w : World Byte) → StackSure z c k → KeepsSure z (loops shape t begins condition body k c m w)
  loops_sure While t begins condition body k m w st = first_sure t begins condition body k m w st
  loops_sure For t begins condition body k m w st = first_sure t begins condition body k m w st
  loops_sure Do t begins condition body k m w st = (tt, (tt, st))

  -- ---- chains of arms
  last_sure : (t : Statement) (chosen : LastArm) (k : List Pending) (m : source.Memory) (w : World Byte) → StackSure z c k → KeepsSure z (last t chosen k c m w)
  last_sure t tree.NoLast k m w st = (tt, st)
  last_sure t (tree.Last chosen) k m w st = (tt, (tt, st))

  arms_sure : (t : Statement) (more : Arms) (otherwise : LastArm) (k : List Pending) (m : source.Memory) (w : World Byte) → StackSure z c k → KeepsSure z (arms t more otherwise k c m w)
  arms_sure t tree.NoArm otherwise k m w st = last_sure t otherwise k m w st
  arms_sure t (tree.AndArm (tree.OneArm condition chosen at) more) otherwise k m w st = (tt, (tt, st))

  -- ---- jumps
  unwound_sure : (k : List Pending) → StackSure z c k → StackSure z c (unwound k)
  unwound_sure [] st = st
  unwound_sure (In e got ∷ k) st = st
  unwound_sure (To place ∷ k) st = st
  unwound_sure (Doing t Turns ∷ k) st = unwound_sure k st.1
  unwound_sure (Doing t (InArm more) ∷ k) st = unwound_sure k st.1
  unwound_sure (Doing t _ ∷ k) st = st
  unwound_sure (Before ss ∷ k) st = unwound_sure k st
  unwound_sure (Returns d ∷ k) st = st
  unwound_sure (Resumes d x ∷ k) st = st

  break_sure : (k : List Pending) (m : source.Memory) (w : World Byte) → StackSure z c k → KeepsSure z (break_at k c m w)
  break_sure [] m w st = tt
  break_sure (In e got ∷ k) m w st = tt
  break_sure (To place ∷ k) m w st = tt
  break_sure (Doing t Turns ∷ k) m w st = (tt, st.1)
  break_sure (Doing t (InArm more) ∷ k) m w st = break_sure k m w st.1
  break_sure (Doing t _ ∷ k) m w st = tt
  break_sure (Before ss ∷ k) m w st = break_sure k m w st
  break_sure (Returns d ∷ k) m w st = tt
  break_sure (Resumes d x ∷ k) m w st = tt

  continue_sure : (k : List Pending) (m : source.Memory) (w : World Byte) → StackSure z c k → KeepsSure z (continue_at k c m w)
  continue_sure [] m w st = tt
  continue_sure (In e got ∷ k) m w st = tt
  continue_sure (To place ∷ k) m w st = tt
  continue_sure (Doing (tree.Loop shape begins condition step body line) Turns ∷ k) m w st = (tt, st)
  continue_sure (Doing (tree.Switch e cases default ss line) Turns ∷ k) m w st = continue_sure k m w st.1
  continue_sure (Doing t (InArm more) ∷ k) m w st = continue_sure k m w st.1
  continue_sure (Doing _ _ ∷ k) m w st = tt
  continue_sure (Before ss ∷ k) m w st = continue_sure k m w st
  continue_sure (Returns d ∷ k) m w st = tt
  continue_sure (Resumes d x ∷ k) m w st = tt

  -- ---- what follows a statement
  turned_sure : (t : Statement) (stage : Stage) (k : List Pending) (m : source.Memory) (w : World Byte) → StackSure z c k → KeepsSure z (turned t stage k c m w)
  turned_sure (tree.Loop shape begins condition step body line) Turns k m w st = next_sure (tree.Loop shape begins condition step body line) step condition body k m w st
  turned_sure (tree.Switch e cases default ss line) Turns k m w st = (tt, st)
  turned_sure (tree.If chain otherwise line) (InArm more) k m w st = (tt, st)
  turned_sure _ _ k m w st = tt

  pub proceed_sure : (k : List Pending) (m : source.Memory) (w : World Byte) → StackSure z c k → KeepsSure z (proceed k c m w)
  proceed_sure [] m w st = (tt, tt)
  proceed_sure (In e got ∷ k) m w st = tt
  proceed_sure (To place ∷ k) m w st = tt
  proceed_sure (Doing t stage ∷ k) m w st = turned_sure t stage k m w st.1
  proceed_sure (Before tree.NoStatement ∷ k) m w st = (tt, st)
  proceed_sure (Before (tree.AndStatement t ts) ∷ k) m w st = (tt, st)
  proceed_sure (Returns d ∷ k) m w st = (tt, st)
  proceed_sure (Resumes d x ∷ k) m w st = (st.0, st.1)

  -- ---- statements begin
  list_is : (local : ℕ) (all : List Item) (line : ℕ) → statement_room z.program.sizes (tree.InitList local all line) ≡ items_room z.program.sizes all
  unfolding statement_room
  list_is local all line = refl

  pub begin_sure : (t : Statement) (k : List Pending) (m : source.Memory) (w : World Byte) → (ground_in z c).base + statement_room z.program.sizes t ≤ frame_of z c → StackSure z c k → KeepsSure z (begin (source_in z) t k c m w)
  begin_sure (tree.Block ss line) k m w fits st = (tt, st)
  begin_sure (tree.Empty line) k m w fits st = (tt, st)
  begin_sure (tree.Expr e line) k m w fits st = (tt, (tt, st))
  begin_sure (tree.Declare local line) k m w fits st = (tt, st)
  begin_sure (tree.InitScalar local e line) k m w fits st = (tt, (tt, st))
  begin_sure (tree.InitList local all line) k m w fits st = let q = list_is local all line in items_sure local all line _ all k _ w (omega arith) st
  begin_sure (tree.If chain otherwise line) k m w fits st = arms_sure (tree.If chain otherwise line) chain otherwise k m w st
  begin_sure (tree.Loop shape begins condition step body line) k m w fits st = loops_sure shape (tree.Loop shape begins condition step body line) begins condition body k m w st
  begin_sure (tree.Switch e cases default ss line) k m w fits st = (tt, (tt, st))
  begin_sure (tree.Break line) k m w fits st = break_sure k m w st
  begin_sure (tree.Continue line) k m w fits st = continue_sure k m w st
  begin_sure (tree.Return None line) k m w fits st = proceed_sure (unwound k) m w (unwound_sure k st)
  begin_sure (tree.Return (Some e) line) k m w fits st = (tt, (tt, st))

  -- ---- switches
  any_jump_sure : (t : Statement) (any : Option ℕ) (ss : Statements) (k : List Pending) (m : source.Memory) (w : World Byte) → StackSure z c k → KeepsSure z (jump_if_any t any ss k c m w)
  any_jump_sure t None ss k m w st = (tt, st)
  any_jump_sure t (Some target) ss k m w st = (tt, (tt, st))

  compares_in_sure : (t : Statement) (ss : Statements) (default : Option ℕ) (v : Datum) (labels : List TCase) (k : List Pending) (m : source.Memory) (w : World Byte) → StackSure z c k → KeepsSure z (compares_in t ss default v labels k c m w)
  compares_in_sure t ss default v [] k m w st = any_jump_sure t default ss k m w st
  compares_in_sure t ss default v (label ∷ labels) k m w st = either_sure z (is_case v label) _ _ (tt, (tt, st)) (tt, (tt, st))

  compares_for_sure : (t : Statement) (stage : Stage) (v : Datum) (labels : List TCase) (k : List Pending) (m : source.Memory) (w : World Byte) → StackSure z c k → KeepsSure z (compares_for t stage v labels k c m w)
  compares_for_sure (tree.Switch e cases default ss line) Chooses v labels k m w st = compares_in_sure (tree.Switch e cases default ss line) ss default v labels k m w st
  compares_for_sure _ _ v labels k m w st = tt

  pub compares_sure : (v : Datum) (labels : List TCase) (k : List Pending) (m : source.Memory) (w : World Byte) → StackSure z c k → KeepsSure z (compares v labels k c m w)
  compares_sure v labels [] m w st = tt
  compares_sure v labels (In e got ∷ k) m w st = tt
  compares_sure v labels (To place ∷ k) m w st = tt
  compares_sure v labels (Doing t stage ∷ k) m w st = compares_for_sure t stage v labels k m w st.1
  compares_sure v labels (Before ss ∷ k) m w st = tt
  compares_sure v labels (Returns d ∷ k) m w st = tt
  compares_sure v labels (Resumes d x ∷ k) m w st = tt

  -- ---- statements take values
  take_for_sure : (t : Statement) (stage : Stage) (v : Datum) (k : List Pending) (m : source.Memory) (w : World Byte) → StageSure z c stage → StackSure z c k → KeepsSure z (take_for (source_in z) t stage v k c m w)
  take_for_sure (tree.Expr e line) Tests v k m w s st = (tt, st)
  take_for_sure (tree.InitScalar local e line) Tests v k m w s st = used_sure z v line _ (λ some. ((some_bytes v some, tt), (tt, st)))
  take_for_sure (tree.InitList local all line) (AtItem (tree.Scalar offset e) rest) v k m w s st = used_sure z v line _ (λ some. ((some_bytes v some, tt), (s, st)))
  take_for_sure (tree.If chain otherwise line) (Picks (tree.OneArm condition chosen at) more) v k m w s st = branch_sure z (truth_of v) at _ _ (tt, (tt, st)) (arms_sure (tree.If chain otherwise line) more otherwise k m w st)
  take_for_sure (tree.Loop shape begins condition step body line) Begins v k m w s st = test_sure (tree.Loop shape begins condition step body line) condition body k m w st
  take_for_sure (tree.Loop shape begins condition step body line) Steps v k m w s st = test_sure (tree.Loop shape begins condition step body line) condition body k m w st
  take_for_sure (tree.Loop shape begins condition step body line) Tests v k m w s st = branch_sure z (truth_of v) line _ _ (tt, (tt, st)) (tt, st)
  take_for_sure (tree.Switch e cases default ss line) Tests v k m w s st = used_sure z v line _ (λ some. (tt, (tt, st)))
  take_for_sure (tree.Return e line) Tests v k m w s st = used_sure z v line _ (λ some. (tt, unwound_sure k st))
  take_for_sure _ _ v k m w s st = tt

  pub give_sure : (v : Datum) (k : List Pending) (m : source.Memory) (w : World Byte) → StackStands z.program c k → StackSure z c k → KeepsSure z (give (source_in z) v k c m w)
  give_sure v [] m w h st = tt
  give_sure v (In e got ∷ k) m w h st = take_in_sure z c e got v k m w h.0 st.0 st.1
  give_sure v (To place ∷ k) m w h st = take_to_sure z c place v k m w st
  give_sure v (Doing t stage ∷ k) m w h st = take_for_sure t stage v k m w st.0 st.1
  give_sure v (Before ss ∷ k) m w h st = tt
  give_sure v (Returns d ∷ k) m w h st = tt
  give_sure v (Resumes d x ∷ k) m w h st = tt

  -- ---- accesses
  taking_sure : (t : Taking) (next : Byte → Focus) (k : List Pending) (m : source.Memory) (line : ℕ) → ((byte : Byte) → FocusSure (next byte) k) → StackSure z c k → KeepsSure z (after_taking t next c k m line)
  taking_sure (Takes byte w event) next k m line h st = (h byte, st)
  taking_sure (Breaks kind) next k m line h st = tt

  putting_sure : (t : Putting) (next : Focus) (k : List Pending) (line : ℕ) → FocusSure next k → StackSure z c k → KeepsSure z (after_putting t next c k line)
  putting_sure (Puts m w event) next k line h st = (h, st)
  putting_sure (Refuses kind) next k line h st = tt

  fetched_sure : (v : Datum) (k : List Pending) (m : source.Memory) (w : World Byte) → constant_for k ≡ None → StackSure z c k → KeepsSure z (fetched v k c m w)
  fetched_sure v [] m w none st = (tt, st)
  fetched_sure v (In (tree.Read place ty line) (At spot) ∷ k) m w none st = (any_value (constant_for k) v st.0, st.1)
  fetched_sure v (In e got ∷ k) m w none st = (any_value (constant_for (In e got ∷ k)) v none, st)
  fetched_sure v (To place ∷ k) m w none st = (tt, st)
  fetched_sure v (Doing t stage ∷ k) m w none st = (tt, st)
  fetched_sure v (Before ss ∷ k) m w none st = (tt, st)
  fetched_sure v (Returns d ∷ k) m w none st = (tt, st)
  fetched_sure v (Resumes d x ∷ k) m w none st = (tt, st)

  pub fetch_sure : (spot : Spot) (read : List Byte) (k : List Pending) (m : source.Memory) (w : World Byte) → FocusSure (Fetch spot read) k → StackSure z c k → KeepsSure z (fetch (source_in z) spot read k c m w)
  fetch_sure spot read k m w h st = either_sure z (nat_lt (length read) (type_bytes z.program.sizes (read_type k))) _ _ (taking_sure _ _ k m _ (λ byte. h) st) (fetched_sure _ k m w h.1 st)

  pub skim_sure : (spot : Spot) (left : ℕ) (byte : Option Byte) (k : List Pending) (m : source.Memory) (w : World Byte) → FocusSure (Skim spot left byte) k → StackSure z c k → KeepsSure z (skim (source_in z) spot left byte k c m w)
  skim_sure spot zero byte k m w h st = fetched_sure Missing k m w h.1 st
  skim_sure spot (suc left) byte k m w h st = taking_sure _ _ k m _ (λ next. h) st

  stored_in_sure : (e : Expression) (got : Got) (k : List Pending) (m : source.Memory) (w : World Byte) → constant_for k ≡ None → StackSure z c k → KeepsSure z (stored_in e got k c m w)
  stored_in_sure e (Stores spot v) k m w none st = (any_value (constant_for k) (answer_of e spot v) none, st)
  stored_in_sure e Copies k m w none st = (any_value (constant_for k) Missing none, st)
  stored_in_sure e Nothing k m w none st = tt
  stored_in_sure e Chosen k m w none st = tt
  stored_in_sure e (One v) k m w none st = tt
  stored_in_sure e (At spot) k m w none st = tt
  stored_in_sure e (AtWith spot v) k m w none st = tt
  stored_in_sure e (Args before more) k m w none st = tt
  stored_in_sure e (Passed values) k m w none st = tt
  stored_in_sure e Called k m w none st = tt

  stored_for_sure : (t : Statement) (stage : Stage) (k : List Pending) (m : source.Memory) (w : World Byte) → StageFits z c t stage → StackSure z c k → KeepsSure z (stored_for (source_in z) t stage k c m w)
  stored_for_sure (tree.InitScalar local e line) Fills k m w s st = (tt, st)
  stored_for_sure (tree.InitList local all line) (Items item rest) k m w s st = let q = (two_parts (item_room z.program.sizes item) (items_room z.program.sizes rest)).1 in items_sure local all line _ rest k m w (omega arith) st
  stored_for_sure (tree.InitList local all line) Blanks k m w s st = (tt, st)
  stored_for_sure _ _ k m w s st = tt

  stored_sure : (k : List Pending) (m : source.Memory) (w : World Byte) → StackFits z c k → StackSure z c k → KeepsSure z (stored (source_in z) k c m w)
  stored_sure [] m w f st = tt
  stored_sure (In e got ∷ k) m w f st = stored_in_sure e got k m w st.0 st.1
  stored_sure (To place ∷ k) m w f st = tt
  stored_sure (Doing t stage ∷ k) m w f st = stored_for_sure t stage k m w f.1 st.1
  stored_sure (Before ss ∷ k) m w f st = tt
  stored_sure (Returns d ∷ k) m w f st = tt
  stored_sure (Resumes d x ∷ k) m w f st = tt

  write_at_sure : (spot : Spot) (v : Datum) (at : ℕ) (k : List Pending) (m : source.Memory) (w : World Byte) → (0 < byte_count v) × IsStored k v → StackSure z c k → KeepsSure z (write_at (source_in z) spot v at k c m w)
  write_at_sure (spots.Bit register number) v at k m w h st = (h, st)
  write_at_sure (spots.Device address) v at k m w h st = putting_sure _ _ k _ h st
  write_at_sure (spots.Memory x) v at k m w h st = putting_sure _ _ k _ h st

  pub write_sure : (spot : Spot) (v : Datum) (at : ℕ) (k : List Pending) (m : source.Memory) (w : World Byte) → (0 < byte_count v) × IsStored k v → StackFits z c k → StackSure z c k → KeepsSure z (write (source_in z) spot v at k c m w)
  write_sure spot v at k m w h f st = either_sure z _ _ _ (write_at_sure spot v at k m w h st) (stored_sure k m w f st)

  pub copy_read_sure : (to from : Spot) (left : ℕ) (k : List Pending) (m : source.Memory) (w : World Byte) → StackFits z c k → StackSure z c k → KeepsSure z (copy_read (source_in z) to from left k c m w)
  copy_read_sure to from zero k m w f st = stored_sure k m w f st
  copy_read_sure to from (suc left) k m w f st = taking_sure _ _ k m _ (λ byte. tt) st

  pub spell_sure : (spot : Spot) (text : List ℕ) (left : ℕ) (k : List Pending) (m : source.Memory) (w : World Byte) → StackFits z c k → StackSure z c k → KeepsSure z (spell (source_in z) spot text left k c m w)
  spell_sure spot text zero k m w f st = stored_sure k m w f st
  spell_sure spot text (suc left) k m w f st = putting_sure _ _ k _ tt st

  blank_at_sure : (object : Object) (at left : ℕ) (k : List Pending) (m : source.Memory) (w : World Byte) → StackFits z c k → StackSure z c k → KeepsSure z (blank_at (source_in z) object at left k c m w)
  blank_at_sure object at zero k m w f st = stored_sure k m w f st
  blank_at_sure object at (suc left) k m w f st = putting_sure _ _ k _ tt st

  blank_for_sure : (t : Statement) (at left : ℕ) (k : List Pending) (m : source.Memory) (w : World Byte) → StackFits z c k → StackSure z c k → KeepsSure z (blank_for (source_in z) t at left k c m w)
  blank_for_sure (tree.InitList local all line) at left k m w f st = blank_at_sure _ _ _ k m w f st
  blank_for_sure _ at left k m w f st = tt

  pub blank_sure : (at left : ℕ) (k : List Pending) (m : source.Memory) (w : World Byte) → StackFits z c k → StackSure z c k → KeepsSure z (blank (source_in z) at left k c m w)
  blank_sure at left [] m w f st = tt
  blank_sure at left (In e got ∷ k) m w f st = tt
  blank_sure at left (To place ∷ k) m w f st = tt
  blank_sure at left (Doing t stage ∷ k) m w f st = blank_for_sure t at left (Doing t stage ∷ k) m w f st
  blank_sure at left (Before ss ∷ k) m w f st = tt
  blank_sure at left (Returns d ∷ k) m w f st = tt
  blank_sure at left (Resumes d x ∷ k) m w f st = tt

-- ---- calls, and the whole step
module _ (z : Scene) where
  call_in_sure : (e : Expression) (got : Got) (k : List Pending) (c : CopyOf) (m : source.Memory) (w : World Byte) → StackSure z c (In e got ∷ k) → KeepsSure z (call_in z.program e got k c m w)
  call_in_sure (tree.Call f arguments ty line) (Passed values) k c m w st = either_sure z (has_missing values) _ _ tt (tt, st)
  call_in_sure _ _ k c m w st = tt

  call_sure : (k : List Pending) (c : CopyOf) (m : source.Memory) (w : World Byte) → StackSure z c k → KeepsSure z (call z.program k c m w)
  call_sure [] c m w st = tt
  call_sure (In e got ∷ k) c m w st = call_in_sure e got k c m w st
  call_sure (To place ∷ k) c m w st = tt
  call_sure (Doing t stage ∷ k) c m w st = tt
  call_sure (Before ss ∷ k) c m w st = tt
  call_sure (Returns d ∷ k) c m w st = tt
  call_sure (Resumes d x ∷ k) c m w st = tt

  handed_sure : (v : Datum) (d : CopyOf) (k : List Pending) (m : source.Memory) (w : World Byte) → StackSure z d k → KeepsSure z (handed v d k m w)
  handed_sure v d (In (tree.Call function arguments ty line) Called ∷ k) m w st = (any_value (constant_for k) v st.0, st.1)
  handed_sure v d _ m w st = tt

  leave_sure : (v : Datum) (c : CopyOf) (k : List Pending) (m : source.Memory) (w : World Byte) → StackSure z c k → KeepsSure z (leave v k m w)
  leave_sure v c [] m w st = tt
  leave_sure v c (In e got ∷ k) m w st = tt
  leave_sure v c (To place ∷ k) m w st = tt
  leave_sure v c (Doing t stage ∷ k) m w st = tt
  leave_sure v c (Before ss ∷ k) m w st = tt
  leave_sure v c (Returns d ∷ k) m w st = handed_sure v d k m w st
  leave_sure v c (Resumes d x ∷ k) m w st = tt

  act_sure : (x : Focus) (k : List Pending) (c : CopyOf) (m : source.Memory) (w : World Byte) → StackStands z.program c k → FocusFits z c x k → StackFits z c k → FocusSure x k → StackSure z c k → KeepsSure z (act (source_in z) x k c m w)
  unfolding act
  act_sure (Eval e) k c m w h r f s st = eval_sure z c e k m w s st
  act_sure (Find place) k c m w h r f s st = find_sure z c (source_in z) place k m w st
  act_sure (Holds v) k c m w h r f s st = give_sure z c v k m w h st
  act_sure (Found spot) k c m w h r f s st = found_sure z c spot k m w st
  act_sure (Run t) k c m w h r f s st = begin_sure z c t k m w r.0 st
  act_sure Past k c m w h r f s st = proceed_sure z c k m w st
  act_sure (Fetch spot read) k c m w h r f s st = fetch_sure z c spot read k m w s st
  act_sure (Skim spot left byte) k c m w h r f s st = skim_sure z c spot left byte k m w s st
  act_sure (Write spot v at) k c m w h r f s st = write_sure z c spot v at k m w s f st
  act_sure (PutBit register number v old) k c m w h r f s st = putting_sure z c _ _ k _ s st
  act_sure (CopyRead to from left) k c m w h r f s st = copy_read_sure z c to from left k m w f st
  act_sure (CopyWrite to from byte left) k c m w h r f s st = putting_sure z c _ _ k _ tt st
  act_sure (Spell spot text left) k c m w h r f s st = spell_sure z c spot text left k m w f st
  act_sure (Blank at left) k c m w h r f s st = blank_sure z c at left k m w f st
  act_sure Calls k c m w h r f s st = call_sure k c m w st
  act_sure (Leaves v) k c m w h r f s st = leave_sure v c k m w st
  act_sure (Compares v labels) k c m w h r f s st = compares_sure z c v labels k m w st
  act_sure Over k c m w h r f s st = tt

  refused_at_sure : (line : Option ℕ) (next : Outcome) → KeepsSure z next → KeepsSure z (refused_at line next)
  refused_at_sure (Some line) next h = tt
  refused_at_sure None next h = h

  refused_sure : (line : Option ℕ) (next : Outcome) → KeepsSure z next → KeepsSure z (refused line next)
  refused_sure line (Went u event) h = refused_at_sure line (Went u event) h
  refused_sure line (Undefined kind at) h = tt
  refused_sure line Idle h = refused_at_sure line Idle h
  refused_sure line Lost h = tt

  interrupted_sure : (handler : Option ℕ) (x : Focus) (k : List Pending) (c : CopyOf) (m : source.Memory) (w : World Byte) → StackStands z.program c k → FocusFits z c x k → StackFits z c k → FocusSure x k → StackSure z c k → KeepsSure z (interrupted (source_in z) handler x k c m w)
  interrupted_sure (Some h) x k c m w t r f s st = (tt, (s, st))
  interrupted_sure None x k c m w t r f s st = refused_sure _ _ (act_sure x k c m w t r f s st)

  -- A micro-step keeps what is sure.
  pub step_sure : (t : State) → Stands z.program t → FocusFits z t.copy t.focus t.stack → StackFits z t.copy t.stack → FocusSure t.focus t.stack → StackSure z t.copy t.stack → KeepsSure z (step (source_in z) t)
  unfolding step
  step_sure t h r f s st =
      either_sure z (is_due (arrived z.outside t.world)) _ _
      (interrupted_sure (handler_in z.program) t.focus t.stack t.copy t.memory (arrived z.outside t.world) h.stack r f s st)
      (act_sure t.focus t.stack t.copy t.memory (arrived z.outside t.world) h.stack r f s st)
