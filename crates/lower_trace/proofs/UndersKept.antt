-- Only a call and the entry of the handler put a function above those under way: every other micro-step leaves as many words under way, or fewer.
use Rattle.std.proofs.Common.{refl, sym, subst, ◌≡◌, ℕ, zero, suc, ◌+◌, ◌-◌, ◌≤◌, Bool, true, false, List, [], ◌∷◌, length, Option, Some, None, arith}
use Rattle.std.proofs.lemmas.Bool.{false≢true}
use Rattle.std.specs.Prelude.{◌*◌, if◌then◌else◌, nat_lt}
use Rattle.c_typed.specs.Trees as tree
use Rattle.c_typed.specs.Trees.{Expression, Expressions, Place, Item, Statement, Statements, Arm, Arms, LastArm, Program}
use Rattle.c_typed.specs.Types.{type_bytes}
use Rattle.c_typed.specs.Words.{items_words, statement_words, statements_words, arms_words}
use Rattle.c_typed.specs.declared.statement.LoopForm.{LoopForm}
use Rattle.c_typed.specs.declared.statement.LoopForm.TheVariants.{While, Do, For}
use Rattle.c_typed.specs.declared.statement.TCase.{TCase}
use Rattle.pic_world.specs.World.{World, Happening, arrived, is_due, device_value}
use Rattle.src_rules.specs.Accesses.{after_taking, after_putting, fetched, skim, items, stored_in, stored_for, stored, write_at, copy_read, spell, blank_at, blank_for, blank}
use Rattle.src_rules.specs.Expressions.{arguments, address}
use Rattle.src_rules.specs.Giving.{statements_behind, jump, jump_if_any, compares_in, compares_for, compares, take_for, give}
use Rattle.lower_trace.proofs.CodeLeft.{arm_count}
use Rattle.lower_trace.proofs.Stepping.{is_over}
use Rattle.src_rules.specs.Parts.{IsStatementOf}
use Rattle.src_rules.specs.Standing.{listed, leaves, repeats, FocusStands, StackStands, Stands}
use Rattle.src_rules.specs.State.{State, Outcome, Went, Undefined, Idle, Lost}
use Rattle.src_rules.specs.Statements.{turn, test, first_of, next_of, loops, last, arms, break_at, continue_at, unwound, turned, proceed, handed, leave, begin}
use Rattle.src_rules.specs.Step.{has_missing, call_in, call, act, refused, interrupted, step}
use Rattle.src_values.specs.Accesses.{Taking, Takes, Breaks, Putting, Puts, Refuses, device_taken}
use Rattle.src_values.specs.Counting.{counted_line}
use Rattle.src_values.specs.Lists.{covered_from}
use Rattle.src_values.specs.Control as control
use Rattle.src_values.specs.Control.{Focus, Eval, Find, Holds, Run, Past, Got, Nothing, Chosen, One, At, AtWith, Stores, Copies, Args, Passed, Called, Stage, Tests, Begins, Steps, Turns, Picks, InArm, Chooses, Fills, AtItem, Items, Blanks, Pending, In, To, Doing, Before, Returns, Resumes, line_at, read_type}
use Rattle.src_values.specs.Data.{Datum, Missing}
use Rattle.src_values.specs.Memory.{Setting, Memory}
use Rattle.src_values.specs.Objects.{handler_in, local_of}
use Rattle.src_values.specs.Values.{truth_of, is_case, number_in, value_from, written_bytes}
use Rattle.src_values.specs.declared.objects.Byte.{Byte}
use Rattle.src_values.specs.declared.objects.CopyOf.{CopyOf}
use Rattle.src_values.specs.declared.objects.Object.{Object}
use Rattle.src_values.specs.declared.objects.Spot.{Spot}
use Rattle.src_values.specs.declared.objects.Spot.TheVariants as spots
use Rattle.src_rules.specs.Step.{is_some_line, enters}
use Rattle.std.specs.Prelude.{◌&&◌}
use Rattle.lower_trace.proofs.Burdens.{under}
use Rattle.lower_trace.proofs.Spans.{body_words}
use Rattle.lower_trace.proofs.Unders.{IsUnder, either_under, eval_under, find_under, found_under, used_under, branch_under, take_in_under, take_to_under}

module _ (p : Program) (limit : ℕ) where
  test_under : (shape : LoopForm) (first condition step : Option Expression) (body : Statement) (line : ℕ) (k : List Pending) (c : CopyOf) (m : Memory) (w : World Byte) → under p c k ≤ limit → IsUnder p limit (test (tree.Loop shape first condition step body line) condition body k c m w)
  unfolding under
  test_under shape first None step body line k c m w z = z
  test_under shape first (Some e) step body line k c m w z = z

  first_under : (shape : LoopForm) (first condition step : Option Expression) (body : Statement) (line : ℕ) (k : List Pending) (c : CopyOf) (m : Memory) (w : World Byte) → under p c k ≤ limit → IsUnder p limit (first_of (tree.Loop shape first condition step body line) first condition body k c m w)
  unfolding under
  first_under shape None condition step body line k c m w z = test_under shape None condition step body line k c m w z
  first_under shape (Some e) condition step body line k c m w z = z

  next_under : (shape : LoopForm) (first condition step : Option Expression) (body : Statement) (line : ℕ) (k : List Pending) (c : CopyOf) (m : Memory) (w : World Byte) → under p c k ≤ limit → IsUnder p limit (next_of (tree.Loop shape first condition step body line) step condition body k c m w)
  unfolding under
  next_under shape first condition None body line k c m w z = test_under shape first condition None body line k c m w z
  next_under shape first condition (Some e) body line k c m w z = z

  turn_under : (shape : LoopForm) (first condition step : Option Expression) (body : Statement) (line : ℕ) (k : List Pending) (c : CopyOf) (m : Memory) (w : World Byte) → under p c k ≤ limit → IsUnder p limit (turn (tree.Loop shape first condition step body line) body k c m w)
  unfolding under
  turn_under shape first condition step body line k c m w z = z

  loops_under : (shape : LoopForm) (first condition step : Option Expression) (body : Statement) (line : ℕ) (k : List Pending) (c : CopyOf) (m : Memory) (w : World Byte) → under p c k ≤ limit → IsUnder p limit (loops shape (tree.Loop shape first condition step body line) first condition body k c m w)
  unfolding under
  loops_under While first condition step body line k c m w z = first_under While first condition step body line k c m w z
  loops_under For first condition step body line k c m w z = first_under For first condition step body line k c m w z
  loops_under Do first condition step body line k c m w z = turn_under Do first condition step body line k c m w z

  last_under : (chain : Arms) (otherwise : LastArm) (line : ℕ) (k : List Pending) (c : CopyOf) (m : Memory) (w : World Byte) → under p c k ≤ limit → IsUnder p limit (last (tree.If chain otherwise line) otherwise k c m w)
  unfolding under
  last_under chain tree.NoLast line k c m w z = z
  last_under chain (tree.Last chosen) line k c m w z = z

  arms_under : (chain more : Arms) (otherwise : LastArm) (line : ℕ) (k : List Pending) (c : CopyOf) (m : Memory) (w : World Byte) → under p c k ≤ limit → IsUnder p limit (arms (tree.If chain otherwise line) more otherwise k c m w)
  unfolding under
  arms_under chain tree.NoArm otherwise line k c m w z = last_under chain otherwise line k c m w z
  arms_under chain (tree.AndArm (tree.OneArm condition chosen at) more) otherwise line k c m w z = z

  break_under : (k : List Pending) (c : CopyOf) (m : Memory) (w : World Byte) → under p c k ≤ limit → IsUnder p limit (break_at k c m w)
  unfolding under
  break_under [] c m w z = tt
  break_under (In e got ∷ k) c m w z = tt
  break_under (To place ∷ k) c m w z = tt
  break_under (Doing t Turns ∷ k) c m w z = z
  break_under (Doing t (InArm more) ∷ k) c m w z = break_under k c m w z
  break_under (Doing t _ ∷ k) c m w z = tt
  break_under (Before ss ∷ k) c m w z = break_under k c m w z
  break_under (Returns d ∷ k) c m w z = tt
  break_under (Resumes d x ∷ k) c m w z = tt

  continue_under : (k : List Pending) (c : CopyOf) (m : Memory) (w : World Byte) → under p c k ≤ limit → IsUnder p limit (continue_at k c m w)
  unfolding under
  continue_under [] c m w z = tt
  continue_under (In e got ∷ k) c m w z = tt
  continue_under (To place ∷ k) c m w z = tt
  continue_under (Doing (tree.Loop shape first condition step body line) Turns ∷ k) c m w z = z
  continue_under (Doing (tree.Switch e cases default ss line) Turns ∷ k) c m w z = continue_under k c m w z
  continue_under (Doing t (InArm more) ∷ k) c m w z = continue_under k c m w z
  continue_under (Doing _ _ ∷ k) c m w z = tt
  continue_under (Before ss ∷ k) c m w z = continue_under k c m w z
  continue_under (Returns d ∷ k) c m w z = tt
  continue_under (Resumes d x ∷ k) c m w z = tt

  unwound_under : (k : List Pending) (c : CopyOf) → under p c k ≤ limit → under p c (unwound k) ≤ limit
  unfolding under
  unwound_under [] c z = z
  unwound_under (In e got ∷ k) c z = z
  unwound_under (To place ∷ k) c z = z
  unwound_under (Doing t Turns ∷ k) c z = unwound_under k c z
  unwound_under (Doing t (InArm more) ∷ k) c z = unwound_under k c z
  unwound_under (Doing t _ ∷ k) c z = z
  unwound_under (Before ss ∷ k) c z = unwound_under k c z
  unwound_under (Returns d ∷ k) c z = z
  unwound_under (Resumes d x ∷ k) c z = z

  jump_under : (e : Expression) (cases : List TCase) (default : Option ℕ) (ss : Statements) (line target : ℕ) (k : List Pending) (c : CopyOf) (m : Memory) (w : World Byte) → under p c k ≤ limit → IsUnder p limit (jump (tree.Switch e cases default ss line) target ss k c m w)
  unfolding under
  jump_under e cases default ss line target k c m w z = z

  any_under : (e : Expression) (cases : List TCase) (default o : Option ℕ) (ss : Statements) (line : ℕ) (k : List Pending) (c : CopyOf) (m : Memory) (w : World Byte) → under p c k ≤ limit → IsUnder p limit (jump_if_any (tree.Switch e cases default ss line) o ss k c m w)
  unfolding under
  any_under e cases default None ss line k c m w z = z
  any_under e cases default (Some target) ss line k c m w z = jump_under e cases default ss line target k c m w z

  compares_in_under : (e : Expression) (cases : List TCase) (default : Option ℕ) (ss : Statements) (line : ℕ) (v : Datum) (labels : List TCase) (k : List Pending) (c : CopyOf) (m : Memory) (w : World Byte) → under p c k ≤ limit → IsUnder p limit (compares_in (tree.Switch e cases default ss line) ss default v labels k c m w)
  unfolding under
  compares_in_under e cases default ss line v [] k c m w z = any_under e cases default default ss line k c m w z
  compares_in_under e cases default ss line v (label ∷ labels) k c m w z = either_under p limit (is_case v label) _ _ (jump_under e cases default ss line label.target k c m w z) z

  compares_for_under : (t : Statement) (stage : Stage) (v : Datum) (labels : List TCase) (k : List Pending) (c : CopyOf) (m : Memory) (w : World Byte) → under p c (Doing t stage ∷ k) ≤ limit → IsUnder p limit (compares_for t stage v labels k c m w)
  unfolding under
  compares_for_under (tree.Switch e cases default ss line) Chooses v labels k c m w z = compares_in_under e cases default ss line v labels k c m w z
  compares_for_under _ _ v labels k c m w z = tt

  compares_under : (v : Datum) (labels : List TCase) (k : List Pending) (c : CopyOf) (m : Memory) (w : World Byte) → under p c k ≤ limit → IsUnder p limit (compares v labels k c m w)
  unfolding under
  compares_under v labels [] c m w z = tt
  compares_under v labels (In e got ∷ k) c m w z = tt
  compares_under v labels (To place ∷ k) c m w z = tt
  compares_under v labels (Doing t stage ∷ k) c m w z = compares_for_under t stage v labels k c m w z
  compares_under v labels (Before ss ∷ k) c m w z = tt
  compares_under v labels (Returns d ∷ k) c m w z = tt
  compares_under v labels (Resumes d x ∷ k) c m w z = tt

  take_for_under : (s : Setting) (t : Statement) (stage : Stage) (v : Datum) (k : List Pending) (c : CopyOf) (m : Memory) (w : World Byte) → under p c (Doing t stage ∷ k) ≤ limit → IsUnder p limit (take_for s t stage v k c m w)
  unfolding under
  take_for_under s (tree.Expr e line) Tests v k c m w z = z
  take_for_under s (tree.InitScalar local e line) Tests v k c m w z = used_under p limit v line _ z
  take_for_under s (tree.InitList local all line) (AtItem (tree.Scalar offset e) rest) v k c m w z = used_under p limit v line _ z
  take_for_under s (tree.If chain otherwise line) (Picks (tree.OneArm condition chosen at) more) v k c m w z = branch_under p limit (truth_of v) at _ _ z (arms_under chain more otherwise line k c m w z)
  take_for_under s (tree.Loop shape first condition step body line) Begins v k c m w z = test_under shape first condition step body line k c m w z
  take_for_under s (tree.Loop shape first condition step body line) Steps v k c m w z = test_under shape first condition step body line k c m w z
  take_for_under s (tree.Loop shape first condition step body line) Tests v k c m w z = branch_under p limit (truth_of v) line _ _ (turn_under shape first condition step body line k c m w z) z
  take_for_under s (tree.Switch e cases default ss line) Tests v k c m w z = used_under p limit v line _ z
  take_for_under s (tree.Return e line) Tests v k c m w z = used_under p limit v line _ (unwound_under k c z)
  take_for_under s _ _ v k c m w z = tt

  give_under : (s : Setting) (v : Datum) (k : List Pending) (c : CopyOf) (m : Memory) (w : World Byte) → under p c k ≤ limit → IsUnder p limit (give s v k c m w)
  unfolding under
  give_under s v [] c m w z = tt
  give_under s v (In e got ∷ k) c m w z = take_in_under p limit s e got v k c m w z
  give_under s v (To place ∷ k) c m w z = take_to_under p limit place v k c m w z
  give_under s v (Doing t stage ∷ k) c m w z = take_for_under s t stage v k c m w z
  give_under s v (Before ss ∷ k) c m w z = tt
  give_under s v (Returns d ∷ k) c m w z = tt
  give_under s v (Resumes d x ∷ k) c m w z = tt

  turned_under : (t : Statement) (stage : Stage) (k : List Pending) (c : CopyOf) (m : Memory) (w : World Byte) → under p c (Doing t stage ∷ k) ≤ limit → IsUnder p limit (turned t stage k c m w)
  unfolding under
  turned_under (tree.Loop shape first condition step body line) Turns k c m w z = next_under shape first condition step body line k c m w z
  turned_under (tree.Switch e cases default ss line) Turns k c m w z = z
  turned_under (tree.If chain otherwise line) (InArm more) k c m w z = z
  turned_under _ _ k c m w z = tt

  proceed_under : (k : List Pending) (c : CopyOf) (m : Memory) (w : World Byte) → under p c k ≤ limit → IsUnder p limit (proceed k c m w)
  unfolding under
  proceed_under [] c m w z = z
  proceed_under (In e got ∷ k) c m w z = tt
  proceed_under (To place ∷ k) c m w z = tt
  proceed_under (Doing t stage ∷ k) c m w z = turned_under t stage k c m w z
  proceed_under (Before tree.NoStatement ∷ k) c m w z = z
  proceed_under (Before (tree.AndStatement t ts) ∷ k) c m w z = z
  proceed_under (Returns d ∷ k) c m w z = z
  proceed_under (Resumes d x ∷ k) c m w z = omega arith

  items_under : (s : Setting) (local : ℕ) (full : List Item) (line : ℕ) (object : Object) (all : List Item) (k : List Pending) (c : CopyOf) (m : Memory) (w : World Byte) → under p c k ≤ limit → IsUnder p limit (items s (tree.InitList local full line) object all k c m w)
  unfolding under
  items_under s local full line object [] k c m w z = z
  items_under s local full line object (tree.Scalar offset value ∷ rest) k c m w z = z
  items_under s local full line object (tree.Struct offset from size ∷ rest) k c m w z = z
  items_under s local full line object (tree.Text offset text size ∷ rest) k c m w z = z

  begin_under : (s : Setting) (t : Statement) (k : List Pending) (c : CopyOf) (m : Memory) (w : World Byte) → under p c k ≤ limit → IsUnder p limit (begin s t k c m w)
  unfolding under
  begin_under s (tree.Block ss line) k c m w z = z
  begin_under s (tree.Empty line) k c m w z = z
  begin_under s (tree.Expr e line) k c m w z = z
  begin_under s (tree.Declare local line) k c m w z = z
  begin_under s (tree.InitScalar local e line) k c m w z = z
  begin_under s (tree.InitList local all line) k c m w z = items_under s local all line _ all k c _ w z
  begin_under s (tree.If chain otherwise line) k c m w z = arms_under chain chain otherwise line k c m w z
  begin_under s (tree.Loop shape first condition step body line) k c m w z = loops_under shape first condition step body line k c m w z
  begin_under s (tree.Switch e cases default ss line) k c m w z = z
  begin_under s (tree.Break line) k c m w z = break_under k c m w z
  begin_under s (tree.Continue line) k c m w z = continue_under k c m w z
  begin_under s (tree.Return None line) k c m w z = proceed_under (unwound k) c m w (unwound_under k c z)
  begin_under s (tree.Return (Some e) line) k c m w z = z

  handed_under : (v : Datum) (d : CopyOf) (k : List Pending) (m : Memory) (w : World Byte) → under p d k ≤ limit → IsUnder p limit (handed v d k m w)
  unfolding under
  handed_under v d (In (tree.Call g arguments ty line) Called ∷ k) m w z = z
  handed_under v d _ m w z = tt

  leave_under : (v : Datum) (k : List Pending) (c : CopyOf) (m : Memory) (w : World Byte) → under p c k ≤ limit → IsUnder p limit (leave v k m w)
  unfolding under
  leave_under v (Returns d ∷ k) c m w z = handed_under v d k m w (omega arith)
  leave_under v _ c m w z = tt

  fetched_under : (v : Datum) (k : List Pending) (c : CopyOf) (m : Memory) (w : World Byte) → under p c k ≤ limit → IsUnder p limit (fetched v k c m w)
  unfolding under
  fetched_under v (In (tree.Read place ty line) (At spot) ∷ k) c m w z = z
  fetched_under v _ c m w z = z

  stored_in_under : (e : Expression) (got : Got) (k : List Pending) (c : CopyOf) (m : Memory) (w : World Byte) → under p c (In e got ∷ k) ≤ limit → IsUnder p limit (stored_in e got k c m w)
  unfolding under
  stored_in_under e (Stores spot v) k c m w z = z
  stored_in_under e Copies k c m w z = z
  stored_in_under e _ k c m w z = tt

  stored_for_under : (s : Setting) (t : Statement) (stage : Stage) (k : List Pending) (c : CopyOf) (m : Memory) (w : World Byte) → under p c (Doing t stage ∷ k) ≤ limit → IsUnder p limit (stored_for s t stage k c m w)
  unfolding under
  stored_for_under s (tree.InitScalar local e line) Fills k c m w z = z
  stored_for_under s (tree.InitList local all line) (Items item rest) k c m w z = items_under s local all line _ rest k c m w z
  stored_for_under s (tree.InitList local all line) Blanks k c m w z = z
  stored_for_under s _ _ k c m w z = tt

  stored_under : (s : Setting) (k : List Pending) (c : CopyOf) (m : Memory) (w : World Byte) → under p c k ≤ limit → IsUnder p limit (stored s k c m w)
  unfolding under
  stored_under s [] c m w z = tt
  stored_under s (In e got ∷ k) c m w z = stored_in_under e got k c m w z
  stored_under s (To place ∷ k) c m w z = tt
  stored_under s (Doing t stage ∷ k) c m w z = stored_for_under s t stage k c m w z
  stored_under s (Before ss ∷ k) c m w z = tt
  stored_under s (Returns d ∷ k) c m w z = tt
  stored_under s (Resumes d x ∷ k) c m w z = tt

  taking_under : (taking : Taking) (next : Byte → Focus) (c : CopyOf) (k : List Pending) (m : Memory) (line : ℕ) → under p c k ≤ limit → IsUnder p limit (after_taking taking next c k m line)
  unfolding under
  taking_under (Takes byte u event) next c k m line z = z
  taking_under (Breaks kind) next c k m line z = tt

  putting_under : (putting : Putting) (next : Focus) (c : CopyOf) (k : List Pending) (line : ℕ) → under p c k ≤ limit → IsUnder p limit (after_putting putting next c k line)
  unfolding under
  putting_under (Puts n u event) next c k line z = z
  putting_under (Refuses kind) next c k line z = tt

  skim_under : (s : Setting) (spot : Spot) (left : ℕ) (byte : Option Byte) (k : List Pending) (c : CopyOf) (m : Memory) (w : World Byte) → under p c k ≤ limit → IsUnder p limit (skim s spot left byte k c m w)
  unfolding under
  skim_under s spot zero byte k c m w z = fetched_under Missing k c m w z
  skim_under s spot (suc left) byte k c m w z = taking_under _ _ c k m (line_at k) z

  write_at_under : (s : Setting) (spot : Spot) (v : Datum) (at : ℕ) (k : List Pending) (c : CopyOf) (m : Memory) (w : World Byte) → under p c k ≤ limit → IsUnder p limit (write_at s spot v at k c m w)
  unfolding under
  write_at_under s (spots.Bit register number) v at k c m w z = taking_under (device_taken s register (device_value s.outside register w) w) (λ byte. control.PutBit register number v (number_in byte)) c k m (line_at k) z
  write_at_under s (spots.Device address) v at k c m w z = putting_under _ _ c k (line_at k) z
  write_at_under s (spots.Memory x) v at k c m w z = putting_under _ _ c k (line_at k) z

  copy_under : (s : Setting) (to from : Spot) (left : ℕ) (k : List Pending) (c : CopyOf) (m : Memory) (w : World Byte) → under p c k ≤ limit → IsUnder p limit (copy_read s to from left k c m w)
  unfolding under
  copy_under s to from zero k c m w z = stored_under s k c m w z
  copy_under s to from (suc left) k c m w z = taking_under _ _ c k m (line_at k) z

  spell_under : (s : Setting) (spot : Spot) (text : List ℕ) (left : ℕ) (k : List Pending) (c : CopyOf) (m : Memory) (w : World Byte) → under p c k ≤ limit → IsUnder p limit (spell s spot text left k c m w)
  unfolding under
  spell_under s spot text zero k c m w z = stored_under s k c m w z
  spell_under s spot text (suc left) k c m w z = putting_under _ _ c k (line_at k) z

  blank_at_under : (s : Setting) (object : Object) (at left : ℕ) (k : List Pending) (c : CopyOf) (m : Memory) (w : World Byte) → under p c k ≤ limit → IsUnder p limit (blank_at s object at left k c m w)
  unfolding under
  blank_at_under s object at zero k c m w z = stored_under s k c m w z
  blank_at_under s object at (suc left) k c m w z = putting_under _ _ c k (line_at k) z

  blank_for_under : (s : Setting) (t : Statement) (at left : ℕ) (k : List Pending) (c : CopyOf) (m : Memory) (w : World Byte) → under p c k ≤ limit → IsUnder p limit (blank_for s t at left k c m w)
  unfolding under
  blank_for_under s (tree.InitList local all line) at left k c m w z = blank_at_under s (local_of s.program c local) (at + covered_from s.program.sizes all at left) (left - covered_from s.program.sizes all at left) k c m w z
  blank_for_under s _ at left k c m w z = tt

  blank_under : (s : Setting) (at left : ℕ) (k : List Pending) (c : CopyOf) (m : Memory) (w : World Byte) → under p c k ≤ limit → IsUnder p limit (blank s at left k c m w)
  unfolding under
  blank_under s at left [] c m w z = tt
  blank_under s at left (In e got ∷ k) c m w z = tt
  blank_under s at left (To place ∷ k) c m w z = tt
  blank_under s at left (Doing t stage ∷ k) c m w z = blank_for_under s t at left (Doing t stage ∷ k) c m w z
  blank_under s at left (Before ss ∷ k) c m w z = tt
  blank_under s at left (Returns d ∷ k) c m w z = tt
  blank_under s at left (Resumes d x ∷ k) c m w z = tt

-- ---- one micro-step
abbrev pub is_calls : Focus → Bool
is_calls control.Calls = true
is_calls x = false

module _ (s : Setting) (limit : ℕ) where
  act_under : (x : Focus) (k : List Pending) (c : CopyOf) (m : Memory) (w : World Byte) → is_calls x ≡ false → under s.program c k ≤ limit → IsUnder s.program limit (act s x k c m w)
  unfolding act
  act_under (control.Eval e) k c m w q z = eval_under s.program limit e k c m w z
  act_under (control.Find place) k c m w q z = find_under s.program limit s place k c m w z
  act_under (control.Holds v) k c m w q z = give_under s.program limit s v k c m w z
  act_under (control.Found spot) k c m w q z = found_under s.program limit s spot k c m w z
  act_under (control.Run t) k c m w q z = begin_under s.program limit s t k c m w z
  act_under control.Past k c m w q z = proceed_under s.program limit k c m w z
  act_under (control.Fetch spot read) k c m w q z = either_under s.program limit (nat_lt (length read) (type_bytes s.program.sizes (read_type k))) _ _ (taking_under s.program limit _ _ c k m (line_at k) z) (fetched_under s.program limit (value_from (read_type k) read) k c m w z)
  act_under (control.Skim spot left byte) k c m w q z = skim_under s.program limit s spot left byte k c m w z
  act_under (control.Write spot v at) k c m w q z = either_under s.program limit (nat_lt at (written_bytes spot v)) _ _ (write_at_under s.program limit s spot v at k c m w z) (stored_under s.program limit s k c m w z)
  act_under (control.PutBit register number v old) k c m w q z = putting_under s.program limit _ _ c k (line_at k) z
  act_under (control.CopyRead to from left) k c m w q z = copy_under s.program limit s to from left k c m w z
  act_under (control.CopyWrite to from byte left) k c m w q z = putting_under s.program limit _ _ c k (line_at k) z
  act_under (control.Spell spot text left) k c m w q z = spell_under s.program limit s spot text left k c m w z
  act_under (control.Blank at left) k c m w q z = blank_under s.program limit s at left k c m w z
  act_under control.Calls k c m w q z = absurd (false≢true (sym q))
  act_under (control.Leaves v) k c m w q z = leave_under s.program limit v k c m w z
  act_under (control.Compares v labels) k c m w q z = compares_under s.program limit v labels k c m w z
  act_under control.Over k c m w q z = tt

  refused_under : (o : Option ℕ) (out : Outcome) → IsUnder s.program limit out → IsUnder s.program limit (refused o out)
  refused_under (Some line) (Went t event) h = tt
  refused_under None (Went t event) h = h
  refused_under o (Undefined kind line) h = tt
  refused_under (Some line) Idle h = tt
  refused_under None Idle h = tt
  refused_under o Lost h = tt

  under_by : (x : Focus) (k : List Pending) (c : CopyOf) (m : Memory) (w : World Byte) (b : Bool) (o : Option ℕ) → (b && is_some_line o) ≡ false → is_calls x ≡ false → under s.program c k ≤ limit → IsUnder s.program limit (if b then interrupted s o x k c m w else act s x k c m w)
  under_by x k c m w true (Some n) e q z = absurd (false≢true (sym e))
  under_by x k c m w true None e q z = refused_under (counted_line s.program c x k) (act s x k c m w) (act_under x k c m w q z)
  under_by x k c m w false o e q z = act_under x k c m w q z

  pub step_under : (t : State) → enters s t ≡ false → is_calls t.focus ≡ false → under s.program t.copy t.stack ≤ limit → IsUnder s.program limit (step s t)
  unfolding step enters
  step_under t e q z = under_by t.focus t.stack t.copy t.memory (arrived s.outside t.world) (is_due (arrived s.outside t.world)) (handler_in s.program) e q z

-- ---- a function that begins
abbrev pub IsAbove : Program → ℕ → Outcome → Type 0
IsAbove p limit (Went u event) = under p u.copy u.stack ≤ limit + body_words p u.copy
IsAbove p limit (Undefined kind line) = Unit {0}
IsAbove p limit Idle = Unit {0}
IsAbove p limit Lost = Unit {0}

module _ (s : Setting) (limit : ℕ) where
  above : (o : Outcome) → IsUnder s.program limit o → IsAbove s.program limit o
  above (Went u event) h = omega arith
  above (Undefined kind line) h = tt
  above Idle h = tt
  above Lost h = tt

  either_above : (t : Bool) (x y : Outcome) → IsAbove s.program limit x → IsAbove s.program limit y → IsAbove s.program limit (if t then x else y)
  either_above true x y h g = h
  either_above false x y h g = g

  call_in_above : (e : Expression) (got : Got) (k : List Pending) (c : CopyOf) (m : Memory) (w : World Byte) → under s.program c (In e got ∷ k) ≤ limit → IsAbove s.program limit (call_in s.program e got k c m w)
  unfolding under
  call_in_above (tree.Call g all ty line) (Passed values) k c m w z = either_above (has_missing values) _ _ tt (omega arith)
  call_in_above _ _ k c m w z = tt

  call_above : (k : List Pending) (c : CopyOf) (m : Memory) (w : World Byte) → under s.program c k ≤ limit → IsAbove s.program limit (call s.program k c m w)
  call_above [] c m w z = tt
  call_above (In e got ∷ k) c m w z = call_in_above e got k c m w z
  call_above (To place ∷ k) c m w z = tt
  call_above (Doing t stage ∷ k) c m w z = tt
  call_above (Before ss ∷ k) c m w z = tt
  call_above (Returns d ∷ k) c m w z = tt
  call_above (Resumes d x ∷ k) c m w z = tt

  act_above : (x : Focus) (k : List Pending) (c : CopyOf) (m : Memory) (w : World Byte) → under s.program c k ≤ limit → IsAbove s.program limit (act s x k c m w)
  unfolding act
  act_above control.Calls k c m w z = call_above k c m w z
  act_above x k c m w z = above (act s x k c m w) (act_under s limit x k c m w refl z)

  refused_above : (o : Option ℕ) (out : Outcome) → IsAbove s.program limit out → IsAbove s.program limit (refused o out)
  refused_above (Some line) (Went t event) h = tt
  refused_above None (Went t event) h = h
  refused_above o (Undefined kind line) h = tt
  refused_above (Some line) Idle h = tt
  refused_above None Idle h = tt
  refused_above o Lost h = tt

  above_by : (x : Focus) (k : List Pending) (c : CopyOf) (m : Memory) (w : World Byte) (b : Bool) (o : Option ℕ) → under s.program c k ≤ limit → IsAbove s.program limit (if b then interrupted s o x k c m w else act s x k c m w)
  unfolding under
  above_by x k c m w true (Some n) z = omega arith
  above_by x k c m w true None z = refused_above (counted_line s.program c x k) (act s x k c m w) (act_above x k c m w z)
  above_by x k c m w false o z = act_above x k c m w z

  pub step_above : (t : State) → under s.program t.copy t.stack ≤ limit → IsAbove s.program limit (step s t)
  unfolding step
  step_above t z = above_by t.focus t.stack t.copy t.memory (arrived s.outside t.world) (is_due (arrived s.outside t.world)) (handler_in s.program) z
