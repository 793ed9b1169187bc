-- The handler's micro-steps go on the same above another stack with the same live copies.
use Rattle.std.proofs.Common.{◌&&◌, ◌≡◌, ℕ, zero, suc, ◌+◌, ◌-◌, Bool, true, false, List, [], ◌∷◌, ◌++◌, length, Option, Some, None, refl, sym, ap, ◌∙◌}
use Rattle.std.proofs.lemmas.Bool.{false≢true}
use Rattle.std.specs.Prelude.{if◌then◌else◌, pos, nat_lt}
use Rattle.c_typed.specs.Trees as tree
use Rattle.c_typed.specs.Trees.{Expression, Expressions, Place, Item, Statement, Statements, Arm, Arms, LastArm, Program}
use Rattle.c_typed.specs.declared.expression.LogicalOp.{LogicalOp}
use Rattle.c_typed.specs.declared.statement.LoopForm.{LoopForm}
use Rattle.c_typed.specs.declared.statement.LoopForm.TheVariants.{While, Do, For}
use Rattle.c_typed.specs.declared.statement.TCase.{TCase}
use Rattle.c_typed.specs.Types.{type_bytes}
use Rattle.c_typed.specs.Words.{step_operator}
use Rattle.c_typed.specs.declared.types.Ty.{Ty}
use Rattle.pic_world.specs.World.{World, arrived, is_due, device_value}
use Rattle.src_rules.specs.Accesses.{goes, after_taking, after_putting, fetched, fetch_as, fetch, skim, items, stored_in, stored_for, stored, write_at, copy_read, spell, blank_at, blank_for, blank, is_any, first_or_zero}
use Rattle.src_rules.specs.Expressions.{arguments, eval, find, address, takes, found_in, at_member, member_of, found_to, found_for, found}
use Rattle.src_rules.specs.Giving.{answered, used, branch, logical, truth_given, changes, take_in, deref, take_to, jump, jump_if_any, compares_in, compares_for, compares, take_for, give}
use Rattle.src_rules.specs.Laws.{ending, resumes, onto, goes_onto, SameAbove}
use Rattle.src_rules.specs.State.{State, state, Outcome, Went, Undefined, Idle, Lost}
use Rattle.src_rules.specs.Statements.{turn, test, first_of, next_of, loops, last, arms, break_at, continue_at, unwound, turned, proceed, handed, leave, begin}
use Rattle.src_rules.specs.Step.{is_some_line, has_missing, call_in, call, act, refused, interrupted, step, enters}
use Rattle.src_values.specs.Control as control
use Rattle.src_values.specs.Control.{Focus, Eval, Holds, Got, Nothing, Chosen, One, At, AtWith, Stores, Copies, Args, Passed, Called, Stage, Tests, Begins, Steps, Turns, Picks, InArm, Chooses, Fills, AtItem, Items, Blanks, Pending, In, To, Doing, Before, Returns, Resumes, Fetch, Skim, Write, PutBit, CopyRead, CopyWrite, Spell, Blank, running, callers, active, line_at, read_type}
use Rattle.src_values.specs.Data.{Datum, Number, Pointer, Missing}
use Rattle.src_values.specs.Accesses.{Taking, Takes, Breaks, Putting, Puts, Refuses, take_byte, device_taken, put_byte, device_put, with_bit}
use Rattle.src_values.specs.Counting.{counted_line, counted_if, any_left, value_counts, found_counts, past_counts, blank_counts}
use Rattle.src_values.specs.Lists.{covered_from}
use Rattle.src_values.specs.Memory.{Setting, Memory}
use Rattle.src_values.specs.Objects.{moved, handler_in, local_of, behind, next_byte}
use Rattle.src_values.specs.Values.{Answer, Gives, Fails, Strays, truth_of, truth_value, decides, is_case, is_postfix, converted, unary_answer, binary_answer, offset_answer, difference_answer, change_answer, one_in, byte_of, number_in, lowest_bit, fits_behind, value_from, written_bytes}
use Rattle.src_values.specs.declared.objects.Byte.{Byte}
use Rattle.src_values.specs.declared.objects.Byte.TheVariants as bytes
use Rattle.src_values.specs.declared.objects.CopyOf.{CopyOf}
use Rattle.src_values.specs.declared.objects.Object.{Object}
use Rattle.src_values.specs.declared.objects.Pointer.{Pointer as Reference}
use Rattle.src_values.specs.declared.objects.Spot.{Spot}
use Rattle.src_values.specs.declared.objects.Spot.TheVariants as spots
use Rattle.src_values.specs.declared.objects.Undef.TheVariants.{Unset}

active_same : (c : CopyOf) (x : Focus) (k l : List Pending) → callers k ≡ callers l → active c x k ≡ active c x l
unfolding active
active_same c x k l e = ap (running c x) e

-- d and y: what the other stack goes on with, above r
module _ (d : CopyOf) (y : Focus) (r : List Pending) where
  abbrev new : List Pending
  new = Resumes d y ∷ r

  either_onto : (t : Bool) (a b x z : Outcome) → a ≡ goes_onto new x → b ≡ goes_onto new z → (if t then a else b) ≡ goes_onto new (if t then x else z)
  either_onto true a b x z h g = h
  either_onto false a b x z h g = g

  line_onto : (k : List Pending) → line_at (onto new k) ≡ line_at k
  line_onto [] = refl
  line_onto (In e got ∷ k) = refl
  line_onto (To place ∷ k) = refl
  line_onto (Doing t stage ∷ k) = refl
  line_onto (Before ss ∷ k) = refl
  line_onto (Returns c ∷ k) = refl
  line_onto (Resumes c x ∷ k) = refl

  type_onto : (k : List Pending) → read_type (onto new k) ≡ read_type k
  type_onto [] = refl
  type_onto (In e got ∷ k) = refl
  type_onto (To place ∷ k) = refl
  type_onto (Doing t stage ∷ k) = refl
  type_onto (Before ss ∷ k) = refl
  type_onto (Returns c ∷ k) = refl
  type_onto (Resumes c x ∷ k) = refl

  arguments_onto : (e : Expression) (values : List Datum) (more : Expressions) (k : List Pending) (c : CopyOf) (m : Memory) (w : World Byte) → arguments e values more (onto new k) c m w ≡ goes_onto new (arguments e values more k c m w)
  arguments_onto e values tree.NoExpression k c m w = refl
  arguments_onto e values (tree.AndExpression a rest) k c m w = refl

  eval_onto : (e : Expression) (k : List Pending) (c : CopyOf) (m : Memory) (w : World Byte) → eval e (onto new k) c m w ≡ goes_onto new (eval e k c m w)
  eval_onto (tree.Constant value line) k c m w = refl
  eval_onto (tree.Read place ty line) k c m w = refl
  eval_onto (tree.Address place ty line) k c m w = refl
  eval_onto (tree.Convert operand ty line) k c m w = refl
  eval_onto (tree.Cast operand ty line) k c m w = refl
  eval_onto (tree.Unary op operand ty line) k c m w = refl
  eval_onto (tree.Binary op left right ty line) k c m w = refl
  eval_onto (tree.Offset op left right size ty line) k c m w = refl
  eval_onto (tree.Difference left right size line) k c m w = refl
  eval_onto (tree.Logical op left right line) k c m w = refl
  eval_onto (tree.Conditional condition chosen otherwise ty line) k c m w = refl
  eval_onto (tree.Comma left right ty line) k c m w = refl
  eval_onto (tree.Assign place value ty line) k c m w = refl
  eval_onto (tree.StructAssign place from size line) k c m w = refl
  eval_onto (tree.Update op place value operation size ty line) k c m w = refl
  eval_onto (tree.Step op place operation size ty line) k c m w = refl
  eval_onto (tree.Call g all ty line) k c m w = arguments_onto (tree.Call g all ty line) [] all k c m w

  find_onto : (s : Setting) (place : Place) (k : List Pending) (c : CopyOf) (m : Memory) (w : World Byte) → find s place (onto new k) c m w ≡ goes_onto new (find s place k c m w)
  find_onto s (tree.Name object ty line) k c m w = refl
  find_onto s (tree.Bit register number line) k c m w = refl
  find_onto s (tree.Member whole member offset ty line) k c m w = refl
  find_onto s (tree.Deref pointer ty line) k c m w = refl

  takes_onto : (o : Option Reference) (k : List Pending) (c : CopyOf) (m : Memory) (w : World Byte) → takes o (onto new k) c m w ≡ goes_onto new (takes o k c m w)
  takes_onto (Some x) k c m w = refl
  takes_onto None k c m w = refl

  member_onto : (o : Option Reference) (line : ℕ) (k : List Pending) (c : CopyOf) (m : Memory) (w : World Byte) → at_member o line (onto new k) c m w ≡ goes_onto new (at_member o line k c m w)
  member_onto (Some x) line k c m w = refl
  member_onto None line k c m w = refl

  member_of_onto : (s : Setting) (o : Option Reference) (offset line : ℕ) (k : List Pending) (c : CopyOf) (m : Memory) (w : World Byte) → member_of s o offset line (onto new k) c m w ≡ goes_onto new (member_of s o offset line k c m w)
  member_of_onto s (Some x) offset line k c m w = member_onto (moved s.program x (pos offset)) line k c m w
  member_of_onto s None offset line k c m w = refl

  found_in_onto : (s : Setting) (e : Expression) (got : Got) (spot : Spot) (k : List Pending) (c : CopyOf) (m : Memory) (w : World Byte) → found_in s e got spot (onto new k) c m w ≡ goes_onto new (found_in s e got spot k c m w)
  found_in_onto s (tree.Read place ty line) Nothing spot k c m w = refl
  found_in_onto s (tree.Address place ty line) Nothing spot k c m w = takes_onto (address spot) k c m w
  found_in_onto s (tree.Assign place value ty line) Nothing spot k c m w = refl
  found_in_onto s (tree.StructAssign place from size line) Nothing spot k c m w = refl
  found_in_onto s (tree.StructAssign place from size line) (At to) spot k c m w = refl
  found_in_onto s (tree.Update op place value operation size ty line) Nothing spot k c m w = refl
  found_in_onto s (tree.Step op place operation size ty line) Nothing spot k c m w = refl
  found_in_onto s _ _ spot k c m w = refl

  found_to_onto : (s : Setting) (place : Place) (spot : Spot) (k : List Pending) (c : CopyOf) (m : Memory) (w : World Byte) → found_to s place spot (onto new k) c m w ≡ goes_onto new (found_to s place spot k c m w)
  found_to_onto s (tree.Member whole member offset ty line) spot k c m w = member_of_onto s (address spot) offset line k c m w
  found_to_onto s _ spot k c m w = refl

  found_for_onto : (s : Setting) (t : Statement) (stage : Stage) (spot : Spot) (k : List Pending) (c : CopyOf) (m : Memory) (w : World Byte) → found_for s t stage spot (onto new k) c m w ≡ goes_onto new (found_for s t stage spot k c m w)
  found_for_onto s (tree.InitList local all line) (AtItem (tree.Struct offset from size) rest) spot k c m w = refl
  found_for_onto s _ _ spot k c m w = refl

  found_onto : (s : Setting) (spot : Spot) (k : List Pending) (c : CopyOf) (m : Memory) (w : World Byte) → found s spot (onto new k) c m w ≡ goes_onto new (found s spot k c m w)
  found_onto s spot [] c m w = refl
  found_onto s spot (In e got ∷ k) c m w = found_in_onto s e got spot k c m w
  found_onto s spot (To place ∷ k) c m w = found_to_onto s place spot k c m w
  found_onto s spot (Doing t stage ∷ k) c m w = found_for_onto s t stage spot k c m w
  found_onto s spot (Before ss ∷ k) c m w = refl
  found_onto s spot (Returns z ∷ k) c m w = refl
  found_onto s spot (Resumes z x ∷ k) c m w = refl

  answered_onto : (answer : Answer) (line : ℕ) (k : List Pending) (c : CopyOf) (m : Memory) (w : World Byte) → answered answer line (onto new k) c m w ≡ goes_onto new (answered answer line k c m w)
  answered_onto (Gives v) line k c m w = refl
  answered_onto (Fails kind) line k c m w = refl
  answered_onto Strays line k c m w = refl

  used_onto : (v : Datum) (line : ℕ) (a b : Outcome) → a ≡ goes_onto new b → used v line a ≡ goes_onto new (used v line b)
  used_onto (Number q) line a b h = h
  used_onto (Pointer x) line a b h = h
  used_onto Missing line a b h = refl

  branch_onto : (o : Option Bool) (line : ℕ) (a b x z : Outcome) → a ≡ goes_onto new x → b ≡ goes_onto new z → branch o line a b ≡ goes_onto new (branch o line x z)
  branch_onto None line a b x z h g = refl
  branch_onto (Some true) line a b x z h g = h
  branch_onto (Some false) line a b x z h g = g

  truth_onto : (o : Option Bool) (line : ℕ) (k : List Pending) (c : CopyOf) (m : Memory) (w : World Byte) → truth_given o line (onto new k) c m w ≡ goes_onto new (truth_given o line k c m w)
  truth_onto None line k c m w = refl
  truth_onto (Some holds) line k c m w = refl

  logical_onto : (e : Expression) (op : LogicalOp) (v : Datum) (o : Option Bool) (right : Expression) (line : ℕ) (k : List Pending) (c : CopyOf) (m : Memory) (w : World Byte) → logical e op v o right line (onto new k) c m w ≡ goes_onto new (logical e op v o right line k c m w)
  logical_onto e op v None right line k c m w = refl
  logical_onto e op v (Some holds) right line k c m w = either_onto (decides op holds) _ _ (goes c (Holds (truth_value holds)) k m w) (goes c (Eval right) (In e (One v) ∷ k) m w) refl refl

  changes_onto : (answer : Answer) (e : Expression) (spot : Spot) (keeps : Bool) (old : Datum) (line : ℕ) (k : List Pending) (c : CopyOf) (m : Memory) (w : World Byte) → changes answer e spot keeps old line (onto new k) c m w ≡ goes_onto new (changes answer e spot keeps old line k c m w)
  changes_onto (Gives v) e spot keeps old line k c m w = refl
  changes_onto (Fails kind) e spot keeps old line k c m w = refl
  changes_onto Strays e spot keeps old line k c m w = refl

  take_in_onto : (s : Setting) (e : Expression) (got : Got) (v : Datum) (k : List Pending) (c : CopyOf) (m : Memory) (w : World Byte) → callers (onto new k) ≡ callers k → take_in s e got v (onto new k) c m w ≡ goes_onto new (take_in s e got v k c m w)
  take_in_onto s (tree.Convert operand ty line) Nothing v k c m w l = answered_onto (converted ty v) line k c m w
  take_in_onto s (tree.Cast operand ty line) Nothing v k c m w l = answered_onto (converted ty v) line k c m w
  take_in_onto s (tree.Unary op operand ty line) Nothing v k c m w l = answered_onto (unary_answer op v) line k c m w
  take_in_onto s (tree.Binary op left right ty line) Nothing v k c m w l = refl
  take_in_onto s (tree.Binary op left right ty line) (One u) v k c m w l = ap (λ n. answered (binary_answer s.program n op ty u v) line (onto new k) c m w) (active_same c (Holds v) (onto new k) k l) ∙ answered_onto (binary_answer s.program (active c (Holds v) k) op ty u v) line k c m w
  take_in_onto s (tree.Offset op left right size ty line) Nothing v k c m w l = refl
  take_in_onto s (tree.Offset op left right size ty line) (One u) v k c m w l = answered_onto (offset_answer s.program op size u v) line k c m w
  take_in_onto s (tree.Difference left right size line) Nothing v k c m w l = refl
  take_in_onto s (tree.Difference left right size line) (One u) v k c m w l = answered_onto (difference_answer size u v) line k c m w
  take_in_onto s (tree.Logical op left right line) Nothing v k c m w l = logical_onto (tree.Logical op left right line) op v (truth_of v) right line k c m w
  take_in_onto s (tree.Logical op left right line) (One u) v k c m w l = truth_onto (truth_of v) line k c m w
  take_in_onto s (tree.Conditional condition chosen otherwise ty line) Nothing v k c m w l = branch_onto (truth_of v) line _ _ (goes c (Eval chosen) (In (tree.Conditional condition chosen otherwise ty line) Chosen ∷ k) m w) (goes c (Eval otherwise) (In (tree.Conditional condition chosen otherwise ty line) Chosen ∷ k) m w) refl refl
  take_in_onto s (tree.Conditional condition chosen otherwise ty line) Chosen v k c m w l = refl
  take_in_onto s (tree.Comma left right ty line) Nothing v k c m w l = refl
  take_in_onto s (tree.Assign place value ty line) (At spot) v k c m w l = used_onto v line _ (goes c (Write spot v 0) (In (tree.Assign place value ty line) (Stores spot v) ∷ k) m w) refl
  take_in_onto s (tree.Update op place value operation size ty line) (At spot) v k c m w l = refl
  take_in_onto s (tree.Update op place value operation size ty line) (AtWith spot u) v k c m w l = ap (λ n. changes (change_answer s.program n op operation size ty v u) (tree.Update op place value operation size ty line) spot false v line (onto new k) c m w) (active_same c (Holds v) (onto new k) k l) ∙ changes_onto (change_answer s.program (active c (Holds v) k) op operation size ty v u) (tree.Update op place value operation size ty line) spot false v line k c m w
  take_in_onto s (tree.Step op place operation size ty line) (At spot) v k c m w l = ap (λ n. changes (change_answer s.program n (step_operator op) operation size ty v (one_in operation)) (tree.Step op place operation size ty line) spot (is_postfix op) v line (onto new k) c m w) (active_same c (Holds v) (onto new k) k l) ∙ changes_onto (change_answer s.program (active c (Holds v) k) (step_operator op) operation size ty v (one_in operation)) (tree.Step op place operation size ty line) spot (is_postfix op) v line k c m w
  take_in_onto s (tree.Call g values ty line) (Args before more) v k c m w l = arguments_onto (tree.Call g values ty line) (before ++ v ∷ []) more k c m w
  take_in_onto s _ _ v k c m w l = refl

  deref_onto : (v : Datum) (line : ℕ) (k : List Pending) (c : CopyOf) (m : Memory) (w : World Byte) → deref v line (onto new k) c m w ≡ goes_onto new (deref v line k c m w)
  deref_onto (Pointer x) line k c m w = refl
  deref_onto (Number q) line k c m w = refl
  deref_onto Missing line k c m w = refl

  take_to_onto : (place : Place) (v : Datum) (k : List Pending) (c : CopyOf) (m : Memory) (w : World Byte) → take_to place v (onto new k) c m w ≡ goes_onto new (take_to place v k c m w)
  take_to_onto (tree.Deref pointer ty line) v k c m w = deref_onto v line k c m w
  take_to_onto _ v k c m w = refl

  test_onto : (t : Statement) (o : Option Expression) (body : Statement) (k : List Pending) (c : CopyOf) (m : Memory) (w : World Byte) → test t o body (onto new k) c m w ≡ goes_onto new (test t o body k c m w)
  test_onto t None body k c m w = refl
  test_onto t (Some e) body k c m w = refl

  first_onto : (t : Statement) (o condition : Option Expression) (body : Statement) (k : List Pending) (c : CopyOf) (m : Memory) (w : World Byte) → first_of t o condition body (onto new k) c m w ≡ goes_onto new (first_of t o condition body k c m w)
  first_onto t None condition body k c m w = test_onto t condition body k c m w
  first_onto t (Some e) condition body k c m w = refl

  next_onto : (t : Statement) (o condition : Option Expression) (body : Statement) (k : List Pending) (c : CopyOf) (m : Memory) (w : World Byte) → next_of t o condition body (onto new k) c m w ≡ goes_onto new (next_of t o condition body k c m w)
  next_onto t None condition body k c m w = test_onto t condition body k c m w
  next_onto t (Some e) condition body k c m w = refl

  loops_onto : (shape : LoopForm) (t : Statement) (o condition : Option Expression) (body : Statement) (k : List Pending) (c : CopyOf) (m : Memory) (w : World Byte) → loops shape t o condition body (onto new k) c m w ≡ goes_onto new (loops shape t o condition body k c m w)
  loops_onto While t o condition body k c m w = first_onto t o condition body k c m w
  loops_onto For t o condition body k c m w = first_onto t o condition body k c m w
  loops_onto Do t o condition body k c m w = refl

  last_onto : (t : Statement) (otherwise : LastArm) (k : List Pending) (c : CopyOf) (m : Memory) (w : World Byte) → last t otherwise (onto new k) c m w ≡ goes_onto new (last t otherwise k c m w)
  last_onto t tree.NoLast k c m w = refl
  last_onto t (tree.Last chosen) k c m w = refl

  arms_onto : (t : Statement) (more : Arms) (otherwise : LastArm) (k : List Pending) (c : CopyOf) (m : Memory) (w : World Byte) → arms t more otherwise (onto new k) c m w ≡ goes_onto new (arms t more otherwise k c m w)
  arms_onto t tree.NoArm otherwise k c m w = last_onto t otherwise k c m w
  arms_onto t (tree.AndArm (tree.OneArm condition chosen line) more) otherwise k c m w = refl

  jump_any_onto : (t : Statement) (o : Option ℕ) (ss : Statements) (k : List Pending) (c : CopyOf) (m : Memory) (w : World Byte) → jump_if_any t o ss (onto new k) c m w ≡ goes_onto new (jump_if_any t o ss k c m w)
  jump_any_onto t None ss k c m w = refl
  jump_any_onto t (Some target) ss k c m w = refl

  compares_in_onto : (t : Statement) (ss : Statements) (default : Option ℕ) (v : Datum) (labels : List TCase) (k : List Pending) (c : CopyOf) (m : Memory) (w : World Byte) → compares_in t ss default v labels (onto new k) c m w ≡ goes_onto new (compares_in t ss default v labels k c m w)
  compares_in_onto t ss default v [] k c m w = jump_any_onto t default ss k c m w
  compares_in_onto t ss default v (label ∷ labels) k c m w = either_onto (is_case v label) _ _ (jump t label.target ss k c m w) (goes c (control.Compares v labels) (Doing t Chooses ∷ k) m w) refl refl

  compares_for_onto : (t : Statement) (stage : Stage) (v : Datum) (labels : List TCase) (k : List Pending) (c : CopyOf) (m : Memory) (w : World Byte) → compares_for t stage v labels (onto new k) c m w ≡ goes_onto new (compares_for t stage v labels k c m w)
  compares_for_onto (tree.Switch e cases default ss line) Chooses v labels k c m w = compares_in_onto (tree.Switch e cases default ss line) ss default v labels k c m w
  compares_for_onto _ _ v labels k c m w = refl

  compares_onto : (v : Datum) (labels : List TCase) (k : List Pending) (c : CopyOf) (m : Memory) (w : World Byte) → compares v labels (onto new k) c m w ≡ goes_onto new (compares v labels k c m w)
  compares_onto v labels [] c m w = refl
  compares_onto v labels (In e got ∷ k) c m w = refl
  compares_onto v labels (To place ∷ k) c m w = refl
  compares_onto v labels (Doing t stage ∷ k) c m w = compares_for_onto t stage v labels k c m w
  compares_onto v labels (Before ss ∷ k) c m w = refl
  compares_onto v labels (Returns z ∷ k) c m w = refl
  compares_onto v labels (Resumes z x ∷ k) c m w = refl

  unwound_onto : (k : List Pending) → unwound (onto new k) ≡ onto new (unwound k)
  unwound_onto [] = refl
  unwound_onto (In e got ∷ k) = refl
  unwound_onto (To place ∷ k) = refl
  unwound_onto (Doing t Turns ∷ k) = unwound_onto k
  unwound_onto (Doing t (InArm more) ∷ k) = unwound_onto k
  unwound_onto (Doing t _ ∷ k) = refl
  unwound_onto (Before ss ∷ k) = unwound_onto k
  unwound_onto (Returns z ∷ k) = refl
  unwound_onto (Resumes z x ∷ k) = refl

  take_for_onto : (s : Setting) (t : Statement) (stage : Stage) (v : Datum) (k : List Pending) (c : CopyOf) (m : Memory) (w : World Byte) → take_for s t stage v (onto new k) c m w ≡ goes_onto new (take_for s t stage v k c m w)
  take_for_onto s (tree.Expr e line) Tests v k c m w = refl
  take_for_onto s (tree.InitScalar local e line) Tests v k c m w = used_onto v line _ (goes c (Write (behind (local_of s.program c local) 0) v 0) (Doing (tree.InitScalar local e line) Fills ∷ k) m w) refl
  take_for_onto s (tree.InitList local all line) (AtItem (tree.Scalar offset e) rest) v k c m w = used_onto v line _ (goes c (Write (behind (local_of s.program c local) offset) v 0) (Doing (tree.InitList local all line) (Items (tree.Scalar offset e) rest) ∷ k) m w) refl
  take_for_onto s (tree.If chain otherwise line) (Picks (tree.OneArm condition chosen at) more) v k c m w = branch_onto (truth_of v) at _ _ (goes c (control.Run chosen) (Doing (tree.If chain otherwise line) (InArm more) ∷ k) m w) (arms (tree.If chain otherwise line) more otherwise k c m w) refl (arms_onto (tree.If chain otherwise line) more otherwise k c m w)
  take_for_onto s (tree.Loop shape first condition step body line) Begins v k c m w = test_onto (tree.Loop shape first condition step body line) condition body k c m w
  take_for_onto s (tree.Loop shape first condition step body line) Steps v k c m w = test_onto (tree.Loop shape first condition step body line) condition body k c m w
  take_for_onto s (tree.Loop shape first condition step body line) Tests v k c m w = branch_onto (truth_of v) line _ _ (turn (tree.Loop shape first condition step body line) body k c m w) (goes c control.Past k m w) refl refl
  take_for_onto s (tree.Switch e cases default ss line) Tests v k c m w = used_onto v line _ (goes c (control.Compares v cases) (Doing (tree.Switch e cases default ss line) Chooses ∷ k) m w) refl
  take_for_onto s (tree.Return e line) Tests v k c m w = used_onto v line _ (goes c (control.Leaves v) (unwound k) m w) (ap (λ q. goes c (control.Leaves v) q m w) (unwound_onto k))
  take_for_onto s _ _ v k c m w = refl

  give_onto : (s : Setting) (v : Datum) (k : List Pending) (c : CopyOf) (m : Memory) (w : World Byte) → callers (onto new k) ≡ callers k → give s v (onto new k) c m w ≡ goes_onto new (give s v k c m w)
  give_onto s v [] c m w l = refl
  give_onto s v (In e got ∷ k) c m w l = take_in_onto s e got v k c m w l
  give_onto s v (To place ∷ k) c m w l = take_to_onto place v k c m w
  give_onto s v (Doing t stage ∷ k) c m w l = take_for_onto s t stage v k c m w
  give_onto s v (Before ss ∷ k) c m w l = refl
  give_onto s v (Returns z ∷ k) c m w l = refl
  give_onto s v (Resumes z x ∷ k) c m w l = refl

  break_onto : (k : List Pending) (c : CopyOf) (m : Memory) (w : World Byte) → break_at (onto new k) c m w ≡ goes_onto new (break_at k c m w)
  break_onto [] c m w = refl
  break_onto (In e got ∷ k) c m w = refl
  break_onto (To place ∷ k) c m w = refl
  break_onto (Doing t Turns ∷ k) c m w = refl
  break_onto (Doing t (InArm more) ∷ k) c m w = break_onto k c m w
  break_onto (Doing t _ ∷ k) c m w = refl
  break_onto (Before ss ∷ k) c m w = break_onto k c m w
  break_onto (Returns z ∷ k) c m w = refl
  break_onto (Resumes z x ∷ k) c m w = refl

  continue_onto : (k : List Pending) (c : CopyOf) (m : Memory) (w : World Byte) → continue_at (onto new k) c m w ≡ goes_onto new (continue_at k c m w)
  continue_onto [] c m w = refl
  continue_onto (In e got ∷ k) c m w = refl
  continue_onto (To place ∷ k) c m w = refl
  continue_onto (Doing (tree.Loop shape first condition step body line) Turns ∷ k) c m w = refl
  continue_onto (Doing (tree.Switch e cases default ss line) Turns ∷ k) c m w = continue_onto k c m w
  continue_onto (Doing t (InArm more) ∷ k) c m w = continue_onto k c m w
  continue_onto (Doing _ _ ∷ k) c m w = refl
  continue_onto (Before ss ∷ k) c m w = continue_onto k c m w
  continue_onto (Returns z ∷ k) c m w = refl
  continue_onto (Resumes z x ∷ k) c m w = refl

  turned_onto : (t : Statement) (stage : Stage) (k : List Pending) (c : CopyOf) (m : Memory) (w : World Byte) → turned t stage (onto new k) c m w ≡ goes_onto new (turned t stage k c m w)
  turned_onto (tree.Loop shape first condition step body line) Turns k c m w = next_onto (tree.Loop shape first condition step body line) step condition body k c m w
  turned_onto (tree.Switch e cases default ss line) Turns k c m w = refl
  turned_onto (tree.If chain otherwise line) (InArm more) k c m w = refl
  turned_onto _ _ k c m w = refl

  handed_onto : (v : Datum) (z : CopyOf) (k : List Pending) (m : Memory) (w : World Byte) → handed v z (onto new k) m w ≡ goes_onto new (handed v z k m w)
  handed_onto v z (In (tree.Call g arguments ty line) Called ∷ k) m w = refl
  handed_onto v z _ m w = refl

  leave_onto : (v : Datum) (k : List Pending) (m : Memory) (w : World Byte) → leave v (onto new k) m w ≡ goes_onto new (leave v k m w)
  leave_onto v (Returns z ∷ k) m w = handed_onto v z k m w
  leave_onto v _ m w = refl

  fetched_onto : (v : Datum) (k : List Pending) (c : CopyOf) (m : Memory) (w : World Byte) → fetched v (onto new k) c m w ≡ goes_onto new (fetched v k c m w)
  fetched_onto v (In (tree.Read place ty line) (At spot) ∷ k) c m w = refl
  fetched_onto v _ c m w = refl

  items_onto : (s : Setting) (t : Statement) (object : Object) (all : List Item) (k : List Pending) (c : CopyOf) (m : Memory) (w : World Byte) → items s t object all (onto new k) c m w ≡ goes_onto new (items s t object all k c m w)
  items_onto s t object [] k c m w = refl
  items_onto s t object (tree.Scalar offset value ∷ rest) k c m w = refl
  items_onto s t object (tree.Struct offset from size ∷ rest) k c m w = refl
  items_onto s t object (tree.Text offset text size ∷ rest) k c m w = refl

  stored_in_onto : (e : Expression) (got : Got) (k : List Pending) (c : CopyOf) (m : Memory) (w : World Byte) → stored_in e got (onto new k) c m w ≡ goes_onto new (stored_in e got k c m w)
  stored_in_onto e (Stores spot v) k c m w = refl
  stored_in_onto e Copies k c m w = refl
  stored_in_onto e _ k c m w = refl

  stored_for_onto : (s : Setting) (t : Statement) (stage : Stage) (k : List Pending) (c : CopyOf) (m : Memory) (w : World Byte) → stored_for s t stage (onto new k) c m w ≡ goes_onto new (stored_for s t stage k c m w)
  stored_for_onto s (tree.InitScalar local e line) Fills k c m w = refl
  stored_for_onto s (tree.InitList local all line) (Items item rest) k c m w = items_onto s (tree.InitList local all line) (local_of s.program c local) rest k c m w
  stored_for_onto s (tree.InitList local all line) Blanks k c m w = refl
  stored_for_onto s _ _ k c m w = refl

  stored_onto : (s : Setting) (k : List Pending) (c : CopyOf) (m : Memory) (w : World Byte) → stored s (onto new k) c m w ≡ goes_onto new (stored s k c m w)
  stored_onto s [] c m w = refl
  stored_onto s (In e got ∷ k) c m w = stored_in_onto e got k c m w
  stored_onto s (To place ∷ k) c m w = refl
  stored_onto s (Doing t stage ∷ k) c m w = stored_for_onto s t stage k c m w
  stored_onto s (Before ss ∷ k) c m w = refl
  stored_onto s (Returns z ∷ k) c m w = refl
  stored_onto s (Resumes z x ∷ k) c m w = refl

  call_in_onto : (p : Program) (e : Expression) (got : Got) (k : List Pending) (c : CopyOf) (m : Memory) (w : World Byte) → call_in p e got (onto new k) c m w ≡ goes_onto new (call_in p e got k c m w)
  call_in_onto p (tree.Call g all ty line) (Passed values) k c m w = either_onto (has_missing values) _ _ (Undefined Unset line) _ refl refl
  call_in_onto p _ _ k c m w = refl

  call_onto : (p : Program) (k : List Pending) (c : CopyOf) (m : Memory) (w : World Byte) → call p (onto new k) c m w ≡ goes_onto new (call p k c m w)
  call_onto p [] c m w = refl
  call_onto p (In e got ∷ k) c m w = call_in_onto p e got k c m w
  call_onto p (To place ∷ k) c m w = refl
  call_onto p (Doing t stage ∷ k) c m w = refl
  call_onto p (Before ss ∷ k) c m w = refl
  call_onto p (Returns z ∷ k) c m w = refl
  call_onto p (Resumes z x ∷ k) c m w = refl

  -- ---- bytes
  taking_onto : (taking : Taking) (next : Byte → Focus) (c : CopyOf) (k : List Pending) (m : Memory) (line other : ℕ) → line ≡ other → after_taking taking next c (onto new k) m line ≡ goes_onto new (after_taking taking next c k m other)
  taking_onto (Takes byte u event) next c k m line other e = refl
  taking_onto (Breaks kind) next c k m line other e = ap (Undefined kind) e

  putting_onto : (putting : Putting) (next : Focus) (c : CopyOf) (k : List Pending) (line other : ℕ) → line ≡ other → after_putting putting next c (onto new k) line ≡ goes_onto new (after_putting putting next c k other)
  putting_onto (Puts n u event) next c k line other e = refl
  putting_onto (Refuses kind) next c k line other e = ap (Undefined kind) e

  module _ (s : Setting) (c : CopyOf) (m : Memory) (w : World Byte) where
    took_onto : (fits : Byte → Bool) (spot : Spot) (x : Focus) (next : Byte → Focus) (k : List Pending) → callers (onto new k) ≡ callers k
        → after_taking (take_byte s (active c x (onto new k)) c.root fits spot m w) next c (onto new k) m (line_at (onto new k)) ≡ goes_onto new (after_taking (take_byte s (active c x k) c.root fits spot m w) next c k m (line_at k))
    took_onto fits spot x next k l =
        ap (λ n. after_taking (take_byte s n c.root fits spot m w) next c (onto new k) m (line_at (onto new k))) (active_same c x (onto new k) k l)
        ∙ taking_onto (take_byte s (active c x k) c.root fits spot m w) next c k m (line_at (onto new k)) (line_at k) (line_onto k)

    put_onto : (spot : Spot) (byte : Byte) (x next : Focus) (k : List Pending) → callers (onto new k) ≡ callers k
        → after_putting (put_byte s (active c x (onto new k)) c.root spot byte m w) next c (onto new k) (line_at (onto new k)) ≡ goes_onto new (after_putting (put_byte s (active c x k) c.root spot byte m w) next c k (line_at k))
    put_onto spot byte x next k l =
        ap (λ n. after_putting (put_byte s n c.root spot byte m w) next c (onto new k) (line_at (onto new k))) (active_same c x (onto new k) k l)
        ∙ putting_onto (put_byte s (active c x k) c.root spot byte m w) next c k (line_at (onto new k)) (line_at k) (line_onto k)

    fetch_as_onto : (ty : Ty) (spot : Spot) (read : List Byte) (k : List Pending) → callers (onto new k) ≡ callers k → fetch_as ty s spot read (onto new k) c m w ≡ goes_onto new (fetch_as ty s spot read k c m w)
    fetch_as_onto ty spot read k l =
        either_onto (nat_lt (length read) (type_bytes s.program.sizes ty)) _ _
        (after_taking (take_byte s (active c (Fetch spot read) k) c.root (fits_behind ty read) spot m w) (λ byte. Fetch (next_byte spot) (read ++ byte ∷ [])) c k m (line_at k)) (fetched (value_from ty read) k c m w)
        (took_onto (fits_behind ty read) spot (Fetch spot read) (λ byte. Fetch (next_byte spot) (read ++ byte ∷ [])) k l) (fetched_onto (value_from ty read) k c m w)

    fetch_onto : (spot : Spot) (read : List Byte) (k : List Pending) → callers (onto new k) ≡ callers k → fetch s spot read (onto new k) c m w ≡ goes_onto new (fetch s spot read k c m w)
    fetch_onto spot read k l = ap (λ ty. fetch_as ty s spot read (onto new k) c m w) (type_onto k) ∙ fetch_as_onto (read_type k) spot read k l

    skim_onto : (spot : Spot) (left : ℕ) (byte : Option Byte) (k : List Pending) → callers (onto new k) ≡ callers k → skim s spot left byte (onto new k) c m w ≡ goes_onto new (skim s spot left byte k c m w)
    skim_onto spot zero byte k l = fetched_onto Missing k c m w
    skim_onto spot (suc left) byte k l = took_onto is_any spot (Skim spot (suc left) byte) (λ next. Skim (next_byte spot) left (Some next)) k l

    write_at_onto : (spot : Spot) (v : Datum) (at : ℕ) (k : List Pending) → callers (onto new k) ≡ callers k → write_at s spot v at (onto new k) c m w ≡ goes_onto new (write_at s spot v at k c m w)
    write_at_onto (spots.Bit register number) v at k l = taking_onto (device_taken s register (device_value s.outside register w) w) (λ byte. PutBit register number v (number_in byte)) c k m (line_at (onto new k)) (line_at k) (line_onto k)
    write_at_onto (spots.Device address) v at k l = put_onto (spots.Device address) (byte_of v at) (Write (spots.Device address) v at) (Write (next_byte (spots.Device address)) v (at + 1)) k l
    write_at_onto (spots.Memory x) v at k l = put_onto (spots.Memory x) (byte_of v at) (Write (spots.Memory x) v at) (Write (next_byte (spots.Memory x)) v (at + 1)) k l

    copy_onto : (to from : Spot) (left : ℕ) (k : List Pending) → callers (onto new k) ≡ callers k → copy_read s to from left (onto new k) c m w ≡ goes_onto new (copy_read s to from left k c m w)
    copy_onto to from zero k l = stored_onto s k c m w
    copy_onto to from (suc left) k l = took_onto is_any from (CopyRead to from (suc left)) (λ byte. CopyWrite to from byte left) k l

    spell_onto : (spot : Spot) (text : List ℕ) (left : ℕ) (k : List Pending) → callers (onto new k) ≡ callers k → spell s spot text left (onto new k) c m w ≡ goes_onto new (spell s spot text left k c m w)
    spell_onto spot text zero k l = stored_onto s k c m w
    spell_onto spot text (suc left) k l = put_onto spot (bytes.Number (first_or_zero text)) (Spell spot text (suc left)) _ k l

    blank_at_onto : (object : Object) (at left : ℕ) (k : List Pending) → callers (onto new k) ≡ callers k → blank_at s object at left (onto new k) c m w ≡ goes_onto new (blank_at s object at left k c m w)
    blank_at_onto object at zero k l = stored_onto s k c m w
    blank_at_onto object at (suc left) k l = put_onto (behind object at) (bytes.Number 0) (Blank at (suc left)) (Blank (at + 1) left) k l

    blank_for_onto : (t : Statement) (at left : ℕ) (k : List Pending) → callers (onto new k) ≡ callers k → blank_for s t at left (onto new k) c m w ≡ goes_onto new (blank_for s t at left k c m w)
    blank_for_onto (tree.InitList local all line) at left k l = blank_at_onto (local_of s.program c local) (at + covered_from s.program.sizes all at left) (left - covered_from s.program.sizes all at left) k l
    blank_for_onto _ at left k l = refl

    blank_onto : (at left : ℕ) (k : List Pending) → callers (onto new k) ≡ callers k → blank s at left (onto new k) c m w ≡ goes_onto new (blank s at left k c m w)
    blank_onto at left [] l = refl
    blank_onto at left (In e got ∷ k) l = refl
    blank_onto at left (To place ∷ k) l = refl
    blank_onto at left (Doing t stage ∷ k) l = blank_for_onto t at left (Doing t stage ∷ k) l
    blank_onto at left (Before ss ∷ k) l = refl
    blank_onto at left (Returns z ∷ k) l = refl
    blank_onto at left (Resumes z x ∷ k) l = refl

    -- ---- the end of a statement, but for that of the handler
    proceed_onto : (k : List Pending) → resumes k ≡ false → proceed (onto new k) c m w ≡ goes_onto new (proceed k c m w)
    proceed_onto [] e = refl
    proceed_onto (In x got ∷ k) e = refl
    proceed_onto (To place ∷ k) e = refl
    proceed_onto (Doing t stage ∷ k) e = turned_onto t stage k c m w
    proceed_onto (Before tree.NoStatement ∷ k) e = refl
    proceed_onto (Before (tree.AndStatement t ts) ∷ k) e = refl
    proceed_onto (Returns z ∷ k) e = refl
    proceed_onto (Resumes z x ∷ k) e = absurd (false≢true (sym e))

    begin_onto : (t : Statement) (k : List Pending) → resumes (ending (control.Run t) k) ≡ false → begin s t (onto new k) c m w ≡ goes_onto new (begin s t k c m w)
    begin_onto (tree.Block ss line) k e = refl
    begin_onto (tree.Empty line) k e = refl
    begin_onto (tree.Expr x line) k e = refl
    begin_onto (tree.Declare local line) k e = refl
    begin_onto (tree.InitScalar local x line) k e = refl
    begin_onto (tree.InitList local all line) k e = items_onto s (tree.InitList local all line) (local_of s.program c local) all k c _ w
    begin_onto (tree.If chain otherwise line) k e = arms_onto (tree.If chain otherwise line) chain otherwise k c m w
    begin_onto (tree.Loop shape first condition step body line) k e = loops_onto shape (tree.Loop shape first condition step body line) first condition body k c m w
    begin_onto (tree.Switch x cases default ss line) k e = refl
    begin_onto (tree.Break line) k e = break_onto k c m w
    begin_onto (tree.Continue line) k e = continue_onto k c m w
    begin_onto (tree.Return None line) k e = ap (λ q. proceed q c m w) (unwound_onto k) ∙ proceed_onto (unwound k) e
    begin_onto (tree.Return (Some x) line) k e = refl

    -- ---- one micro-step
    act_onto : (x : Focus) (k : List Pending) → callers (onto new k) ≡ callers k → resumes (ending x k) ≡ false → act s x (onto new k) c m w ≡ goes_onto new (act s x k c m w)
    unfolding act
    act_onto (control.Eval e) k l n = eval_onto e k c m w
    act_onto (control.Find place) k l n = find_onto s place k c m w
    act_onto (control.Holds v) k l n = give_onto s v k c m w l
    act_onto (control.Found spot) k l n = found_onto s spot k c m w
    act_onto (control.Run t) k l n = begin_onto t k n
    act_onto control.Past k l n = proceed_onto k n
    act_onto (control.Fetch spot read) k l n = fetch_onto spot read k l
    act_onto (control.Skim spot left byte) k l n = skim_onto spot left byte k l
    act_onto (control.Write spot v at) k l n = either_onto (nat_lt at (written_bytes spot v)) _ _ (write_at s spot v at k c m w) (stored s k c m w) (write_at_onto spot v at k l) (stored_onto s k c m w)
    act_onto (control.PutBit register number v old) k l n = putting_onto (device_put register (with_bit number (lowest_bit v) old) m w) _ c k (line_at (onto new k)) (line_at k) (line_onto k)
    act_onto (control.CopyRead to from left) k l n = copy_onto to from left k l
    act_onto (control.CopyWrite to from byte left) k l n = put_onto to byte (CopyWrite to from byte left) (CopyRead (next_byte to) (next_byte from) left) k l
    act_onto (control.Spell spot text left) k l n = spell_onto spot text left k l
    act_onto (control.Blank at left) k l n = blank_onto at left k l
    act_onto control.Calls k l n = call_onto s.program k c m w
    act_onto (control.Leaves v) k l n = leave_onto v k m w
    act_onto (control.Compares v labels) k l n = compares_onto v labels k c m w
    act_onto control.Over k l n = refl

  -- ---- whether it counts
  value_counts_onto : (v : Datum) (k : List Pending) → value_counts v (onto new k) ≡ value_counts v k
  value_counts_onto v [] = refl
  value_counts_onto v (In e got ∷ k) = refl
  value_counts_onto v (To place ∷ k) = refl
  value_counts_onto v (Doing t stage ∷ k) = refl
  value_counts_onto v (Before ss ∷ k) = refl
  value_counts_onto v (Returns z ∷ k) = refl
  value_counts_onto v (Resumes z x ∷ k) = refl

  found_counts_onto : (p : Program) (k : List Pending) → found_counts p (onto new k) ≡ found_counts p k
  found_counts_onto p [] = refl
  found_counts_onto p (In e got ∷ k) = refl
  found_counts_onto p (To place ∷ k) = refl
  found_counts_onto p (Doing t stage ∷ k) = refl
  found_counts_onto p (Before ss ∷ k) = refl
  found_counts_onto p (Returns z ∷ k) = refl
  found_counts_onto p (Resumes z x ∷ k) = refl

  past_counts_onto : (p : Program) (c : CopyOf) (k : List Pending) → past_counts p c (onto new k) ≡ past_counts p c k
  past_counts_onto p c [] = refl
  past_counts_onto p c (In e got ∷ k) = refl
  past_counts_onto p c (To place ∷ k) = refl
  past_counts_onto p c (Doing t stage ∷ k) = refl
  past_counts_onto p c (Before ss ∷ k) = refl
  past_counts_onto p c (Returns z ∷ k) = refl
  past_counts_onto p c (Resumes z x ∷ k) = refl

  blank_counts_onto : (p : Program) (at left : ℕ) (k : List Pending) → blank_counts p at left (onto new k) ≡ blank_counts p at left k
  blank_counts_onto p at left [] = refl
  blank_counts_onto p at left (In e got ∷ k) = refl
  blank_counts_onto p at left (To place ∷ k) = refl
  blank_counts_onto p at left (Doing t stage ∷ k) = refl
  blank_counts_onto p at left (Before ss ∷ k) = refl
  blank_counts_onto p at left (Returns z ∷ k) = refl
  blank_counts_onto p at left (Resumes z x ∷ k) = refl

  count_onto : (p : Program) (c : CopyOf) (x : Focus) (k : List Pending) → counted_line p c x (onto new k) ≡ counted_line p c x k
  unfolding counted_line
  count_onto p c (control.Eval e) k = refl
  count_onto p c (control.Find place) k = refl
  count_onto p c (control.Holds v) k = value_counts_onto v k
  count_onto p c (control.Found spot) k = found_counts_onto p k
  count_onto p c (control.Run t) k = refl
  count_onto p c control.Past k = past_counts_onto p c k
  count_onto p c (control.Fetch spot read) k = ap (λ ty. counted_if (nat_lt (length read) (type_bytes p.sizes ty)) (line_at (onto new k))) (type_onto k) ∙ ap (counted_if (nat_lt (length read) (type_bytes p.sizes (read_type k)))) (line_onto k)
  count_onto p c (control.Skim spot left byte) k = ap (any_left left) (line_onto k)
  count_onto p c (control.Write spot v at) k = ap (counted_if (nat_lt at (written_bytes spot v))) (line_onto k)
  count_onto p c (control.PutBit register number v old) k = ap Some (line_onto k)
  count_onto p c (control.CopyRead to from left) k = ap (any_left left) (line_onto k)
  count_onto p c (control.CopyWrite to from byte left) k = ap Some (line_onto k)
  count_onto p c (control.Spell spot text left) k = ap (any_left left) (line_onto k)
  count_onto p c (control.Blank at left) k = blank_counts_onto p at left k
  count_onto p c control.Calls k = ap Some (line_onto k)
  count_onto p c (control.Leaves v) k = refl
  count_onto p c (control.Compares v labels) k = refl
  count_onto p c control.Over k = refl

  refused_onto : (o : Option ℕ) (out : Outcome) → refused o (goes_onto new out) ≡ goes_onto new (refused o out)
  refused_onto (Some line) (Went u event) = refl
  refused_onto None (Went u event) = refl
  refused_onto o (Undefined kind line) = refl
  refused_onto (Some line) Idle = refl
  refused_onto None Idle = refl
  refused_onto o Lost = refl

  step_onto : (s : Setting) (x : Focus) (k : List Pending) (c : CopyOf) (m : Memory) (w : World Byte) (b : Bool) (o : Option ℕ) → (b && is_some_line o) ≡ false → callers (onto new k) ≡ callers k → resumes (ending x k) ≡ false
      → (if b then interrupted s o x (onto new k) c m w else act s x (onto new k) c m w) ≡ goes_onto new (if b then interrupted s o x k c m w else act s x k c m w)
  step_onto s x k c m w true (Some h) e l n = absurd (false≢true (sym e))
  step_onto s x k c m w true None e l n =
      ap (λ z. refused z (act s x (onto new k) c m w)) (count_onto s.program c x k)
      ∙ (ap (refused (counted_line s.program c x k)) (act_onto s c m w x k l n) ∙ refused_onto (counted_line s.program c x k) (act s x k c m w))
  step_onto s x k c m w false o e l n = act_onto s c m w x k l n

above_case : (s : Setting) (t : State) (new : List Pending) → resumes new ≡ true → (b : List Pending → Type 0) → ((d : CopyOf) (y : Focus) (r : List Pending) → b (Resumes d y ∷ r)) → b new
above_case s t [] h b f = absurd (false≢true h)
above_case s t (In e got ∷ k) h b f = absurd (false≢true h)
above_case s t (To place ∷ k) h b f = absurd (false≢true h)
above_case s t (Doing z stage ∷ k) h b f = absurd (false≢true h)
above_case s t (Before ss ∷ k) h b f = absurd (false≢true h)
above_case s t (Returns z ∷ k) h b f = absurd (false≢true h)
above_case s t (Resumes z x ∷ k) h b f = f z x k

pub same_above : SameAbove
unfolding step enters
same_above s t new h l e n =
    above_case s t new h
    (λ q. callers (onto q t.stack) ≡ callers t.stack → step s (state t.copy t.focus (onto q t.stack) t.memory t.world) ≡ goes_onto q (step s t))
    (λ d y r live. step_onto d y r s t.focus t.stack t.copy t.memory (arrived s.outside t.world) (is_due (arrived s.outside t.world)) (handler_in s.program) e live n)
    l
