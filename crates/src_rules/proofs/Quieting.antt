-- Micro-steps that touch no byte: they make no event, change nothing of the world, and leave what waits below the handler.
use Rattle.std.proofs.Common.{◌≡◌, ℕ, Bool, true, false, List, [], ◌∷◌, ◌++◌, Option, Some, None, refl}
use Rattle.std.specs.Prelude.{if◌then◌else◌, pos}
use Rattle.c_typed.specs.Trees as tree
use Rattle.c_typed.specs.Trees.{Expression, Expressions, Place, Item, Statement, Statements, Arm, Arms, LastArm, Program}
use Rattle.c_typed.specs.declared.expression.LogicalOp.{LogicalOp}
use Rattle.c_typed.specs.declared.statement.LoopForm.{LoopForm}
use Rattle.c_typed.specs.declared.statement.LoopForm.TheVariants.{While, Do, For}
use Rattle.c_typed.specs.declared.statement.TCase.{TCase}
use Rattle.pic_world.specs.World.{World}
use Rattle.src_rules.specs.Accesses.{fetched, items, stored_in, stored_for, stored}
use Rattle.src_rules.specs.Expressions.{arguments, eval, find, address, takes, found_in, at_member, member_of, found_to, found_for, found}
use Rattle.src_rules.specs.Giving.{answered, used, branch, logical, truth_given, changes, take_in, deref, take_to, jump_if_any, compares_in, compares_for, compares, take_for, give}
use Rattle.src_rules.specs.Laws.{below}
use Rattle.src_rules.specs.State.{Outcome, Went, Undefined, Idle, Lost}
use Rattle.src_rules.specs.Statements.{test, first_of, next_of, loops, last, arms, break_at, continue_at, unwound, turned, handed, leave}
use Rattle.src_rules.specs.Step.{has_missing, call_in, call}
use Rattle.src_values.specs.Control.{Got, Nothing, Chosen, One, At, AtWith, Stores, Copies, Args, Passed, Called, Stage, Tests, Begins, Steps, Turns, Picks, InArm, Chooses, Fills, AtItem, Items, Blanks, Pending, In, To, Doing, Before, Returns, Resumes}
use Rattle.src_values.specs.Data.{Datum, Number, Pointer, Missing}
use Rattle.src_values.specs.Memory.{Setting, Memory}
use Rattle.src_values.specs.Objects.{moved}
use Rattle.src_values.specs.Values.{Answer, Gives, Fails, Strays, truth_of, decides, is_case}
use Rattle.src_values.specs.declared.objects.Byte.{Byte}
use Rattle.src_values.specs.declared.objects.CopyOf.{CopyOf}
use Rattle.src_values.specs.declared.objects.Object.{Object}
use Rattle.src_values.specs.declared.objects.Pointer.{Pointer as Reference}
use Rattle.src_values.specs.declared.objects.Spot.{Spot}

-- no event, the same world, and the same below
abbrev pub Quiet : World Byte → List Pending → Outcome → Type 0
Quiet w b (Went u event) = (event ≡ None) × (u.world ≡ w) × (below u.stack ≡ b)
Quiet w b (Undefined kind line) = Unit {0}
Quiet w b Idle = Unit {0}
Quiet w b Lost = Unit {0}

module _ (w : World Byte) where
  pub either_quiet : (b : List Pending) (t : Bool) (x y : Outcome) → Quiet w b x → Quiet w b y → Quiet w b (if t then x else y)
  either_quiet b true x y h g = h
  either_quiet b false x y h g = g

  arguments_quiet : (e : Expression) (values : List Datum) (more : Expressions) (k : List Pending) (c : CopyOf) (m : Memory) → Quiet w (below k) (arguments e values more k c m w)
  arguments_quiet e values tree.NoExpression k c m = (refl, refl, refl)
  arguments_quiet e values (tree.AndExpression a rest) k c m = (refl, refl, refl)

  pub eval_quiet : (e : Expression) (k : List Pending) (c : CopyOf) (m : Memory) → Quiet w (below k) (eval e k c m w)
  eval_quiet (tree.Constant value line) k c m = (refl, refl, refl)
  eval_quiet (tree.Read place ty line) k c m = (refl, refl, refl)
  eval_quiet (tree.Address place ty line) k c m = (refl, refl, refl)
  eval_quiet (tree.Convert operand ty line) k c m = (refl, refl, refl)
  eval_quiet (tree.Cast operand ty line) k c m = (refl, refl, refl)
  eval_quiet (tree.Unary op operand ty line) k c m = (refl, refl, refl)
  eval_quiet (tree.Binary op left right ty line) k c m = (refl, refl, refl)
  eval_quiet (tree.Offset op left right size ty line) k c m = (refl, refl, refl)
  eval_quiet (tree.Difference left right size line) k c m = (refl, refl, refl)
  eval_quiet (tree.Logical op left right line) k c m = (refl, refl, refl)
  eval_quiet (tree.Conditional condition chosen otherwise ty line) k c m = (refl, refl, refl)
  eval_quiet (tree.Comma left right ty line) k c m = (refl, refl, refl)
  eval_quiet (tree.Assign place value ty line) k c m = (refl, refl, refl)
  eval_quiet (tree.StructAssign place from size line) k c m = (refl, refl, refl)
  eval_quiet (tree.Update op place value operation size ty line) k c m = (refl, refl, refl)
  eval_quiet (tree.Step op place operation size ty line) k c m = (refl, refl, refl)
  eval_quiet (tree.Call g all ty line) k c m = arguments_quiet (tree.Call g all ty line) [] all k c m

  pub find_quiet : (s : Setting) (place : Place) (k : List Pending) (c : CopyOf) (m : Memory) → Quiet w (below k) (find s place k c m w)
  find_quiet s (tree.Name object ty line) k c m = (refl, refl, refl)
  find_quiet s (tree.Bit register number line) k c m = (refl, refl, refl)
  find_quiet s (tree.Member whole member offset ty line) k c m = (refl, refl, refl)
  find_quiet s (tree.Deref pointer ty line) k c m = (refl, refl, refl)

  takes_quiet : (o : Option Reference) (k : List Pending) (c : CopyOf) (m : Memory) → Quiet w (below k) (takes o k c m w)
  takes_quiet (Some x) k c m = (refl, refl, refl)
  takes_quiet None k c m = tt

  member_quiet : (o : Option Reference) (line : ℕ) (k : List Pending) (c : CopyOf) (m : Memory) → Quiet w (below k) (at_member o line k c m w)
  member_quiet (Some x) line k c m = (refl, refl, refl)
  member_quiet None line k c m = tt

  member_of_quiet : (s : Setting) (o : Option Reference) (offset line : ℕ) (k : List Pending) (c : CopyOf) (m : Memory) → Quiet w (below k) (member_of s o offset line k c m w)
  member_of_quiet s (Some x) offset line k c m = member_quiet (moved s.program x (pos offset)) line k c m
  member_of_quiet s None offset line k c m = tt

  found_in_quiet : (s : Setting) (e : Expression) (got : Got) (spot : Spot) (k : List Pending) (c : CopyOf) (m : Memory) → Quiet w (below k) (found_in s e got spot k c m w)
  found_in_quiet s (tree.Read place ty line) Nothing spot k c m = (refl, refl, refl)
  found_in_quiet s (tree.Address place ty line) Nothing spot k c m = takes_quiet (address spot) k c m
  found_in_quiet s (tree.Assign place value ty line) Nothing spot k c m = (refl, refl, refl)
  found_in_quiet s (tree.StructAssign place from size line) Nothing spot k c m = (refl, refl, refl)
  found_in_quiet s (tree.StructAssign place from size line) (At to) spot k c m = (refl, refl, refl)
  found_in_quiet s (tree.Update op place value operation size ty line) Nothing spot k c m = (refl, refl, refl)
  found_in_quiet s (tree.Step op place operation size ty line) Nothing spot k c m = (refl, refl, refl)
  found_in_quiet s _ _ spot k c m = tt

  found_to_quiet : (s : Setting) (place : Place) (spot : Spot) (k : List Pending) (c : CopyOf) (m : Memory) → Quiet w (below k) (found_to s place spot k c m w)
  found_to_quiet s (tree.Member whole member offset ty line) spot k c m = member_of_quiet s (address spot) offset line k c m
  found_to_quiet s _ spot k c m = tt

  found_for_quiet : (s : Setting) (t : Statement) (stage : Stage) (spot : Spot) (k : List Pending) (c : CopyOf) (m : Memory) → Quiet w (below k) (found_for s t stage spot k c m w)
  found_for_quiet s (tree.InitList local all line) (AtItem (tree.Struct offset from size) rest) spot k c m = (refl, refl, refl)
  found_for_quiet s _ _ spot k c m = tt

  pub found_quiet : (s : Setting) (spot : Spot) (k : List Pending) (c : CopyOf) (m : Memory) → Quiet w (below k) (found s spot k c m w)
  found_quiet s spot [] c m = tt
  found_quiet s spot (In e got ∷ k) c m = found_in_quiet s e got spot k c m
  found_quiet s spot (To place ∷ k) c m = found_to_quiet s place spot k c m
  found_quiet s spot (Doing t stage ∷ k) c m = found_for_quiet s t stage spot k c m
  found_quiet s spot (Before ss ∷ k) c m = tt
  found_quiet s spot (Returns d ∷ k) c m = tt
  found_quiet s spot (Resumes d x ∷ k) c m = tt

  answered_quiet : (answer : Answer) (line : ℕ) (k : List Pending) (c : CopyOf) (m : Memory) → Quiet w (below k) (answered answer line k c m w)
  answered_quiet (Gives v) line k c m = (refl, refl, refl)
  answered_quiet (Fails kind) line k c m = tt
  answered_quiet Strays line k c m = tt

  used_quiet : (b : List Pending) (v : Datum) (line : ℕ) (next : Outcome) → Quiet w b next → Quiet w b (used v line next)
  used_quiet b (Number q) line next h = h
  used_quiet b (Pointer x) line next h = h
  used_quiet b Missing line next h = tt

  branch_quiet : (b : List Pending) (o : Option Bool) (line : ℕ) (first second : Outcome) → Quiet w b first → Quiet w b second → Quiet w b (branch o line first second)
  branch_quiet b None line first second h g = tt
  branch_quiet b (Some true) line first second h g = h
  branch_quiet b (Some false) line first second h g = g

  truth_quiet : (o : Option Bool) (line : ℕ) (k : List Pending) (c : CopyOf) (m : Memory) → Quiet w (below k) (truth_given o line k c m w)
  truth_quiet None line k c m = tt
  truth_quiet (Some holds) line k c m = (refl, refl, refl)

  logical_quiet : (e : Expression) (op : LogicalOp) (v : Datum) (o : Option Bool) (right : Expression) (line : ℕ) (k : List Pending) (c : CopyOf) (m : Memory) → Quiet w (below k) (logical e op v o right line k c m w)
  logical_quiet e op v None right line k c m = tt
  logical_quiet e op v (Some holds) right line k c m = either_quiet (below k) (decides op holds) _ _ (refl, refl, refl) (refl, refl, refl)

  changes_quiet : (answer : Answer) (e : Expression) (spot : Spot) (keeps : Bool) (old : Datum) (line : ℕ) (k : List Pending) (c : CopyOf) (m : Memory) → Quiet w (below k) (changes answer e spot keeps old line k c m w)
  changes_quiet (Gives v) e spot keeps old line k c m = (refl, refl, refl)
  changes_quiet (Fails kind) e spot keeps old line k c m = tt
  changes_quiet Strays e spot keeps old line k c m = tt

  take_in_quiet : (s : Setting) (e : Expression) (got : Got) (v : Datum) (k : List Pending) (c : CopyOf) (m : Memory) → Quiet w (below k) (take_in s e got v k c m w)
  take_in_quiet s (tree.Convert operand ty line) Nothing v k c m = answered_quiet _ line k c m
  take_in_quiet s (tree.Cast operand ty line) Nothing v k c m = answered_quiet _ line k c m
  take_in_quiet s (tree.Unary op operand ty line) Nothing v k c m = answered_quiet _ line k c m
  take_in_quiet s (tree.Binary op left right ty line) Nothing v k c m = (refl, refl, refl)
  take_in_quiet s (tree.Binary op left right ty line) (One u) v k c m = answered_quiet _ line k c m
  take_in_quiet s (tree.Offset op left right size ty line) Nothing v k c m = (refl, refl, refl)
  take_in_quiet s (tree.Offset op left right size ty line) (One u) v k c m = answered_quiet _ line k c m
  take_in_quiet s (tree.Difference left right size line) Nothing v k c m = (refl, refl, refl)
  take_in_quiet s (tree.Difference left right size line) (One u) v k c m = answered_quiet _ line k c m
  take_in_quiet s (tree.Logical op left right line) Nothing v k c m = logical_quiet (tree.Logical op left right line) op v (truth_of v) right line k c m
  take_in_quiet s (tree.Logical op left right line) (One u) v k c m = truth_quiet (truth_of v) line k c m
  take_in_quiet s (tree.Conditional condition chosen otherwise ty line) Nothing v k c m = branch_quiet (below k) (truth_of v) line _ _ (refl, refl, refl) (refl, refl, refl)
  take_in_quiet s (tree.Conditional condition chosen otherwise ty line) Chosen v k c m = (refl, refl, refl)
  take_in_quiet s (tree.Comma left right ty line) Nothing v k c m = (refl, refl, refl)
  take_in_quiet s (tree.Assign place value ty line) (At spot) v k c m = used_quiet (below k) v line _ (refl, refl, refl)
  take_in_quiet s (tree.Update op place value operation size ty line) (At spot) v k c m = (refl, refl, refl)
  take_in_quiet s (tree.Update op place value operation size ty line) (AtWith spot u) v k c m = changes_quiet _ (tree.Update op place value operation size ty line) spot false v line k c m
  take_in_quiet s (tree.Step op place operation size ty line) (At spot) v k c m = changes_quiet _ (tree.Step op place operation size ty line) spot _ v line k c m
  take_in_quiet s (tree.Call g values ty line) (Args before more) v k c m = arguments_quiet (tree.Call g values ty line) (before ++ v ∷ []) more k c m
  take_in_quiet s _ _ v k c m = tt

  deref_quiet : (v : Datum) (line : ℕ) (k : List Pending) (c : CopyOf) (m : Memory) → Quiet w (below k) (deref v line k c m w)
  deref_quiet (Pointer x) line k c m = (refl, refl, refl)
  deref_quiet (Number q) line k c m = tt
  deref_quiet Missing line k c m = tt

  take_to_quiet : (place : Place) (v : Datum) (k : List Pending) (c : CopyOf) (m : Memory) → Quiet w (below k) (take_to place v k c m w)
  take_to_quiet (tree.Deref pointer ty line) v k c m = deref_quiet v line k c m
  take_to_quiet _ v k c m = tt

  test_quiet : (t : Statement) (o : Option Expression) (body : Statement) (k : List Pending) (c : CopyOf) (m : Memory) → Quiet w (below k) (test t o body k c m w)
  test_quiet t None body k c m = (refl, refl, refl)
  test_quiet t (Some e) body k c m = (refl, refl, refl)

  first_quiet : (t : Statement) (o condition : Option Expression) (body : Statement) (k : List Pending) (c : CopyOf) (m : Memory) → Quiet w (below k) (first_of t o condition body k c m w)
  first_quiet t None condition body k c m = test_quiet t condition body k c m
  first_quiet t (Some e) condition body k c m = (refl, refl, refl)

  next_quiet : (t : Statement) (o condition : Option Expression) (body : Statement) (k : List Pending) (c : CopyOf) (m : Memory) → Quiet w (below k) (next_of t o condition body k c m w)
  next_quiet t None condition body k c m = test_quiet t condition body k c m
  next_quiet t (Some e) condition body k c m = (refl, refl, refl)

  pub loops_quiet : (shape : LoopForm) (t : Statement) (o condition : Option Expression) (body : Statement) (k : List Pending) (c : CopyOf) (m : Memory) → Quiet w (below k) (loops shape t o condition body k c m w)
  loops_quiet While t o condition body k c m = first_quiet t o condition body k c m
  loops_quiet For t o condition body k c m = first_quiet t o condition body k c m
  loops_quiet Do t o condition body k c m = (refl, refl, refl)

  last_quiet : (t : Statement) (otherwise : LastArm) (k : List Pending) (c : CopyOf) (m : Memory) → Quiet w (below k) (last t otherwise k c m w)
  last_quiet t tree.NoLast k c m = (refl, refl, refl)
  last_quiet t (tree.Last chosen) k c m = (refl, refl, refl)

  pub arms_quiet : (t : Statement) (more : Arms) (otherwise : LastArm) (k : List Pending) (c : CopyOf) (m : Memory) → Quiet w (below k) (arms t more otherwise k c m w)
  arms_quiet t tree.NoArm otherwise k c m = last_quiet t otherwise k c m
  arms_quiet t (tree.AndArm (tree.OneArm condition chosen line) more) otherwise k c m = (refl, refl, refl)

  jump_any_quiet : (t : Statement) (o : Option ℕ) (ss : Statements) (k : List Pending) (c : CopyOf) (m : Memory) → Quiet w (below k) (jump_if_any t o ss k c m w)
  jump_any_quiet t None ss k c m = (refl, refl, refl)
  jump_any_quiet t (Some target) ss k c m = (refl, refl, refl)

  compares_in_quiet : (t : Statement) (ss : Statements) (default : Option ℕ) (v : Datum) (labels : List TCase) (k : List Pending) (c : CopyOf) (m : Memory) → Quiet w (below k) (compares_in t ss default v labels k c m w)
  compares_in_quiet t ss default v [] k c m = jump_any_quiet t default ss k c m
  compares_in_quiet t ss default v (label ∷ labels) k c m = either_quiet (below k) (is_case v label) _ _ (refl, refl, refl) (refl, refl, refl)

  compares_for_quiet : (t : Statement) (stage : Stage) (v : Datum) (labels : List TCase) (k : List Pending) (c : CopyOf) (m : Memory) → Quiet w (below k) (compares_for t stage v labels k c m w)
  compares_for_quiet (tree.Switch e cases default ss line) Chooses v labels k c m = compares_in_quiet (tree.Switch e cases default ss line) ss default v labels k c m
  compares_for_quiet _ _ v labels k c m = tt

  pub compares_quiet : (v : Datum) (labels : List TCase) (k : List Pending) (c : CopyOf) (m : Memory) → Quiet w (below k) (compares v labels k c m w)
  compares_quiet v labels [] c m = tt
  compares_quiet v labels (In e got ∷ k) c m = tt
  compares_quiet v labels (To place ∷ k) c m = tt
  compares_quiet v labels (Doing t stage ∷ k) c m = compares_for_quiet t stage v labels k c m
  compares_quiet v labels (Before ss ∷ k) c m = tt
  compares_quiet v labels (Returns d ∷ k) c m = tt
  compares_quiet v labels (Resumes d x ∷ k) c m = tt

  pub unwound_below : (k : List Pending) → below (unwound k) ≡ below k
  unwound_below [] = refl
  unwound_below (In e got ∷ k) = refl
  unwound_below (To place ∷ k) = refl
  unwound_below (Doing t Turns ∷ k) = unwound_below k
  unwound_below (Doing t (InArm more) ∷ k) = unwound_below k
  unwound_below (Doing t _ ∷ k) = refl
  unwound_below (Before ss ∷ k) = unwound_below k
  unwound_below (Returns d ∷ k) = refl
  unwound_below (Resumes d x ∷ k) = refl

  take_for_quiet : (s : Setting) (t : Statement) (stage : Stage) (v : Datum) (k : List Pending) (c : CopyOf) (m : Memory) → Quiet w (below k) (take_for s t stage v k c m w)
  take_for_quiet s (tree.Expr e line) Tests v k c m = (refl, refl, refl)
  take_for_quiet s (tree.InitScalar local e line) Tests v k c m = used_quiet (below k) v line _ (refl, refl, refl)
  take_for_quiet s (tree.InitList local all line) (AtItem (tree.Scalar offset e) rest) v k c m = used_quiet (below k) v line _ (refl, refl, refl)
  take_for_quiet s (tree.If chain otherwise line) (Picks (tree.OneArm condition chosen at) more) v k c m = branch_quiet (below k) (truth_of v) at _ _ (refl, refl, refl) (arms_quiet (tree.If chain otherwise line) more otherwise k c m)
  take_for_quiet s (tree.Loop shape first condition step body line) Begins v k c m = test_quiet (tree.Loop shape first condition step body line) condition body k c m
  take_for_quiet s (tree.Loop shape first condition step body line) Steps v k c m = test_quiet (tree.Loop shape first condition step body line) condition body k c m
  take_for_quiet s (tree.Loop shape first condition step body line) Tests v k c m = branch_quiet (below k) (truth_of v) line _ _ (refl, refl, refl) (refl, refl, refl)
  take_for_quiet s (tree.Switch e cases default ss line) Tests v k c m = used_quiet (below k) v line _ (refl, refl, refl)
  take_for_quiet s (tree.Return e line) Tests v k c m = used_quiet (below k) v line _ (refl, refl, unwound_below k)
  take_for_quiet s _ _ v k c m = tt

  pub give_quiet : (s : Setting) (v : Datum) (k : List Pending) (c : CopyOf) (m : Memory) → Quiet w (below k) (give s v k c m w)
  give_quiet s v [] c m = tt
  give_quiet s v (In e got ∷ k) c m = take_in_quiet s e got v k c m
  give_quiet s v (To place ∷ k) c m = take_to_quiet place v k c m
  give_quiet s v (Doing t stage ∷ k) c m = take_for_quiet s t stage v k c m
  give_quiet s v (Before ss ∷ k) c m = tt
  give_quiet s v (Returns d ∷ k) c m = tt
  give_quiet s v (Resumes d x ∷ k) c m = tt

  pub break_quiet : (k : List Pending) (c : CopyOf) (m : Memory) → Quiet w (below k) (break_at k c m w)
  break_quiet [] c m = tt
  break_quiet (In e got ∷ k) c m = tt
  break_quiet (To place ∷ k) c m = tt
  break_quiet (Doing t Turns ∷ k) c m = (refl, refl, refl)
  break_quiet (Doing t (InArm more) ∷ k) c m = break_quiet k c m
  break_quiet (Doing t _ ∷ k) c m = tt
  break_quiet (Before ss ∷ k) c m = break_quiet k c m
  break_quiet (Returns d ∷ k) c m = tt
  break_quiet (Resumes d x ∷ k) c m = tt

  pub continue_quiet : (k : List Pending) (c : CopyOf) (m : Memory) → Quiet w (below k) (continue_at k c m w)
  continue_quiet [] c m = tt
  continue_quiet (In e got ∷ k) c m = tt
  continue_quiet (To place ∷ k) c m = tt
  continue_quiet (Doing (tree.Loop shape first condition step body line) Turns ∷ k) c m = (refl, refl, refl)
  continue_quiet (Doing (tree.Switch e cases default ss line) Turns ∷ k) c m = continue_quiet k c m
  continue_quiet (Doing t (InArm more) ∷ k) c m = continue_quiet k c m
  continue_quiet (Doing _ _ ∷ k) c m = tt
  continue_quiet (Before ss ∷ k) c m = continue_quiet k c m
  continue_quiet (Returns d ∷ k) c m = tt
  continue_quiet (Resumes d x ∷ k) c m = tt

  pub turned_quiet : (t : Statement) (stage : Stage) (k : List Pending) (c : CopyOf) (m : Memory) → Quiet w (below k) (turned t stage k c m w)
  turned_quiet (tree.Loop shape first condition step body line) Turns k c m = next_quiet (tree.Loop shape first condition step body line) step condition body k c m
  turned_quiet (tree.Switch e cases default ss line) Turns k c m = (refl, refl, refl)
  turned_quiet (tree.If chain otherwise line) (InArm more) k c m = (refl, refl, refl)
  turned_quiet _ _ k c m = tt

  handed_quiet : (v : Datum) (d : CopyOf) (k : List Pending) (m : Memory) → Quiet w (below k) (handed v d k m w)
  handed_quiet v d (In (tree.Call g arguments ty line) Called ∷ k) m = (refl, refl, refl)
  handed_quiet v d _ m = tt

  pub leave_quiet : (v : Datum) (k : List Pending) (m : Memory) → Quiet w (below k) (leave v k m w)
  leave_quiet v (Returns d ∷ k) m = handed_quiet v d k m
  leave_quiet v _ m = tt

  pub fetched_quiet : (v : Datum) (k : List Pending) (c : CopyOf) (m : Memory) → Quiet w (below k) (fetched v k c m w)
  fetched_quiet v (In (tree.Read place ty line) (At spot) ∷ k) c m = (refl, refl, refl)
  fetched_quiet v _ c m = (refl, refl, refl)

  pub items_quiet : (s : Setting) (t : Statement) (object : Object) (all : List Item) (k : List Pending) (c : CopyOf) (m : Memory) → Quiet w (below k) (items s t object all k c m w)
  items_quiet s t object [] k c m = (refl, refl, refl)
  items_quiet s t object (tree.Scalar offset value ∷ rest) k c m = (refl, refl, refl)
  items_quiet s t object (tree.Struct offset from size ∷ rest) k c m = (refl, refl, refl)
  items_quiet s t object (tree.Text offset text size ∷ rest) k c m = (refl, refl, refl)

  stored_in_quiet : (e : Expression) (got : Got) (k : List Pending) (c : CopyOf) (m : Memory) → Quiet w (below k) (stored_in e got k c m w)
  stored_in_quiet e (Stores spot v) k c m = (refl, refl, refl)
  stored_in_quiet e Copies k c m = (refl, refl, refl)
  stored_in_quiet e _ k c m = tt

  stored_for_quiet : (s : Setting) (t : Statement) (stage : Stage) (k : List Pending) (c : CopyOf) (m : Memory) → Quiet w (below k) (stored_for s t stage k c m w)
  stored_for_quiet s (tree.InitScalar local e line) Fills k c m = (refl, refl, refl)
  stored_for_quiet s (tree.InitList local all line) (Items item rest) k c m = items_quiet s (tree.InitList local all line) _ rest k c m
  stored_for_quiet s (tree.InitList local all line) Blanks k c m = (refl, refl, refl)
  stored_for_quiet s _ _ k c m = tt

  pub stored_quiet : (s : Setting) (k : List Pending) (c : CopyOf) (m : Memory) → Quiet w (below k) (stored s k c m w)
  stored_quiet s [] c m = tt
  stored_quiet s (In e got ∷ k) c m = stored_in_quiet e got k c m
  stored_quiet s (To place ∷ k) c m = tt
  stored_quiet s (Doing t stage ∷ k) c m = stored_for_quiet s t stage k c m
  stored_quiet s (Before ss ∷ k) c m = tt
  stored_quiet s (Returns d ∷ k) c m = tt
  stored_quiet s (Resumes d x ∷ k) c m = tt

  call_in_quiet : (p : Program) (e : Expression) (got : Got) (k : List Pending) (c : CopyOf) (m : Memory) → Quiet w (below k) (call_in p e got k c m w)
  call_in_quiet p (tree.Call g all ty line) (Passed values) k c m = either_quiet (below k) (has_missing values) _ _ tt (refl, refl, refl)
  call_in_quiet p _ _ k c m = tt

  pub call_quiet : (p : Program) (k : List Pending) (c : CopyOf) (m : Memory) → Quiet w (below k) (call p k c m w)
  call_quiet p [] c m = tt
  call_quiet p (In e got ∷ k) c m = call_in_quiet p e got k c m
  call_quiet p (To place ∷ k) c m = tt
  call_quiet p (Doing t stage ∷ k) c m = tt
  call_quiet p (Before ss ∷ k) c m = tt
  call_quiet p (Returns d ∷ k) c m = tt
  call_quiet p (Resumes d x ∷ k) c m = tt
