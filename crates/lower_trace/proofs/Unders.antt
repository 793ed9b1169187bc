-- Expressions leave the functions under way as they are: their words stay within a limit.
use Rattle.std.proofs.Common.{ℕ, ◌+◌, ◌-◌, ◌≤◌, Bool, true, false, List, [], ◌∷◌, ◌++◌, Option, Some, None, arith}
use Rattle.std.proofs.Math.Nat.{le-max_left, le-max_right}
use Rattle.std.specs.Prelude.{suc, ◌*◌, ◌<◌, max, map, if◌then◌else◌, pos}
use Rattle.c_typed.specs.Trees as tree
use Rattle.c_typed.specs.Trees.{Expression, Expressions, Place, Item, Statement, Statements, Arm, Arms, LastArm, Program}
use Rattle.c_typed.specs.declared.expression.LogicalOp.{LogicalOp}
use Rattle.c_typed.specs.declared.types.Ty.{Ty}
use Rattle.c_typed.specs.declared.types.Ty.TheVariants as types
use Rattle.c_typed.specs.Words.{words, place_words, arguments_words, any_words, item_words, items_words, statement_words, statements_words, arm_words, arms_words, last_words, variable_bytes}
use Rattle.pic_world.specs.World.{World}
use Rattle.src_rules.specs.Accesses.{goes, fetching}
use Rattle.src_rules.specs.Expressions.{arguments, eval, find, address, takes, found_in, at_member, member_of, found_to, found_for, found}
use Rattle.src_rules.specs.Giving.{answered, used, branch, logical, truth_given, changes, take_in, deref, take_to}
use Rattle.src_rules.specs.State.{Outcome, Went, Undefined, Idle, Lost}
use Rattle.src_values.specs.Control as control
use Rattle.src_values.specs.Control.{Focus, Eval, Find, Holds, Run, Past, Got, Nothing, Chosen, One, At, AtWith, Stores, Copies, Args, Passed, Called, Stage, Tests, Begins, Steps, Turns, Picks, InArm, Chooses, Fills, AtItem, Items, Blanks, Pending, In, To, Doing, Before, Returns, Resumes, read_type}
use Rattle.src_values.specs.Data.{Datum, Number, Pointer, Missing}
use Rattle.src_values.specs.Memory.{Setting, Memory}
use Rattle.src_values.specs.Objects.{function_at, moved}
use Rattle.src_values.specs.Values.{Answer, Gives, Fails, Strays, truth_of, decides}
use Rattle.src_values.specs.declared.objects.Byte.{Byte}
use Rattle.src_values.specs.declared.objects.CopyOf.{CopyOf}
use Rattle.src_values.specs.declared.objects.Pointer.{Pointer as Reference}
use Rattle.src_values.specs.declared.objects.Spot.{Spot}
use Rattle.lower_trace.proofs.CodeLeft.{arm_count}
use Rattle.lower_trace.proofs.Burdens.{under}

abbrev pub IsUnder : Program → ℕ → Outcome → Type 0
IsUnder p limit (Went u event) = under p u.copy u.stack ≤ limit
IsUnder p limit (Undefined kind line) = Unit {0}
IsUnder p limit Idle = Unit {0}
IsUnder p limit Lost = Unit {0}

module _ (p : Program) (limit : ℕ) where
  pub either_under : (t : Bool) (x y : Outcome) → IsUnder p limit x → IsUnder p limit y → IsUnder p limit (if t then x else y)
  either_under true x y h g = h
  either_under false x y h g = g

  arguments_under : (g : ℕ) (all : Expressions) (ty : Ty) (line : ℕ) (values : List Datum) (more : Expressions) (k : List Pending) (c : CopyOf) (m : Memory) (w : World Byte) → under p c k ≤ limit → IsUnder p limit (arguments (tree.Call g all ty line) values more k c m w)
  unfolding under
  arguments_under g all ty line values tree.NoExpression k c m w z = z
  arguments_under g all ty line values (tree.AndExpression a rest) k c m w z = z

  pub eval_under : (e : Expression) (k : List Pending) (c : CopyOf) (m : Memory) (w : World Byte) → under p c k ≤ limit → IsUnder p limit (eval e k c m w)
  unfolding under
  eval_under (tree.Constant value line) k c m w z = z
  eval_under (tree.Read place ty line) k c m w z = z
  eval_under (tree.Address place ty line) k c m w z = z
  eval_under (tree.Convert operand ty line) k c m w z = z
  eval_under (tree.Cast operand ty line) k c m w z = z
  eval_under (tree.Unary op operand ty line) k c m w z = z
  eval_under (tree.Binary op left right ty line) k c m w z = z
  eval_under (tree.Offset op left right size ty line) k c m w z = z
  eval_under (tree.Difference left right size line) k c m w z = z
  eval_under (tree.Logical op left right line) k c m w z = z
  eval_under (tree.Conditional condition chosen otherwise ty line) k c m w z = z
  eval_under (tree.Comma left right ty line) k c m w z = z
  eval_under (tree.Assign place value ty line) k c m w z = z
  eval_under (tree.StructAssign place from size line) k c m w z = z
  eval_under (tree.Update op place value operation size ty line) k c m w z = z
  eval_under (tree.Step op place operation size ty line) k c m w z = z
  eval_under (tree.Call g all ty line) k c m w z = arguments_under g all ty line [] all k c m w z

  pub find_under : (s : Setting) (place : Place) (k : List Pending) (c : CopyOf) (m : Memory) (w : World Byte) → under p c k ≤ limit → IsUnder p limit (find s place k c m w)
  unfolding under
  find_under s (tree.Name object ty line) k c m w z = z
  find_under s (tree.Bit register number line) k c m w z = z
  find_under s (tree.Member whole member offset ty line) k c m w z = z
  find_under s (tree.Deref pointer ty line) k c m w z = z

  fetching_under : (spot : Spot) (ty : Ty) (sizes : List ℕ) (k : List Pending) (c : CopyOf) (m : Memory) (w : World Byte) → under p c k ≤ limit → IsUnder p limit (goes c (fetching spot ty sizes) k m w)
  unfolding under
  fetching_under spot types.Void sizes k c m w z = z
  fetching_under spot (types.Int ty) sizes k c m w z = z
  fetching_under spot (types.Pointer row) sizes k c m w z = z
  fetching_under spot (types.Array x n y) sizes k c m w z = z
  fetching_under spot (types.Struct n) sizes k c m w z = z

  takes_under : (o : Option Reference) (k : List Pending) (c : CopyOf) (m : Memory) (w : World Byte) → under p c k ≤ limit → IsUnder p limit (takes o k c m w)
  unfolding under
  takes_under (Some x) k c m w z = z
  takes_under None k c m w z = tt

  member_under : (o : Option Reference) (line : ℕ) (k : List Pending) (c : CopyOf) (m : Memory) (w : World Byte) → under p c k ≤ limit → IsUnder p limit (at_member o line k c m w)
  unfolding under
  member_under (Some x) line k c m w z = z
  member_under None line k c m w z = tt

  member_of_under : (s : Setting) (o : Option Reference) (offset line : ℕ) (k : List Pending) (c : CopyOf) (m : Memory) (w : World Byte) → under p c k ≤ limit → IsUnder p limit (member_of s o offset line k c m w)
  unfolding under
  member_of_under s (Some x) offset line k c m w z = member_under (moved s.program x (pos offset)) line k c m w z
  member_of_under s None offset line k c m w z = tt

  found_in_under : (s : Setting) (e : Expression) (got : Got) (spot : Spot) (k : List Pending) (c : CopyOf) (m : Memory) (w : World Byte) → under p c (In e got ∷ k) ≤ limit → IsUnder p limit (found_in s e got spot k c m w)
  unfolding under
  found_in_under s (tree.Read place ty line) Nothing spot k c m w z = fetching_under spot ty s.program.sizes (In (tree.Read place ty line) (At spot) ∷ k) c m w z
  found_in_under s (tree.Address place ty line) Nothing spot k c m w z = takes_under (address spot) k c m w z
  found_in_under s (tree.Assign place value ty line) Nothing spot k c m w z = z
  found_in_under s (tree.StructAssign place from size line) Nothing spot k c m w z = z
  found_in_under s (tree.StructAssign place from size line) (At to) spot k c m w z = z
  found_in_under s (tree.Update op place value operation size ty line) Nothing spot k c m w z = z
  found_in_under s (tree.Step op place operation size ty line) Nothing spot k c m w z = fetching_under spot ty s.program.sizes (In (tree.Step op place operation size ty line) (At spot) ∷ k) c m w z
  found_in_under s _ _ spot k c m w z = tt

  found_to_under : (s : Setting) (place : Place) (spot : Spot) (k : List Pending) (c : CopyOf) (m : Memory) (w : World Byte) → under p c k ≤ limit → IsUnder p limit (found_to s place spot k c m w)
  unfolding under
  found_to_under s (tree.Member whole member offset ty line) spot k c m w z = member_of_under s (address spot) offset line k c m w z
  found_to_under s _ spot k c m w z = tt

  found_for_under : (s : Setting) (t : Statement) (stage : Stage) (spot : Spot) (k : List Pending) (c : CopyOf) (m : Memory) (w : World Byte) → under p c (Doing t stage ∷ k) ≤ limit → IsUnder p limit (found_for s t stage spot k c m w)
  unfolding under
  found_for_under s (tree.InitList local all line) (AtItem (tree.Struct offset from size) rest) spot k c m w z = z
  found_for_under s _ _ spot k c m w z = tt

  pub found_under : (s : Setting) (spot : Spot) (k : List Pending) (c : CopyOf) (m : Memory) (w : World Byte) → under p c k ≤ limit → IsUnder p limit (found s spot k c m w)
  unfolding under
  found_under s spot [] c m w z = tt
  found_under s spot (In e got ∷ k) c m w z = found_in_under s e got spot k c m w z
  found_under s spot (To place ∷ k) c m w z = found_to_under s place spot k c m w z
  found_under s spot (Doing t stage ∷ k) c m w z = found_for_under s t stage spot k c m w z
  found_under s spot (Before ss ∷ k) c m w z = tt
  found_under s spot (Returns d ∷ k) c m w z = tt
  found_under s spot (Resumes d x ∷ k) c m w z = tt

  answered_under : (answer : Answer) (line : ℕ) (k : List Pending) (c : CopyOf) (m : Memory) (w : World Byte) → under p c k ≤ limit → IsUnder p limit (answered answer line k c m w)
  unfolding under
  answered_under (Gives v) line k c m w z = z
  answered_under (Fails kind) line k c m w z = tt
  answered_under Strays line k c m w z = tt

  pub used_under : (v : Datum) (line : ℕ) (next : Outcome) → IsUnder p limit next → IsUnder p limit (used v line next)
  unfolding under
  used_under (Number q) line next h = h
  used_under (Pointer x) line next h = h
  used_under Missing line next h = tt

  pub branch_under : (o : Option Bool) (line : ℕ) (first second : Outcome) → IsUnder p limit first → IsUnder p limit second → IsUnder p limit (branch o line first second)
  unfolding under
  branch_under None line first second h g = tt
  branch_under (Some true) line first second h g = h
  branch_under (Some false) line first second h g = g

  truth_under : (o : Option Bool) (line : ℕ) (k : List Pending) (c : CopyOf) (m : Memory) (w : World Byte) → under p c k ≤ limit → IsUnder p limit (truth_given o line k c m w)
  unfolding under
  truth_under None line k c m w z = tt
  truth_under (Some holds) line k c m w z = z

  logical_under : (op : LogicalOp) (left right : Expression) (line : ℕ) (v : Datum) (o : Option Bool) (k : List Pending) (c : CopyOf) (m : Memory) (w : World Byte) → under p c (In (tree.Logical op left right line) Nothing ∷ k) ≤ limit → IsUnder p limit (logical (tree.Logical op left right line) op v o right line k c m w)
  unfolding under
  logical_under op left right line v None k c m w z = tt
  logical_under op left right line v (Some holds) k c m w z = either_under (decides op holds) _ _ z z

  changes_under : (answer : Answer) (e : Expression) (spot : Spot) (keeps : Bool) (old : Datum) (line : ℕ) (k : List Pending) (c : CopyOf) (m : Memory) (w : World Byte) → under p c k ≤ limit → IsUnder p limit (changes answer e spot keeps old line k c m w)
  unfolding under
  changes_under (Gives v) e spot keeps old line k c m w z = z
  changes_under (Fails kind) e spot keeps old line k c m w z = tt
  changes_under Strays e spot keeps old line k c m w z = tt

  pub take_in_under : (s : Setting) (e : Expression) (got : Got) (v : Datum) (k : List Pending) (c : CopyOf) (m : Memory) (w : World Byte) → under p c (In e got ∷ k) ≤ limit → IsUnder p limit (take_in s e got v k c m w)
  unfolding under
  take_in_under s (tree.Convert operand ty line) Nothing v k c m w z = answered_under _ line k c m w z
  take_in_under s (tree.Cast operand ty line) Nothing v k c m w z = answered_under _ line k c m w z
  take_in_under s (tree.Unary op operand ty line) Nothing v k c m w z = answered_under _ line k c m w z
  take_in_under s (tree.Binary op left right ty line) Nothing v k c m w z = z
  take_in_under s (tree.Binary op left right ty line) (One u) v k c m w z = answered_under _ line k c m w z
  take_in_under s (tree.Offset op left right size ty line) Nothing v k c m w z = z
  take_in_under s (tree.Offset op left right size ty line) (One u) v k c m w z = answered_under _ line k c m w z
  take_in_under s (tree.Difference left right size line) Nothing v k c m w z = z
  take_in_under s (tree.Difference left right size line) (One u) v k c m w z = answered_under _ line k c m w z
  take_in_under s (tree.Logical op left right line) Nothing v k c m w z = logical_under op left right line v (truth_of v) k c m w z
  take_in_under s (tree.Logical op left right line) (One u) v k c m w z = truth_under (truth_of v) line k c m w z
  take_in_under s (tree.Conditional condition chosen otherwise ty line) Nothing v k c m w z = branch_under (truth_of v) line _ _ z z
  take_in_under s (tree.Conditional condition chosen otherwise ty line) Chosen v k c m w z = z
  take_in_under s (tree.Comma left right ty line) Nothing v k c m w z = z
  take_in_under s (tree.Assign place value ty line) (At spot) v k c m w z = used_under v line _ z
  take_in_under s (tree.Update op place value operation size ty line) (At spot) v k c m w z = fetching_under spot ty s.program.sizes (In (tree.Update op place value operation size ty line) (AtWith spot v) ∷ k) c m w z
  take_in_under s (tree.Update op place value operation size ty line) (AtWith spot u) v k c m w z = changes_under _ (tree.Update op place value operation size ty line) spot false v line k c m w z
  take_in_under s (tree.Step op place operation size ty line) (At spot) v k c m w z = changes_under _ (tree.Step op place operation size ty line) spot _ v line k c m w z
  take_in_under s (tree.Call g values ty line) (Args before more) v k c m w z = arguments_under g values ty line (before ++ v ∷ []) more k c m w z
  take_in_under s _ _ v k c m w z = tt

  deref_under : (v : Datum) (line : ℕ) (k : List Pending) (c : CopyOf) (m : Memory) (w : World Byte) → under p c k ≤ limit → IsUnder p limit (deref v line k c m w)
  unfolding under
  deref_under (Pointer x) line k c m w z = z
  deref_under (Number q) line k c m w z = tt
  deref_under Missing line k c m w z = tt

  pub take_to_under : (place : Place) (v : Datum) (k : List Pending) (c : CopyOf) (m : Memory) (w : World Byte) → under p c k ≤ limit → IsUnder p limit (take_to place v k c m w)
  unfolding under
  take_to_under (tree.Deref pointer ty line) v k c m w z = deref_under v line k c m w z
  take_to_under _ v k c m w z = tt
