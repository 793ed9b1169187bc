-- Each micro-step keeps what is sure of values: expressions and places.
use Rattle.std.proofs.Common.{◌≡◌, ℕ, inl, inr, Bool, true, false, if◌then◌else◌, List, [], ◌∷◌, ◌++◌, Option, Some, None, refl, ap}
use Rattle.c_ints.specs.declared.operators.BinOp.{BinOp}
use Rattle.c_typed.specs.Sameness.{is_pointer, is_scalar}
use Rattle.c_typed.specs.Trees as tree
use Rattle.c_typed.specs.Trees.{Expression, Expressions, Place, Statement, Program}
use Rattle.c_typed.specs.declared.expression.LogicalOp.{LogicalOp}
use Rattle.c_typed.specs.declared.expression.StepOp.{StepOp}
use Rattle.c_typed.specs.declared.types.Ty.{Ty}
use Rattle.c_typed.specs.declared.types.Ty.TheVariants as types
use Rattle.pic_world.specs.World.{World}
use Rattle.src_rules.proofs.Rules.{IsUpdate, IsStep, update_rule, step_rule, moves_rule}
use Rattle.src_rules.specs.Expressions.{arguments, eval, find, address, takes, found_in, at_member, member_of, found_to, found_for, found}
use Rattle.src_rules.specs.Giving.{answered, used, branch, logical, truth_given, changes, take_in, deref, take_to}
use Rattle.src_rules.specs.Parts.{IsExpressionOf}
use Rattle.src_rules.specs.State.{Outcome}
use Rattle.src_values.specs.Control.{Got, Nothing, Chosen, One, At, AtWith, Args, Stage, AtItem, Pending, In, To, Doing, Before, Returns, Resumes}
use Rattle.src_values.specs.Data.{Datum, Number, Pointer, Missing}
use Rattle.src_values.specs.Memory as source
use Rattle.src_values.specs.Memory.{Setting}
use Rattle.src_values.specs.Objects.{moved}
use Rattle.src_values.specs.Values as answers
use Rattle.src_values.specs.Values.{Answer, truth_of, decides, is_postfix}
use Rattle.src_values.specs.declared.objects.Byte.{Byte}
use Rattle.src_values.specs.declared.objects.CopyOf.{CopyOf}
use Rattle.src_values.specs.declared.objects.Pointer as pointer
use Rattle.src_values.specs.declared.objects.Spot.{Spot}
use Rattle.lower_trace.proofs.CodeLeft.{Scene, source_in}
use Rattle.lower_trace.proofs.Sure.{IsConstantOf, HasBytes, IsThereValue, KeepsSure, StackSure, any_expression, any_value, apart, change_bytes, constant_for, constant_value, fetching_sure, own_constant, some_bytes}

-- ---- what is changed is a number or a pointer
pointer_scalar : (t : Ty) → is_pointer t ≡ true → is_scalar t ≡ true
pointer_scalar types.Void e = absurd (cc)
pointer_scalar (types.Int i) e = absurd (cc)
pointer_scalar (types.Pointer row) e = refl
pointer_scalar (types.Array element length bytes) e = absurd (cc)
pointer_scalar (types.Struct number) e = absurd (cc)

pub updated_scalar : (p : Program) (op : BinOp) (value operation : Ty) (size : ℕ) (ty : Ty) → IsUpdate p op value operation size ty → is_scalar ty ≡ true
updated_scalar p op value operation size types.Void (inl e) = absurd (cc)
updated_scalar p op value operation size (types.Int t) (inl e) = refl
updated_scalar p op value operation size (types.Pointer row) (inl e) = refl
updated_scalar p op value operation size (types.Array element length bytes) (inl e) = absurd (cc)
updated_scalar p op value operation size (types.Struct number) (inl e) = absurd (cc)
updated_scalar p op value operation size ty (inr h) = pointer_scalar ty (moves_rule p ty value size ty h.1).0

pub stepped_scalar : (p : Program) (operation ty : Ty) → IsStep p operation ty → is_scalar ty ≡ true
stepped_scalar p operation types.Void (inl e) = absurd (cc)
stepped_scalar p operation (types.Int t) (inl e) = refl
stepped_scalar p operation (types.Pointer row) (inl e) = refl
stepped_scalar p operation (types.Array element length bytes) (inl e) = absurd (cc)
stepped_scalar p operation (types.Struct number) (inl e) = absurd (cc)
stepped_scalar p operation ty (inr h) = pointer_scalar ty h.1

module _ (z : Scene) where
  pub used_sure : (v : Datum) (line : ℕ) (next : Outcome) → (IsThereValue v → KeepsSure z next) → KeepsSure z (used v line next)
  used_sure Missing line next h = tt
  used_sure (Number q) line next h = h tt
  used_sure (Pointer x) line next h = h tt

  pub branch_sure : (holds : Option Bool) (line : ℕ) (first second : Outcome) → KeepsSure z first → KeepsSure z second → KeepsSure z (branch holds line first second)
  branch_sure None line first second a b = tt
  branch_sure (Some true) line first second a b = a
  branch_sure (Some false) line first second a b = b

  pub either_sure : (b : Bool) (x y : Outcome) → KeepsSure z x → KeepsSure z y → KeepsSure z (if b then x else y)
  either_sure true x y h i = h
  either_sure false x y h i = i

module _ (z : Scene) (c : CopyOf) where
  -- ---- expressions begin
  arguments_sure : (function : ℕ) (all : Expressions) (ty : Ty) (line : ℕ) (values : List Datum) (more : Expressions) (k : List Pending) (m : source.Memory) (w : World Byte) → constant_for k ≡ None → StackSure z c k → KeepsSure z (arguments (tree.Call function all ty line) values more k c m w)
  arguments_sure function all ty line values tree.NoExpression k m w none st = (tt, (none, st))
  arguments_sure function all ty line values (tree.AndExpression argument more) k m w none st = (tt, (none, st))

  pub eval_sure : (e : Expression) (k : List Pending) (m : source.Memory) (w : World Byte) → IsConstantOf (constant_for k) e → StackSure z c k → KeepsSure z (eval e k c m w)
  eval_sure (tree.Constant value line) k m w h st = (constant_value (constant_for k) value line h, st)
  eval_sure (tree.Read place ty line) k m w h st = (tt, (apart (constant_for k) (tree.Read place ty line) refl h, st))
  eval_sure (tree.Address place ty line) k m w h st = (tt, (apart (constant_for k) (tree.Address place ty line) refl h, st))
  eval_sure (tree.Convert operand ty line) k m w h st = (own_constant operand, (apart (constant_for k) (tree.Convert operand ty line) refl h, st))
  eval_sure (tree.Cast operand ty line) k m w h st = (own_constant operand, (apart (constant_for k) (tree.Cast operand ty line) refl h, st))
  eval_sure (tree.Unary op operand ty line) k m w h st = (tt, (apart (constant_for k) (tree.Unary op operand ty line) refl h, st))
  eval_sure (tree.Binary op left right ty line) k m w h st = (tt, (apart (constant_for k) (tree.Binary op left right ty line) refl h, st))
  eval_sure (tree.Offset op left right size ty line) k m w h st = (tt, (apart (constant_for k) (tree.Offset op left right size ty line) refl h, st))
  eval_sure (tree.Difference left right size line) k m w h st = (tt, (apart (constant_for k) (tree.Difference left right size line) refl h, st))
  eval_sure (tree.Logical op left right line) k m w h st = (tt, (apart (constant_for k) (tree.Logical op left right line) refl h, st))
  eval_sure (tree.Conditional condition chosen otherwise ty line) k m w h st = (tt, (apart (constant_for k) (tree.Conditional condition chosen otherwise ty line) refl h, st))
  eval_sure (tree.Comma left right ty line) k m w h st = (tt, (apart (constant_for k) (tree.Comma left right ty line) refl h, st))
  eval_sure (tree.Assign place value ty line) k m w h st = (tt, (apart (constant_for k) (tree.Assign place value ty line) refl h, st))
  eval_sure (tree.StructAssign place from size line) k m w h st = (tt, (apart (constant_for k) (tree.StructAssign place from size line) refl h, st))
  eval_sure (tree.Update op place value operation size ty line) k m w h st = (tt, (apart (constant_for k) (tree.Update op place value operation size ty line) refl h, st))
  eval_sure (tree.Step op place operation size ty line) k m w h st = (tt, (apart (constant_for k) (tree.Step op place operation size ty line) refl h, st))
  eval_sure (tree.Call function all ty line) k m w h st = arguments_sure function all ty line [] all k m w (apart (constant_for k) (tree.Call function all ty line) refl h) st

  pub find_sure : (s : Setting) (place : Place) (k : List Pending) (m : source.Memory) (w : World Byte) → StackSure z c k → KeepsSure z (find s place k c m w)
  find_sure s (tree.Name object ty line) k m w st = (tt, st)
  find_sure s (tree.Bit register number line) k m w st = (tt, st)
  find_sure s (tree.Member whole member offset ty line) k m w st = (tt, st)
  find_sure s (tree.Deref pointer ty line) k m w st = (tt, st)

  -- ---- a place was found
  takes_sure : (x : Option pointer.Pointer) (k : List Pending) (m : source.Memory) (w : World Byte) → constant_for k ≡ None → StackSure z c k → KeepsSure z (takes x k c m w)
  takes_sure (Some x) k m w none st = (any_value (constant_for k) (Pointer x) none, st)
  takes_sure None k m w none st = tt

  found_in_sure : (e : Expression) (got : Got) (spot : Spot) (k : List Pending) (m : source.Memory) (w : World Byte) → constant_for k ≡ None → StackSure z c k → KeepsSure z (found_in (source_in z) e got spot k c m w)
  found_in_sure (tree.Read place ty line) Nothing spot k m w none st = (fetching_sure spot ty z.program.sizes (In (tree.Read place ty line) (At spot) ∷ k) refl refl, (none, st))
  found_in_sure (tree.Address place ty line) Nothing spot k m w none st = takes_sure (address spot) k m w none st
  found_in_sure (tree.Assign place value ty line) Nothing spot k m w none st = (tt, (none, st))
  found_in_sure (tree.StructAssign place from size line) Nothing spot k m w none st = (tt, (none, st))
  found_in_sure (tree.StructAssign place from size line) (At to) spot k m w none st = (tt, (none, st))
  found_in_sure (tree.Update op place value operation size ty line) Nothing spot k m w none st = (tt, (none, st))
  found_in_sure (tree.Step op place operation size ty line) Nothing spot k m w none st = (fetching_sure spot ty z.program.sizes (In (tree.Step op place operation size ty line) (At spot) ∷ k) refl refl, (none, st))
  found_in_sure _ _ spot k m w none st = tt

  at_member_sure : (x : Option pointer.Pointer) (line : ℕ) (k : List Pending) (m : source.Memory) (w : World Byte) → StackSure z c k → KeepsSure z (at_member x line k c m w)
  at_member_sure (Some x) line k m w st = (tt, st)
  at_member_sure None line k m w st = tt

  member_of_sure : (x : Option pointer.Pointer) (offset line : ℕ) (k : List Pending) (m : source.Memory) (w : World Byte) → StackSure z c k → KeepsSure z (member_of (source_in z) x offset line k c m w)
  member_of_sure (Some x) offset line k m w st = at_member_sure (moved z.program x _) line k m w st
  member_of_sure None offset line k m w st = tt

  found_to_sure : (place : Place) (spot : Spot) (k : List Pending) (m : source.Memory) (w : World Byte) → StackSure z c k → KeepsSure z (found_to (source_in z) place spot k c m w)
  found_to_sure (tree.Member whole member offset ty line) spot k m w st = member_of_sure (address spot) offset line k m w st
  found_to_sure _ spot k m w st = tt

  found_for_sure : (t : Statement) (stage : Stage) (spot : Spot) (k : List Pending) (m : source.Memory) (w : World Byte) → StackSure z c (Doing t stage ∷ k) → KeepsSure z (found_for (source_in z) t stage spot k c m w)
  found_for_sure (tree.InitList local all line) (AtItem (tree.Struct offset from size) rest) spot k m w st = (tt, st)
  found_for_sure _ _ spot k m w st = tt

  pub found_sure : (spot : Spot) (k : List Pending) (m : source.Memory) (w : World Byte) → StackSure z c k → KeepsSure z (found (source_in z) spot k c m w)
  found_sure spot [] m w st = tt
  found_sure spot (In e got ∷ k) m w st = found_in_sure e got spot k m w st.0 st.1
  found_sure spot (To place ∷ k) m w st = found_to_sure place spot k m w st
  found_sure spot (Doing t stage ∷ k) m w st = found_for_sure t stage spot k m w st
  found_sure spot (Before ss ∷ k) m w st = tt
  found_sure spot (Returns d ∷ k) m w st = tt
  found_sure spot (Resumes d x ∷ k) m w st = tt

  -- ---- values
  answered_sure : (a : Answer) (line : ℕ) (k : List Pending) (m : source.Memory) (w : World Byte) → constant_for k ≡ None → StackSure z c k → KeepsSure z (answered a line k c m w)
  answered_sure (answers.Gives v) line k m w none st = (any_value (constant_for k) v none, st)
  answered_sure (answers.Fails kind) line k m w none st = tt
  answered_sure answers.Strays line k m w none st = tt

  logical_sure : (op : LogicalOp) (v : Datum) (holds : Option Bool) (left right : Expression) (line : ℕ) (k : List Pending) (m : source.Memory) (w : World Byte) → constant_for k ≡ None → StackSure z c k → KeepsSure z (logical (tree.Logical op left right line) op v holds right line k c m w)
  logical_sure op v None left right line k m w none st = tt
  logical_sure op v (Some holds) left right line k m w none st = either_sure z (decides op holds) _ _ (any_value (constant_for k) _ none, st) (tt, (none, st))

  truth_sure : (holds : Option Bool) (line : ℕ) (k : List Pending) (m : source.Memory) (w : World Byte) → constant_for k ≡ None → StackSure z c k → KeepsSure z (truth_given holds line k c m w)
  truth_sure None line k m w none st = tt
  truth_sure (Some holds) line k m w none st = (any_value (constant_for k) _ none, st)

  update_sure : (a : Answer) (op : BinOp) (place : Place) (value : Expression) (operation : Ty) (size : ℕ) (ty : Ty) (at : ℕ) (spot : Spot) (old : Datum) (line : ℕ) (k : List Pending) (m : source.Memory) (w : World Byte) → HasBytes a → constant_for k ≡ None → StackSure z c k
      → KeepsSure z (changes a (tree.Update op place value operation size ty at) spot false old line k c m w)
  update_sure (answers.Gives v) op place value operation size ty at spot old line k m w some none st = ((some, refl), (none, st))
  update_sure (answers.Fails kind) op place value operation size ty at spot old line k m w some none st = tt
  update_sure answers.Strays op place value operation size ty at spot old line k m w some none st = tt

  step_sure : (a : Answer) (op : StepOp) (place : Place) (operation : Ty) (size : ℕ) (ty : Ty) (at : ℕ) (spot : Spot) (old : Datum) (line : ℕ) (k : List Pending) (m : source.Memory) (w : World Byte) → HasBytes a → constant_for k ≡ None → StackSure z c k
      → KeepsSure z (changes a (tree.Step op place operation size ty at) spot (is_postfix op) old line k c m w)
  step_sure (answers.Gives v) op place operation size ty at spot old line k m w some none st = ((some, λ e. ap (λ b. if b then old else v) e), (none, st))
  step_sure (answers.Fails kind) op place operation size ty at spot old line k m w some none st = tt
  step_sure answers.Strays op place operation size ty at spot old line k m w some none st = tt

  pub take_in_sure : (e : Expression) (got : Got) (v : Datum) (k : List Pending) (m : source.Memory) (w : World Byte) → IsExpressionOf z.program c.function e → constant_for k ≡ None → StackSure z c k → KeepsSure z (take_in (source_in z) e got v k c m w)
  take_in_sure (tree.Convert operand ty line) Nothing v k m w h none st = answered_sure _ line k m w none st
  take_in_sure (tree.Cast operand ty line) Nothing v k m w h none st = answered_sure _ line k m w none st
  take_in_sure (tree.Unary op operand ty line) Nothing v k m w h none st = answered_sure _ line k m w none st
  take_in_sure (tree.Binary op left right ty line) Nothing v k m w h none st = (tt, (none, st))
  take_in_sure (tree.Binary op left right ty line) (One u) v k m w h none st = answered_sure _ line k m w none st
  take_in_sure (tree.Offset op left right size ty line) Nothing v k m w h none st = (tt, (none, st))
  take_in_sure (tree.Offset op left right size ty line) (One u) v k m w h none st = answered_sure _ line k m w none st
  take_in_sure (tree.Difference left right size line) Nothing v k m w h none st = (tt, (none, st))
  take_in_sure (tree.Difference left right size line) (One u) v k m w h none st = answered_sure _ line k m w none st
  take_in_sure (tree.Logical op left right line) Nothing v k m w h none st = logical_sure op v (truth_of v) left right line k m w none st
  take_in_sure (tree.Logical op left right line) (One u) v k m w h none st = truth_sure (truth_of v) line k m w none st
  take_in_sure (tree.Conditional condition chosen otherwise ty line) Nothing v k m w h none st = branch_sure z (truth_of v) line _ _ (tt, (none, st)) (tt, (none, st))
  take_in_sure (tree.Conditional condition chosen otherwise ty line) Chosen v k m w h none st = (any_value (constant_for k) v none, st)
  take_in_sure (tree.Comma left right ty line) Nothing v k m w h none st = (any_expression (constant_for k) right none, st)
  take_in_sure (tree.Assign place value ty line) (At spot) v k m w h none st = used_sure z v line _ (λ some. ((some_bytes v some, refl), (none, st)))
  take_in_sure (tree.Update op place value operation size ty line) (At spot) v k m w h none st = (fetching_sure spot ty z.program.sizes (In (tree.Update op place value operation size ty line) (AtWith spot v) ∷ k) refl refl, (none, st))
  take_in_sure (tree.Update op place value operation size ty line) (AtWith spot u) v k m w h none st =
      update_sure _ op place value operation size ty line spot v line k m w (change_bytes z.program _ op operation size ty v u (updated_scalar z.program op _ operation size ty (update_rule z.program op place value operation size ty line h.0).1)) none st
  take_in_sure (tree.Step op place operation size ty line) (At spot) v k m w h none st =
      step_sure _ op place operation size ty line spot v line k m w (change_bytes z.program _ _ operation size ty v _ (stepped_scalar z.program operation ty (step_rule z.program op place operation size ty line h.0).1)) none st
  take_in_sure (tree.Call function all ty line) (Args before more) v k m w h none st = arguments_sure function all ty line (before ++ v ∷ []) more k m w none st
  take_in_sure _ _ v k m w h none st = tt

  deref_sure : (v : Datum) (line : ℕ) (k : List Pending) (m : source.Memory) (w : World Byte) → StackSure z c k → KeepsSure z (deref v line k c m w)
  deref_sure (Pointer x) line k m w st = (tt, st)
  deref_sure (Number q) line k m w st = tt
  deref_sure Missing line k m w st = tt

  pub take_to_sure : (place : Place) (v : Datum) (k : List Pending) (m : source.Memory) (w : World Byte) → StackSure z c k → KeepsSure z (take_to place v k c m w)
  take_to_sure (tree.Deref pointer ty line) v k m w st = deref_sure v line k m w st
  take_to_sure _ v k m w st = tt
