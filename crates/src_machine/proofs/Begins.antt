-- How each expression begins, of the trees that the code has.
use Rattle.std.proofs.Common.{◌≡◌, List, [], ◌∷◌, map, refl, sym, subst, ap}
use Rattle.c_typed.proofs.Shapes.{show_expression_read, show_expression_address, show_expression_assign, show_expression_struct_assign, show_expression_update, show_expression_step, show_expression_convert, show_expression_cast, show_expression_unary, show_expression_binary, show_expression_offset, show_expression_difference, show_expression_logical, show_expression_comma, show_expression_conditional, show_expression_constant, show_expression_call}
use Rattle.c_typed.specs.Views.{expression_of, place_of, arguments_of}
use Rattle.c_typed.specs.declared.expression.TExpr.TheVariants as TExpr
use Rattle.pic_world.specs.World.{World}
use Rattle.src_rules.specs.Accesses.{goes}
use Rattle.src_rules.specs.Expressions.{eval, arguments}
use Rattle.src_values.specs.Control.{Eval, Find, Holds, Nothing, Pending, In}
use Rattle.src_values.specs.Data.{Number}
use Rattle.src_values.specs.Memory.{Memory}
use Rattle.src_values.specs.declared.objects.Byte.{Byte}
use Rattle.src_values.specs.declared.objects.CopyOf.{CopyOf}

pub eval_read : (place : _) (ty : _) (line : _) (k : List Pending) (c : CopyOf) (m : Memory) (w : World Byte) → eval (expression_of (TExpr.Read place ty line)) k c m w ≡ goes c (Find (place_of place.value)) (In (expression_of (TExpr.Read place ty line)) Nothing ∷ k) m w
eval_read place ty line k c m w = subst (λ e. eval e k c m w ≡ goes c (Find (place_of place.value)) (In e Nothing ∷ k) m w) (sym (show_expression_read place ty line)) refl

pub eval_address : (place : _) (ty : _) (line : _) (k : List Pending) (c : CopyOf) (m : Memory) (w : World Byte) → eval (expression_of (TExpr.Address place ty line)) k c m w ≡ goes c (Find (place_of place.value)) (In (expression_of (TExpr.Address place ty line)) Nothing ∷ k) m w
eval_address place ty line k c m w = subst (λ e. eval e k c m w ≡ goes c (Find (place_of place.value)) (In e Nothing ∷ k) m w) (sym (show_expression_address place ty line)) refl

pub eval_assign : (place : _) (value : _) (ty : _) (line : _) (k : List Pending) (c : CopyOf) (m : Memory) (w : World Byte) → eval (expression_of (TExpr.Assign place value ty line)) k c m w ≡ goes c (Find (place_of place.value)) (In (expression_of (TExpr.Assign place value ty line)) Nothing ∷ k) m w
eval_assign place value ty line k c m w = subst (λ e. eval e k c m w ≡ goes c (Find (place_of place.value)) (In e Nothing ∷ k) m w) (sym (show_expression_assign place value ty line)) refl

pub eval_struct_assign : (place : _) (from : _) (size : _) (line : _) (k : List Pending) (c : CopyOf) (m : Memory) (w : World Byte) → eval (expression_of (TExpr.StructAssign place from size line)) k c m w ≡ goes c (Find (place_of place.value)) (In (expression_of (TExpr.StructAssign place from size line)) Nothing ∷ k) m w
eval_struct_assign place from size line k c m w = subst (λ e. eval e k c m w ≡ goes c (Find (place_of place.value)) (In e Nothing ∷ k) m w) (sym (show_expression_struct_assign place from size line)) refl

pub eval_update : (op : _) (place : _) (value : _) (operation : _) (size : _) (ty : _) (line : _) (k : List Pending) (c : CopyOf) (m : Memory) (w : World Byte) → eval (expression_of (TExpr.Update op place value operation size ty line)) k c m w ≡ goes c (Find (place_of place.value)) (In (expression_of (TExpr.Update op place value operation size ty line)) Nothing ∷ k) m w
eval_update op place value operation size ty line k c m w = subst (λ e. eval e k c m w ≡ goes c (Find (place_of place.value)) (In e Nothing ∷ k) m w) (sym (show_expression_update op place value operation size ty line)) refl

pub eval_step : (op : _) (place : _) (operation : _) (size : _) (ty : _) (line : _) (k : List Pending) (c : CopyOf) (m : Memory) (w : World Byte) → eval (expression_of (TExpr.Step op place operation size ty line)) k c m w ≡ goes c (Find (place_of place.value)) (In (expression_of (TExpr.Step op place operation size ty line)) Nothing ∷ k) m w
eval_step op place operation size ty line k c m w = subst (λ e. eval e k c m w ≡ goes c (Find (place_of place.value)) (In e Nothing ∷ k) m w) (sym (show_expression_step op place operation size ty line)) refl

pub eval_convert : (operand : _) (ty : _) (line : _) (k : List Pending) (c : CopyOf) (m : Memory) (w : World Byte) → eval (expression_of (TExpr.Convert operand ty line)) k c m w ≡ goes c (Eval (expression_of operand.value)) (In (expression_of (TExpr.Convert operand ty line)) Nothing ∷ k) m w
eval_convert operand ty line k c m w = subst (λ e. eval e k c m w ≡ goes c (Eval (expression_of operand.value)) (In e Nothing ∷ k) m w) (sym (show_expression_convert operand ty line)) refl

pub eval_cast : (operand : _) (ty : _) (line : _) (k : List Pending) (c : CopyOf) (m : Memory) (w : World Byte) → eval (expression_of (TExpr.Cast operand ty line)) k c m w ≡ goes c (Eval (expression_of operand.value)) (In (expression_of (TExpr.Cast operand ty line)) Nothing ∷ k) m w
eval_cast operand ty line k c m w = subst (λ e. eval e k c m w ≡ goes c (Eval (expression_of operand.value)) (In e Nothing ∷ k) m w) (sym (show_expression_cast operand ty line)) refl

pub eval_unary : (op : _) (operand : _) (ty : _) (line : _) (k : List Pending) (c : CopyOf) (m : Memory) (w : World Byte) → eval (expression_of (TExpr.Unary op operand ty line)) k c m w ≡ goes c (Eval (expression_of operand.value)) (In (expression_of (TExpr.Unary op operand ty line)) Nothing ∷ k) m w
eval_unary op operand ty line k c m w = subst (λ e. eval e k c m w ≡ goes c (Eval (expression_of operand.value)) (In e Nothing ∷ k) m w) (sym (show_expression_unary op operand ty line)) refl

pub eval_binary : (op : _) (left : _) (right : _) (ty : _) (line : _) (k : List Pending) (c : CopyOf) (m : Memory) (w : World Byte) → eval (expression_of (TExpr.Binary op left right ty line)) k c m w ≡ goes c (Eval (expression_of left.value)) (In (expression_of (TExpr.Binary op left right ty line)) Nothing ∷ k) m w
eval_binary op left right ty line k c m w = subst (λ e. eval e k c m w ≡ goes c (Eval (expression_of left.value)) (In e Nothing ∷ k) m w) (sym (show_expression_binary op left right ty line)) refl

pub eval_offset : (op : _) (left : _) (right : _) (size : _) (ty : _) (line : _) (k : List Pending) (c : CopyOf) (m : Memory) (w : World Byte) → eval (expression_of (TExpr.Offset op left right size ty line)) k c m w ≡ goes c (Eval (expression_of left.value)) (In (expression_of (TExpr.Offset op left right size ty line)) Nothing ∷ k) m w
eval_offset op left right size ty line k c m w = subst (λ e. eval e k c m w ≡ goes c (Eval (expression_of left.value)) (In e Nothing ∷ k) m w) (sym (show_expression_offset op left right size ty line)) refl

pub eval_difference : (left : _) (right : _) (size : _) (line : _) (k : List Pending) (c : CopyOf) (m : Memory) (w : World Byte) → eval (expression_of (TExpr.Difference left right size line)) k c m w ≡ goes c (Eval (expression_of left.value)) (In (expression_of (TExpr.Difference left right size line)) Nothing ∷ k) m w
eval_difference left right size line k c m w = subst (λ e. eval e k c m w ≡ goes c (Eval (expression_of left.value)) (In e Nothing ∷ k) m w) (sym (show_expression_difference left right size line)) refl

pub eval_logical : (op : _) (left : _) (right : _) (line : _) (k : List Pending) (c : CopyOf) (m : Memory) (w : World Byte) → eval (expression_of (TExpr.Logical op left right line)) k c m w ≡ goes c (Eval (expression_of left.value)) (In (expression_of (TExpr.Logical op left right line)) Nothing ∷ k) m w
eval_logical op left right line k c m w = subst (λ e. eval e k c m w ≡ goes c (Eval (expression_of left.value)) (In e Nothing ∷ k) m w) (sym (show_expression_logical op left right line)) refl

pub eval_comma : (left : _) (right : _) (ty : _) (line : _) (k : List Pending) (c : CopyOf) (m : Memory) (w : World Byte) → eval (expression_of (TExpr.Comma left right ty line)) k c m w ≡ goes c (Eval (expression_of left.value)) (In (expression_of (TExpr.Comma left right ty line)) Nothing ∷ k) m w
eval_comma left right ty line k c m w = subst (λ e. eval e k c m w ≡ goes c (Eval (expression_of left.value)) (In e Nothing ∷ k) m w) (sym (show_expression_comma left right ty line)) refl

pub eval_conditional : (condition : _) (chosen : _) (otherwise : _) (ty : _) (line : _) (k : List Pending) (c : CopyOf) (m : Memory) (w : World Byte) → eval (expression_of (TExpr.Conditional condition chosen otherwise ty line)) k c m w ≡ goes c (Eval (expression_of condition.value)) (In (expression_of (TExpr.Conditional condition chosen otherwise ty line)) Nothing ∷ k) m w
eval_conditional condition chosen otherwise ty line k c m w = subst (λ e. eval e k c m w ≡ goes c (Eval (expression_of condition.value)) (In e Nothing ∷ k) m w) (sym (show_expression_conditional condition chosen otherwise ty line)) refl

pub eval_constant : (value : _) (line : _) (k : List Pending) (c : CopyOf) (m : Memory) (w : World Byte) → eval (expression_of (TExpr.Constant value line)) k c m w ≡ goes c (Holds (Number value)) k m w
eval_constant value line k c m w = ap (λ e. eval e k c m w) (show_expression_constant value line)

pub eval_call : (function : _) (given : _) (ty : _) (line : _) (k : List Pending) (c : CopyOf) (m : Memory) (w : World Byte) → eval (expression_of (TExpr.Call function given ty line)) k c m w ≡ arguments (expression_of (TExpr.Call function given ty line)) [] (arguments_of (map expression_of given.items)) k c m w
eval_call function given ty line k c m w = subst (λ e. eval e k c m w ≡ arguments e [] (arguments_of (map expression_of given.items)) k c m w) (sym (show_expression_call function given ty line)) refl

pub ruleset begins = (eval_read, eval_address, eval_assign, eval_struct_assign, eval_update, eval_step, eval_convert, eval_cast, eval_unary, eval_binary, eval_offset, eval_difference, eval_logical, eval_comma, eval_conditional, eval_constant)
