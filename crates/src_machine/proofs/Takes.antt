-- What each expression does with the value of a part, of the trees that the code has.
use Rattle.std.proofs.Common.{◌≡◌, false, List, [], ◌∷◌, ◌++◌, refl, sym, subst, ap}
use Rattle.c_typed.proofs.Shapes.{show_expression_constant, show_expression_read, show_expression_address, show_expression_convert, show_expression_cast, show_expression_unary, show_expression_binary, show_expression_offset, show_expression_difference, show_expression_logical, show_expression_conditional, show_expression_comma, show_expression_assign, show_expression_struct_assign, show_expression_update, show_expression_step, show_expression_call}
use Rattle.c_typed.specs.Trees as tree
use Rattle.c_typed.specs.Trees.{Expression, Expressions}
use Rattle.c_typed.specs.Views.{expression_of}
use Rattle.c_typed.specs.Words.{step_operator}
use Rattle.c_typed.specs.declared.expression.TExpr.TheVariants as TExpr
use Rattle.pic_world.specs.World.{World}
use Rattle.src_rules.specs.Accesses.{goes, fetching}
use Rattle.src_rules.specs.Expressions.{arguments}
use Rattle.src_rules.specs.Giving.{take_in, answered, logical, truth_given, branch, used, changes}
use Rattle.src_rules.specs.State.{Lost}
use Rattle.src_values.specs.Control.{Eval, Holds, Write, Nothing, Chosen, One, At, AtWith, Stores, Copies, Args, Passed, Called, Pending, In, active}
use Rattle.src_values.specs.Data.{Datum}
use Rattle.src_values.specs.Memory.{Setting, Memory}
use Rattle.src_values.specs.Values.{converted, unary_answer, binary_answer, offset_answer, difference_answer, change_answer, truth_of, one_in, is_postfix}
use Rattle.src_values.specs.declared.objects.Byte.{Byte}
use Rattle.src_values.specs.declared.objects.CopyOf.{CopyOf}
use Rattle.src_values.specs.declared.objects.Spot.{Spot}

pub first_constant : (s : Setting) (value : _) (line : _) (v : Datum) (k : List Pending) (c : CopyOf) (m : Memory) (w : World Byte) → take_in s (expression_of (TExpr.Constant value line)) Nothing v k c m w ≡ Lost
first_constant s value line v k c m w = ap (λ e. take_in s e Nothing v k c m w) (show_expression_constant value line)

pub first_read : (s : Setting) (place : _) (ty : _) (line : _) (v : Datum) (k : List Pending) (c : CopyOf) (m : Memory) (w : World Byte) → take_in s (expression_of (TExpr.Read place ty line)) Nothing v k c m w ≡ Lost
first_read s place ty line v k c m w = ap (λ e. take_in s e Nothing v k c m w) (show_expression_read place ty line)

pub first_address : (s : Setting) (place : _) (ty : _) (line : _) (v : Datum) (k : List Pending) (c : CopyOf) (m : Memory) (w : World Byte) → take_in s (expression_of (TExpr.Address place ty line)) Nothing v k c m w ≡ Lost
first_address s place ty line v k c m w = ap (λ e. take_in s e Nothing v k c m w) (show_expression_address place ty line)

pub first_convert : (s : Setting) (operand : _) (ty : _) (line : _) (v : Datum) (k : List Pending) (c : CopyOf) (m : Memory) (w : World Byte) → take_in s (expression_of (TExpr.Convert operand ty line)) Nothing v k c m w ≡ answered (converted ty v) line k c m w
first_convert s operand ty line v k c m w = subst (λ e. take_in s e Nothing v k c m w ≡ answered (converted ty v) line k c m w) (sym (show_expression_convert operand ty line)) refl

pub first_cast : (s : Setting) (operand : _) (ty : _) (line : _) (v : Datum) (k : List Pending) (c : CopyOf) (m : Memory) (w : World Byte) → take_in s (expression_of (TExpr.Cast operand ty line)) Nothing v k c m w ≡ answered (converted ty v) line k c m w
first_cast s operand ty line v k c m w = subst (λ e. take_in s e Nothing v k c m w ≡ answered (converted ty v) line k c m w) (sym (show_expression_cast operand ty line)) refl

pub first_unary : (s : Setting) (op : _) (operand : _) (ty : _) (line : _) (v : Datum) (k : List Pending) (c : CopyOf) (m : Memory) (w : World Byte) → take_in s (expression_of (TExpr.Unary op operand ty line)) Nothing v k c m w ≡ answered (unary_answer op v) line k c m w
first_unary s op operand ty line v k c m w = subst (λ e. take_in s e Nothing v k c m w ≡ answered (unary_answer op v) line k c m w) (sym (show_expression_unary op operand ty line)) refl

pub first_binary : (s : Setting) (op : _) (left : _) (right : _) (ty : _) (line : _) (v : Datum) (k : List Pending) (c : CopyOf) (m : Memory) (w : World Byte) → take_in s (expression_of (TExpr.Binary op left right ty line)) Nothing v k c m w ≡ goes c (Eval (expression_of right.value)) (In (expression_of (TExpr.Binary op left right ty line)) (One v) ∷ k) m w
first_binary s op left right ty line v k c m w = subst (λ e. take_in s e Nothing v k c m w ≡ goes c (Eval (expression_of right.value)) (In e (One v) ∷ k) m w) (sym (show_expression_binary op left right ty line)) refl

pub first_offset : (s : Setting) (op : _) (left : _) (right : _) (size : _) (ty : _) (line : _) (v : Datum) (k : List Pending) (c : CopyOf) (m : Memory) (w : World Byte) → take_in s (expression_of (TExpr.Offset op left right size ty line)) Nothing v k c m w ≡ goes c (Eval (expression_of right.value)) (In (expression_of (TExpr.Offset op left right size ty line)) (One v) ∷ k) m w
first_offset s op left right size ty line v k c m w = subst (λ e. take_in s e Nothing v k c m w ≡ goes c (Eval (expression_of right.value)) (In e (One v) ∷ k) m w) (sym (show_expression_offset op left right size ty line)) refl

pub first_difference : (s : Setting) (left : _) (right : _) (size : _) (line : _) (v : Datum) (k : List Pending) (c : CopyOf) (m : Memory) (w : World Byte) → take_in s (expression_of (TExpr.Difference left right size line)) Nothing v k c m w ≡ goes c (Eval (expression_of right.value)) (In (expression_of (TExpr.Difference left right size line)) (One v) ∷ k) m w
first_difference s left right size line v k c m w = subst (λ e. take_in s e Nothing v k c m w ≡ goes c (Eval (expression_of right.value)) (In e (One v) ∷ k) m w) (sym (show_expression_difference left right size line)) refl

pub first_logical : (s : Setting) (op : _) (left : _) (right : _) (line : _) (v : Datum) (k : List Pending) (c : CopyOf) (m : Memory) (w : World Byte) → take_in s (expression_of (TExpr.Logical op left right line)) Nothing v k c m w ≡ logical (expression_of (TExpr.Logical op left right line)) op v (truth_of v) (expression_of right.value) line k c m w
first_logical s op left right line v k c m w = subst (λ e. take_in s e Nothing v k c m w ≡ logical e op v (truth_of v) (expression_of right.value) line k c m w) (sym (show_expression_logical op left right line)) refl

pub first_conditional : (s : Setting) (condition : _) (chosen : _) (otherwise : _) (ty : _) (line : _) (v : Datum) (k : List Pending) (c : CopyOf) (m : Memory) (w : World Byte) → take_in s (expression_of (TExpr.Conditional condition chosen otherwise ty line)) Nothing v k c m w ≡ branch (truth_of v) line (goes c (Eval (expression_of chosen.value)) (In (expression_of (TExpr.Conditional condition chosen otherwise ty line)) Chosen ∷ k) m w) (goes c (Eval (expression_of otherwise.value)) (In (expression_of (TExpr.Conditional condition chosen otherwise ty line)) Chosen ∷ k) m w)
first_conditional s condition chosen otherwise ty line v k c m w = subst (λ e. take_in s e Nothing v k c m w ≡ branch (truth_of v) line (goes c (Eval (expression_of chosen.value)) (In e Chosen ∷ k) m w) (goes c (Eval (expression_of otherwise.value)) (In e Chosen ∷ k) m w)) (sym (show_expression_conditional condition chosen otherwise ty line)) refl

pub first_comma : (s : Setting) (left : _) (right : _) (ty : _) (line : _) (v : Datum) (k : List Pending) (c : CopyOf) (m : Memory) (w : World Byte) → take_in s (expression_of (TExpr.Comma left right ty line)) Nothing v k c m w ≡ goes c (Eval (expression_of right.value)) k m w
first_comma s left right ty line v k c m w = subst (λ e. take_in s e Nothing v k c m w ≡ goes c (Eval (expression_of right.value)) k m w) (sym (show_expression_comma left right ty line)) refl

pub first_assign : (s : Setting) (place : _) (value : _) (ty : _) (line : _) (v : Datum) (k : List Pending) (c : CopyOf) (m : Memory) (w : World Byte) → take_in s (expression_of (TExpr.Assign place value ty line)) Nothing v k c m w ≡ Lost
first_assign s place value ty line v k c m w = ap (λ e. take_in s e Nothing v k c m w) (show_expression_assign place value ty line)

pub first_struct_assign : (s : Setting) (place : _) (from : _) (size : _) (line : _) (v : Datum) (k : List Pending) (c : CopyOf) (m : Memory) (w : World Byte) → take_in s (expression_of (TExpr.StructAssign place from size line)) Nothing v k c m w ≡ Lost
first_struct_assign s place from size line v k c m w = ap (λ e. take_in s e Nothing v k c m w) (show_expression_struct_assign place from size line)

pub first_update : (s : Setting) (op : _) (place : _) (value : _) (operation : _) (size : _) (ty : _) (line : _) (v : Datum) (k : List Pending) (c : CopyOf) (m : Memory) (w : World Byte) → take_in s (expression_of (TExpr.Update op place value operation size ty line)) Nothing v k c m w ≡ Lost
first_update s op place value operation size ty line v k c m w = ap (λ e. take_in s e Nothing v k c m w) (show_expression_update op place value operation size ty line)

pub first_step : (s : Setting) (op : _) (place : _) (operation : _) (size : _) (ty : _) (line : _) (v : Datum) (k : List Pending) (c : CopyOf) (m : Memory) (w : World Byte) → take_in s (expression_of (TExpr.Step op place operation size ty line)) Nothing v k c m w ≡ Lost
first_step s op place operation size ty line v k c m w = ap (λ e. take_in s e Nothing v k c m w) (show_expression_step op place operation size ty line)

pub first_call : (s : Setting) (function : _) (given : _) (ty : _) (line : _) (v : Datum) (k : List Pending) (c : CopyOf) (m : Memory) (w : World Byte) → take_in s (expression_of (TExpr.Call function given ty line)) Nothing v k c m w ≡ Lost
first_call s function given ty line v k c m w = ap (λ e. take_in s e Nothing v k c m w) (show_expression_call function given ty line)

pub chosen_constant : (s : Setting) (value : _) (line : _) (v : Datum) (k : List Pending) (c : CopyOf) (m : Memory) (w : World Byte) → take_in s (expression_of (TExpr.Constant value line)) Chosen v k c m w ≡ Lost
chosen_constant s value line v k c m w = ap (λ e. take_in s e Chosen v k c m w) (show_expression_constant value line)

pub chosen_read : (s : Setting) (place : _) (ty : _) (line : _) (v : Datum) (k : List Pending) (c : CopyOf) (m : Memory) (w : World Byte) → take_in s (expression_of (TExpr.Read place ty line)) Chosen v k c m w ≡ Lost
chosen_read s place ty line v k c m w = ap (λ e. take_in s e Chosen v k c m w) (show_expression_read place ty line)

pub chosen_address : (s : Setting) (place : _) (ty : _) (line : _) (v : Datum) (k : List Pending) (c : CopyOf) (m : Memory) (w : World Byte) → take_in s (expression_of (TExpr.Address place ty line)) Chosen v k c m w ≡ Lost
chosen_address s place ty line v k c m w = ap (λ e. take_in s e Chosen v k c m w) (show_expression_address place ty line)

pub chosen_convert : (s : Setting) (operand : _) (ty : _) (line : _) (v : Datum) (k : List Pending) (c : CopyOf) (m : Memory) (w : World Byte) → take_in s (expression_of (TExpr.Convert operand ty line)) Chosen v k c m w ≡ Lost
chosen_convert s operand ty line v k c m w = ap (λ e. take_in s e Chosen v k c m w) (show_expression_convert operand ty line)

pub chosen_cast : (s : Setting) (operand : _) (ty : _) (line : _) (v : Datum) (k : List Pending) (c : CopyOf) (m : Memory) (w : World Byte) → take_in s (expression_of (TExpr.Cast operand ty line)) Chosen v k c m w ≡ Lost
chosen_cast s operand ty line v k c m w = ap (λ e. take_in s e Chosen v k c m w) (show_expression_cast operand ty line)

pub chosen_unary : (s : Setting) (op : _) (operand : _) (ty : _) (line : _) (v : Datum) (k : List Pending) (c : CopyOf) (m : Memory) (w : World Byte) → take_in s (expression_of (TExpr.Unary op operand ty line)) Chosen v k c m w ≡ Lost
chosen_unary s op operand ty line v k c m w = ap (λ e. take_in s e Chosen v k c m w) (show_expression_unary op operand ty line)

pub chosen_binary : (s : Setting) (op : _) (left : _) (right : _) (ty : _) (line : _) (v : Datum) (k : List Pending) (c : CopyOf) (m : Memory) (w : World Byte) → take_in s (expression_of (TExpr.Binary op left right ty line)) Chosen v k c m w ≡ Lost
chosen_binary s op left right ty line v k c m w = ap (λ e. take_in s e Chosen v k c m w) (show_expression_binary op left right ty line)

pub chosen_offset : (s : Setting) (op : _) (left : _) (right : _) (size : _) (ty : _) (line : _) (v : Datum) (k : List Pending) (c : CopyOf) (m : Memory) (w : World Byte) → take_in s (expression_of (TExpr.Offset op left right size ty line)) Chosen v k c m w ≡ Lost
chosen_offset s op left right size ty line v k c m w = ap (λ e. take_in s e Chosen v k c m w) (show_expression_offset op left right size ty line)

pub chosen_difference : (s : Setting) (left : _) (right : _) (size : _) (line : _) (v : Datum) (k : List Pending) (c : CopyOf) (m : Memory) (w : World Byte) → take_in s (expression_of (TExpr.Difference left right size line)) Chosen v k c m w ≡ Lost
chosen_difference s left right size line v k c m w = ap (λ e. take_in s e Chosen v k c m w) (show_expression_difference left right size line)

pub chosen_logical : (s : Setting) (op : _) (left : _) (right : _) (line : _) (v : Datum) (k : List Pending) (c : CopyOf) (m : Memory) (w : World Byte) → take_in s (expression_of (TExpr.Logical op left right line)) Chosen v k c m w ≡ Lost
chosen_logical s op left right line v k c m w = ap (λ e. take_in s e Chosen v k c m w) (show_expression_logical op left right line)

pub chosen_conditional : (s : Setting) (condition : _) (chosen : _) (otherwise : _) (ty : _) (line : _) (v : Datum) (k : List Pending) (c : CopyOf) (m : Memory) (w : World Byte) → take_in s (expression_of (TExpr.Conditional condition chosen otherwise ty line)) Chosen v k c m w ≡ goes c (Holds v) k m w
chosen_conditional s condition chosen otherwise ty line v k c m w = subst (λ e. take_in s e Chosen v k c m w ≡ goes c (Holds v) k m w) (sym (show_expression_conditional condition chosen otherwise ty line)) refl

pub chosen_comma : (s : Setting) (left : _) (right : _) (ty : _) (line : _) (v : Datum) (k : List Pending) (c : CopyOf) (m : Memory) (w : World Byte) → take_in s (expression_of (TExpr.Comma left right ty line)) Chosen v k c m w ≡ Lost
chosen_comma s left right ty line v k c m w = ap (λ e. take_in s e Chosen v k c m w) (show_expression_comma left right ty line)

pub chosen_assign : (s : Setting) (place : _) (value : _) (ty : _) (line : _) (v : Datum) (k : List Pending) (c : CopyOf) (m : Memory) (w : World Byte) → take_in s (expression_of (TExpr.Assign place value ty line)) Chosen v k c m w ≡ Lost
chosen_assign s place value ty line v k c m w = ap (λ e. take_in s e Chosen v k c m w) (show_expression_assign place value ty line)

pub chosen_struct_assign : (s : Setting) (place : _) (from : _) (size : _) (line : _) (v : Datum) (k : List Pending) (c : CopyOf) (m : Memory) (w : World Byte) → take_in s (expression_of (TExpr.StructAssign place from size line)) Chosen v k c m w ≡ Lost
chosen_struct_assign s place from size line v k c m w = ap (λ e. take_in s e Chosen v k c m w) (show_expression_struct_assign place from size line)

pub chosen_update : (s : Setting) (op : _) (place : _) (value : _) (operation : _) (size : _) (ty : _) (line : _) (v : Datum) (k : List Pending) (c : CopyOf) (m : Memory) (w : World Byte) → take_in s (expression_of (TExpr.Update op place value operation size ty line)) Chosen v k c m w ≡ Lost
chosen_update s op place value operation size ty line v k c m w = ap (λ e. take_in s e Chosen v k c m w) (show_expression_update op place value operation size ty line)

pub chosen_step : (s : Setting) (op : _) (place : _) (operation : _) (size : _) (ty : _) (line : _) (v : Datum) (k : List Pending) (c : CopyOf) (m : Memory) (w : World Byte) → take_in s (expression_of (TExpr.Step op place operation size ty line)) Chosen v k c m w ≡ Lost
chosen_step s op place operation size ty line v k c m w = ap (λ e. take_in s e Chosen v k c m w) (show_expression_step op place operation size ty line)

pub chosen_call : (s : Setting) (function : _) (given : _) (ty : _) (line : _) (v : Datum) (k : List Pending) (c : CopyOf) (m : Memory) (w : World Byte) → take_in s (expression_of (TExpr.Call function given ty line)) Chosen v k c m w ≡ Lost
chosen_call s function given ty line v k c m w = ap (λ e. take_in s e Chosen v k c m w) (show_expression_call function given ty line)

pub right_constant : (s : Setting) (value : _) (line : _) (u : Datum) (v : Datum) (k : List Pending) (c : CopyOf) (m : Memory) (w : World Byte) → take_in s (expression_of (TExpr.Constant value line)) (One u) v k c m w ≡ Lost
right_constant s value line u v k c m w = ap (λ e. take_in s e (One u) v k c m w) (show_expression_constant value line)

pub right_read : (s : Setting) (place : _) (ty : _) (line : _) (u : Datum) (v : Datum) (k : List Pending) (c : CopyOf) (m : Memory) (w : World Byte) → take_in s (expression_of (TExpr.Read place ty line)) (One u) v k c m w ≡ Lost
right_read s place ty line u v k c m w = ap (λ e. take_in s e (One u) v k c m w) (show_expression_read place ty line)

pub right_address : (s : Setting) (place : _) (ty : _) (line : _) (u : Datum) (v : Datum) (k : List Pending) (c : CopyOf) (m : Memory) (w : World Byte) → take_in s (expression_of (TExpr.Address place ty line)) (One u) v k c m w ≡ Lost
right_address s place ty line u v k c m w = ap (λ e. take_in s e (One u) v k c m w) (show_expression_address place ty line)

pub right_convert : (s : Setting) (operand : _) (ty : _) (line : _) (u : Datum) (v : Datum) (k : List Pending) (c : CopyOf) (m : Memory) (w : World Byte) → take_in s (expression_of (TExpr.Convert operand ty line)) (One u) v k c m w ≡ Lost
right_convert s operand ty line u v k c m w = ap (λ e. take_in s e (One u) v k c m w) (show_expression_convert operand ty line)

pub right_cast : (s : Setting) (operand : _) (ty : _) (line : _) (u : Datum) (v : Datum) (k : List Pending) (c : CopyOf) (m : Memory) (w : World Byte) → take_in s (expression_of (TExpr.Cast operand ty line)) (One u) v k c m w ≡ Lost
right_cast s operand ty line u v k c m w = ap (λ e. take_in s e (One u) v k c m w) (show_expression_cast operand ty line)

pub right_unary : (s : Setting) (op : _) (operand : _) (ty : _) (line : _) (u : Datum) (v : Datum) (k : List Pending) (c : CopyOf) (m : Memory) (w : World Byte) → take_in s (expression_of (TExpr.Unary op operand ty line)) (One u) v k c m w ≡ Lost
right_unary s op operand ty line u v k c m w = ap (λ e. take_in s e (One u) v k c m w) (show_expression_unary op operand ty line)

pub right_binary : (s : Setting) (op : _) (left : _) (right : _) (ty : _) (line : _) (u : Datum) (v : Datum) (k : List Pending) (c : CopyOf) (m : Memory) (w : World Byte) → take_in s (expression_of (TExpr.Binary op left right ty line)) (One u) v k c m w ≡ answered (binary_answer s.program (active c (Holds v) k) op ty u v) line k c m w
right_binary s op left right ty line u v k c m w = subst (λ e. take_in s e (One u) v k c m w ≡ answered (binary_answer s.program (active c (Holds v) k) op ty u v) line k c m w) (sym (show_expression_binary op left right ty line)) refl

pub right_offset : (s : Setting) (op : _) (left : _) (right : _) (size : _) (ty : _) (line : _) (u : Datum) (v : Datum) (k : List Pending) (c : CopyOf) (m : Memory) (w : World Byte) → take_in s (expression_of (TExpr.Offset op left right size ty line)) (One u) v k c m w ≡ answered (offset_answer s.program op size u v) line k c m w
right_offset s op left right size ty line u v k c m w = subst (λ e. take_in s e (One u) v k c m w ≡ answered (offset_answer s.program op size u v) line k c m w) (sym (show_expression_offset op left right size ty line)) refl

pub right_difference : (s : Setting) (left : _) (right : _) (size : _) (line : _) (u : Datum) (v : Datum) (k : List Pending) (c : CopyOf) (m : Memory) (w : World Byte) → take_in s (expression_of (TExpr.Difference left right size line)) (One u) v k c m w ≡ answered (difference_answer size u v) line k c m w
right_difference s left right size line u v k c m w = subst (λ e. take_in s e (One u) v k c m w ≡ answered (difference_answer size u v) line k c m w) (sym (show_expression_difference left right size line)) refl

pub right_logical : (s : Setting) (op : _) (left : _) (right : _) (line : _) (u : Datum) (v : Datum) (k : List Pending) (c : CopyOf) (m : Memory) (w : World Byte) → take_in s (expression_of (TExpr.Logical op left right line)) (One u) v k c m w ≡ truth_given (truth_of v) line k c m w
right_logical s op left right line u v k c m w = subst (λ e. take_in s e (One u) v k c m w ≡ truth_given (truth_of v) line k c m w) (sym (show_expression_logical op left right line)) refl

pub right_conditional : (s : Setting) (condition : _) (chosen : _) (otherwise : _) (ty : _) (line : _) (u : Datum) (v : Datum) (k : List Pending) (c : CopyOf) (m : Memory) (w : World Byte) → take_in s (expression_of (TExpr.Conditional condition chosen otherwise ty line)) (One u) v k c m w ≡ Lost
right_conditional s condition chosen otherwise ty line u v k c m w = ap (λ e. take_in s e (One u) v k c m w) (show_expression_conditional condition chosen otherwise ty line)

pub right_comma : (s : Setting) (left : _) (right : _) (ty : _) (line : _) (u : Datum) (v : Datum) (k : List Pending) (c : CopyOf) (m : Memory) (w : World Byte) → take_in s (expression_of (TExpr.Comma left right ty line)) (One u) v k c m w ≡ Lost
right_comma s left right ty line u v k c m w = ap (λ e. take_in s e (One u) v k c m w) (show_expression_comma left right ty line)

pub right_assign : (s : Setting) (place : _) (value : _) (ty : _) (line : _) (u : Datum) (v : Datum) (k : List Pending) (c : CopyOf) (m : Memory) (w : World Byte) → take_in s (expression_of (TExpr.Assign place value ty line)) (One u) v k c m w ≡ Lost
right_assign s place value ty line u v k c m w = ap (λ e. take_in s e (One u) v k c m w) (show_expression_assign place value ty line)

pub right_struct_assign : (s : Setting) (place : _) (from : _) (size : _) (line : _) (u : Datum) (v : Datum) (k : List Pending) (c : CopyOf) (m : Memory) (w : World Byte) → take_in s (expression_of (TExpr.StructAssign place from size line)) (One u) v k c m w ≡ Lost
right_struct_assign s place from size line u v k c m w = ap (λ e. take_in s e (One u) v k c m w) (show_expression_struct_assign place from size line)

pub right_update : (s : Setting) (op : _) (place : _) (value : _) (operation : _) (size : _) (ty : _) (line : _) (u : Datum) (v : Datum) (k : List Pending) (c : CopyOf) (m : Memory) (w : World Byte) → take_in s (expression_of (TExpr.Update op place value operation size ty line)) (One u) v k c m w ≡ Lost
right_update s op place value operation size ty line u v k c m w = ap (λ e. take_in s e (One u) v k c m w) (show_expression_update op place value operation size ty line)

pub right_step : (s : Setting) (op : _) (place : _) (operation : _) (size : _) (ty : _) (line : _) (u : Datum) (v : Datum) (k : List Pending) (c : CopyOf) (m : Memory) (w : World Byte) → take_in s (expression_of (TExpr.Step op place operation size ty line)) (One u) v k c m w ≡ Lost
right_step s op place operation size ty line u v k c m w = ap (λ e. take_in s e (One u) v k c m w) (show_expression_step op place operation size ty line)

pub right_call : (s : Setting) (function : _) (given : _) (ty : _) (line : _) (u : Datum) (v : Datum) (k : List Pending) (c : CopyOf) (m : Memory) (w : World Byte) → take_in s (expression_of (TExpr.Call function given ty line)) (One u) v k c m w ≡ Lost
right_call s function given ty line u v k c m w = ap (λ e. take_in s e (One u) v k c m w) (show_expression_call function given ty line)

pub at_constant : (s : Setting) (value : _) (line : _) (spot : Spot) (v : Datum) (k : List Pending) (c : CopyOf) (m : Memory) (w : World Byte) → take_in s (expression_of (TExpr.Constant value line)) (At spot) v k c m w ≡ Lost
at_constant s value line spot v k c m w = ap (λ e. take_in s e (At spot) v k c m w) (show_expression_constant value line)

pub at_read : (s : Setting) (place : _) (ty : _) (line : _) (spot : Spot) (v : Datum) (k : List Pending) (c : CopyOf) (m : Memory) (w : World Byte) → take_in s (expression_of (TExpr.Read place ty line)) (At spot) v k c m w ≡ Lost
at_read s place ty line spot v k c m w = ap (λ e. take_in s e (At spot) v k c m w) (show_expression_read place ty line)

pub at_address : (s : Setting) (place : _) (ty : _) (line : _) (spot : Spot) (v : Datum) (k : List Pending) (c : CopyOf) (m : Memory) (w : World Byte) → take_in s (expression_of (TExpr.Address place ty line)) (At spot) v k c m w ≡ Lost
at_address s place ty line spot v k c m w = ap (λ e. take_in s e (At spot) v k c m w) (show_expression_address place ty line)

pub at_convert : (s : Setting) (operand : _) (ty : _) (line : _) (spot : Spot) (v : Datum) (k : List Pending) (c : CopyOf) (m : Memory) (w : World Byte) → take_in s (expression_of (TExpr.Convert operand ty line)) (At spot) v k c m w ≡ Lost
at_convert s operand ty line spot v k c m w = ap (λ e. take_in s e (At spot) v k c m w) (show_expression_convert operand ty line)

pub at_cast : (s : Setting) (operand : _) (ty : _) (line : _) (spot : Spot) (v : Datum) (k : List Pending) (c : CopyOf) (m : Memory) (w : World Byte) → take_in s (expression_of (TExpr.Cast operand ty line)) (At spot) v k c m w ≡ Lost
at_cast s operand ty line spot v k c m w = ap (λ e. take_in s e (At spot) v k c m w) (show_expression_cast operand ty line)

pub at_unary : (s : Setting) (op : _) (operand : _) (ty : _) (line : _) (spot : Spot) (v : Datum) (k : List Pending) (c : CopyOf) (m : Memory) (w : World Byte) → take_in s (expression_of (TExpr.Unary op operand ty line)) (At spot) v k c m w ≡ Lost
at_unary s op operand ty line spot v k c m w = ap (λ e. take_in s e (At spot) v k c m w) (show_expression_unary op operand ty line)

pub at_binary : (s : Setting) (op : _) (left : _) (right : _) (ty : _) (line : _) (spot : Spot) (v : Datum) (k : List Pending) (c : CopyOf) (m : Memory) (w : World Byte) → take_in s (expression_of (TExpr.Binary op left right ty line)) (At spot) v k c m w ≡ Lost
at_binary s op left right ty line spot v k c m w = ap (λ e. take_in s e (At spot) v k c m w) (show_expression_binary op left right ty line)

pub at_offset : (s : Setting) (op : _) (left : _) (right : _) (size : _) (ty : _) (line : _) (spot : Spot) (v : Datum) (k : List Pending) (c : CopyOf) (m : Memory) (w : World Byte) → take_in s (expression_of (TExpr.Offset op left right size ty line)) (At spot) v k c m w ≡ Lost
at_offset s op left right size ty line spot v k c m w = ap (λ e. take_in s e (At spot) v k c m w) (show_expression_offset op left right size ty line)

pub at_difference : (s : Setting) (left : _) (right : _) (size : _) (line : _) (spot : Spot) (v : Datum) (k : List Pending) (c : CopyOf) (m : Memory) (w : World Byte) → take_in s (expression_of (TExpr.Difference left right size line)) (At spot) v k c m w ≡ Lost
at_difference s left right size line spot v k c m w = ap (λ e. take_in s e (At spot) v k c m w) (show_expression_difference left right size line)

pub at_logical : (s : Setting) (op : _) (left : _) (right : _) (line : _) (spot : Spot) (v : Datum) (k : List Pending) (c : CopyOf) (m : Memory) (w : World Byte) → take_in s (expression_of (TExpr.Logical op left right line)) (At spot) v k c m w ≡ Lost
at_logical s op left right line spot v k c m w = ap (λ e. take_in s e (At spot) v k c m w) (show_expression_logical op left right line)

pub at_conditional : (s : Setting) (condition : _) (chosen : _) (otherwise : _) (ty : _) (line : _) (spot : Spot) (v : Datum) (k : List Pending) (c : CopyOf) (m : Memory) (w : World Byte) → take_in s (expression_of (TExpr.Conditional condition chosen otherwise ty line)) (At spot) v k c m w ≡ Lost
at_conditional s condition chosen otherwise ty line spot v k c m w = ap (λ e. take_in s e (At spot) v k c m w) (show_expression_conditional condition chosen otherwise ty line)

pub at_comma : (s : Setting) (left : _) (right : _) (ty : _) (line : _) (spot : Spot) (v : Datum) (k : List Pending) (c : CopyOf) (m : Memory) (w : World Byte) → take_in s (expression_of (TExpr.Comma left right ty line)) (At spot) v k c m w ≡ Lost
at_comma s left right ty line spot v k c m w = ap (λ e. take_in s e (At spot) v k c m w) (show_expression_comma left right ty line)

pub at_assign : (s : Setting) (place : _) (value : _) (ty : _) (line : _) (spot : Spot) (v : Datum) (k : List Pending) (c : CopyOf) (m : Memory) (w : World Byte) → take_in s (expression_of (TExpr.Assign place value ty line)) (At spot) v k c m w ≡ used v line (goes c (Write spot v 0) (In (expression_of (TExpr.Assign place value ty line)) (Stores spot v) ∷ k) m w)
at_assign s place value ty line spot v k c m w = subst (λ e. take_in s e (At spot) v k c m w ≡ used v line (goes c (Write spot v 0) (In e (Stores spot v) ∷ k) m w)) (sym (show_expression_assign place value ty line)) refl

pub at_struct_assign : (s : Setting) (place : _) (from : _) (size : _) (line : _) (spot : Spot) (v : Datum) (k : List Pending) (c : CopyOf) (m : Memory) (w : World Byte) → take_in s (expression_of (TExpr.StructAssign place from size line)) (At spot) v k c m w ≡ Lost
at_struct_assign s place from size line spot v k c m w = ap (λ e. take_in s e (At spot) v k c m w) (show_expression_struct_assign place from size line)

pub at_update : (s : Setting) (op : _) (place : _) (value : _) (operation : _) (size : _) (ty : _) (line : _) (spot : Spot) (v : Datum) (k : List Pending) (c : CopyOf) (m : Memory) (w : World Byte) → take_in s (expression_of (TExpr.Update op place value operation size ty line)) (At spot) v k c m w ≡ goes c (fetching spot ty s.program.sizes) (In (expression_of (TExpr.Update op place value operation size ty line)) (AtWith spot v) ∷ k) m w
at_update s op place value operation size ty line spot v k c m w = subst (λ e. take_in s e (At spot) v k c m w ≡ goes c (fetching spot ty s.program.sizes) (In e (AtWith spot v) ∷ k) m w) (sym (show_expression_update op place value operation size ty line)) refl

pub at_step : (s : Setting) (op : _) (place : _) (operation : _) (size : _) (ty : _) (line : _) (spot : Spot) (v : Datum) (k : List Pending) (c : CopyOf) (m : Memory) (w : World Byte) → take_in s (expression_of (TExpr.Step op place operation size ty line)) (At spot) v k c m w ≡ changes (change_answer s.program (active c (Holds v) k) (step_operator op) operation size ty v (one_in operation)) (expression_of (TExpr.Step op place operation size ty line)) spot (is_postfix op) v line k c m w
at_step s op place operation size ty line spot v k c m w = subst (λ e. take_in s e (At spot) v k c m w ≡ changes (change_answer s.program (active c (Holds v) k) (step_operator op) operation size ty v (one_in operation)) e spot (is_postfix op) v line k c m w) (sym (show_expression_step op place operation size ty line)) refl

pub at_call : (s : Setting) (function : _) (given : _) (ty : _) (line : _) (spot : Spot) (v : Datum) (k : List Pending) (c : CopyOf) (m : Memory) (w : World Byte) → take_in s (expression_of (TExpr.Call function given ty line)) (At spot) v k c m w ≡ Lost
at_call s function given ty line spot v k c m w = ap (λ e. take_in s e (At spot) v k c m w) (show_expression_call function given ty line)

pub old_constant : (s : Setting) (value : _) (line : _) (spot : Spot) (u : Datum) (v : Datum) (k : List Pending) (c : CopyOf) (m : Memory) (w : World Byte) → take_in s (expression_of (TExpr.Constant value line)) (AtWith spot u) v k c m w ≡ Lost
old_constant s value line spot u v k c m w = ap (λ e. take_in s e (AtWith spot u) v k c m w) (show_expression_constant value line)

pub old_read : (s : Setting) (place : _) (ty : _) (line : _) (spot : Spot) (u : Datum) (v : Datum) (k : List Pending) (c : CopyOf) (m : Memory) (w : World Byte) → take_in s (expression_of (TExpr.Read place ty line)) (AtWith spot u) v k c m w ≡ Lost
old_read s place ty line spot u v k c m w = ap (λ e. take_in s e (AtWith spot u) v k c m w) (show_expression_read place ty line)

pub old_address : (s : Setting) (place : _) (ty : _) (line : _) (spot : Spot) (u : Datum) (v : Datum) (k : List Pending) (c : CopyOf) (m : Memory) (w : World Byte) → take_in s (expression_of (TExpr.Address place ty line)) (AtWith spot u) v k c m w ≡ Lost
old_address s place ty line spot u v k c m w = ap (λ e. take_in s e (AtWith spot u) v k c m w) (show_expression_address place ty line)

pub old_convert : (s : Setting) (operand : _) (ty : _) (line : _) (spot : Spot) (u : Datum) (v : Datum) (k : List Pending) (c : CopyOf) (m : Memory) (w : World Byte) → take_in s (expression_of (TExpr.Convert operand ty line)) (AtWith spot u) v k c m w ≡ Lost
old_convert s operand ty line spot u v k c m w = ap (λ e. take_in s e (AtWith spot u) v k c m w) (show_expression_convert operand ty line)

pub old_cast : (s : Setting) (operand : _) (ty : _) (line : _) (spot : Spot) (u : Datum) (v : Datum) (k : List Pending) (c : CopyOf) (m : Memory) (w : World Byte) → take_in s (expression_of (TExpr.Cast operand ty line)) (AtWith spot u) v k c m w ≡ Lost
old_cast s operand ty line spot u v k c m w = ap (λ e. take_in s e (AtWith spot u) v k c m w) (show_expression_cast operand ty line)

pub old_unary : (s : Setting) (op : _) (operand : _) (ty : _) (line : _) (spot : Spot) (u : Datum) (v : Datum) (k : List Pending) (c : CopyOf) (m : Memory) (w : World Byte) → take_in s (expression_of (TExpr.Unary op operand ty line)) (AtWith spot u) v k c m w ≡ Lost
old_unary s op operand ty line spot u v k c m w = ap (λ e. take_in s e (AtWith spot u) v k c m w) (show_expression_unary op operand ty line)

pub old_binary : (s : Setting) (op : _) (left : _) (right : _) (ty : _) (line : _) (spot : Spot) (u : Datum) (v : Datum) (k : List Pending) (c : CopyOf) (m : Memory) (w : World Byte) → take_in s (expression_of (TExpr.Binary op left right ty line)) (AtWith spot u) v k c m w ≡ Lost
old_binary s op left right ty line spot u v k c m w = ap (λ e. take_in s e (AtWith spot u) v k c m w) (show_expression_binary op left right ty line)

pub old_offset : (s : Setting) (op : _) (left : _) (right : _) (size : _) (ty : _) (line : _) (spot : Spot) (u : Datum) (v : Datum) (k : List Pending) (c : CopyOf) (m : Memory) (w : World Byte) → take_in s (expression_of (TExpr.Offset op left right size ty line)) (AtWith spot u) v k c m w ≡ Lost
old_offset s op left right size ty line spot u v k c m w = ap (λ e. take_in s e (AtWith spot u) v k c m w) (show_expression_offset op left right size ty line)

pub old_difference : (s : Setting) (left : _) (right : _) (size : _) (line : _) (spot : Spot) (u : Datum) (v : Datum) (k : List Pending) (c : CopyOf) (m : Memory) (w : World Byte) → take_in s (expression_of (TExpr.Difference left right size line)) (AtWith spot u) v k c m w ≡ Lost
old_difference s left right size line spot u v k c m w = ap (λ e. take_in s e (AtWith spot u) v k c m w) (show_expression_difference left right size line)

pub old_logical : (s : Setting) (op : _) (left : _) (right : _) (line : _) (spot : Spot) (u : Datum) (v : Datum) (k : List Pending) (c : CopyOf) (m : Memory) (w : World Byte) → take_in s (expression_of (TExpr.Logical op left right line)) (AtWith spot u) v k c m w ≡ Lost
old_logical s op left right line spot u v k c m w = ap (λ e. take_in s e (AtWith spot u) v k c m w) (show_expression_logical op left right line)

pub old_conditional : (s : Setting) (condition : _) (chosen : _) (otherwise : _) (ty : _) (line : _) (spot : Spot) (u : Datum) (v : Datum) (k : List Pending) (c : CopyOf) (m : Memory) (w : World Byte) → take_in s (expression_of (TExpr.Conditional condition chosen otherwise ty line)) (AtWith spot u) v k c m w ≡ Lost
old_conditional s condition chosen otherwise ty line spot u v k c m w = ap (λ e. take_in s e (AtWith spot u) v k c m w) (show_expression_conditional condition chosen otherwise ty line)

pub old_comma : (s : Setting) (left : _) (right : _) (ty : _) (line : _) (spot : Spot) (u : Datum) (v : Datum) (k : List Pending) (c : CopyOf) (m : Memory) (w : World Byte) → take_in s (expression_of (TExpr.Comma left right ty line)) (AtWith spot u) v k c m w ≡ Lost
old_comma s left right ty line spot u v k c m w = ap (λ e. take_in s e (AtWith spot u) v k c m w) (show_expression_comma left right ty line)

pub old_assign : (s : Setting) (place : _) (value : _) (ty : _) (line : _) (spot : Spot) (u : Datum) (v : Datum) (k : List Pending) (c : CopyOf) (m : Memory) (w : World Byte) → take_in s (expression_of (TExpr.Assign place value ty line)) (AtWith spot u) v k c m w ≡ Lost
old_assign s place value ty line spot u v k c m w = ap (λ e. take_in s e (AtWith spot u) v k c m w) (show_expression_assign place value ty line)

pub old_struct_assign : (s : Setting) (place : _) (from : _) (size : _) (line : _) (spot : Spot) (u : Datum) (v : Datum) (k : List Pending) (c : CopyOf) (m : Memory) (w : World Byte) → take_in s (expression_of (TExpr.StructAssign place from size line)) (AtWith spot u) v k c m w ≡ Lost
old_struct_assign s place from size line spot u v k c m w = ap (λ e. take_in s e (AtWith spot u) v k c m w) (show_expression_struct_assign place from size line)

pub old_update : (s : Setting) (op : _) (place : _) (value : _) (operation : _) (size : _) (ty : _) (line : _) (spot : Spot) (u : Datum) (v : Datum) (k : List Pending) (c : CopyOf) (m : Memory) (w : World Byte) → take_in s (expression_of (TExpr.Update op place value operation size ty line)) (AtWith spot u) v k c m w ≡ changes (change_answer s.program (active c (Holds v) k) op operation size ty v u) (expression_of (TExpr.Update op place value operation size ty line)) spot false v line k c m w
old_update s op place value operation size ty line spot u v k c m w = subst (λ e. take_in s e (AtWith spot u) v k c m w ≡ changes (change_answer s.program (active c (Holds v) k) op operation size ty v u) e spot false v line k c m w) (sym (show_expression_update op place value operation size ty line)) refl

pub old_step : (s : Setting) (op : _) (place : _) (operation : _) (size : _) (ty : _) (line : _) (spot : Spot) (u : Datum) (v : Datum) (k : List Pending) (c : CopyOf) (m : Memory) (w : World Byte) → take_in s (expression_of (TExpr.Step op place operation size ty line)) (AtWith spot u) v k c m w ≡ Lost
old_step s op place operation size ty line spot u v k c m w = ap (λ e. take_in s e (AtWith spot u) v k c m w) (show_expression_step op place operation size ty line)

pub old_call : (s : Setting) (function : _) (given : _) (ty : _) (line : _) (spot : Spot) (u : Datum) (v : Datum) (k : List Pending) (c : CopyOf) (m : Memory) (w : World Byte) → take_in s (expression_of (TExpr.Call function given ty line)) (AtWith spot u) v k c m w ≡ Lost
old_call s function given ty line spot u v k c m w = ap (λ e. take_in s e (AtWith spot u) v k c m w) (show_expression_call function given ty line)

pub args_constant : (s : Setting) (value : _) (line : _) (before : List Datum) (more : Expressions) (v : Datum) (k : List Pending) (c : CopyOf) (m : Memory) (w : World Byte) → take_in s (expression_of (TExpr.Constant value line)) (Args before more) v k c m w ≡ Lost
args_constant s value line before more v k c m w = ap (λ e. take_in s e (Args before more) v k c m w) (show_expression_constant value line)

pub args_read : (s : Setting) (place : _) (ty : _) (line : _) (before : List Datum) (more : Expressions) (v : Datum) (k : List Pending) (c : CopyOf) (m : Memory) (w : World Byte) → take_in s (expression_of (TExpr.Read place ty line)) (Args before more) v k c m w ≡ Lost
args_read s place ty line before more v k c m w = ap (λ e. take_in s e (Args before more) v k c m w) (show_expression_read place ty line)

pub args_address : (s : Setting) (place : _) (ty : _) (line : _) (before : List Datum) (more : Expressions) (v : Datum) (k : List Pending) (c : CopyOf) (m : Memory) (w : World Byte) → take_in s (expression_of (TExpr.Address place ty line)) (Args before more) v k c m w ≡ Lost
args_address s place ty line before more v k c m w = ap (λ e. take_in s e (Args before more) v k c m w) (show_expression_address place ty line)

pub args_convert : (s : Setting) (operand : _) (ty : _) (line : _) (before : List Datum) (more : Expressions) (v : Datum) (k : List Pending) (c : CopyOf) (m : Memory) (w : World Byte) → take_in s (expression_of (TExpr.Convert operand ty line)) (Args before more) v k c m w ≡ Lost
args_convert s operand ty line before more v k c m w = ap (λ e. take_in s e (Args before more) v k c m w) (show_expression_convert operand ty line)

pub args_cast : (s : Setting) (operand : _) (ty : _) (line : _) (before : List Datum) (more : Expressions) (v : Datum) (k : List Pending) (c : CopyOf) (m : Memory) (w : World Byte) → take_in s (expression_of (TExpr.Cast operand ty line)) (Args before more) v k c m w ≡ Lost
args_cast s operand ty line before more v k c m w = ap (λ e. take_in s e (Args before more) v k c m w) (show_expression_cast operand ty line)

pub args_unary : (s : Setting) (op : _) (operand : _) (ty : _) (line : _) (before : List Datum) (more : Expressions) (v : Datum) (k : List Pending) (c : CopyOf) (m : Memory) (w : World Byte) → take_in s (expression_of (TExpr.Unary op operand ty line)) (Args before more) v k c m w ≡ Lost
args_unary s op operand ty line before more v k c m w = ap (λ e. take_in s e (Args before more) v k c m w) (show_expression_unary op operand ty line)

pub args_binary : (s : Setting) (op : _) (left : _) (right : _) (ty : _) (line : _) (before : List Datum) (more : Expressions) (v : Datum) (k : List Pending) (c : CopyOf) (m : Memory) (w : World Byte) → take_in s (expression_of (TExpr.Binary op left right ty line)) (Args before more) v k c m w ≡ Lost
args_binary s op left right ty line before more v k c m w = ap (λ e. take_in s e (Args before more) v k c m w) (show_expression_binary op left right ty line)

pub args_offset : (s : Setting) (op : _) (left : _) (right : _) (size : _) (ty : _) (line : _) (before : List Datum) (more : Expressions) (v : Datum) (k : List Pending) (c : CopyOf) (m : Memory) (w : World Byte) → take_in s (expression_of (TExpr.Offset op left right size ty line)) (Args before more) v k c m w ≡ Lost
args_offset s op left right size ty line before more v k c m w = ap (λ e. take_in s e (Args before more) v k c m w) (show_expression_offset op left right size ty line)

pub args_difference : (s : Setting) (left : _) (right : _) (size : _) (line : _) (before : List Datum) (more : Expressions) (v : Datum) (k : List Pending) (c : CopyOf) (m : Memory) (w : World Byte) → take_in s (expression_of (TExpr.Difference left right size line)) (Args before more) v k c m w ≡ Lost
args_difference s left right size line before more v k c m w = ap (λ e. take_in s e (Args before more) v k c m w) (show_expression_difference left right size line)

pub args_logical : (s : Setting) (op : _) (left : _) (right : _) (line : _) (before : List Datum) (more : Expressions) (v : Datum) (k : List Pending) (c : CopyOf) (m : Memory) (w : World Byte) → take_in s (expression_of (TExpr.Logical op left right line)) (Args before more) v k c m w ≡ Lost
args_logical s op left right line before more v k c m w = ap (λ e. take_in s e (Args before more) v k c m w) (show_expression_logical op left right line)

pub args_conditional : (s : Setting) (condition : _) (chosen : _) (otherwise : _) (ty : _) (line : _) (before : List Datum) (more : Expressions) (v : Datum) (k : List Pending) (c : CopyOf) (m : Memory) (w : World Byte) → take_in s (expression_of (TExpr.Conditional condition chosen otherwise ty line)) (Args before more) v k c m w ≡ Lost
args_conditional s condition chosen otherwise ty line before more v k c m w = ap (λ e. take_in s e (Args before more) v k c m w) (show_expression_conditional condition chosen otherwise ty line)

pub args_comma : (s : Setting) (left : _) (right : _) (ty : _) (line : _) (before : List Datum) (more : Expressions) (v : Datum) (k : List Pending) (c : CopyOf) (m : Memory) (w : World Byte) → take_in s (expression_of (TExpr.Comma left right ty line)) (Args before more) v k c m w ≡ Lost
args_comma s left right ty line before more v k c m w = ap (λ e. take_in s e (Args before more) v k c m w) (show_expression_comma left right ty line)

pub args_assign : (s : Setting) (place : _) (value : _) (ty : _) (line : _) (before : List Datum) (more : Expressions) (v : Datum) (k : List Pending) (c : CopyOf) (m : Memory) (w : World Byte) → take_in s (expression_of (TExpr.Assign place value ty line)) (Args before more) v k c m w ≡ Lost
args_assign s place value ty line before more v k c m w = ap (λ e. take_in s e (Args before more) v k c m w) (show_expression_assign place value ty line)

pub args_struct_assign : (s : Setting) (place : _) (from : _) (size : _) (line : _) (before : List Datum) (more : Expressions) (v : Datum) (k : List Pending) (c : CopyOf) (m : Memory) (w : World Byte) → take_in s (expression_of (TExpr.StructAssign place from size line)) (Args before more) v k c m w ≡ Lost
args_struct_assign s place from size line before more v k c m w = ap (λ e. take_in s e (Args before more) v k c m w) (show_expression_struct_assign place from size line)

pub args_update : (s : Setting) (op : _) (place : _) (value : _) (operation : _) (size : _) (ty : _) (line : _) (before : List Datum) (more : Expressions) (v : Datum) (k : List Pending) (c : CopyOf) (m : Memory) (w : World Byte) → take_in s (expression_of (TExpr.Update op place value operation size ty line)) (Args before more) v k c m w ≡ Lost
args_update s op place value operation size ty line before more v k c m w = ap (λ e. take_in s e (Args before more) v k c m w) (show_expression_update op place value operation size ty line)

pub args_step : (s : Setting) (op : _) (place : _) (operation : _) (size : _) (ty : _) (line : _) (before : List Datum) (more : Expressions) (v : Datum) (k : List Pending) (c : CopyOf) (m : Memory) (w : World Byte) → take_in s (expression_of (TExpr.Step op place operation size ty line)) (Args before more) v k c m w ≡ Lost
args_step s op place operation size ty line before more v k c m w = ap (λ e. take_in s e (Args before more) v k c m w) (show_expression_step op place operation size ty line)

pub args_call : (s : Setting) (function : _) (given : _) (ty : _) (line : _) (before : List Datum) (more : Expressions) (v : Datum) (k : List Pending) (c : CopyOf) (m : Memory) (w : World Byte) → take_in s (expression_of (TExpr.Call function given ty line)) (Args before more) v k c m w ≡ arguments (expression_of (TExpr.Call function given ty line)) (before ++ v ∷ []) more k c m w
args_call s function given ty line before more v k c m w = subst (λ e. take_in s e (Args before more) v k c m w ≡ arguments e (before ++ v ∷ []) more k c m w) (sym (show_expression_call function given ty line)) refl

-- ---- where no value goes
pub none_stored : (s : Setting) (spot : Spot) (u : Datum) (v : Datum) (k : List Pending) (c : CopyOf) (m : Memory) (w : World Byte) (e : Expression) → take_in s e (Stores spot u) v k c m w ≡ Lost
none_stored s spot u v k c m w (tree.Constant value line) = refl
none_stored s spot u v k c m w (tree.Read place ty line) = refl
none_stored s spot u v k c m w (tree.Address place ty line) = refl
none_stored s spot u v k c m w (tree.Convert operand ty line) = refl
none_stored s spot u v k c m w (tree.Cast operand ty line) = refl
none_stored s spot u v k c m w (tree.Unary op operand ty line) = refl
none_stored s spot u v k c m w (tree.Binary op left right ty line) = refl
none_stored s spot u v k c m w (tree.Offset op left right size ty line) = refl
none_stored s spot u v k c m w (tree.Difference left right size line) = refl
none_stored s spot u v k c m w (tree.Logical op left right line) = refl
none_stored s spot u v k c m w (tree.Conditional condition chosen otherwise ty line) = refl
none_stored s spot u v k c m w (tree.Comma left right ty line) = refl
none_stored s spot u v k c m w (tree.Assign place value ty line) = refl
none_stored s spot u v k c m w (tree.StructAssign place from size line) = refl
none_stored s spot u v k c m w (tree.Update op place value operation size ty line) = refl
none_stored s spot u v k c m w (tree.Step op place operation size ty line) = refl
none_stored s spot u v k c m w (tree.Call function arguments ty line) = refl

pub none_copied : (s : Setting) (v : Datum) (k : List Pending) (c : CopyOf) (m : Memory) (w : World Byte) (e : Expression) → take_in s e Copies v k c m w ≡ Lost
none_copied s v k c m w (tree.Constant value line) = refl
none_copied s v k c m w (tree.Read place ty line) = refl
none_copied s v k c m w (tree.Address place ty line) = refl
none_copied s v k c m w (tree.Convert operand ty line) = refl
none_copied s v k c m w (tree.Cast operand ty line) = refl
none_copied s v k c m w (tree.Unary op operand ty line) = refl
none_copied s v k c m w (tree.Binary op left right ty line) = refl
none_copied s v k c m w (tree.Offset op left right size ty line) = refl
none_copied s v k c m w (tree.Difference left right size line) = refl
none_copied s v k c m w (tree.Logical op left right line) = refl
none_copied s v k c m w (tree.Conditional condition chosen otherwise ty line) = refl
none_copied s v k c m w (tree.Comma left right ty line) = refl
none_copied s v k c m w (tree.Assign place value ty line) = refl
none_copied s v k c m w (tree.StructAssign place from size line) = refl
none_copied s v k c m w (tree.Update op place value operation size ty line) = refl
none_copied s v k c m w (tree.Step op place operation size ty line) = refl
none_copied s v k c m w (tree.Call function arguments ty line) = refl

pub none_passed : (s : Setting) (values : List Datum) (v : Datum) (k : List Pending) (c : CopyOf) (m : Memory) (w : World Byte) (e : Expression) → take_in s e (Passed values) v k c m w ≡ Lost
none_passed s values v k c m w (tree.Constant value line) = refl
none_passed s values v k c m w (tree.Read place ty line) = refl
none_passed s values v k c m w (tree.Address place ty line) = refl
none_passed s values v k c m w (tree.Convert operand ty line) = refl
none_passed s values v k c m w (tree.Cast operand ty line) = refl
none_passed s values v k c m w (tree.Unary op operand ty line) = refl
none_passed s values v k c m w (tree.Binary op left right ty line) = refl
none_passed s values v k c m w (tree.Offset op left right size ty line) = refl
none_passed s values v k c m w (tree.Difference left right size line) = refl
none_passed s values v k c m w (tree.Logical op left right line) = refl
none_passed s values v k c m w (tree.Conditional condition chosen otherwise ty line) = refl
none_passed s values v k c m w (tree.Comma left right ty line) = refl
none_passed s values v k c m w (tree.Assign place value ty line) = refl
none_passed s values v k c m w (tree.StructAssign place from size line) = refl
none_passed s values v k c m w (tree.Update op place value operation size ty line) = refl
none_passed s values v k c m w (tree.Step op place operation size ty line) = refl
none_passed s values v k c m w (tree.Call function arguments ty line) = refl

pub none_called : (s : Setting) (v : Datum) (k : List Pending) (c : CopyOf) (m : Memory) (w : World Byte) (e : Expression) → take_in s e Called v k c m w ≡ Lost
none_called s v k c m w (tree.Constant value line) = refl
none_called s v k c m w (tree.Read place ty line) = refl
none_called s v k c m w (tree.Address place ty line) = refl
none_called s v k c m w (tree.Convert operand ty line) = refl
none_called s v k c m w (tree.Cast operand ty line) = refl
none_called s v k c m w (tree.Unary op operand ty line) = refl
none_called s v k c m w (tree.Binary op left right ty line) = refl
none_called s v k c m w (tree.Offset op left right size ty line) = refl
none_called s v k c m w (tree.Difference left right size line) = refl
none_called s v k c m w (tree.Logical op left right line) = refl
none_called s v k c m w (tree.Conditional condition chosen otherwise ty line) = refl
none_called s v k c m w (tree.Comma left right ty line) = refl
none_called s v k c m w (tree.Assign place value ty line) = refl
none_called s v k c m w (tree.StructAssign place from size line) = refl
none_called s v k c m w (tree.Update op place value operation size ty line) = refl
none_called s v k c m w (tree.Step op place operation size ty line) = refl
none_called s v k c m w (tree.Call function arguments ty line) = refl

pub ruleset first_parts = (first_convert, first_cast, first_unary, first_binary, first_offset, first_difference, first_logical, first_conditional, first_comma)

pub ruleset chosen_parts = (chosen_conditional)

pub ruleset at_parts = (at_assign, at_update, at_step)

pub ruleset old_parts = (old_update)

pub ruleset nowhere = (none_stored, none_copied, none_passed, none_called)
