-- What counts at an expression, by its variant and what is done of its parts.
use Rattle.std.proofs.Common.{◌≡◌, List, Some, None, refl, ap}
use Rattle.c_typed.proofs.Shapes.{show_expression_address, show_expression_cast, show_expression_unary, show_expression_binary, show_expression_offset, show_expression_difference, show_expression_logical, show_expression_conditional, show_expression_comma, show_expression_assign, show_expression_struct_assign, show_expression_update, show_expression_step}
use Rattle.c_typed.specs.Trees as tree
use Rattle.c_typed.specs.Trees.{Expression, Expressions, Program}
use Rattle.c_typed.specs.Types.{place_type}
use Rattle.c_typed.specs.Views.{expression_of, place_of}
use Rattle.c_typed.specs.declared.expression.TExpr.TheVariants as TExpr
use Rattle.src_values.specs.Control.{Nothing, Chosen, One, At, AtWith, Stores, Copies, Args, Passed, Called}
use Rattle.src_values.specs.Counting.{counted_if, is_operator, value_counts_in, found_counts_in, logical_counts}
use Rattle.src_values.specs.Data.{Datum}
use Rattle.src_values.specs.Values.{truth_of}
use Rattle.src_values.specs.declared.objects.Spot.{Spot}

pub first_counts_cast : (v : Datum) (operand : _) (ty : _) (line : _) → value_counts_in (expression_of (TExpr.Cast operand ty line)) Nothing v ≡ Some line
first_counts_cast v operand ty line = ap (λ t. value_counts_in t Nothing v) (show_expression_cast operand ty line)

pub first_counts_unary : (v : Datum) (op : _) (operand : _) (ty : _) (line : _) → value_counts_in (expression_of (TExpr.Unary op operand ty line)) Nothing v ≡ Some line
first_counts_unary v op operand ty line = ap (λ t. value_counts_in t Nothing v) (show_expression_unary op operand ty line)

pub first_counts_logical : (v : Datum) (op : _) (left : _) (right : _) (line : _) → value_counts_in (expression_of (TExpr.Logical op left right line)) Nothing v ≡ logical_counts op (truth_of v) line
first_counts_logical v op left right line = ap (λ t. value_counts_in t Nothing v) (show_expression_logical op left right line)

pub first_counts_conditional : (v : Datum) (condition : _) (chosen : _) (otherwise : _) (ty : _) (line : _) → value_counts_in (expression_of (TExpr.Conditional condition chosen otherwise ty line)) Nothing v ≡ Some line
first_counts_conditional v condition chosen otherwise ty line = ap (λ t. value_counts_in t Nothing v) (show_expression_conditional condition chosen otherwise ty line)

pub first_counts_comma : (v : Datum) (left : _) (right : _) (ty : _) (line : _) → value_counts_in (expression_of (TExpr.Comma left right ty line)) Nothing v ≡ Some line
first_counts_comma v left right ty line = ap (λ t. value_counts_in t Nothing v) (show_expression_comma left right ty line)

pub ruleset first_counts = (first_counts_cast, first_counts_unary, first_counts_logical, first_counts_conditional, first_counts_comma)

pub right_counts_binary : (u v : Datum) (op : _) (left : _) (right : _) (ty : _) (line : _) → value_counts_in (expression_of (TExpr.Binary op left right ty line)) (One u) v ≡ Some line
right_counts_binary u v op left right ty line = ap (λ t. value_counts_in t (One u) v) (show_expression_binary op left right ty line)

pub right_counts_offset : (u v : Datum) (op : _) (left : _) (right : _) (size : _) (ty : _) (line : _) → value_counts_in (expression_of (TExpr.Offset op left right size ty line)) (One u) v ≡ Some line
right_counts_offset u v op left right size ty line = ap (λ t. value_counts_in t (One u) v) (show_expression_offset op left right size ty line)

pub right_counts_difference : (u v : Datum) (left : _) (right : _) (size : _) (line : _) → value_counts_in (expression_of (TExpr.Difference left right size line)) (One u) v ≡ Some line
right_counts_difference u v left right size line = ap (λ t. value_counts_in t (One u) v) (show_expression_difference left right size line)

pub right_counts_logical : (u v : Datum) (op : _) (left : _) (right : _) (line : _) → value_counts_in (expression_of (TExpr.Logical op left right line)) (One u) v ≡ Some line
right_counts_logical u v op left right line = ap (λ t. value_counts_in t (One u) v) (show_expression_logical op left right line)

pub ruleset right_counts = (right_counts_binary, right_counts_offset, right_counts_difference, right_counts_logical)

pub placed_counts_assign : (spot : Spot) (v : Datum) (place : _) (value : _) (ty : _) (line : _) → value_counts_in (expression_of (TExpr.Assign place value ty line)) (At spot) v ≡ Some line
placed_counts_assign spot v place value ty line = ap (λ t. value_counts_in t (At spot) v) (show_expression_assign place value ty line)

pub placed_counts_step : (spot : Spot) (v : Datum) (op : _) (place : _) (operation : _) (size : _) (ty : _) (line : _) → value_counts_in (expression_of (TExpr.Step op place operation size ty line)) (At spot) v ≡ Some line
placed_counts_step spot v op place operation size ty line = ap (λ t. value_counts_in t (At spot) v) (show_expression_step op place operation size ty line)

pub ruleset placed_counts = (placed_counts_assign, placed_counts_step)

pub updated_counts_update : (spot : Spot) (u v : Datum) (op : _) (place : _) (value : _) (operation : _) (size : _) (ty : _) (line : _) → value_counts_in (expression_of (TExpr.Update op place value operation size ty line)) (AtWith spot u) v ≡ Some line
updated_counts_update spot u v op place value operation size ty line = ap (λ t. value_counts_in t (AtWith spot u) v) (show_expression_update op place value operation size ty line)

pub ruleset updated_counts = (updated_counts_update)

pub address_counts_address : (p : Program) (place : _) (ty : _) (line : _) → found_counts_in p (expression_of (TExpr.Address place ty line)) Nothing ≡ counted_if (is_operator p (place_type (place_of place.value)).ty ty) line
address_counts_address p place ty line = ap (λ t. found_counts_in p t Nothing) (show_expression_address place ty line)

pub ruleset address_counts = (address_counts_address)

pub copied_counts_struct_assign : (p : Program) (to : Spot) (place : _) (from : _) (size : _) (line : _) → found_counts_in p (expression_of (TExpr.StructAssign place from size line)) (At to) ≡ Some line
copied_counts_struct_assign p to place from size line = ap (λ t. found_counts_in p t (At to)) (show_expression_struct_assign place from size line)

pub ruleset copied_counts = (copied_counts_struct_assign)

pub no_value_chosen : (e : Expression) (v : Datum) → value_counts_in e Chosen v ≡ None
no_value_chosen (tree.Constant value line) v = refl
no_value_chosen (tree.Read place ty line) v = refl
no_value_chosen (tree.Address place ty line) v = refl
no_value_chosen (tree.Convert operand ty line) v = refl
no_value_chosen (tree.Cast operand ty line) v = refl
no_value_chosen (tree.Unary op operand ty line) v = refl
no_value_chosen (tree.Binary op left right ty line) v = refl
no_value_chosen (tree.Offset op left right size ty line) v = refl
no_value_chosen (tree.Difference left right size line) v = refl
no_value_chosen (tree.Logical op left right line) v = refl
no_value_chosen (tree.Conditional condition chosen otherwise ty line) v = refl
no_value_chosen (tree.Comma left right ty line) v = refl
no_value_chosen (tree.Assign place value ty line) v = refl
no_value_chosen (tree.StructAssign place from size line) v = refl
no_value_chosen (tree.Update op place value operation size ty line) v = refl
no_value_chosen (tree.Step op place operation size ty line) v = refl
no_value_chosen (tree.Call function arguments ty line) v = refl

pub no_value_stores : (spot : Spot) (w : Datum) (e : Expression) (v : Datum) → value_counts_in e (Stores spot w) v ≡ None
no_value_stores spot w (tree.Constant value line) v = refl
no_value_stores spot w (tree.Read place ty line) v = refl
no_value_stores spot w (tree.Address place ty line) v = refl
no_value_stores spot w (tree.Convert operand ty line) v = refl
no_value_stores spot w (tree.Cast operand ty line) v = refl
no_value_stores spot w (tree.Unary op operand ty line) v = refl
no_value_stores spot w (tree.Binary op left right ty line) v = refl
no_value_stores spot w (tree.Offset op left right size ty line) v = refl
no_value_stores spot w (tree.Difference left right size line) v = refl
no_value_stores spot w (tree.Logical op left right line) v = refl
no_value_stores spot w (tree.Conditional condition chosen otherwise ty line) v = refl
no_value_stores spot w (tree.Comma left right ty line) v = refl
no_value_stores spot w (tree.Assign place value ty line) v = refl
no_value_stores spot w (tree.StructAssign place from size line) v = refl
no_value_stores spot w (tree.Update op place value operation size ty line) v = refl
no_value_stores spot w (tree.Step op place operation size ty line) v = refl
no_value_stores spot w (tree.Call function arguments ty line) v = refl

pub no_value_copies : (e : Expression) (v : Datum) → value_counts_in e Copies v ≡ None
no_value_copies (tree.Constant value line) v = refl
no_value_copies (tree.Read place ty line) v = refl
no_value_copies (tree.Address place ty line) v = refl
no_value_copies (tree.Convert operand ty line) v = refl
no_value_copies (tree.Cast operand ty line) v = refl
no_value_copies (tree.Unary op operand ty line) v = refl
no_value_copies (tree.Binary op left right ty line) v = refl
no_value_copies (tree.Offset op left right size ty line) v = refl
no_value_copies (tree.Difference left right size line) v = refl
no_value_copies (tree.Logical op left right line) v = refl
no_value_copies (tree.Conditional condition chosen otherwise ty line) v = refl
no_value_copies (tree.Comma left right ty line) v = refl
no_value_copies (tree.Assign place value ty line) v = refl
no_value_copies (tree.StructAssign place from size line) v = refl
no_value_copies (tree.Update op place value operation size ty line) v = refl
no_value_copies (tree.Step op place operation size ty line) v = refl
no_value_copies (tree.Call function arguments ty line) v = refl

pub no_value_args : (values : List Datum) (more : Expressions) (e : Expression) (v : Datum) → value_counts_in e (Args values more) v ≡ None
no_value_args values more (tree.Constant value line) v = refl
no_value_args values more (tree.Read place ty line) v = refl
no_value_args values more (tree.Address place ty line) v = refl
no_value_args values more (tree.Convert operand ty line) v = refl
no_value_args values more (tree.Cast operand ty line) v = refl
no_value_args values more (tree.Unary op operand ty line) v = refl
no_value_args values more (tree.Binary op left right ty line) v = refl
no_value_args values more (tree.Offset op left right size ty line) v = refl
no_value_args values more (tree.Difference left right size line) v = refl
no_value_args values more (tree.Logical op left right line) v = refl
no_value_args values more (tree.Conditional condition chosen otherwise ty line) v = refl
no_value_args values more (tree.Comma left right ty line) v = refl
no_value_args values more (tree.Assign place value ty line) v = refl
no_value_args values more (tree.StructAssign place from size line) v = refl
no_value_args values more (tree.Update op place value operation size ty line) v = refl
no_value_args values more (tree.Step op place operation size ty line) v = refl
no_value_args values more (tree.Call function arguments ty line) v = refl

pub no_value_passed : (values : List Datum) (e : Expression) (v : Datum) → value_counts_in e (Passed values) v ≡ None
no_value_passed values (tree.Constant value line) v = refl
no_value_passed values (tree.Read place ty line) v = refl
no_value_passed values (tree.Address place ty line) v = refl
no_value_passed values (tree.Convert operand ty line) v = refl
no_value_passed values (tree.Cast operand ty line) v = refl
no_value_passed values (tree.Unary op operand ty line) v = refl
no_value_passed values (tree.Binary op left right ty line) v = refl
no_value_passed values (tree.Offset op left right size ty line) v = refl
no_value_passed values (tree.Difference left right size line) v = refl
no_value_passed values (tree.Logical op left right line) v = refl
no_value_passed values (tree.Conditional condition chosen otherwise ty line) v = refl
no_value_passed values (tree.Comma left right ty line) v = refl
no_value_passed values (tree.Assign place value ty line) v = refl
no_value_passed values (tree.StructAssign place from size line) v = refl
no_value_passed values (tree.Update op place value operation size ty line) v = refl
no_value_passed values (tree.Step op place operation size ty line) v = refl
no_value_passed values (tree.Call function arguments ty line) v = refl

pub no_value_called : (e : Expression) (v : Datum) → value_counts_in e Called v ≡ None
no_value_called (tree.Constant value line) v = refl
no_value_called (tree.Read place ty line) v = refl
no_value_called (tree.Address place ty line) v = refl
no_value_called (tree.Convert operand ty line) v = refl
no_value_called (tree.Cast operand ty line) v = refl
no_value_called (tree.Unary op operand ty line) v = refl
no_value_called (tree.Binary op left right ty line) v = refl
no_value_called (tree.Offset op left right size ty line) v = refl
no_value_called (tree.Difference left right size line) v = refl
no_value_called (tree.Logical op left right line) v = refl
no_value_called (tree.Conditional condition chosen otherwise ty line) v = refl
no_value_called (tree.Comma left right ty line) v = refl
no_value_called (tree.Assign place value ty line) v = refl
no_value_called (tree.StructAssign place from size line) v = refl
no_value_called (tree.Update op place value operation size ty line) v = refl
no_value_called (tree.Step op place operation size ty line) v = refl
no_value_called (tree.Call function arguments ty line) v = refl

pub no_find_chosen : (p : Program) (e : Expression) → found_counts_in p e Chosen ≡ None
no_find_chosen p (tree.Constant value line) = refl
no_find_chosen p (tree.Read place ty line) = refl
no_find_chosen p (tree.Address place ty line) = refl
no_find_chosen p (tree.Convert operand ty line) = refl
no_find_chosen p (tree.Cast operand ty line) = refl
no_find_chosen p (tree.Unary op operand ty line) = refl
no_find_chosen p (tree.Binary op left right ty line) = refl
no_find_chosen p (tree.Offset op left right size ty line) = refl
no_find_chosen p (tree.Difference left right size line) = refl
no_find_chosen p (tree.Logical op left right line) = refl
no_find_chosen p (tree.Conditional condition chosen otherwise ty line) = refl
no_find_chosen p (tree.Comma left right ty line) = refl
no_find_chosen p (tree.Assign place value ty line) = refl
no_find_chosen p (tree.StructAssign place from size line) = refl
no_find_chosen p (tree.Update op place value operation size ty line) = refl
no_find_chosen p (tree.Step op place operation size ty line) = refl
no_find_chosen p (tree.Call function arguments ty line) = refl

pub no_find_stores : (spot : Spot) (w : Datum) (p : Program) (e : Expression) → found_counts_in p e (Stores spot w) ≡ None
no_find_stores spot w p (tree.Constant value line) = refl
no_find_stores spot w p (tree.Read place ty line) = refl
no_find_stores spot w p (tree.Address place ty line) = refl
no_find_stores spot w p (tree.Convert operand ty line) = refl
no_find_stores spot w p (tree.Cast operand ty line) = refl
no_find_stores spot w p (tree.Unary op operand ty line) = refl
no_find_stores spot w p (tree.Binary op left right ty line) = refl
no_find_stores spot w p (tree.Offset op left right size ty line) = refl
no_find_stores spot w p (tree.Difference left right size line) = refl
no_find_stores spot w p (tree.Logical op left right line) = refl
no_find_stores spot w p (tree.Conditional condition chosen otherwise ty line) = refl
no_find_stores spot w p (tree.Comma left right ty line) = refl
no_find_stores spot w p (tree.Assign place value ty line) = refl
no_find_stores spot w p (tree.StructAssign place from size line) = refl
no_find_stores spot w p (tree.Update op place value operation size ty line) = refl
no_find_stores spot w p (tree.Step op place operation size ty line) = refl
no_find_stores spot w p (tree.Call function arguments ty line) = refl

pub no_find_copies : (p : Program) (e : Expression) → found_counts_in p e Copies ≡ None
no_find_copies p (tree.Constant value line) = refl
no_find_copies p (tree.Read place ty line) = refl
no_find_copies p (tree.Address place ty line) = refl
no_find_copies p (tree.Convert operand ty line) = refl
no_find_copies p (tree.Cast operand ty line) = refl
no_find_copies p (tree.Unary op operand ty line) = refl
no_find_copies p (tree.Binary op left right ty line) = refl
no_find_copies p (tree.Offset op left right size ty line) = refl
no_find_copies p (tree.Difference left right size line) = refl
no_find_copies p (tree.Logical op left right line) = refl
no_find_copies p (tree.Conditional condition chosen otherwise ty line) = refl
no_find_copies p (tree.Comma left right ty line) = refl
no_find_copies p (tree.Assign place value ty line) = refl
no_find_copies p (tree.StructAssign place from size line) = refl
no_find_copies p (tree.Update op place value operation size ty line) = refl
no_find_copies p (tree.Step op place operation size ty line) = refl
no_find_copies p (tree.Call function arguments ty line) = refl

pub no_find_args : (values : List Datum) (more : Expressions) (p : Program) (e : Expression) → found_counts_in p e (Args values more) ≡ None
no_find_args values more p (tree.Constant value line) = refl
no_find_args values more p (tree.Read place ty line) = refl
no_find_args values more p (tree.Address place ty line) = refl
no_find_args values more p (tree.Convert operand ty line) = refl
no_find_args values more p (tree.Cast operand ty line) = refl
no_find_args values more p (tree.Unary op operand ty line) = refl
no_find_args values more p (tree.Binary op left right ty line) = refl
no_find_args values more p (tree.Offset op left right size ty line) = refl
no_find_args values more p (tree.Difference left right size line) = refl
no_find_args values more p (tree.Logical op left right line) = refl
no_find_args values more p (tree.Conditional condition chosen otherwise ty line) = refl
no_find_args values more p (tree.Comma left right ty line) = refl
no_find_args values more p (tree.Assign place value ty line) = refl
no_find_args values more p (tree.StructAssign place from size line) = refl
no_find_args values more p (tree.Update op place value operation size ty line) = refl
no_find_args values more p (tree.Step op place operation size ty line) = refl
no_find_args values more p (tree.Call function arguments ty line) = refl

pub no_find_passed : (values : List Datum) (p : Program) (e : Expression) → found_counts_in p e (Passed values) ≡ None
no_find_passed values p (tree.Constant value line) = refl
no_find_passed values p (tree.Read place ty line) = refl
no_find_passed values p (tree.Address place ty line) = refl
no_find_passed values p (tree.Convert operand ty line) = refl
no_find_passed values p (tree.Cast operand ty line) = refl
no_find_passed values p (tree.Unary op operand ty line) = refl
no_find_passed values p (tree.Binary op left right ty line) = refl
no_find_passed values p (tree.Offset op left right size ty line) = refl
no_find_passed values p (tree.Difference left right size line) = refl
no_find_passed values p (tree.Logical op left right line) = refl
no_find_passed values p (tree.Conditional condition chosen otherwise ty line) = refl
no_find_passed values p (tree.Comma left right ty line) = refl
no_find_passed values p (tree.Assign place value ty line) = refl
no_find_passed values p (tree.StructAssign place from size line) = refl
no_find_passed values p (tree.Update op place value operation size ty line) = refl
no_find_passed values p (tree.Step op place operation size ty line) = refl
no_find_passed values p (tree.Call function arguments ty line) = refl

pub no_find_called : (p : Program) (e : Expression) → found_counts_in p e Called ≡ None
no_find_called p (tree.Constant value line) = refl
no_find_called p (tree.Read place ty line) = refl
no_find_called p (tree.Address place ty line) = refl
no_find_called p (tree.Convert operand ty line) = refl
no_find_called p (tree.Cast operand ty line) = refl
no_find_called p (tree.Unary op operand ty line) = refl
no_find_called p (tree.Binary op left right ty line) = refl
no_find_called p (tree.Offset op left right size ty line) = refl
no_find_called p (tree.Difference left right size line) = refl
no_find_called p (tree.Logical op left right line) = refl
no_find_called p (tree.Conditional condition chosen otherwise ty line) = refl
no_find_called p (tree.Comma left right ty line) = refl
no_find_called p (tree.Assign place value ty line) = refl
no_find_called p (tree.StructAssign place from size line) = refl
no_find_called p (tree.Update op place value operation size ty line) = refl
no_find_called p (tree.Step op place operation size ty line) = refl
no_find_called p (tree.Call function arguments ty line) = refl

pub no_find_one : (w : Datum) (p : Program) (e : Expression) → found_counts_in p e (One w) ≡ None
no_find_one w p (tree.Constant value line) = refl
no_find_one w p (tree.Read place ty line) = refl
no_find_one w p (tree.Address place ty line) = refl
no_find_one w p (tree.Convert operand ty line) = refl
no_find_one w p (tree.Cast operand ty line) = refl
no_find_one w p (tree.Unary op operand ty line) = refl
no_find_one w p (tree.Binary op left right ty line) = refl
no_find_one w p (tree.Offset op left right size ty line) = refl
no_find_one w p (tree.Difference left right size line) = refl
no_find_one w p (tree.Logical op left right line) = refl
no_find_one w p (tree.Conditional condition chosen otherwise ty line) = refl
no_find_one w p (tree.Comma left right ty line) = refl
no_find_one w p (tree.Assign place value ty line) = refl
no_find_one w p (tree.StructAssign place from size line) = refl
no_find_one w p (tree.Update op place value operation size ty line) = refl
no_find_one w p (tree.Step op place operation size ty line) = refl
no_find_one w p (tree.Call function arguments ty line) = refl

pub no_find_at_with : (spot : Spot) (w : Datum) (p : Program) (e : Expression) → found_counts_in p e (AtWith spot w) ≡ None
no_find_at_with spot w p (tree.Constant value line) = refl
no_find_at_with spot w p (tree.Read place ty line) = refl
no_find_at_with spot w p (tree.Address place ty line) = refl
no_find_at_with spot w p (tree.Convert operand ty line) = refl
no_find_at_with spot w p (tree.Cast operand ty line) = refl
no_find_at_with spot w p (tree.Unary op operand ty line) = refl
no_find_at_with spot w p (tree.Binary op left right ty line) = refl
no_find_at_with spot w p (tree.Offset op left right size ty line) = refl
no_find_at_with spot w p (tree.Difference left right size line) = refl
no_find_at_with spot w p (tree.Logical op left right line) = refl
no_find_at_with spot w p (tree.Conditional condition chosen otherwise ty line) = refl
no_find_at_with spot w p (tree.Comma left right ty line) = refl
no_find_at_with spot w p (tree.Assign place value ty line) = refl
no_find_at_with spot w p (tree.StructAssign place from size line) = refl
no_find_at_with spot w p (tree.Update op place value operation size ty line) = refl
no_find_at_with spot w p (tree.Step op place operation size ty line) = refl
no_find_at_with spot w p (tree.Call function arguments ty line) = refl
