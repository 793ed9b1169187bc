-- What is known of every node but those that a rule is about.
use Rattle.std.proofs.Common.{◌≡◌, ◌+◌, false, List, Some, None, refl, sym, ap, ◌∙◌}
use Rattle.c_typed.proofs.Shapes.{show_expression_address, show_expression_assign, show_expression_binary, show_expression_call, show_expression_cast, show_expression_comma, show_expression_conditional, show_expression_constant, show_expression_convert, show_expression_difference, show_expression_logical, show_expression_offset, show_expression_read, show_expression_step, show_expression_struct_assign, show_expression_unary, show_expression_update, show_statement_block, show_statement_break, show_statement_continue, show_statement_declare, show_statement_empty, show_statement_expr, show_statement_if_alone, show_statement_if_else, show_statement_init_list, show_statement_init_scalar, show_statement_loop, show_statement_return, show_statement_switch}
use Rattle.c_typed.specs.Trees.{Expression, Program}
use Rattle.c_typed.specs.Views.{expression_of, statement_of}
use Rattle.c_typed.specs.declared.expression.TExpr.TheOpen.{TExpr-F}
use Rattle.c_typed.specs.declared.expression.TExpr.TheOpen as Open
use Rattle.c_typed.specs.declared.expression.TExpr.TheVariants as TExpr
use Rattle.c_typed.specs.declared.expression.TExpr.TheViews.{out-TExpr, roll-TExpr, roll-out-TExpr}
use Rattle.c_typed.specs.declared.expression.TExpr.{TExpr}
use Rattle.c_typed.specs.declared.expression.TPlace.{TPlace}
use Rattle.c_typed.specs.declared.statement.TArm.{TArm}
use Rattle.c_typed.specs.declared.statement.TStmt.TheOpen.{TStmt-F}
use Rattle.c_typed.specs.declared.statement.TStmt.TheOpen as OpenStmt
use Rattle.c_typed.specs.declared.statement.TStmt.TheVariants as TStmt
use Rattle.c_typed.specs.declared.statement.TStmt.TheViews.{out-TStmt, roll-TStmt, roll-out-TStmt}
use Rattle.c_typed.specs.declared.statement.TStmt.{TStmt}
use Rattle.src_values.proofs.Steps.{no_value_chosen, no_value_stores, no_value_copies, no_value_args, no_value_passed, no_value_called, no_find_chosen, no_find_stores, no_find_copies, no_find_args, no_find_passed, no_find_called, no_find_one, no_find_at_with}
use Rattle.src_values.specs.Control.{Nothing, One, At, AtWith}
use Rattle.src_values.specs.Counting.{value_counts_in, found_counts_in}
use Rattle.src_values.specs.Data.{Datum}
use Rattle.src_values.specs.Seen.{arguments_from, datum_of, got_in, is_loop, is_switch, list_in}
use Rattle.src_values.specs.Values.{answer_of, kept_in}
use Rattle.src_values.specs.declared.control.Got.{Got}
use Rattle.src_values.specs.declared.control.Got.TheVariants as gots
use Rattle.src_values.specs.declared.objects.Spot.{Spot}

first_other_layer : (l : TExpr-F TExpr TPlace) (e : TExpr) → roll-TExpr l ≡ e → ((operand : _) (ty : _) (line : _) → e ≡ TExpr.Cast operand ty line → ⊥) → ((op : _) (operand : _) (ty : _) (line : _) → e ≡ TExpr.Unary op operand ty line → ⊥) → ((op : _) (left : _) (right : _) (line : _) → e ≡ TExpr.Logical op left right line → ⊥) → ((condition : _) (chosen : _) (otherwise : _) (ty : _) (line : _) → e ≡ TExpr.Conditional condition chosen otherwise ty line → ⊥) → ((left : _) (right : _) (ty : _) (line : _) → e ≡ TExpr.Comma left right ty line → ⊥) → (v : Datum) → value_counts_in (expression_of e) Nothing v ≡ None
first_other_layer (Open.Constant value line) e is no_cast no_unary no_logical no_conditional no_comma v = ap (λ t. value_counts_in t Nothing v) (ap expression_of (sym is ∙ TExpr.rolls-Constant value line) ∙ show_expression_constant value line)
first_other_layer (Open.Read place ty line) e is no_cast no_unary no_logical no_conditional no_comma v = ap (λ t. value_counts_in t Nothing v) (ap expression_of (sym is ∙ TExpr.rolls-Read place ty line) ∙ show_expression_read place ty line)
first_other_layer (Open.Address place ty line) e is no_cast no_unary no_logical no_conditional no_comma v = ap (λ t. value_counts_in t Nothing v) (ap expression_of (sym is ∙ TExpr.rolls-Address place ty line) ∙ show_expression_address place ty line)
first_other_layer (Open.Convert operand ty line) e is no_cast no_unary no_logical no_conditional no_comma v = ap (λ t. value_counts_in t Nothing v) (ap expression_of (sym is ∙ TExpr.rolls-Convert operand ty line) ∙ show_expression_convert operand ty line)
first_other_layer (Open.Cast operand ty line) e is no_cast no_unary no_logical no_conditional no_comma v = absurd (no_cast operand ty line (sym is ∙ TExpr.rolls-Cast operand ty line))
first_other_layer (Open.Unary op operand ty line) e is no_cast no_unary no_logical no_conditional no_comma v = absurd (no_unary op operand ty line (sym is ∙ TExpr.rolls-Unary op operand ty line))
first_other_layer (Open.Binary op left right ty line) e is no_cast no_unary no_logical no_conditional no_comma v = ap (λ t. value_counts_in t Nothing v) (ap expression_of (sym is ∙ TExpr.rolls-Binary op left right ty line) ∙ show_expression_binary op left right ty line)
first_other_layer (Open.Offset op left right size ty line) e is no_cast no_unary no_logical no_conditional no_comma v = ap (λ t. value_counts_in t Nothing v) (ap expression_of (sym is ∙ TExpr.rolls-Offset op left right size ty line) ∙ show_expression_offset op left right size ty line)
first_other_layer (Open.Difference left right size line) e is no_cast no_unary no_logical no_conditional no_comma v = ap (λ t. value_counts_in t Nothing v) (ap expression_of (sym is ∙ TExpr.rolls-Difference left right size line) ∙ show_expression_difference left right size line)
first_other_layer (Open.Logical op left right line) e is no_cast no_unary no_logical no_conditional no_comma v = absurd (no_logical op left right line (sym is ∙ TExpr.rolls-Logical op left right line))
first_other_layer (Open.Conditional condition chosen otherwise ty line) e is no_cast no_unary no_logical no_conditional no_comma v = absurd (no_conditional condition chosen otherwise ty line (sym is ∙ TExpr.rolls-Conditional condition chosen otherwise ty line))
first_other_layer (Open.Comma left right ty line) e is no_cast no_unary no_logical no_conditional no_comma v = absurd (no_comma left right ty line (sym is ∙ TExpr.rolls-Comma left right ty line))
first_other_layer (Open.Assign place value ty line) e is no_cast no_unary no_logical no_conditional no_comma v = ap (λ t. value_counts_in t Nothing v) (ap expression_of (sym is ∙ TExpr.rolls-Assign place value ty line) ∙ show_expression_assign place value ty line)
first_other_layer (Open.StructAssign place from size line) e is no_cast no_unary no_logical no_conditional no_comma v = ap (λ t. value_counts_in t Nothing v) (ap expression_of (sym is ∙ TExpr.rolls-StructAssign place from size line) ∙ show_expression_struct_assign place from size line)
first_other_layer (Open.Update op place value operation size ty line) e is no_cast no_unary no_logical no_conditional no_comma v = ap (λ t. value_counts_in t Nothing v) (ap expression_of (sym is ∙ TExpr.rolls-Update op place value operation size ty line) ∙ show_expression_update op place value operation size ty line)
first_other_layer (Open.Step op place operation size ty line) e is no_cast no_unary no_logical no_conditional no_comma v = ap (λ t. value_counts_in t Nothing v) (ap expression_of (sym is ∙ TExpr.rolls-Step op place operation size ty line) ∙ show_expression_step op place operation size ty line)
first_other_layer (Open.Call function arguments ty line) e is no_cast no_unary no_logical no_conditional no_comma v = ap (λ t. value_counts_in t Nothing v) (ap expression_of (sym is ∙ TExpr.rolls-Call function arguments ty line) ∙ show_expression_call function arguments ty line)

-- the first part of these alone counts
pub first_other : (e : TExpr) → ((operand : _) (ty : _) (line : _) → e ≡ TExpr.Cast operand ty line → ⊥) → ((op : _) (operand : _) (ty : _) (line : _) → e ≡ TExpr.Unary op operand ty line → ⊥) → ((op : _) (left : _) (right : _) (line : _) → e ≡ TExpr.Logical op left right line → ⊥) → ((condition : _) (chosen : _) (otherwise : _) (ty : _) (line : _) → e ≡ TExpr.Conditional condition chosen otherwise ty line → ⊥) → ((left : _) (right : _) (ty : _) (line : _) → e ≡ TExpr.Comma left right ty line → ⊥) → (v : Datum) → value_counts_in (expression_of e) Nothing v ≡ None
first_other e no_cast no_unary no_logical no_conditional no_comma v = first_other_layer (out-TExpr e) e (roll-out-TExpr e) no_cast no_unary no_logical no_conditional no_comma v

right_other_layer : (l : TExpr-F TExpr TPlace) (e : TExpr) → roll-TExpr l ≡ e → ((op : _) (left : _) (right : _) (ty : _) (line : _) → e ≡ TExpr.Binary op left right ty line → ⊥) → ((op : _) (left : _) (right : _) (size : _) (ty : _) (line : _) → e ≡ TExpr.Offset op left right size ty line → ⊥) → ((left : _) (right : _) (size : _) (line : _) → e ≡ TExpr.Difference left right size line → ⊥) → ((op : _) (left : _) (right : _) (line : _) → e ≡ TExpr.Logical op left right line → ⊥) → (u : Datum) (v : Datum) → value_counts_in (expression_of e) (One u) v ≡ None
right_other_layer (Open.Constant value line) e is no_binary no_offset no_difference no_logical u v = ap (λ t. value_counts_in t (One u) v) (ap expression_of (sym is ∙ TExpr.rolls-Constant value line) ∙ show_expression_constant value line)
right_other_layer (Open.Read place ty line) e is no_binary no_offset no_difference no_logical u v = ap (λ t. value_counts_in t (One u) v) (ap expression_of (sym is ∙ TExpr.rolls-Read place ty line) ∙ show_expression_read place ty line)
right_other_layer (Open.Address place ty line) e is no_binary no_offset no_difference no_logical u v = ap (λ t. value_counts_in t (One u) v) (ap expression_of (sym is ∙ TExpr.rolls-Address place ty line) ∙ show_expression_address place ty line)
right_other_layer (Open.Convert operand ty line) e is no_binary no_offset no_difference no_logical u v = ap (λ t. value_counts_in t (One u) v) (ap expression_of (sym is ∙ TExpr.rolls-Convert operand ty line) ∙ show_expression_convert operand ty line)
right_other_layer (Open.Cast operand ty line) e is no_binary no_offset no_difference no_logical u v = ap (λ t. value_counts_in t (One u) v) (ap expression_of (sym is ∙ TExpr.rolls-Cast operand ty line) ∙ show_expression_cast operand ty line)
right_other_layer (Open.Unary op operand ty line) e is no_binary no_offset no_difference no_logical u v = ap (λ t. value_counts_in t (One u) v) (ap expression_of (sym is ∙ TExpr.rolls-Unary op operand ty line) ∙ show_expression_unary op operand ty line)
right_other_layer (Open.Binary op left right ty line) e is no_binary no_offset no_difference no_logical u v = absurd (no_binary op left right ty line (sym is ∙ TExpr.rolls-Binary op left right ty line))
right_other_layer (Open.Offset op left right size ty line) e is no_binary no_offset no_difference no_logical u v = absurd (no_offset op left right size ty line (sym is ∙ TExpr.rolls-Offset op left right size ty line))
right_other_layer (Open.Difference left right size line) e is no_binary no_offset no_difference no_logical u v = absurd (no_difference left right size line (sym is ∙ TExpr.rolls-Difference left right size line))
right_other_layer (Open.Logical op left right line) e is no_binary no_offset no_difference no_logical u v = absurd (no_logical op left right line (sym is ∙ TExpr.rolls-Logical op left right line))
right_other_layer (Open.Conditional condition chosen otherwise ty line) e is no_binary no_offset no_difference no_logical u v = ap (λ t. value_counts_in t (One u) v) (ap expression_of (sym is ∙ TExpr.rolls-Conditional condition chosen otherwise ty line) ∙ show_expression_conditional condition chosen otherwise ty line)
right_other_layer (Open.Comma left right ty line) e is no_binary no_offset no_difference no_logical u v = ap (λ t. value_counts_in t (One u) v) (ap expression_of (sym is ∙ TExpr.rolls-Comma left right ty line) ∙ show_expression_comma left right ty line)
right_other_layer (Open.Assign place value ty line) e is no_binary no_offset no_difference no_logical u v = ap (λ t. value_counts_in t (One u) v) (ap expression_of (sym is ∙ TExpr.rolls-Assign place value ty line) ∙ show_expression_assign place value ty line)
right_other_layer (Open.StructAssign place from size line) e is no_binary no_offset no_difference no_logical u v = ap (λ t. value_counts_in t (One u) v) (ap expression_of (sym is ∙ TExpr.rolls-StructAssign place from size line) ∙ show_expression_struct_assign place from size line)
right_other_layer (Open.Update op place value operation size ty line) e is no_binary no_offset no_difference no_logical u v = ap (λ t. value_counts_in t (One u) v) (ap expression_of (sym is ∙ TExpr.rolls-Update op place value operation size ty line) ∙ show_expression_update op place value operation size ty line)
right_other_layer (Open.Step op place operation size ty line) e is no_binary no_offset no_difference no_logical u v = ap (λ t. value_counts_in t (One u) v) (ap expression_of (sym is ∙ TExpr.rolls-Step op place operation size ty line) ∙ show_expression_step op place operation size ty line)
right_other_layer (Open.Call function arguments ty line) e is no_binary no_offset no_difference no_logical u v = ap (λ t. value_counts_in t (One u) v) (ap expression_of (sym is ∙ TExpr.rolls-Call function arguments ty line) ∙ show_expression_call function arguments ty line)

-- the right operand of these alone counts
pub right_other : (e : TExpr) → ((op : _) (left : _) (right : _) (ty : _) (line : _) → e ≡ TExpr.Binary op left right ty line → ⊥) → ((op : _) (left : _) (right : _) (size : _) (ty : _) (line : _) → e ≡ TExpr.Offset op left right size ty line → ⊥) → ((left : _) (right : _) (size : _) (line : _) → e ≡ TExpr.Difference left right size line → ⊥) → ((op : _) (left : _) (right : _) (line : _) → e ≡ TExpr.Logical op left right line → ⊥) → (u : Datum) (v : Datum) → value_counts_in (expression_of e) (One u) v ≡ None
right_other e no_binary no_offset no_difference no_logical u v = right_other_layer (out-TExpr e) e (roll-out-TExpr e) no_binary no_offset no_difference no_logical u v

placed_other_layer : (l : TExpr-F TExpr TPlace) (e : TExpr) → roll-TExpr l ≡ e → ((place : _) (value : _) (ty : _) (line : _) → e ≡ TExpr.Assign place value ty line → ⊥) → ((op : _) (place : _) (operation : _) (size : _) (ty : _) (line : _) → e ≡ TExpr.Step op place operation size ty line → ⊥) → (spot : Spot) (v : Datum) → value_counts_in (expression_of e) (At spot) v ≡ None
placed_other_layer (Open.Constant value line) e is no_assign no_step spot v = ap (λ t. value_counts_in t (At spot) v) (ap expression_of (sym is ∙ TExpr.rolls-Constant value line) ∙ show_expression_constant value line)
placed_other_layer (Open.Read place ty line) e is no_assign no_step spot v = ap (λ t. value_counts_in t (At spot) v) (ap expression_of (sym is ∙ TExpr.rolls-Read place ty line) ∙ show_expression_read place ty line)
placed_other_layer (Open.Address place ty line) e is no_assign no_step spot v = ap (λ t. value_counts_in t (At spot) v) (ap expression_of (sym is ∙ TExpr.rolls-Address place ty line) ∙ show_expression_address place ty line)
placed_other_layer (Open.Convert operand ty line) e is no_assign no_step spot v = ap (λ t. value_counts_in t (At spot) v) (ap expression_of (sym is ∙ TExpr.rolls-Convert operand ty line) ∙ show_expression_convert operand ty line)
placed_other_layer (Open.Cast operand ty line) e is no_assign no_step spot v = ap (λ t. value_counts_in t (At spot) v) (ap expression_of (sym is ∙ TExpr.rolls-Cast operand ty line) ∙ show_expression_cast operand ty line)
placed_other_layer (Open.Unary op operand ty line) e is no_assign no_step spot v = ap (λ t. value_counts_in t (At spot) v) (ap expression_of (sym is ∙ TExpr.rolls-Unary op operand ty line) ∙ show_expression_unary op operand ty line)
placed_other_layer (Open.Binary op left right ty line) e is no_assign no_step spot v = ap (λ t. value_counts_in t (At spot) v) (ap expression_of (sym is ∙ TExpr.rolls-Binary op left right ty line) ∙ show_expression_binary op left right ty line)
placed_other_layer (Open.Offset op left right size ty line) e is no_assign no_step spot v = ap (λ t. value_counts_in t (At spot) v) (ap expression_of (sym is ∙ TExpr.rolls-Offset op left right size ty line) ∙ show_expression_offset op left right size ty line)
placed_other_layer (Open.Difference left right size line) e is no_assign no_step spot v = ap (λ t. value_counts_in t (At spot) v) (ap expression_of (sym is ∙ TExpr.rolls-Difference left right size line) ∙ show_expression_difference left right size line)
placed_other_layer (Open.Logical op left right line) e is no_assign no_step spot v = ap (λ t. value_counts_in t (At spot) v) (ap expression_of (sym is ∙ TExpr.rolls-Logical op left right line) ∙ show_expression_logical op left right line)
placed_other_layer (Open.Conditional condition chosen otherwise ty line) e is no_assign no_step spot v = ap (λ t. value_counts_in t (At spot) v) (ap expression_of (sym is ∙ TExpr.rolls-Conditional condition chosen otherwise ty line) ∙ show_expression_conditional condition chosen otherwise ty line)
placed_other_layer (Open.Comma left right ty line) e is no_assign no_step spot v = ap (λ t. value_counts_in t (At spot) v) (ap expression_of (sym is ∙ TExpr.rolls-Comma left right ty line) ∙ show_expression_comma left right ty line)
placed_other_layer (Open.Assign place value ty line) e is no_assign no_step spot v = absurd (no_assign place value ty line (sym is ∙ TExpr.rolls-Assign place value ty line))
placed_other_layer (Open.StructAssign place from size line) e is no_assign no_step spot v = ap (λ t. value_counts_in t (At spot) v) (ap expression_of (sym is ∙ TExpr.rolls-StructAssign place from size line) ∙ show_expression_struct_assign place from size line)
placed_other_layer (Open.Update op place value operation size ty line) e is no_assign no_step spot v = ap (λ t. value_counts_in t (At spot) v) (ap expression_of (sym is ∙ TExpr.rolls-Update op place value operation size ty line) ∙ show_expression_update op place value operation size ty line)
placed_other_layer (Open.Step op place operation size ty line) e is no_assign no_step spot v = absurd (no_step op place operation size ty line (sym is ∙ TExpr.rolls-Step op place operation size ty line))
placed_other_layer (Open.Call function arguments ty line) e is no_assign no_step spot v = ap (λ t. value_counts_in t (At spot) v) (ap expression_of (sym is ∙ TExpr.rolls-Call function arguments ty line) ∙ show_expression_call function arguments ty line)

-- a value for a place of these alone counts
pub placed_other : (e : TExpr) → ((place : _) (value : _) (ty : _) (line : _) → e ≡ TExpr.Assign place value ty line → ⊥) → ((op : _) (place : _) (operation : _) (size : _) (ty : _) (line : _) → e ≡ TExpr.Step op place operation size ty line → ⊥) → (spot : Spot) (v : Datum) → value_counts_in (expression_of e) (At spot) v ≡ None
placed_other e no_assign no_step spot v = placed_other_layer (out-TExpr e) e (roll-out-TExpr e) no_assign no_step spot v

updated_other_layer : (l : TExpr-F TExpr TPlace) (e : TExpr) → roll-TExpr l ≡ e → ((op : _) (place : _) (value : _) (operation : _) (size : _) (ty : _) (line : _) → e ≡ TExpr.Update op place value operation size ty line → ⊥) → (spot : Spot) (u : Datum) (v : Datum) → value_counts_in (expression_of e) (AtWith spot u) v ≡ None
updated_other_layer (Open.Constant value line) e is no_update spot u v = ap (λ t. value_counts_in t (AtWith spot u) v) (ap expression_of (sym is ∙ TExpr.rolls-Constant value line) ∙ show_expression_constant value line)
updated_other_layer (Open.Read place ty line) e is no_update spot u v = ap (λ t. value_counts_in t (AtWith spot u) v) (ap expression_of (sym is ∙ TExpr.rolls-Read place ty line) ∙ show_expression_read place ty line)
updated_other_layer (Open.Address place ty line) e is no_update spot u v = ap (λ t. value_counts_in t (AtWith spot u) v) (ap expression_of (sym is ∙ TExpr.rolls-Address place ty line) ∙ show_expression_address place ty line)
updated_other_layer (Open.Convert operand ty line) e is no_update spot u v = ap (λ t. value_counts_in t (AtWith spot u) v) (ap expression_of (sym is ∙ TExpr.rolls-Convert operand ty line) ∙ show_expression_convert operand ty line)
updated_other_layer (Open.Cast operand ty line) e is no_update spot u v = ap (λ t. value_counts_in t (AtWith spot u) v) (ap expression_of (sym is ∙ TExpr.rolls-Cast operand ty line) ∙ show_expression_cast operand ty line)
updated_other_layer (Open.Unary op operand ty line) e is no_update spot u v = ap (λ t. value_counts_in t (AtWith spot u) v) (ap expression_of (sym is ∙ TExpr.rolls-Unary op operand ty line) ∙ show_expression_unary op operand ty line)
updated_other_layer (Open.Binary op left right ty line) e is no_update spot u v = ap (λ t. value_counts_in t (AtWith spot u) v) (ap expression_of (sym is ∙ TExpr.rolls-Binary op left right ty line) ∙ show_expression_binary op left right ty line)
updated_other_layer (Open.Offset op left right size ty line) e is no_update spot u v = ap (λ t. value_counts_in t (AtWith spot u) v) (ap expression_of (sym is ∙ TExpr.rolls-Offset op left right size ty line) ∙ show_expression_offset op left right size ty line)
updated_other_layer (Open.Difference left right size line) e is no_update spot u v = ap (λ t. value_counts_in t (AtWith spot u) v) (ap expression_of (sym is ∙ TExpr.rolls-Difference left right size line) ∙ show_expression_difference left right size line)
updated_other_layer (Open.Logical op left right line) e is no_update spot u v = ap (λ t. value_counts_in t (AtWith spot u) v) (ap expression_of (sym is ∙ TExpr.rolls-Logical op left right line) ∙ show_expression_logical op left right line)
updated_other_layer (Open.Conditional condition chosen otherwise ty line) e is no_update spot u v = ap (λ t. value_counts_in t (AtWith spot u) v) (ap expression_of (sym is ∙ TExpr.rolls-Conditional condition chosen otherwise ty line) ∙ show_expression_conditional condition chosen otherwise ty line)
updated_other_layer (Open.Comma left right ty line) e is no_update spot u v = ap (λ t. value_counts_in t (AtWith spot u) v) (ap expression_of (sym is ∙ TExpr.rolls-Comma left right ty line) ∙ show_expression_comma left right ty line)
updated_other_layer (Open.Assign place value ty line) e is no_update spot u v = ap (λ t. value_counts_in t (AtWith spot u) v) (ap expression_of (sym is ∙ TExpr.rolls-Assign place value ty line) ∙ show_expression_assign place value ty line)
updated_other_layer (Open.StructAssign place from size line) e is no_update spot u v = ap (λ t. value_counts_in t (AtWith spot u) v) (ap expression_of (sym is ∙ TExpr.rolls-StructAssign place from size line) ∙ show_expression_struct_assign place from size line)
updated_other_layer (Open.Update op place value operation size ty line) e is no_update spot u v = absurd (no_update op place value operation size ty line (sym is ∙ TExpr.rolls-Update op place value operation size ty line))
updated_other_layer (Open.Step op place operation size ty line) e is no_update spot u v = ap (λ t. value_counts_in t (AtWith spot u) v) (ap expression_of (sym is ∙ TExpr.rolls-Step op place operation size ty line) ∙ show_expression_step op place operation size ty line)
updated_other_layer (Open.Call function arguments ty line) e is no_update spot u v = ap (λ t. value_counts_in t (AtWith spot u) v) (ap expression_of (sym is ∙ TExpr.rolls-Call function arguments ty line) ∙ show_expression_call function arguments ty line)

-- the old value counts where a place is updated
pub updated_other : (e : TExpr) → ((op : _) (place : _) (value : _) (operation : _) (size : _) (ty : _) (line : _) → e ≡ TExpr.Update op place value operation size ty line → ⊥) → (spot : Spot) (u : Datum) (v : Datum) → value_counts_in (expression_of e) (AtWith spot u) v ≡ None
updated_other e no_update spot u v = updated_other_layer (out-TExpr e) e (roll-out-TExpr e) no_update spot u v

address_other_layer : (l : TExpr-F TExpr TPlace) (e : TExpr) → roll-TExpr l ≡ e → ((place : _) (ty : _) (line : _) → e ≡ TExpr.Address place ty line → ⊥) → (p : Program) → found_counts_in p (expression_of e) Nothing ≡ None
address_other_layer (Open.Constant value line) e is no_address p = ap (λ t. found_counts_in p t Nothing) (ap expression_of (sym is ∙ TExpr.rolls-Constant value line) ∙ show_expression_constant value line)
address_other_layer (Open.Read place ty line) e is no_address p = ap (λ t. found_counts_in p t Nothing) (ap expression_of (sym is ∙ TExpr.rolls-Read place ty line) ∙ show_expression_read place ty line)
address_other_layer (Open.Address place ty line) e is no_address p = absurd (no_address place ty line (sym is ∙ TExpr.rolls-Address place ty line))
address_other_layer (Open.Convert operand ty line) e is no_address p = ap (λ t. found_counts_in p t Nothing) (ap expression_of (sym is ∙ TExpr.rolls-Convert operand ty line) ∙ show_expression_convert operand ty line)
address_other_layer (Open.Cast operand ty line) e is no_address p = ap (λ t. found_counts_in p t Nothing) (ap expression_of (sym is ∙ TExpr.rolls-Cast operand ty line) ∙ show_expression_cast operand ty line)
address_other_layer (Open.Unary op operand ty line) e is no_address p = ap (λ t. found_counts_in p t Nothing) (ap expression_of (sym is ∙ TExpr.rolls-Unary op operand ty line) ∙ show_expression_unary op operand ty line)
address_other_layer (Open.Binary op left right ty line) e is no_address p = ap (λ t. found_counts_in p t Nothing) (ap expression_of (sym is ∙ TExpr.rolls-Binary op left right ty line) ∙ show_expression_binary op left right ty line)
address_other_layer (Open.Offset op left right size ty line) e is no_address p = ap (λ t. found_counts_in p t Nothing) (ap expression_of (sym is ∙ TExpr.rolls-Offset op left right size ty line) ∙ show_expression_offset op left right size ty line)
address_other_layer (Open.Difference left right size line) e is no_address p = ap (λ t. found_counts_in p t Nothing) (ap expression_of (sym is ∙ TExpr.rolls-Difference left right size line) ∙ show_expression_difference left right size line)
address_other_layer (Open.Logical op left right line) e is no_address p = ap (λ t. found_counts_in p t Nothing) (ap expression_of (sym is ∙ TExpr.rolls-Logical op left right line) ∙ show_expression_logical op left right line)
address_other_layer (Open.Conditional condition chosen otherwise ty line) e is no_address p = ap (λ t. found_counts_in p t Nothing) (ap expression_of (sym is ∙ TExpr.rolls-Conditional condition chosen otherwise ty line) ∙ show_expression_conditional condition chosen otherwise ty line)
address_other_layer (Open.Comma left right ty line) e is no_address p = ap (λ t. found_counts_in p t Nothing) (ap expression_of (sym is ∙ TExpr.rolls-Comma left right ty line) ∙ show_expression_comma left right ty line)
address_other_layer (Open.Assign place value ty line) e is no_address p = ap (λ t. found_counts_in p t Nothing) (ap expression_of (sym is ∙ TExpr.rolls-Assign place value ty line) ∙ show_expression_assign place value ty line)
address_other_layer (Open.StructAssign place from size line) e is no_address p = ap (λ t. found_counts_in p t Nothing) (ap expression_of (sym is ∙ TExpr.rolls-StructAssign place from size line) ∙ show_expression_struct_assign place from size line)
address_other_layer (Open.Update op place value operation size ty line) e is no_address p = ap (λ t. found_counts_in p t Nothing) (ap expression_of (sym is ∙ TExpr.rolls-Update op place value operation size ty line) ∙ show_expression_update op place value operation size ty line)
address_other_layer (Open.Step op place operation size ty line) e is no_address p = ap (λ t. found_counts_in p t Nothing) (ap expression_of (sym is ∙ TExpr.rolls-Step op place operation size ty line) ∙ show_expression_step op place operation size ty line)
address_other_layer (Open.Call function arguments ty line) e is no_address p = ap (λ t. found_counts_in p t Nothing) (ap expression_of (sym is ∙ TExpr.rolls-Call function arguments ty line) ∙ show_expression_call function arguments ty line)

-- the place of an address counts
pub address_other : (e : TExpr) → ((place : _) (ty : _) (line : _) → e ≡ TExpr.Address place ty line → ⊥) → (p : Program) → found_counts_in p (expression_of e) Nothing ≡ None
address_other e no_address p = address_other_layer (out-TExpr e) e (roll-out-TExpr e) no_address p

copied_other_layer : (l : TExpr-F TExpr TPlace) (e : TExpr) → roll-TExpr l ≡ e → ((place : _) (from : _) (size : _) (line : _) → e ≡ TExpr.StructAssign place from size line → ⊥) → (p : Program) (to : Spot) → found_counts_in p (expression_of e) (At to) ≡ None
copied_other_layer (Open.Constant value line) e is no_struct_assign p to = ap (λ t. found_counts_in p t (At to)) (ap expression_of (sym is ∙ TExpr.rolls-Constant value line) ∙ show_expression_constant value line)
copied_other_layer (Open.Read place ty line) e is no_struct_assign p to = ap (λ t. found_counts_in p t (At to)) (ap expression_of (sym is ∙ TExpr.rolls-Read place ty line) ∙ show_expression_read place ty line)
copied_other_layer (Open.Address place ty line) e is no_struct_assign p to = ap (λ t. found_counts_in p t (At to)) (ap expression_of (sym is ∙ TExpr.rolls-Address place ty line) ∙ show_expression_address place ty line)
copied_other_layer (Open.Convert operand ty line) e is no_struct_assign p to = ap (λ t. found_counts_in p t (At to)) (ap expression_of (sym is ∙ TExpr.rolls-Convert operand ty line) ∙ show_expression_convert operand ty line)
copied_other_layer (Open.Cast operand ty line) e is no_struct_assign p to = ap (λ t. found_counts_in p t (At to)) (ap expression_of (sym is ∙ TExpr.rolls-Cast operand ty line) ∙ show_expression_cast operand ty line)
copied_other_layer (Open.Unary op operand ty line) e is no_struct_assign p to = ap (λ t. found_counts_in p t (At to)) (ap expression_of (sym is ∙ TExpr.rolls-Unary op operand ty line) ∙ show_expression_unary op operand ty line)
copied_other_layer (Open.Binary op left right ty line) e is no_struct_assign p to = ap (λ t. found_counts_in p t (At to)) (ap expression_of (sym is ∙ TExpr.rolls-Binary op left right ty line) ∙ show_expression_binary op left right ty line)
copied_other_layer (Open.Offset op left right size ty line) e is no_struct_assign p to = ap (λ t. found_counts_in p t (At to)) (ap expression_of (sym is ∙ TExpr.rolls-Offset op left right size ty line) ∙ show_expression_offset op left right size ty line)
copied_other_layer (Open.Difference left right size line) e is no_struct_assign p to = ap (λ t. found_counts_in p t (At to)) (ap expression_of (sym is ∙ TExpr.rolls-Difference left right size line) ∙ show_expression_difference left right size line)
copied_other_layer (Open.Logical op left right line) e is no_struct_assign p to = ap (λ t. found_counts_in p t (At to)) (ap expression_of (sym is ∙ TExpr.rolls-Logical op left right line) ∙ show_expression_logical op left right line)
copied_other_layer (Open.Conditional condition chosen otherwise ty line) e is no_struct_assign p to = ap (λ t. found_counts_in p t (At to)) (ap expression_of (sym is ∙ TExpr.rolls-Conditional condition chosen otherwise ty line) ∙ show_expression_conditional condition chosen otherwise ty line)
copied_other_layer (Open.Comma left right ty line) e is no_struct_assign p to = ap (λ t. found_counts_in p t (At to)) (ap expression_of (sym is ∙ TExpr.rolls-Comma left right ty line) ∙ show_expression_comma left right ty line)
copied_other_layer (Open.Assign place value ty line) e is no_struct_assign p to = ap (λ t. found_counts_in p t (At to)) (ap expression_of (sym is ∙ TExpr.rolls-Assign place value ty line) ∙ show_expression_assign place value ty line)
copied_other_layer (Open.StructAssign place from size line) e is no_struct_assign p to = absurd (no_struct_assign place from size line (sym is ∙ TExpr.rolls-StructAssign place from size line))
copied_other_layer (Open.Update op place value operation size ty line) e is no_struct_assign p to = ap (λ t. found_counts_in p t (At to)) (ap expression_of (sym is ∙ TExpr.rolls-Update op place value operation size ty line) ∙ show_expression_update op place value operation size ty line)
copied_other_layer (Open.Step op place operation size ty line) e is no_struct_assign p to = ap (λ t. found_counts_in p t (At to)) (ap expression_of (sym is ∙ TExpr.rolls-Step op place operation size ty line) ∙ show_expression_step op place operation size ty line)
copied_other_layer (Open.Call function arguments ty line) e is no_struct_assign p to = ap (λ t. found_counts_in p t (At to)) (ap expression_of (sym is ∙ TExpr.rolls-Call function arguments ty line) ∙ show_expression_call function arguments ty line)

-- the second place of an assignment of structures counts
pub copied_other : (e : TExpr) → ((place : _) (from : _) (size : _) (line : _) → e ≡ TExpr.StructAssign place from size line → ⊥) → (p : Program) (to : Spot) → found_counts_in p (expression_of e) (At to) ≡ None
copied_other e no_struct_assign p to = copied_other_layer (out-TExpr e) e (roll-out-TExpr e) no_struct_assign p to

answer_other_layer : (l : TExpr-F TExpr TPlace) (e : TExpr) → roll-TExpr l ≡ e → ((op : _) (place : _) (operation : _) (size : _) (ty : _) (line : _) → e ≡ TExpr.Step op place operation size ty line → ⊥) → (spot : Spot) (v : Datum) → answer_of (expression_of e) spot v ≡ kept_in spot v
answer_other_layer (Open.Constant value line) e is no_step spot v = ap (λ t. answer_of t spot v) (ap expression_of (sym is ∙ TExpr.rolls-Constant value line) ∙ show_expression_constant value line)
answer_other_layer (Open.Read place ty line) e is no_step spot v = ap (λ t. answer_of t spot v) (ap expression_of (sym is ∙ TExpr.rolls-Read place ty line) ∙ show_expression_read place ty line)
answer_other_layer (Open.Address place ty line) e is no_step spot v = ap (λ t. answer_of t spot v) (ap expression_of (sym is ∙ TExpr.rolls-Address place ty line) ∙ show_expression_address place ty line)
answer_other_layer (Open.Convert operand ty line) e is no_step spot v = ap (λ t. answer_of t spot v) (ap expression_of (sym is ∙ TExpr.rolls-Convert operand ty line) ∙ show_expression_convert operand ty line)
answer_other_layer (Open.Cast operand ty line) e is no_step spot v = ap (λ t. answer_of t spot v) (ap expression_of (sym is ∙ TExpr.rolls-Cast operand ty line) ∙ show_expression_cast operand ty line)
answer_other_layer (Open.Unary op operand ty line) e is no_step spot v = ap (λ t. answer_of t spot v) (ap expression_of (sym is ∙ TExpr.rolls-Unary op operand ty line) ∙ show_expression_unary op operand ty line)
answer_other_layer (Open.Binary op left right ty line) e is no_step spot v = ap (λ t. answer_of t spot v) (ap expression_of (sym is ∙ TExpr.rolls-Binary op left right ty line) ∙ show_expression_binary op left right ty line)
answer_other_layer (Open.Offset op left right size ty line) e is no_step spot v = ap (λ t. answer_of t spot v) (ap expression_of (sym is ∙ TExpr.rolls-Offset op left right size ty line) ∙ show_expression_offset op left right size ty line)
answer_other_layer (Open.Difference left right size line) e is no_step spot v = ap (λ t. answer_of t spot v) (ap expression_of (sym is ∙ TExpr.rolls-Difference left right size line) ∙ show_expression_difference left right size line)
answer_other_layer (Open.Logical op left right line) e is no_step spot v = ap (λ t. answer_of t spot v) (ap expression_of (sym is ∙ TExpr.rolls-Logical op left right line) ∙ show_expression_logical op left right line)
answer_other_layer (Open.Conditional condition chosen otherwise ty line) e is no_step spot v = ap (λ t. answer_of t spot v) (ap expression_of (sym is ∙ TExpr.rolls-Conditional condition chosen otherwise ty line) ∙ show_expression_conditional condition chosen otherwise ty line)
answer_other_layer (Open.Comma left right ty line) e is no_step spot v = ap (λ t. answer_of t spot v) (ap expression_of (sym is ∙ TExpr.rolls-Comma left right ty line) ∙ show_expression_comma left right ty line)
answer_other_layer (Open.Assign place value ty line) e is no_step spot v = ap (λ t. answer_of t spot v) (ap expression_of (sym is ∙ TExpr.rolls-Assign place value ty line) ∙ show_expression_assign place value ty line)
answer_other_layer (Open.StructAssign place from size line) e is no_step spot v = ap (λ t. answer_of t spot v) (ap expression_of (sym is ∙ TExpr.rolls-StructAssign place from size line) ∙ show_expression_struct_assign place from size line)
answer_other_layer (Open.Update op place value operation size ty line) e is no_step spot v = ap (λ t. answer_of t spot v) (ap expression_of (sym is ∙ TExpr.rolls-Update op place value operation size ty line) ∙ show_expression_update op place value operation size ty line)
answer_other_layer (Open.Step op place operation size ty line) e is no_step spot v = absurd (no_step op place operation size ty line (sym is ∙ TExpr.rolls-Step op place operation size ty line))
answer_other_layer (Open.Call function arguments ty line) e is no_step spot v = ap (λ t. answer_of t spot v) (ap expression_of (sym is ∙ TExpr.rolls-Call function arguments ty line) ∙ show_expression_call function arguments ty line)

-- all but these give what their place holds
pub answer_other : (e : TExpr) → ((op : _) (place : _) (operation : _) (size : _) (ty : _) (line : _) → e ≡ TExpr.Step op place operation size ty line → ⊥) → (spot : Spot) (v : Datum) → answer_of (expression_of e) spot v ≡ kept_in spot v
answer_other e no_step spot v = answer_other_layer (out-TExpr e) e (roll-out-TExpr e) no_step spot v

loop_other_layer : (l : TStmt-F TStmt TArm) (e : TStmt) → roll-TStmt l ≡ e → ((shape : _) (first : _) (condition : _) (step : _) (body : _) (line : _) → e ≡ TStmt.Loop shape first condition step body line → ⊥) → is_loop (statement_of e) ≡ false
loop_other_layer (OpenStmt.Block ss line) e is no_loop = ap (λ t. is_loop t) (ap statement_of (sym is ∙ TStmt.rolls-Block ss line) ∙ show_statement_block ss line)
loop_other_layer (OpenStmt.Empty line) e is no_loop = ap (λ t. is_loop t) (ap statement_of (sym is ∙ TStmt.rolls-Empty line) ∙ show_statement_empty line)
loop_other_layer (OpenStmt.Expr value line) e is no_loop = ap (λ t. is_loop t) (ap statement_of (sym is ∙ TStmt.rolls-Expr value line) ∙ show_statement_expr value line)
loop_other_layer (OpenStmt.Declare local line) e is no_loop = ap (λ t. is_loop t) (ap statement_of (sym is ∙ TStmt.rolls-Declare local line) ∙ show_statement_declare local line)
loop_other_layer (OpenStmt.InitScalar local value line) e is no_loop = ap (λ t. is_loop t) (ap statement_of (sym is ∙ TStmt.rolls-InitScalar local value line) ∙ show_statement_init_scalar local value line)
loop_other_layer (OpenStmt.InitList local items line) e is no_loop = ap (λ t. is_loop t) (ap statement_of (sym is ∙ TStmt.rolls-InitList local items line) ∙ show_statement_init_list local items line)
loop_other_layer (OpenStmt.If chain None line) e is no_loop = ap (λ t. is_loop t) (ap statement_of (sym is ∙ TStmt.rolls-If chain None line) ∙ show_statement_if_alone chain line)
loop_other_layer (OpenStmt.If chain (Some last) line) e is no_loop = ap (λ t. is_loop t) (ap statement_of (sym is ∙ TStmt.rolls-If chain (Some last) line) ∙ show_statement_if_else chain last line)
loop_other_layer (OpenStmt.Loop shape first condition step body line) e is no_loop = absurd (no_loop shape first condition step body line (sym is ∙ TStmt.rolls-Loop shape first condition step body line))
loop_other_layer (OpenStmt.Switch value cases default ss line) e is no_loop = ap (λ t. is_loop t) (ap statement_of (sym is ∙ TStmt.rolls-Switch value cases default ss line) ∙ show_statement_switch value cases default ss line)
loop_other_layer (OpenStmt.Break line) e is no_loop = ap (λ t. is_loop t) (ap statement_of (sym is ∙ TStmt.rolls-Break line) ∙ show_statement_break line)
loop_other_layer (OpenStmt.Continue line) e is no_loop = ap (λ t. is_loop t) (ap statement_of (sym is ∙ TStmt.rolls-Continue line) ∙ show_statement_continue line)
loop_other_layer (OpenStmt.Return value line) e is no_loop = ap (λ t. is_loop t) (ap statement_of (sym is ∙ TStmt.rolls-Return value line) ∙ show_statement_return value line)

-- no other is a loop
pub loop_other : (e : TStmt) → ((shape : _) (first : _) (condition : _) (step : _) (body : _) (line : _) → e ≡ TStmt.Loop shape first condition step body line → ⊥) → is_loop (statement_of e) ≡ false
loop_other e no_loop = loop_other_layer (out-TStmt e) e (roll-out-TStmt e) no_loop

switch_other_layer : (l : TStmt-F TStmt TArm) (e : TStmt) → roll-TStmt l ≡ e → ((value : _) (cases : _) (default : _) (ss : _) (line : _) → e ≡ TStmt.Switch value cases default ss line → ⊥) → is_switch (statement_of e) ≡ false
switch_other_layer (OpenStmt.Block ss line) e is no_switch = ap (λ t. is_switch t) (ap statement_of (sym is ∙ TStmt.rolls-Block ss line) ∙ show_statement_block ss line)
switch_other_layer (OpenStmt.Empty line) e is no_switch = ap (λ t. is_switch t) (ap statement_of (sym is ∙ TStmt.rolls-Empty line) ∙ show_statement_empty line)
switch_other_layer (OpenStmt.Expr value line) e is no_switch = ap (λ t. is_switch t) (ap statement_of (sym is ∙ TStmt.rolls-Expr value line) ∙ show_statement_expr value line)
switch_other_layer (OpenStmt.Declare local line) e is no_switch = ap (λ t. is_switch t) (ap statement_of (sym is ∙ TStmt.rolls-Declare local line) ∙ show_statement_declare local line)
switch_other_layer (OpenStmt.InitScalar local value line) e is no_switch = ap (λ t. is_switch t) (ap statement_of (sym is ∙ TStmt.rolls-InitScalar local value line) ∙ show_statement_init_scalar local value line)
switch_other_layer (OpenStmt.InitList local items line) e is no_switch = ap (λ t. is_switch t) (ap statement_of (sym is ∙ TStmt.rolls-InitList local items line) ∙ show_statement_init_list local items line)
switch_other_layer (OpenStmt.If chain None line) e is no_switch = ap (λ t. is_switch t) (ap statement_of (sym is ∙ TStmt.rolls-If chain None line) ∙ show_statement_if_alone chain line)
switch_other_layer (OpenStmt.If chain (Some last) line) e is no_switch = ap (λ t. is_switch t) (ap statement_of (sym is ∙ TStmt.rolls-If chain (Some last) line) ∙ show_statement_if_else chain last line)
switch_other_layer (OpenStmt.Loop shape first condition step body line) e is no_switch = ap (λ t. is_switch t) (ap statement_of (sym is ∙ TStmt.rolls-Loop shape first condition step body line) ∙ show_statement_loop shape first condition step body line)
switch_other_layer (OpenStmt.Switch value cases default ss line) e is no_switch = absurd (no_switch value cases default ss line (sym is ∙ TStmt.rolls-Switch value cases default ss line))
switch_other_layer (OpenStmt.Break line) e is no_switch = ap (λ t. is_switch t) (ap statement_of (sym is ∙ TStmt.rolls-Break line) ∙ show_statement_break line)
switch_other_layer (OpenStmt.Continue line) e is no_switch = ap (λ t. is_switch t) (ap statement_of (sym is ∙ TStmt.rolls-Continue line) ∙ show_statement_continue line)
switch_other_layer (OpenStmt.Return value line) e is no_switch = ap (λ t. is_switch t) (ap statement_of (sym is ∙ TStmt.rolls-Return value line) ∙ show_statement_return value line)

-- no other is a switch
pub switch_other : (e : TStmt) → ((value : _) (cases : _) (default : _) (ss : _) (line : _) → e ≡ TStmt.Switch value cases default ss line → ⊥) → is_switch (statement_of e) ≡ false
switch_other e no_switch = switch_other_layer (out-TStmt e) e (roll-out-TStmt e) no_switch

list_other_layer : (l : TStmt-F TStmt TArm) (e : TStmt) → roll-TStmt l ≡ e → ((local : _) (items : _) (line : _) → e ≡ TStmt.InitList local items line → ⊥) → list_in (statement_of e) ≡ None
list_other_layer (OpenStmt.Block ss line) e is no_init_list = ap (λ t. list_in t) (ap statement_of (sym is ∙ TStmt.rolls-Block ss line) ∙ show_statement_block ss line)
list_other_layer (OpenStmt.Empty line) e is no_init_list = ap (λ t. list_in t) (ap statement_of (sym is ∙ TStmt.rolls-Empty line) ∙ show_statement_empty line)
list_other_layer (OpenStmt.Expr value line) e is no_init_list = ap (λ t. list_in t) (ap statement_of (sym is ∙ TStmt.rolls-Expr value line) ∙ show_statement_expr value line)
list_other_layer (OpenStmt.Declare local line) e is no_init_list = ap (λ t. list_in t) (ap statement_of (sym is ∙ TStmt.rolls-Declare local line) ∙ show_statement_declare local line)
list_other_layer (OpenStmt.InitScalar local value line) e is no_init_list = ap (λ t. list_in t) (ap statement_of (sym is ∙ TStmt.rolls-InitScalar local value line) ∙ show_statement_init_scalar local value line)
list_other_layer (OpenStmt.InitList local items line) e is no_init_list = absurd (no_init_list local items line (sym is ∙ TStmt.rolls-InitList local items line))
list_other_layer (OpenStmt.If chain None line) e is no_init_list = ap (λ t. list_in t) (ap statement_of (sym is ∙ TStmt.rolls-If chain None line) ∙ show_statement_if_alone chain line)
list_other_layer (OpenStmt.If chain (Some last) line) e is no_init_list = ap (λ t. list_in t) (ap statement_of (sym is ∙ TStmt.rolls-If chain (Some last) line) ∙ show_statement_if_else chain last line)
list_other_layer (OpenStmt.Loop shape first condition step body line) e is no_init_list = ap (λ t. list_in t) (ap statement_of (sym is ∙ TStmt.rolls-Loop shape first condition step body line) ∙ show_statement_loop shape first condition step body line)
list_other_layer (OpenStmt.Switch value cases default ss line) e is no_init_list = ap (λ t. list_in t) (ap statement_of (sym is ∙ TStmt.rolls-Switch value cases default ss line) ∙ show_statement_switch value cases default ss line)
list_other_layer (OpenStmt.Break line) e is no_init_list = ap (λ t. list_in t) (ap statement_of (sym is ∙ TStmt.rolls-Break line) ∙ show_statement_break line)
list_other_layer (OpenStmt.Continue line) e is no_init_list = ap (λ t. list_in t) (ap statement_of (sym is ∙ TStmt.rolls-Continue line) ∙ show_statement_continue line)
list_other_layer (OpenStmt.Return value line) e is no_init_list = ap (λ t. list_in t) (ap statement_of (sym is ∙ TStmt.rolls-Return value line) ∙ show_statement_return value line)

-- no other has a list
pub list_other : (e : TStmt) → ((local : _) (items : _) (line : _) → e ≡ TStmt.InitList local items line → ⊥) → list_in (statement_of e) ≡ None
list_other e no_init_list = list_other_layer (out-TStmt e) e (roll-out-TStmt e) no_init_list

-- a value counts for the first part, the right operand and the place alone
pub no_value_part : (got : Got) → (got ≡ gots.Nothing → ⊥) → ((u : _) → got ≡ gots.One u → ⊥) → ((to : _) → got ≡ gots.At to → ⊥) → ((to : _) (u : _) → got ≡ gots.AtWith to u → ⊥) → (values : List Datum) (v : Datum) (e : Expression) → value_counts_in e (got_in e got values) v ≡ None
no_value_part gots.Nothing no_nothing no_one no_at no_at_with values v e = absurd (no_nothing refl)
no_value_part gots.Chosen no_nothing no_one no_at no_at_with values v e = no_value_chosen e v
no_value_part (gots.One u) no_nothing no_one no_at no_at_with values v e = absurd (no_one u refl)
no_value_part (gots.At to) no_nothing no_one no_at no_at_with values v e = absurd (no_at to refl)
no_value_part (gots.AtWith to u) no_nothing no_one no_at no_at_with values v e = absurd (no_at_with to u refl)
no_value_part (gots.Stores to u) no_nothing no_one no_at no_at_with values v e = no_value_stores to (datum_of u) e v
no_value_part gots.Copies no_nothing no_one no_at no_at_with values v e = no_value_copies e v
no_value_part (gots.Args n) no_nothing no_one no_at no_at_with values v e = no_value_args values (arguments_from (n + 1) e) e v
no_value_part gots.Passed no_nothing no_one no_at no_at_with values v e = no_value_passed values e v
no_value_part gots.Called no_nothing no_one no_at no_at_with values v e = no_value_called e v

-- a place counts as the first and the second one alone
pub no_find_part : (got : Got) → (got ≡ gots.Nothing → ⊥) → ((to : _) → got ≡ gots.At to → ⊥) → (values : List Datum) (p : Program) (e : Expression) → found_counts_in p e (got_in e got values) ≡ None
no_find_part gots.Nothing no_nothing no_at values p e = absurd (no_nothing refl)
no_find_part gots.Chosen no_nothing no_at values p e = no_find_chosen p e
no_find_part (gots.One u) no_nothing no_at values p e = no_find_one (datum_of u) p e
no_find_part (gots.At to) no_nothing no_at values p e = absurd (no_at to refl)
no_find_part (gots.AtWith to u) no_nothing no_at values p e = no_find_at_with to (datum_of u) p e
no_find_part (gots.Stores to u) no_nothing no_at values p e = no_find_stores to (datum_of u) p e
no_find_part gots.Copies no_nothing no_at values p e = no_find_copies p e
no_find_part (gots.Args n) no_nothing no_at values p e = no_find_args values (arguments_from (n + 1) e) p e
no_find_part gots.Passed no_nothing no_at values p e = no_find_passed values p e
no_find_part gots.Called no_nothing no_at values p e = no_find_called p e
