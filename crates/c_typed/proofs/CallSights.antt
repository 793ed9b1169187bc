-- The calls of each variant, from those of its parts.
use Rattle.std.proofs.Common.{◌≡◌, [], ◌∷◌, Some, None, map, ap}
use Rattle.std.specs.Option.{option_map}
use Rattle.c_typed.proofs.Shapes.{show_expression_constant, show_expression_read, show_expression_address, show_expression_convert, show_expression_cast, show_expression_unary, show_expression_binary, show_expression_offset, show_expression_difference, show_expression_logical, show_expression_conditional, show_expression_comma, show_expression_assign, show_expression_struct_assign, show_expression_update, show_expression_step, show_expression_call, show_place_name, show_place_bit, show_place_member, show_place_deref, show_statement_block, show_statement_empty, show_statement_expr, show_statement_declare, show_statement_init_scalar, show_statement_init_list, show_statement_loop, show_statement_switch, show_statement_break, show_statement_continue, show_statement_return, show_statement_if_alone, show_statement_if_else, show_arm}
use Rattle.c_typed.specs.Views.{arguments_of, expression_of, place_of, item_of, statements_of, arms_of, statement_of, arm_of}
use Rattle.c_typed.specs.declared.expression.TExpr.TheVariants as TExpr
use Rattle.c_typed.specs.declared.expression.TPlace.TheVariants as TPlace
use Rattle.c_typed.specs.declared.statement.TArm.{TArm}
use Rattle.c_typed.specs.declared.statement.TStmt.TheVariants as TStmt
use Rattle.c_typed.specs.declared.statement.TStmt.TheViews.{out-TArm}
use Rattle.std.proofs.Common.{◌++◌}
use Rattle.c_typed.specs.declared.calls.FnId.TheVariants.{User}
use Rattle.c_typed.specs.Types.{type_of, is_constant}
use Rattle.c_typed.specs.Calls.{helper_for, difference_helper, helper_calls, calls, place_calls, arguments_calls, any_calls, items_calls, statement_calls, statements_calls, arm_calls, arms_calls, last_calls}

pub calls_constant : (value : _) (line : _) → calls (expression_of (TExpr.Constant value line)) ≡ []
unfolding calls
calls_constant value line = ap calls (show_expression_constant value line)

pub calls_read : (place : _) (ty : _) (line : _) → calls (expression_of (TExpr.Read place ty line)) ≡ place_calls (place_of place.value)
unfolding calls
calls_read place ty line = ap calls (show_expression_read place ty line)

pub calls_address : (place : _) (ty : _) (line : _) → calls (expression_of (TExpr.Address place ty line)) ≡ place_calls (place_of place.value)
unfolding calls
calls_address place ty line = ap calls (show_expression_address place ty line)

pub calls_convert : (operand : _) (ty : _) (line : _) → calls (expression_of (TExpr.Convert operand ty line)) ≡ calls (expression_of operand.value)
unfolding calls
calls_convert operand ty line = ap calls (show_expression_convert operand ty line)

pub calls_cast : (operand : _) (ty : _) (line : _) → calls (expression_of (TExpr.Cast operand ty line)) ≡ calls (expression_of operand.value)
unfolding calls
calls_cast operand ty line = ap calls (show_expression_cast operand ty line)

pub calls_unary : (op : _) (operand : _) (ty : _) (line : _) → calls (expression_of (TExpr.Unary op operand ty line)) ≡ calls (expression_of operand.value)
unfolding calls
calls_unary op operand ty line = ap calls (show_expression_unary op operand ty line)

pub calls_binary : (op : _) (left : _) (right : _) (ty : _) (line : _) → calls (expression_of (TExpr.Binary op left right ty line)) ≡ calls (expression_of left.value) ++ calls (expression_of right.value) ++ helper_calls (helper_for op (is_constant (expression_of right.value)) (type_of (expression_of left.value)))
unfolding calls
calls_binary op left right ty line = ap calls (show_expression_binary op left right ty line)

pub calls_offset : (op : _) (left : _) (right : _) (size : _) (ty : _) (line : _) → calls (expression_of (TExpr.Offset op left right size ty line)) ≡ calls (expression_of left.value) ++ calls (expression_of right.value)
unfolding calls
calls_offset op left right size ty line = ap calls (show_expression_offset op left right size ty line)

pub calls_difference : (left : _) (right : _) (size : _) (line : _) → calls (expression_of (TExpr.Difference left right size line)) ≡ calls (expression_of left.value) ++ calls (expression_of right.value) ++ helper_calls (difference_helper size)
unfolding calls
calls_difference left right size line = ap calls (show_expression_difference left right size line)

pub calls_logical : (op : _) (left : _) (right : _) (line : _) → calls (expression_of (TExpr.Logical op left right line)) ≡ calls (expression_of left.value) ++ calls (expression_of right.value)
unfolding calls
calls_logical op left right line = ap calls (show_expression_logical op left right line)

pub calls_conditional : (condition : _) (chosen : _) (otherwise : _) (ty : _) (line : _) → calls (expression_of (TExpr.Conditional condition chosen otherwise ty line)) ≡ calls (expression_of condition.value) ++ calls (expression_of chosen.value) ++ calls (expression_of otherwise.value)
unfolding calls
calls_conditional condition chosen otherwise ty line = ap calls (show_expression_conditional condition chosen otherwise ty line)

pub calls_comma : (left : _) (right : _) (ty : _) (line : _) → calls (expression_of (TExpr.Comma left right ty line)) ≡ calls (expression_of left.value) ++ calls (expression_of right.value)
unfolding calls
calls_comma left right ty line = ap calls (show_expression_comma left right ty line)

pub calls_assign : (place : _) (value : _) (ty : _) (line : _) → calls (expression_of (TExpr.Assign place value ty line)) ≡ place_calls (place_of place.value) ++ calls (expression_of value.value)
unfolding calls
calls_assign place value ty line = ap calls (show_expression_assign place value ty line)

pub calls_struct_assign : (place : _) (from : _) (size : _) (line : _) → calls (expression_of (TExpr.StructAssign place from size line)) ≡ place_calls (place_of place.value) ++ place_calls (place_of from.value)
unfolding calls
calls_struct_assign place from size line = ap calls (show_expression_struct_assign place from size line)

pub calls_update : (op : _) (place : _) (value : _) (operation : _) (size : _) (ty : _) (line : _) → calls (expression_of (TExpr.Update op place value operation size ty line)) ≡ place_calls (place_of place.value) ++ calls (expression_of value.value) ++ helper_calls (helper_for op (is_constant (expression_of value.value)) operation)
unfolding calls
calls_update op place value operation size ty line = ap calls (show_expression_update op place value operation size ty line)

pub calls_step : (op : _) (place : _) (operation : _) (size : _) (ty : _) (line : _) → calls (expression_of (TExpr.Step op place operation size ty line)) ≡ place_calls (place_of place.value)
unfolding calls
calls_step op place operation size ty line = ap calls (show_expression_step op place operation size ty line)

pub calls_call : (function : _) (arguments : _) (ty : _) (line : _) → calls (expression_of (TExpr.Call function arguments ty line)) ≡ arguments_calls (arguments_of (map expression_of arguments.items)) ++ User function ∷ []
unfolding calls
calls_call function arguments ty line = ap calls (show_expression_call function arguments ty line)

pub place_calls_name : (object : _) (ty : _) (line : _) → place_calls (place_of (TPlace.Name object ty line)) ≡ []
unfolding calls place_calls
place_calls_name object ty line = ap place_calls (show_place_name object ty line)

pub place_calls_bit : (register : _) (bit : _) (line : _) → place_calls (place_of (TPlace.Bit register bit line)) ≡ []
unfolding calls place_calls
place_calls_bit register bit line = ap place_calls (show_place_bit register bit line)

pub place_calls_member : (whole : _) (member : _) (offset : _) (ty : _) (line : _) → place_calls (place_of (TPlace.Member whole member offset ty line)) ≡ place_calls (place_of whole.value)
unfolding calls place_calls
place_calls_member whole member offset ty line = ap place_calls (show_place_member whole member offset ty line)

pub place_calls_deref : (pointer : _) (ty : _) (line : _) → place_calls (place_of (TPlace.Deref pointer ty line)) ≡ calls (expression_of pointer.value)
unfolding calls place_calls
place_calls_deref pointer ty line = ap place_calls (show_place_deref pointer ty line)

pub statement_calls_block : (statements : _) (line : _) → statement_calls (statement_of (TStmt.Block statements line)) ≡ statements_calls (statements_of (map statement_of statements.items))
unfolding statement_calls
statement_calls_block statements line = ap statement_calls (show_statement_block statements line)

pub statement_calls_empty : (line : _) → statement_calls (statement_of (TStmt.Empty line)) ≡ []
unfolding statement_calls
statement_calls_empty line = ap statement_calls (show_statement_empty line)

pub statement_calls_expr : (value : _) (line : _) → statement_calls (statement_of (TStmt.Expr value line)) ≡ calls (expression_of value)
unfolding statement_calls
statement_calls_expr value line = ap statement_calls (show_statement_expr value line)

pub statement_calls_declare : (local : _) (line : _) → statement_calls (statement_of (TStmt.Declare local line)) ≡ []
unfolding statement_calls
statement_calls_declare local line = ap statement_calls (show_statement_declare local line)

pub statement_calls_init_scalar : (local : _) (value : _) (line : _) → statement_calls (statement_of (TStmt.InitScalar local value line)) ≡ calls (expression_of value)
unfolding statement_calls
statement_calls_init_scalar local value line = ap statement_calls (show_statement_init_scalar local value line)

pub statement_calls_init_list : (local : _) (items : _) (line : _) → statement_calls (statement_of (TStmt.InitList local items line)) ≡ items_calls (map item_of items.items)
unfolding statement_calls
statement_calls_init_list local items line = ap statement_calls (show_statement_init_list local items line)

pub statement_calls_if_alone : (arms : _) (line : _) → statement_calls (statement_of (TStmt.If arms None line)) ≡ arms_calls (arms_of (map arm_of arms.items)) ++ []
unfolding statement_calls last_calls
statement_calls_if_alone arms line = ap statement_calls (show_statement_if_alone arms line)

pub statement_calls_if_else : (arms : _) (last : _) (line : _) → statement_calls (statement_of (TStmt.If arms (Some last) line)) ≡ arms_calls (arms_of (map arm_of arms.items)) ++ statement_calls (statement_of last.value)
unfolding statement_calls last_calls
statement_calls_if_else arms last line = ap statement_calls (show_statement_if_else arms last line)

pub statement_calls_loop : (shape : _) (begin : _) (condition : _) (step : _) (body : _) (line : _) → statement_calls (statement_of (TStmt.Loop shape begin condition step body line)) ≡ any_calls (option_map expression_of begin) ++ any_calls (option_map expression_of condition) ++ any_calls (option_map expression_of step) ++ statement_calls (statement_of body.value)
unfolding statement_calls
statement_calls_loop shape begin condition step body line = ap statement_calls (show_statement_loop shape begin condition step body line)

pub statement_calls_switch : (value : _) (cases : _) (default : _) (statements : _) (line : _) → statement_calls (statement_of (TStmt.Switch value cases default statements line)) ≡ calls (expression_of value) ++ statements_calls (statements_of (map statement_of statements.items))
unfolding statement_calls
statement_calls_switch value cases default statements line = ap statement_calls (show_statement_switch value cases default statements line)

pub statement_calls_break : (line : _) → statement_calls (statement_of (TStmt.Break line)) ≡ []
unfolding statement_calls
statement_calls_break line = ap statement_calls (show_statement_break line)

pub statement_calls_continue : (line : _) → statement_calls (statement_of (TStmt.Continue line)) ≡ []
unfolding statement_calls
statement_calls_continue line = ap statement_calls (show_statement_continue line)

pub statement_calls_return : (value : _) (line : _) → statement_calls (statement_of (TStmt.Return value line)) ≡ any_calls (option_map expression_of value)
unfolding statement_calls
statement_calls_return value line = ap statement_calls (show_statement_return value line)

pub arm_calls_one : (arm : TArm) → arm_calls (arm_of arm) ≡ calls (expression_of (out-TArm arm).condition) ++ statement_calls (statement_of (out-TArm arm).then)
unfolding arm_calls
arm_calls_one arm = ap arm_calls (show_arm arm)

pub ruleset calls_of = (calls_constant, calls_read, calls_address, calls_convert, calls_cast, calls_unary, calls_binary, calls_offset, calls_difference, calls_logical, calls_conditional, calls_comma, calls_assign, calls_struct_assign, calls_update, calls_step, calls_call)

pub ruleset place_calls_of = (place_calls_name, place_calls_bit, place_calls_member, place_calls_deref)

pub ruleset statement_calls_of = (statement_calls_block, statement_calls_empty, statement_calls_expr, statement_calls_declare, statement_calls_init_scalar, statement_calls_init_list, statement_calls_if_alone, statement_calls_if_else, statement_calls_loop, statement_calls_switch, statement_calls_break, statement_calls_continue, statement_calls_return, arm_calls_one)
