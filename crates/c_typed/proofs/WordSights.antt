-- The stated words of each variant, from those of its parts.
use Rattle.std.proofs.Common.{◌≡◌, ℕ, ◌+◌, ◌-◌, ◌*◌, List, Some, None, map, slice_index, ap}
use Rattle.std.specs.Option.{option_map}
use Rattle.c_ints.specs.Range.{bytes_of}
use Rattle.c_typed.proofs.Shapes.{show_expression_constant, show_expression_read, show_expression_address, show_expression_convert, show_expression_cast, show_expression_unary, show_expression_binary, show_expression_offset, show_expression_difference, show_expression_logical, show_expression_conditional, show_expression_comma, show_expression_assign, show_expression_struct_assign, show_expression_update, show_expression_step, show_expression_call, show_place_name, show_place_bit, show_place_member, show_place_deref, show_statement_block, show_statement_empty, show_statement_expr, show_statement_declare, show_statement_init_scalar, show_statement_init_list, show_statement_loop, show_statement_switch, show_statement_break, show_statement_continue, show_statement_return, show_statement_if_alone, show_statement_if_else, show_arm}
use Rattle.c_typed.specs.Views.{arguments_of, expression_of, place_of, item_of, statements_of, arms_of, statement_of, arm_of}
use Rattle.c_typed.specs.declared.expression.PlaceForm.TheVariants.{Fixed}
use Rattle.c_typed.specs.declared.expression.TExpr.TheVariants as TExpr
use Rattle.c_typed.specs.declared.expression.TPlace.TheVariants as TPlace
use Rattle.c_typed.specs.declared.statement.TArm.{TArm}
use Rattle.c_typed.specs.declared.statement.TStmt.TheVariants as TStmt
use Rattle.c_typed.specs.declared.statement.TStmt.TheViews.{out-TArm}
use Rattle.c_typed.specs.Types.{type_bytes, value_bytes, place_bytes, form_of, is_constant}
use Rattle.c_typed.specs.Room.{arguments_bytes}
use Rattle.c_typed.specs.Words.{read_words, store_words, address_words, member_words, convert_words, unary_words, operator_words, offset_words, difference_words, struct_words, update_words, step_words, condition_words, any_words, any_bytes, items_words, items_bytes, cases_words, own_words, words, place_words, arguments_words, statement_words, statements_words, arm_words, arms_words, last_words}

pub own_words_constant : (sizes : List ℕ) (value : _) (line : _) → own_words sizes (expression_of (TExpr.Constant value line)) ≡ 4 * bytes_of value.ty
own_words_constant sizes value line = ap (own_words sizes) (show_expression_constant value line)

pub own_words_read : (sizes : List ℕ) (place : _) (ty : _) (line : _) → own_words sizes (expression_of (TExpr.Read place ty line)) ≡ read_words (form_of (place_of place.value)) (type_bytes sizes ty)
own_words_read sizes place ty line = ap (own_words sizes) (show_expression_read place ty line)

pub own_words_address : (sizes : List ℕ) (place : _) (ty : _) (line : _) → own_words sizes (expression_of (TExpr.Address place ty line)) ≡ address_words (form_of (place_of place.value))
own_words_address sizes place ty line = ap (own_words sizes) (show_expression_address place ty line)

pub own_words_convert : (sizes : List ℕ) (operand : _) (ty : _) (line : _) → own_words sizes (expression_of (TExpr.Convert operand ty line)) ≡ convert_words (value_bytes sizes (expression_of operand.value)) (type_bytes sizes ty)
own_words_convert sizes operand ty line = ap (own_words sizes) (show_expression_convert operand ty line)

pub own_words_cast : (sizes : List ℕ) (operand : _) (ty : _) (line : _) → own_words sizes (expression_of (TExpr.Cast operand ty line)) ≡ convert_words (value_bytes sizes (expression_of operand.value)) (type_bytes sizes ty)
own_words_cast sizes operand ty line = ap (own_words sizes) (show_expression_cast operand ty line)

pub own_words_unary : (sizes : List ℕ) (op : _) (operand : _) (ty : _) (line : _) → own_words sizes (expression_of (TExpr.Unary op operand ty line)) ≡ unary_words op (value_bytes sizes (expression_of operand.value)) (type_bytes sizes ty)
own_words_unary sizes op operand ty line = ap (own_words sizes) (show_expression_unary op operand ty line)

pub own_words_binary : (sizes : List ℕ) (op : _) (left : _) (right : _) (ty : _) (line : _) → own_words sizes (expression_of (TExpr.Binary op left right ty line)) ≡ operator_words op (is_constant (expression_of right.value)) (value_bytes sizes (expression_of left.value))
own_words_binary sizes op left right ty line = ap (own_words sizes) (show_expression_binary op left right ty line)

pub own_words_offset : (sizes : List ℕ) (op : _) (left : _) (right : _) (size : _) (ty : _) (line : _) → own_words sizes (expression_of (TExpr.Offset op left right size ty line)) ≡ offset_words size
own_words_offset sizes op left right size ty line = ap (own_words sizes) (show_expression_offset op left right size ty line)

pub own_words_difference : (sizes : List ℕ) (left : _) (right : _) (size : _) (line : _) → own_words sizes (expression_of (TExpr.Difference left right size line)) ≡ difference_words size
own_words_difference sizes left right size line = ap (own_words sizes) (show_expression_difference left right size line)

pub own_words_logical : (sizes : List ℕ) (op : _) (left : _) (right : _) (line : _) → own_words sizes (expression_of (TExpr.Logical op left right line)) ≡ 4 * value_bytes sizes (expression_of left.value) + 4 * value_bytes sizes (expression_of right.value) + 30
own_words_logical sizes op left right line = ap (own_words sizes) (show_expression_logical op left right line)

pub own_words_conditional : (sizes : List ℕ) (condition : _) (chosen : _) (otherwise : _) (ty : _) (line : _) → own_words sizes (expression_of (TExpr.Conditional condition chosen otherwise ty line)) ≡ 4 * value_bytes sizes (expression_of condition.value) + 20
own_words_conditional sizes condition chosen otherwise ty line = ap (own_words sizes) (show_expression_conditional condition chosen otherwise ty line)

pub own_words_comma : (sizes : List ℕ) (left : _) (right : _) (ty : _) (line : _) → own_words sizes (expression_of (TExpr.Comma left right ty line)) ≡ 0
own_words_comma sizes left right ty line = ap (own_words sizes) (show_expression_comma left right ty line)

pub own_words_assign : (sizes : List ℕ) (place : _) (value : _) (ty : _) (line : _) → own_words sizes (expression_of (TExpr.Assign place value ty line)) ≡ store_words (form_of (place_of place.value)) (type_bytes sizes ty)
own_words_assign sizes place value ty line = ap (own_words sizes) (show_expression_assign place value ty line)

pub own_words_struct_assign : (sizes : List ℕ) (place : _) (from : _) (size : _) (line : _) → own_words sizes (expression_of (TExpr.StructAssign place from size line)) ≡ struct_words (form_of (place_of place.value)) (form_of (place_of from.value)) size
own_words_struct_assign sizes place from size line = ap (own_words sizes) (show_expression_struct_assign place from size line)

pub own_words_update : (sizes : List ℕ) (op : _) (place : _) (value : _) (operation : _) (size : _) (ty : _) (line : _) → own_words sizes (expression_of (TExpr.Update op place value operation size ty line)) ≡ update_words op (is_constant (expression_of value.value)) (form_of (place_of place.value)) (place_bytes sizes (place_of place.value)) operation (type_bytes sizes operation) size
own_words_update sizes op place value operation size ty line = ap (own_words sizes) (show_expression_update op place value operation size ty line)

pub own_words_step : (sizes : List ℕ) (op : _) (place : _) (operation : _) (size : _) (ty : _) (line : _) → own_words sizes (expression_of (TExpr.Step op place operation size ty line)) ≡ step_words op (form_of (place_of place.value)) (place_bytes sizes (place_of place.value)) operation (type_bytes sizes operation) size
own_words_step sizes op place operation size ty line = ap (own_words sizes) (show_expression_step op place operation size ty line)

pub own_words_call : (sizes : List ℕ) (function : _) (arguments : _) (ty : _) (line : _) → own_words sizes (expression_of (TExpr.Call function arguments ty line)) ≡ 6 * arguments_bytes sizes (arguments_of (map expression_of arguments.items)) + 6 * type_bytes sizes ty + 6
own_words_call sizes function arguments ty line = ap (own_words sizes) (show_expression_call function arguments ty line)

pub words_constant : (sizes : List ℕ) (value : _) (line : _) → words sizes (expression_of (TExpr.Constant value line)) ≡ 4 * bytes_of value.ty
unfolding words
words_constant sizes value line = ap (words sizes) (show_expression_constant value line)

pub words_read : (sizes : List ℕ) (place : _) (ty : _) (line : _) → words sizes (expression_of (TExpr.Read place ty line)) ≡ read_words (form_of (place_of place.value)) (type_bytes sizes ty) + place_words sizes (place_of place.value)
unfolding words
words_read sizes place ty line = ap (words sizes) (show_expression_read place ty line)

pub words_address : (sizes : List ℕ) (place : _) (ty : _) (line : _) → words sizes (expression_of (TExpr.Address place ty line)) ≡ address_words (form_of (place_of place.value)) + place_words sizes (place_of place.value)
unfolding words
words_address sizes place ty line = ap (words sizes) (show_expression_address place ty line)

pub words_convert : (sizes : List ℕ) (operand : _) (ty : _) (line : _) → words sizes (expression_of (TExpr.Convert operand ty line)) ≡ convert_words (value_bytes sizes (expression_of operand.value)) (type_bytes sizes ty) + words sizes (expression_of operand.value)
unfolding words
words_convert sizes operand ty line = ap (words sizes) (show_expression_convert operand ty line)

pub words_cast : (sizes : List ℕ) (operand : _) (ty : _) (line : _) → words sizes (expression_of (TExpr.Cast operand ty line)) ≡ convert_words (value_bytes sizes (expression_of operand.value)) (type_bytes sizes ty) + words sizes (expression_of operand.value)
unfolding words
words_cast sizes operand ty line = ap (words sizes) (show_expression_cast operand ty line)

pub words_unary : (sizes : List ℕ) (op : _) (operand : _) (ty : _) (line : _) → words sizes (expression_of (TExpr.Unary op operand ty line)) ≡ unary_words op (value_bytes sizes (expression_of operand.value)) (type_bytes sizes ty) + words sizes (expression_of operand.value)
unfolding words
words_unary sizes op operand ty line = ap (words sizes) (show_expression_unary op operand ty line)

pub words_binary : (sizes : List ℕ) (op : _) (left : _) (right : _) (ty : _) (line : _) → words sizes (expression_of (TExpr.Binary op left right ty line)) ≡ operator_words op (is_constant (expression_of right.value)) (value_bytes sizes (expression_of left.value)) + (words sizes (expression_of left.value) + words sizes (expression_of right.value))
unfolding words
words_binary sizes op left right ty line = ap (words sizes) (show_expression_binary op left right ty line)

pub words_offset : (sizes : List ℕ) (op : _) (left : _) (right : _) (size : _) (ty : _) (line : _) → words sizes (expression_of (TExpr.Offset op left right size ty line)) ≡ offset_words size + (words sizes (expression_of left.value) + words sizes (expression_of right.value))
unfolding words
words_offset sizes op left right size ty line = ap (words sizes) (show_expression_offset op left right size ty line)

pub words_difference : (sizes : List ℕ) (left : _) (right : _) (size : _) (line : _) → words sizes (expression_of (TExpr.Difference left right size line)) ≡ difference_words size + (words sizes (expression_of left.value) + words sizes (expression_of right.value))
unfolding words
words_difference sizes left right size line = ap (words sizes) (show_expression_difference left right size line)

pub words_logical : (sizes : List ℕ) (op : _) (left : _) (right : _) (line : _) → words sizes (expression_of (TExpr.Logical op left right line)) ≡ 4 * value_bytes sizes (expression_of left.value) + 4 * value_bytes sizes (expression_of right.value) + 30 + (words sizes (expression_of left.value) + words sizes (expression_of right.value))
unfolding words
words_logical sizes op left right line = ap (words sizes) (show_expression_logical op left right line)

pub words_conditional : (sizes : List ℕ) (condition : _) (chosen : _) (otherwise : _) (ty : _) (line : _) → words sizes (expression_of (TExpr.Conditional condition chosen otherwise ty line)) ≡ 4 * value_bytes sizes (expression_of condition.value) + 20 + (words sizes (expression_of condition.value) + (words sizes (expression_of chosen.value) + words sizes (expression_of otherwise.value)))
unfolding words
words_conditional sizes condition chosen otherwise ty line = ap (words sizes) (show_expression_conditional condition chosen otherwise ty line)

pub words_comma : (sizes : List ℕ) (left : _) (right : _) (ty : _) (line : _) → words sizes (expression_of (TExpr.Comma left right ty line)) ≡ 0 + (words sizes (expression_of left.value) + words sizes (expression_of right.value))
unfolding words
words_comma sizes left right ty line = ap (words sizes) (show_expression_comma left right ty line)

pub words_assign : (sizes : List ℕ) (place : _) (value : _) (ty : _) (line : _) → words sizes (expression_of (TExpr.Assign place value ty line)) ≡ store_words (form_of (place_of place.value)) (type_bytes sizes ty) + (place_words sizes (place_of place.value) + words sizes (expression_of value.value))
unfolding words
words_assign sizes place value ty line = ap (words sizes) (show_expression_assign place value ty line)

pub words_struct_assign : (sizes : List ℕ) (place : _) (from : _) (size : _) (line : _) → words sizes (expression_of (TExpr.StructAssign place from size line)) ≡ struct_words (form_of (place_of place.value)) (form_of (place_of from.value)) size + (place_words sizes (place_of place.value) + place_words sizes (place_of from.value))
unfolding words
words_struct_assign sizes place from size line = ap (words sizes) (show_expression_struct_assign place from size line)

pub words_update : (sizes : List ℕ) (op : _) (place : _) (value : _) (operation : _) (size : _) (ty : _) (line : _) → words sizes (expression_of (TExpr.Update op place value operation size ty line)) ≡ update_words op (is_constant (expression_of value.value)) (form_of (place_of place.value)) (place_bytes sizes (place_of place.value)) operation (type_bytes sizes operation) size + (place_words sizes (place_of place.value) + words sizes (expression_of value.value))
unfolding words
words_update sizes op place value operation size ty line = ap (words sizes) (show_expression_update op place value operation size ty line)

pub words_step : (sizes : List ℕ) (op : _) (place : _) (operation : _) (size : _) (ty : _) (line : _) → words sizes (expression_of (TExpr.Step op place operation size ty line)) ≡ step_words op (form_of (place_of place.value)) (place_bytes sizes (place_of place.value)) operation (type_bytes sizes operation) size + place_words sizes (place_of place.value)
unfolding words
words_step sizes op place operation size ty line = ap (words sizes) (show_expression_step op place operation size ty line)

pub words_call : (sizes : List ℕ) (function : _) (arguments : _) (ty : _) (line : _) → words sizes (expression_of (TExpr.Call function arguments ty line)) ≡ 6 * arguments_bytes sizes (arguments_of (map expression_of arguments.items)) + 6 * type_bytes sizes ty + 6 + arguments_words sizes (arguments_of (map expression_of arguments.items))
unfolding words
words_call sizes function arguments ty line = ap (words sizes) (show_expression_call function arguments ty line)

pub place_words_name : (sizes : List ℕ) (object : _) (ty : _) (line : _) → place_words sizes (place_of (TPlace.Name object ty line)) ≡ 0
unfolding words place_words
place_words_name sizes object ty line = ap (place_words sizes) (show_place_name object ty line)

pub place_words_bit : (sizes : List ℕ) (register : _) (bit : _) (line : _) → place_words sizes (place_of (TPlace.Bit register bit line)) ≡ 0
unfolding words place_words
place_words_bit sizes register bit line = ap (place_words sizes) (show_place_bit register bit line)

pub place_words_member : (sizes : List ℕ) (whole : _) (member : _) (offset : _) (ty : _) (line : _) → place_words sizes (place_of (TPlace.Member whole member offset ty line)) ≡ member_words (form_of (place_of whole.value)) + place_words sizes (place_of whole.value)
unfolding words place_words
place_words_member sizes whole member offset ty line = ap (place_words sizes) (show_place_member whole member offset ty line)

pub place_words_deref : (sizes : List ℕ) (pointer : _) (ty : _) (line : _) → place_words sizes (place_of (TPlace.Deref pointer ty line)) ≡ words sizes (expression_of pointer.value)
unfolding words place_words
place_words_deref sizes pointer ty line = ap (place_words sizes) (show_place_deref pointer ty line)

pub statement_words_block : (sizes locals : List ℕ) (statements : _) (line : _) → statement_words sizes locals (statement_of (TStmt.Block statements line)) ≡ statements_words sizes locals (statements_of (map statement_of statements.items))
unfolding statement_words
statement_words_block sizes locals statements line = ap (statement_words sizes locals) (show_statement_block statements line)

pub statement_words_empty : (sizes locals : List ℕ) (line : _) → statement_words sizes locals (statement_of (TStmt.Empty line)) ≡ 0
unfolding statement_words
statement_words_empty sizes locals line = ap (statement_words sizes locals) (show_statement_empty line)

pub statement_words_expr : (sizes locals : List ℕ) (value : _) (line : _) → statement_words sizes locals (statement_of (TStmt.Expr value line)) ≡ words sizes (expression_of value)
unfolding statement_words
statement_words_expr sizes locals value line = ap (statement_words sizes locals) (show_statement_expr value line)

pub statement_words_declare : (sizes locals : List ℕ) (local : _) (line : _) → statement_words sizes locals (statement_of (TStmt.Declare local line)) ≡ 0
unfolding statement_words
statement_words_declare sizes locals local line = ap (statement_words sizes locals) (show_statement_declare local line)

pub statement_words_init_scalar : (sizes locals : List ℕ) (local : _) (value : _) (line : _) → statement_words sizes locals (statement_of (TStmt.InitScalar local value line)) ≡ store_words Fixed (value_bytes sizes (expression_of value)) + words sizes (expression_of value)
unfolding statement_words
statement_words_init_scalar sizes locals local value line = ap (statement_words sizes locals) (show_statement_init_scalar local value line)

pub statement_words_init_list : (sizes locals : List ℕ) (local : _) (items : _) (line : _) → statement_words sizes locals (statement_of (TStmt.InitList local items line)) ≡ items_words sizes (map item_of items.items) + 4 * (slice_index locals local - items_bytes sizes (map item_of items.items))
unfolding statement_words
statement_words_init_list sizes locals local items line = ap (statement_words sizes locals) (show_statement_init_list local items line)

pub statement_words_if_alone : (sizes locals : List ℕ) (arms : _) (line : _) → statement_words sizes locals (statement_of (TStmt.If arms None line)) ≡ arms_words sizes locals (arms_of (map arm_of arms.items)) + 0
unfolding statement_words last_words
statement_words_if_alone sizes locals arms line = ap (statement_words sizes locals) (show_statement_if_alone arms line)

pub statement_words_if_else : (sizes locals : List ℕ) (arms : _) (last : _) (line : _) → statement_words sizes locals (statement_of (TStmt.If arms (Some last) line)) ≡ arms_words sizes locals (arms_of (map arm_of arms.items)) + statement_words sizes locals (statement_of last.value)
unfolding statement_words last_words
statement_words_if_else sizes locals arms last line = ap (statement_words sizes locals) (show_statement_if_else arms last line)

pub statement_words_loop : (sizes locals : List ℕ) (shape : _) (begin : _) (condition : _) (step : _) (body : _) (line : _) → statement_words sizes locals (statement_of (TStmt.Loop shape begin condition step body line)) ≡ condition_words sizes (option_map expression_of condition) + (any_words sizes (option_map expression_of begin) + (any_words sizes (option_map expression_of step) + statement_words sizes locals (statement_of body.value)))
unfolding statement_words
statement_words_loop sizes locals shape begin condition step body line = ap (statement_words sizes locals) (show_statement_loop shape begin condition step body line)

pub statement_words_switch : (sizes locals : List ℕ) (value : _) (cases : _) (default : _) (statements : _) (line : _) → statement_words sizes locals (statement_of (TStmt.Switch value cases default statements line)) ≡ 10 + cases_words (value_bytes sizes (expression_of value)) cases.items + (words sizes (expression_of value) + statements_words sizes locals (statements_of (map statement_of statements.items)))
unfolding statement_words
statement_words_switch sizes locals value cases default statements line = ap (statement_words sizes locals) (show_statement_switch value cases default statements line)

pub statement_words_break : (sizes locals : List ℕ) (line : _) → statement_words sizes locals (statement_of (TStmt.Break line)) ≡ 4
unfolding statement_words
statement_words_break sizes locals line = ap (statement_words sizes locals) (show_statement_break line)

pub statement_words_continue : (sizes locals : List ℕ) (line : _) → statement_words sizes locals (statement_of (TStmt.Continue line)) ≡ 4
unfolding statement_words
statement_words_continue sizes locals line = ap (statement_words sizes locals) (show_statement_continue line)

pub statement_words_return : (sizes locals : List ℕ) (value : _) (line : _) → statement_words sizes locals (statement_of (TStmt.Return value line)) ≡ 6 * any_bytes sizes (option_map expression_of value) + 6 + any_words sizes (option_map expression_of value)
unfolding statement_words
statement_words_return sizes locals value line = ap (statement_words sizes locals) (show_statement_return value line)

pub arm_words_one : (sizes locals : List ℕ) (arm : TArm) → arm_words sizes locals (arm_of arm) ≡ 4 * value_bytes sizes (expression_of (out-TArm arm).condition) + 20 + (words sizes (expression_of (out-TArm arm).condition) + statement_words sizes locals (statement_of (out-TArm arm).then))
unfolding arm_words
arm_words_one sizes locals arm = ap (arm_words sizes locals) (show_arm arm)

pub ruleset own_words_of = (own_words_constant, own_words_read, own_words_address, own_words_convert, own_words_cast, own_words_unary, own_words_binary, own_words_offset, own_words_difference, own_words_logical, own_words_conditional, own_words_comma, own_words_assign, own_words_struct_assign, own_words_update, own_words_step, own_words_call)

pub ruleset words_of = (words_constant, words_read, words_address, words_convert, words_cast, words_unary, words_binary, words_offset, words_difference, words_logical, words_conditional, words_comma, words_assign, words_struct_assign, words_update, words_step, words_call)

pub ruleset place_words_of = (place_words_name, place_words_bit, place_words_member, place_words_deref)

pub ruleset statement_words_of = (statement_words_block, statement_words_empty, statement_words_expr, statement_words_declare, statement_words_init_scalar, statement_words_init_list, statement_words_if_alone, statement_words_if_else, statement_words_loop, statement_words_switch, statement_words_break, statement_words_continue, statement_words_return, arm_words_one)
