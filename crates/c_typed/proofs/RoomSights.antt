-- The temporary bytes of each variant, from those of its parts.
use Rattle.std.proofs.Common.{◌≡◌, ℕ, ◌+◌, max, List, Some, None, map, ap}
use Rattle.std.specs.Option.{option_map}
use Rattle.c_ints.specs.Range.{bytes_of}
use Rattle.c_typed.proofs.Shapes.{show_expression_constant, show_expression_read, show_expression_address, show_expression_convert, show_expression_cast, show_expression_unary, show_expression_binary, show_expression_offset, show_expression_difference, show_expression_logical, show_expression_conditional, show_expression_comma, show_expression_assign, show_expression_struct_assign, show_expression_update, show_expression_step, show_expression_call, show_place_name, show_place_bit, show_place_member, show_place_deref, show_statement_block, show_statement_empty, show_statement_expr, show_statement_declare, show_statement_init_scalar, show_statement_init_list, show_statement_loop, show_statement_switch, show_statement_break, show_statement_continue, show_statement_return, show_statement_if_alone, show_statement_if_else, show_arm}
use Rattle.c_typed.specs.Views.{arguments_of, expression_of, place_of, item_of, statements_of, arms_of, statement_of, arm_of}
use Rattle.c_typed.specs.declared.expression.TExpr.TheVariants as TExpr
use Rattle.c_typed.specs.declared.expression.TPlace.TheVariants as TPlace
use Rattle.c_typed.specs.declared.statement.TArm.{TArm}
use Rattle.c_typed.specs.declared.statement.TStmt.TheVariants as TStmt
use Rattle.c_typed.specs.declared.statement.TStmt.TheViews.{out-TArm}
use Rattle.c_typed.specs.Types.{type_bytes, value_bytes, place_bytes, form_of}
use Rattle.c_typed.specs.Room.{read_room, unary_room, binary_room, assign_room, struct_room, update_room, local_room, switch_room, node_room, room, place_room, arguments_room, arguments_bytes, any_room, items_room, statement_room, statements_room, arm_room, arms_room, last_room}

pub node_room_constant : (sizes : List ℕ) (value : _) (line : _) (first second third : ℕ) → node_room sizes (expression_of (TExpr.Constant value line)) first second third ≡ bytes_of value.ty
node_room_constant sizes value line first second third = ap (λ e. node_room sizes e first second third) (show_expression_constant value line)

pub node_room_read : (sizes : List ℕ) (place : _) (ty : _) (line : _) (first second third : ℕ) → node_room sizes (expression_of (TExpr.Read place ty line)) first second third ≡ read_room first (form_of (place_of place.value)) (type_bytes sizes ty)
node_room_read sizes place ty line first second third = ap (λ e. node_room sizes e first second third) (show_expression_read place ty line)

pub node_room_address : (sizes : List ℕ) (place : _) (ty : _) (line : _) (first second third : ℕ) → node_room sizes (expression_of (TExpr.Address place ty line)) first second third ≡ max first 2
node_room_address sizes place ty line first second third = ap (λ e. node_room sizes e first second third) (show_expression_address place ty line)

pub node_room_convert : (sizes : List ℕ) (operand : _) (ty : _) (line : _) (first second third : ℕ) → node_room sizes (expression_of (TExpr.Convert operand ty line)) first second third ≡ max first (value_bytes sizes (expression_of operand.value) + type_bytes sizes ty)
node_room_convert sizes operand ty line first second third = ap (λ e. node_room sizes e first second third) (show_expression_convert operand ty line)

pub node_room_cast : (sizes : List ℕ) (operand : _) (ty : _) (line : _) (first second third : ℕ) → node_room sizes (expression_of (TExpr.Cast operand ty line)) first second third ≡ max first (value_bytes sizes (expression_of operand.value) + type_bytes sizes ty)
node_room_cast sizes operand ty line first second third = ap (λ e. node_room sizes e first second third) (show_expression_cast operand ty line)

pub node_room_unary : (sizes : List ℕ) (op : _) (operand : _) (ty : _) (line : _) (first second third : ℕ) → node_room sizes (expression_of (TExpr.Unary op operand ty line)) first second third ≡ unary_room op first (value_bytes sizes (expression_of operand.value)) (type_bytes sizes ty)
node_room_unary sizes op operand ty line first second third = ap (λ e. node_room sizes e first second third) (show_expression_unary op operand ty line)

pub node_room_binary : (sizes : List ℕ) (op : _) (left : _) (right : _) (ty : _) (line : _) (first second third : ℕ) → node_room sizes (expression_of (TExpr.Binary op left right ty line)) first second third ≡ binary_room first (value_bytes sizes (expression_of left.value)) second (value_bytes sizes (expression_of right.value)) (type_bytes sizes ty)
node_room_binary sizes op left right ty line first second third = ap (λ e. node_room sizes e first second third) (show_expression_binary op left right ty line)

pub node_room_offset : (sizes : List ℕ) (op : _) (left : _) (right : _) (size : _) (ty : _) (line : _) (first second third : ℕ) → node_room sizes (expression_of (TExpr.Offset op left right size ty line)) first second third ≡ binary_room first (value_bytes sizes (expression_of left.value)) second (value_bytes sizes (expression_of right.value)) (type_bytes sizes ty)
node_room_offset sizes op left right size ty line first second third = ap (λ e. node_room sizes e first second third) (show_expression_offset op left right size ty line)

pub node_room_difference : (sizes : List ℕ) (left : _) (right : _) (size : _) (line : _) (first second third : ℕ) → node_room sizes (expression_of (TExpr.Difference left right size line)) first second third ≡ binary_room first (value_bytes sizes (expression_of left.value)) second (value_bytes sizes (expression_of right.value)) 2
node_room_difference sizes left right size line first second third = ap (λ e. node_room sizes e first second third) (show_expression_difference left right size line)

pub node_room_logical : (sizes : List ℕ) (op : _) (left : _) (right : _) (line : _) (first second third : ℕ) → node_room sizes (expression_of (TExpr.Logical op left right line)) first second third ≡ max first (max second 2)
node_room_logical sizes op left right line first second third = ap (λ e. node_room sizes e first second third) (show_expression_logical op left right line)

pub node_room_conditional : (sizes : List ℕ) (condition : _) (chosen : _) (otherwise : _) (ty : _) (line : _) (first second third : ℕ) → node_room sizes (expression_of (TExpr.Conditional condition chosen otherwise ty line)) first second third ≡ max first (max second third)
node_room_conditional sizes condition chosen otherwise ty line first second third = ap (λ e. node_room sizes e first second third) (show_expression_conditional condition chosen otherwise ty line)

pub node_room_comma : (sizes : List ℕ) (left : _) (right : _) (ty : _) (line : _) (first second third : ℕ) → node_room sizes (expression_of (TExpr.Comma left right ty line)) first second third ≡ max first second
node_room_comma sizes left right ty line first second third = ap (λ e. node_room sizes e first second third) (show_expression_comma left right ty line)

pub node_room_assign : (sizes : List ℕ) (place : _) (value : _) (ty : _) (line : _) (first second third : ℕ) → node_room sizes (expression_of (TExpr.Assign place value ty line)) first second third ≡ assign_room first (form_of (place_of place.value)) second (value_bytes sizes (expression_of value.value))
node_room_assign sizes place value ty line first second third = ap (λ e. node_room sizes e first second third) (show_expression_assign place value ty line)

pub node_room_struct_assign : (sizes : List ℕ) (place : _) (from : _) (size : _) (line : _) (first second third : ℕ) → node_room sizes (expression_of (TExpr.StructAssign place from size line)) first second third ≡ struct_room first (form_of (place_of place.value)) second (form_of (place_of from.value))
node_room_struct_assign sizes place from size line first second third = ap (λ e. node_room sizes e first second third) (show_expression_struct_assign place from size line)

pub node_room_update : (sizes : List ℕ) (op : _) (place : _) (value : _) (operation : _) (size : _) (ty : _) (line : _) (first second third : ℕ) → node_room sizes (expression_of (TExpr.Update op place value operation size ty line)) first second third ≡ update_room first (form_of (place_of place.value)) (place_bytes sizes (place_of place.value)) second (value_bytes sizes (expression_of value.value)) (type_bytes sizes operation)
node_room_update sizes op place value operation size ty line first second third = ap (λ e. node_room sizes e first second third) (show_expression_update op place value operation size ty line)

pub node_room_step : (sizes : List ℕ) (op : _) (place : _) (operation : _) (size : _) (ty : _) (line : _) (first second third : ℕ) → node_room sizes (expression_of (TExpr.Step op place operation size ty line)) first second third ≡ update_room first (form_of (place_of place.value)) (place_bytes sizes (place_of place.value)) 2 2 (type_bytes sizes operation)
node_room_step sizes op place operation size ty line first second third = ap (λ e. node_room sizes e first second third) (show_expression_step op place operation size ty line)

pub node_room_call : (sizes : List ℕ) (function : _) (arguments : _) (ty : _) (line : _) (first second third : ℕ) → node_room sizes (expression_of (TExpr.Call function arguments ty line)) first second third ≡ max first (max (arguments_bytes sizes (arguments_of (map expression_of arguments.items))) (type_bytes sizes ty))
node_room_call sizes function arguments ty line first second third = ap (λ e. node_room sizes e first second third) (show_expression_call function arguments ty line)

pub room_constant : (sizes : List ℕ) (value : _) (line : _) → room sizes (expression_of (TExpr.Constant value line)) ≡ bytes_of value.ty
unfolding room
room_constant sizes value line = ap (room sizes) (show_expression_constant value line)

pub room_read : (sizes : List ℕ) (place : _) (ty : _) (line : _) → room sizes (expression_of (TExpr.Read place ty line)) ≡ read_room (place_room sizes (place_of place.value)) (form_of (place_of place.value)) (type_bytes sizes ty)
unfolding room
room_read sizes place ty line = ap (room sizes) (show_expression_read place ty line)

pub room_address : (sizes : List ℕ) (place : _) (ty : _) (line : _) → room sizes (expression_of (TExpr.Address place ty line)) ≡ max (place_room sizes (place_of place.value)) 2
unfolding room
room_address sizes place ty line = ap (room sizes) (show_expression_address place ty line)

pub room_convert : (sizes : List ℕ) (operand : _) (ty : _) (line : _) → room sizes (expression_of (TExpr.Convert operand ty line)) ≡ max (room sizes (expression_of operand.value)) (value_bytes sizes (expression_of operand.value) + type_bytes sizes ty)
unfolding room
room_convert sizes operand ty line = ap (room sizes) (show_expression_convert operand ty line)

pub room_cast : (sizes : List ℕ) (operand : _) (ty : _) (line : _) → room sizes (expression_of (TExpr.Cast operand ty line)) ≡ max (room sizes (expression_of operand.value)) (value_bytes sizes (expression_of operand.value) + type_bytes sizes ty)
unfolding room
room_cast sizes operand ty line = ap (room sizes) (show_expression_cast operand ty line)

pub room_unary : (sizes : List ℕ) (op : _) (operand : _) (ty : _) (line : _) → room sizes (expression_of (TExpr.Unary op operand ty line)) ≡ unary_room op (room sizes (expression_of operand.value)) (value_bytes sizes (expression_of operand.value)) (type_bytes sizes ty)
unfolding room
room_unary sizes op operand ty line = ap (room sizes) (show_expression_unary op operand ty line)

pub room_binary : (sizes : List ℕ) (op : _) (left : _) (right : _) (ty : _) (line : _) → room sizes (expression_of (TExpr.Binary op left right ty line)) ≡ binary_room (room sizes (expression_of left.value)) (value_bytes sizes (expression_of left.value)) (room sizes (expression_of right.value)) (value_bytes sizes (expression_of right.value)) (type_bytes sizes ty)
unfolding room
room_binary sizes op left right ty line = ap (room sizes) (show_expression_binary op left right ty line)

pub room_offset : (sizes : List ℕ) (op : _) (left : _) (right : _) (size : _) (ty : _) (line : _) → room sizes (expression_of (TExpr.Offset op left right size ty line)) ≡ binary_room (room sizes (expression_of left.value)) (value_bytes sizes (expression_of left.value)) (room sizes (expression_of right.value)) (value_bytes sizes (expression_of right.value)) (type_bytes sizes ty)
unfolding room
room_offset sizes op left right size ty line = ap (room sizes) (show_expression_offset op left right size ty line)

pub room_difference : (sizes : List ℕ) (left : _) (right : _) (size : _) (line : _) → room sizes (expression_of (TExpr.Difference left right size line)) ≡ binary_room (room sizes (expression_of left.value)) (value_bytes sizes (expression_of left.value)) (room sizes (expression_of right.value)) (value_bytes sizes (expression_of right.value)) 2
unfolding room
room_difference sizes left right size line = ap (room sizes) (show_expression_difference left right size line)

pub room_logical : (sizes : List ℕ) (op : _) (left : _) (right : _) (line : _) → room sizes (expression_of (TExpr.Logical op left right line)) ≡ max (room sizes (expression_of left.value)) (max (room sizes (expression_of right.value)) 2)
unfolding room
room_logical sizes op left right line = ap (room sizes) (show_expression_logical op left right line)

pub room_conditional : (sizes : List ℕ) (condition : _) (chosen : _) (otherwise : _) (ty : _) (line : _) → room sizes (expression_of (TExpr.Conditional condition chosen otherwise ty line)) ≡ max (room sizes (expression_of condition.value)) (max (room sizes (expression_of chosen.value)) (room sizes (expression_of otherwise.value)))
unfolding room
room_conditional sizes condition chosen otherwise ty line = ap (room sizes) (show_expression_conditional condition chosen otherwise ty line)

pub room_comma : (sizes : List ℕ) (left : _) (right : _) (ty : _) (line : _) → room sizes (expression_of (TExpr.Comma left right ty line)) ≡ max (room sizes (expression_of left.value)) (room sizes (expression_of right.value))
unfolding room
room_comma sizes left right ty line = ap (room sizes) (show_expression_comma left right ty line)

pub room_assign : (sizes : List ℕ) (place : _) (value : _) (ty : _) (line : _) → room sizes (expression_of (TExpr.Assign place value ty line)) ≡ assign_room (place_room sizes (place_of place.value)) (form_of (place_of place.value)) (room sizes (expression_of value.value)) (value_bytes sizes (expression_of value.value))
unfolding room
room_assign sizes place value ty line = ap (room sizes) (show_expression_assign place value ty line)

pub room_struct_assign : (sizes : List ℕ) (place : _) (from : _) (size : _) (line : _) → room sizes (expression_of (TExpr.StructAssign place from size line)) ≡ struct_room (place_room sizes (place_of place.value)) (form_of (place_of place.value)) (place_room sizes (place_of from.value)) (form_of (place_of from.value))
unfolding room
room_struct_assign sizes place from size line = ap (room sizes) (show_expression_struct_assign place from size line)

pub room_update : (sizes : List ℕ) (op : _) (place : _) (value : _) (operation : _) (size : _) (ty : _) (line : _) → room sizes (expression_of (TExpr.Update op place value operation size ty line)) ≡ update_room (place_room sizes (place_of place.value)) (form_of (place_of place.value)) (place_bytes sizes (place_of place.value)) (room sizes (expression_of value.value)) (value_bytes sizes (expression_of value.value)) (type_bytes sizes operation)
unfolding room
room_update sizes op place value operation size ty line = ap (room sizes) (show_expression_update op place value operation size ty line)

pub room_step : (sizes : List ℕ) (op : _) (place : _) (operation : _) (size : _) (ty : _) (line : _) → room sizes (expression_of (TExpr.Step op place operation size ty line)) ≡ update_room (place_room sizes (place_of place.value)) (form_of (place_of place.value)) (place_bytes sizes (place_of place.value)) 2 2 (type_bytes sizes operation)
unfolding room
room_step sizes op place operation size ty line = ap (room sizes) (show_expression_step op place operation size ty line)

pub room_call : (sizes : List ℕ) (function : _) (arguments : _) (ty : _) (line : _) → room sizes (expression_of (TExpr.Call function arguments ty line)) ≡ max (arguments_room sizes 0 (arguments_of (map expression_of arguments.items))) (max (arguments_bytes sizes (arguments_of (map expression_of arguments.items))) (type_bytes sizes ty))
unfolding room
room_call sizes function arguments ty line = ap (room sizes) (show_expression_call function arguments ty line)

pub place_room_name : (sizes : List ℕ) (object : _) (ty : _) (line : _) → place_room sizes (place_of (TPlace.Name object ty line)) ≡ 0
unfolding room place_room
place_room_name sizes object ty line = ap (place_room sizes) (show_place_name object ty line)

pub place_room_bit : (sizes : List ℕ) (register : _) (bit : _) (line : _) → place_room sizes (place_of (TPlace.Bit register bit line)) ≡ 0
unfolding room place_room
place_room_bit sizes register bit line = ap (place_room sizes) (show_place_bit register bit line)

pub place_room_member : (sizes : List ℕ) (whole : _) (member : _) (offset : _) (ty : _) (line : _) → place_room sizes (place_of (TPlace.Member whole member offset ty line)) ≡ place_room sizes (place_of whole.value)
unfolding room place_room
place_room_member sizes whole member offset ty line = ap (place_room sizes) (show_place_member whole member offset ty line)

pub place_room_deref : (sizes : List ℕ) (pointer : _) (ty : _) (line : _) → place_room sizes (place_of (TPlace.Deref pointer ty line)) ≡ room sizes (expression_of pointer.value)
unfolding room place_room
place_room_deref sizes pointer ty line = ap (place_room sizes) (show_place_deref pointer ty line)

pub statement_room_block : (sizes : List ℕ) (statements : _) (line : _) → statement_room sizes (statement_of (TStmt.Block statements line)) ≡ statements_room sizes (statements_of (map statement_of statements.items))
unfolding statement_room
statement_room_block sizes statements line = ap (statement_room sizes) (show_statement_block statements line)

pub statement_room_empty : (sizes : List ℕ) (line : _) → statement_room sizes (statement_of (TStmt.Empty line)) ≡ 0
unfolding statement_room
statement_room_empty sizes line = ap (statement_room sizes) (show_statement_empty line)

pub statement_room_expr : (sizes : List ℕ) (value : _) (line : _) → statement_room sizes (statement_of (TStmt.Expr value line)) ≡ room sizes (expression_of value)
unfolding statement_room
statement_room_expr sizes value line = ap (statement_room sizes) (show_statement_expr value line)

pub statement_room_declare : (sizes : List ℕ) (local : _) (line : _) → statement_room sizes (statement_of (TStmt.Declare local line)) ≡ 0
unfolding statement_room
statement_room_declare sizes local line = ap (statement_room sizes) (show_statement_declare local line)

pub statement_room_init_scalar : (sizes : List ℕ) (local : _) (value : _) (line : _) → statement_room sizes (statement_of (TStmt.InitScalar local value line)) ≡ local_room (room sizes (expression_of value)) (value_bytes sizes (expression_of value))
unfolding statement_room
statement_room_init_scalar sizes local value line = ap (statement_room sizes) (show_statement_init_scalar local value line)

pub statement_room_init_list : (sizes : List ℕ) (local : _) (items : _) (line : _) → statement_room sizes (statement_of (TStmt.InitList local items line)) ≡ items_room sizes (map item_of items.items)
unfolding statement_room
statement_room_init_list sizes local items line = ap (statement_room sizes) (show_statement_init_list local items line)

pub statement_room_if_alone : (sizes : List ℕ) (arms : _) (line : _) → statement_room sizes (statement_of (TStmt.If arms None line)) ≡ max (arms_room sizes (arms_of (map arm_of arms.items))) (0)
unfolding statement_room last_room
statement_room_if_alone sizes arms line = ap (statement_room sizes) (show_statement_if_alone arms line)

pub statement_room_if_else : (sizes : List ℕ) (arms : _) (last : _) (line : _) → statement_room sizes (statement_of (TStmt.If arms (Some last) line)) ≡ max (arms_room sizes (arms_of (map arm_of arms.items))) (statement_room sizes (statement_of last.value))
unfolding statement_room last_room
statement_room_if_else sizes arms last line = ap (statement_room sizes) (show_statement_if_else arms last line)

pub statement_room_loop : (sizes : List ℕ) (shape : _) (begin : _) (condition : _) (step : _) (body : _) (line : _) → statement_room sizes (statement_of (TStmt.Loop shape begin condition step body line)) ≡ max (any_room sizes (option_map expression_of begin)) (max (any_room sizes (option_map expression_of condition)) (max (any_room sizes (option_map expression_of step)) (statement_room sizes (statement_of body.value))))
unfolding statement_room
statement_room_loop sizes shape begin condition step body line = ap (statement_room sizes) (show_statement_loop shape begin condition step body line)

pub statement_room_switch : (sizes : List ℕ) (value : _) (cases : _) (default : _) (statements : _) (line : _) → statement_room sizes (statement_of (TStmt.Switch value cases default statements line)) ≡ max (switch_room (room sizes (expression_of value)) (value_bytes sizes (expression_of value))) (statements_room sizes (statements_of (map statement_of statements.items)))
unfolding statement_room
statement_room_switch sizes value cases default statements line = ap (statement_room sizes) (show_statement_switch value cases default statements line)

pub statement_room_break : (sizes : List ℕ) (line : _) → statement_room sizes (statement_of (TStmt.Break line)) ≡ 0
unfolding statement_room
statement_room_break sizes line = ap (statement_room sizes) (show_statement_break line)

pub statement_room_continue : (sizes : List ℕ) (line : _) → statement_room sizes (statement_of (TStmt.Continue line)) ≡ 0
unfolding statement_room
statement_room_continue sizes line = ap (statement_room sizes) (show_statement_continue line)

pub statement_room_return : (sizes : List ℕ) (value : _) (line : _) → statement_room sizes (statement_of (TStmt.Return value line)) ≡ any_room sizes (option_map expression_of value)
unfolding statement_room
statement_room_return sizes value line = ap (statement_room sizes) (show_statement_return value line)

pub arm_room_one : (sizes : List ℕ) (arm : TArm) → arm_room sizes (arm_of arm) ≡ max (room sizes (expression_of (out-TArm arm).condition)) (statement_room sizes (statement_of (out-TArm arm).then))
unfolding arm_room
arm_room_one sizes arm = ap (arm_room sizes) (show_arm arm)

pub ruleset node_rooms = (node_room_constant, node_room_read, node_room_address, node_room_convert, node_room_cast, node_room_unary, node_room_binary, node_room_offset, node_room_difference, node_room_logical, node_room_conditional, node_room_comma, node_room_assign, node_room_struct_assign, node_room_update, node_room_step, node_room_call)

pub ruleset rooms = (room_constant, room_read, room_address, room_convert, room_cast, room_unary, room_binary, room_offset, room_difference, room_logical, room_conditional, room_comma, room_assign, room_struct_assign, room_update, room_step, room_call)

pub ruleset place_rooms = (place_room_name, place_room_bit, place_room_member, place_room_deref)

pub ruleset statement_rooms = (statement_room_block, statement_room_empty, statement_room_expr, statement_room_declare, statement_room_init_scalar, statement_room_init_list, statement_room_if_alone, statement_room_if_else, statement_room_loop, statement_room_switch, statement_room_break, statement_room_continue, statement_room_return, arm_room_one)
