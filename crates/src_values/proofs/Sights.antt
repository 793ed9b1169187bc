-- Lines, and what counts, of each variant of the trees.
use Rattle.std.proofs.Common.{◌≡◌, true, if◌then◌else◌, Some, None, map, ap}
use Rattle.c_typed.proofs.Shapes.{show_expression_constant, show_expression_read, show_expression_address, show_expression_convert, show_expression_cast, show_expression_unary, show_expression_binary, show_expression_offset, show_expression_difference, show_expression_logical, show_expression_conditional, show_expression_comma, show_expression_assign, show_expression_struct_assign, show_expression_update, show_expression_step, show_expression_call, show_place_name, show_place_bit, show_place_member, show_place_deref, show_statement_block, show_statement_empty, show_statement_expr, show_statement_declare, show_statement_init_scalar, show_statement_init_list, show_statement_if_alone, show_statement_if_else, show_statement_loop, show_statement_switch, show_statement_break, show_statement_continue, show_statement_return}
use Rattle.c_typed.specs.Views.{expression_of, place_of, item_of, statement_of}
use Rattle.c_typed.specs.declared.expression.TExpr.TheVariants as TExpr
use Rattle.c_typed.specs.declared.expression.TPlace.TheVariants as TPlace
use Rattle.c_typed.specs.declared.statement.TStmt.TheVariants as TStmt
use Rattle.src_values.specs.Control.{expression_line, place_line, statement_line}
use Rattle.src_values.specs.Counting.{statement_counts, value_counts_to, found_counts_to}
use Rattle.src_values.specs.Data.{Datum}
use Rattle.src_values.specs.Seen.{is_loop, is_switch, list_in}
use Rattle.src_values.specs.Values.{answer_of, is_postfix, kept_in}
use Rattle.src_values.specs.declared.objects.Spot.{Spot}

pub expression_line_constant : (value : _) (line : _) → expression_line (expression_of (TExpr.Constant value line)) ≡ line
expression_line_constant value line = ap expression_line (show_expression_constant value line)

pub expression_line_read : (place : _) (ty : _) (line : _) → expression_line (expression_of (TExpr.Read place ty line)) ≡ line
expression_line_read place ty line = ap expression_line (show_expression_read place ty line)

pub expression_line_address : (place : _) (ty : _) (line : _) → expression_line (expression_of (TExpr.Address place ty line)) ≡ line
expression_line_address place ty line = ap expression_line (show_expression_address place ty line)

pub expression_line_convert : (operand : _) (ty : _) (line : _) → expression_line (expression_of (TExpr.Convert operand ty line)) ≡ line
expression_line_convert operand ty line = ap expression_line (show_expression_convert operand ty line)

pub expression_line_cast : (operand : _) (ty : _) (line : _) → expression_line (expression_of (TExpr.Cast operand ty line)) ≡ line
expression_line_cast operand ty line = ap expression_line (show_expression_cast operand ty line)

pub expression_line_unary : (op : _) (operand : _) (ty : _) (line : _) → expression_line (expression_of (TExpr.Unary op operand ty line)) ≡ line
expression_line_unary op operand ty line = ap expression_line (show_expression_unary op operand ty line)

pub expression_line_binary : (op : _) (left : _) (right : _) (ty : _) (line : _) → expression_line (expression_of (TExpr.Binary op left right ty line)) ≡ line
expression_line_binary op left right ty line = ap expression_line (show_expression_binary op left right ty line)

pub expression_line_offset : (op : _) (left : _) (right : _) (size : _) (ty : _) (line : _) → expression_line (expression_of (TExpr.Offset op left right size ty line)) ≡ line
expression_line_offset op left right size ty line = ap expression_line (show_expression_offset op left right size ty line)

pub expression_line_difference : (left : _) (right : _) (size : _) (line : _) → expression_line (expression_of (TExpr.Difference left right size line)) ≡ line
expression_line_difference left right size line = ap expression_line (show_expression_difference left right size line)

pub expression_line_logical : (op : _) (left : _) (right : _) (line : _) → expression_line (expression_of (TExpr.Logical op left right line)) ≡ line
expression_line_logical op left right line = ap expression_line (show_expression_logical op left right line)

pub expression_line_conditional : (condition : _) (chosen : _) (otherwise : _) (ty : _) (line : _) → expression_line (expression_of (TExpr.Conditional condition chosen otherwise ty line)) ≡ line
expression_line_conditional condition chosen otherwise ty line = ap expression_line (show_expression_conditional condition chosen otherwise ty line)

pub expression_line_comma : (left : _) (right : _) (ty : _) (line : _) → expression_line (expression_of (TExpr.Comma left right ty line)) ≡ line
expression_line_comma left right ty line = ap expression_line (show_expression_comma left right ty line)

pub expression_line_assign : (place : _) (value : _) (ty : _) (line : _) → expression_line (expression_of (TExpr.Assign place value ty line)) ≡ line
expression_line_assign place value ty line = ap expression_line (show_expression_assign place value ty line)

pub expression_line_struct_assign : (place : _) (from : _) (size : _) (line : _) → expression_line (expression_of (TExpr.StructAssign place from size line)) ≡ line
expression_line_struct_assign place from size line = ap expression_line (show_expression_struct_assign place from size line)

pub expression_line_update : (op : _) (place : _) (value : _) (operation : _) (size : _) (ty : _) (line : _) → expression_line (expression_of (TExpr.Update op place value operation size ty line)) ≡ line
expression_line_update op place value operation size ty line = ap expression_line (show_expression_update op place value operation size ty line)

pub expression_line_step : (op : _) (place : _) (operation : _) (size : _) (ty : _) (line : _) → expression_line (expression_of (TExpr.Step op place operation size ty line)) ≡ line
expression_line_step op place operation size ty line = ap expression_line (show_expression_step op place operation size ty line)

pub expression_line_call : (function : _) (arguments : _) (ty : _) (line : _) → expression_line (expression_of (TExpr.Call function arguments ty line)) ≡ line
expression_line_call function arguments ty line = ap expression_line (show_expression_call function arguments ty line)

pub ruleset expression_lines = (expression_line_constant, expression_line_read, expression_line_address, expression_line_convert, expression_line_cast, expression_line_unary, expression_line_binary, expression_line_offset, expression_line_difference, expression_line_logical, expression_line_conditional, expression_line_comma, expression_line_assign, expression_line_struct_assign, expression_line_update, expression_line_step, expression_line_call)

pub place_line_name : (object : _) (ty : _) (line : _) → place_line (place_of (TPlace.Name object ty line)) ≡ line
place_line_name object ty line = ap place_line (show_place_name object ty line)

pub place_line_bit : (register : _) (bit : _) (line : _) → place_line (place_of (TPlace.Bit register bit line)) ≡ line
place_line_bit register bit line = ap place_line (show_place_bit register bit line)

pub place_line_member : (whole : _) (member : _) (offset : _) (ty : _) (line : _) → place_line (place_of (TPlace.Member whole member offset ty line)) ≡ line
place_line_member whole member offset ty line = ap place_line (show_place_member whole member offset ty line)

pub place_line_deref : (pointer : _) (ty : _) (line : _) → place_line (place_of (TPlace.Deref pointer ty line)) ≡ line
place_line_deref pointer ty line = ap place_line (show_place_deref pointer ty line)

pub ruleset place_lines = (place_line_name, place_line_bit, place_line_member, place_line_deref)

pub statement_line_block : (statements : _) (line : _) → statement_line (statement_of (TStmt.Block statements line)) ≡ line
statement_line_block statements line = ap statement_line (show_statement_block statements line)

pub statement_line_empty : (line : _) → statement_line (statement_of (TStmt.Empty line)) ≡ line
statement_line_empty line = ap statement_line (show_statement_empty line)

pub statement_line_expr : (value : _) (line : _) → statement_line (statement_of (TStmt.Expr value line)) ≡ line
statement_line_expr value line = ap statement_line (show_statement_expr value line)

pub statement_line_declare : (local : _) (line : _) → statement_line (statement_of (TStmt.Declare local line)) ≡ line
statement_line_declare local line = ap statement_line (show_statement_declare local line)

pub statement_line_init_scalar : (local : _) (value : _) (line : _) → statement_line (statement_of (TStmt.InitScalar local value line)) ≡ line
statement_line_init_scalar local value line = ap statement_line (show_statement_init_scalar local value line)

pub statement_line_init_list : (local : _) (items : _) (line : _) → statement_line (statement_of (TStmt.InitList local items line)) ≡ line
statement_line_init_list local items line = ap statement_line (show_statement_init_list local items line)

pub statement_line_if_alone : (arms : _) (line : _) → statement_line (statement_of (TStmt.If arms None line)) ≡ line
statement_line_if_alone arms line = ap statement_line (show_statement_if_alone arms line)

pub statement_line_if_else : (arms : _) (last : _) (line : _) → statement_line (statement_of (TStmt.If arms (Some last) line)) ≡ line
statement_line_if_else arms last line = ap statement_line (show_statement_if_else arms last line)

pub statement_line_loop : (shape : _) (begin : _) (condition : _) (step : _) (body : _) (line : _) → statement_line (statement_of (TStmt.Loop shape begin condition step body line)) ≡ line
statement_line_loop shape begin condition step body line = ap statement_line (show_statement_loop shape begin condition step body line)

pub statement_line_switch : (value : _) (cases : _) (default : _) (statements : _) (line : _) → statement_line (statement_of (TStmt.Switch value cases default statements line)) ≡ line
statement_line_switch value cases default statements line = ap statement_line (show_statement_switch value cases default statements line)

pub statement_line_break : (line : _) → statement_line (statement_of (TStmt.Break line)) ≡ line
statement_line_break line = ap statement_line (show_statement_break line)

pub statement_line_continue : (line : _) → statement_line (statement_of (TStmt.Continue line)) ≡ line
statement_line_continue line = ap statement_line (show_statement_continue line)

pub statement_line_return : (value : _) (line : _) → statement_line (statement_of (TStmt.Return value line)) ≡ line
statement_line_return value line = ap statement_line (show_statement_return value line)

pub ruleset statement_lines = (statement_line_block, statement_line_empty, statement_line_expr, statement_line_declare, statement_line_init_scalar, statement_line_init_list, statement_line_if_alone, statement_line_if_else, statement_line_loop, statement_line_switch, statement_line_break, statement_line_continue, statement_line_return)

pub statement_counts_block : (statements : _) (line : _) → statement_counts (statement_of (TStmt.Block statements line)) ≡ Some line
statement_counts_block statements line = ap statement_counts (show_statement_block statements line)

pub statement_counts_empty : (line : _) → statement_counts (statement_of (TStmt.Empty line)) ≡ Some line
statement_counts_empty line = ap statement_counts (show_statement_empty line)

pub statement_counts_expr : (value : _) (line : _) → statement_counts (statement_of (TStmt.Expr value line)) ≡ Some line
statement_counts_expr value line = ap statement_counts (show_statement_expr value line)

pub statement_counts_declare : (local : _) (line : _) → statement_counts (statement_of (TStmt.Declare local line)) ≡ None
statement_counts_declare local line = ap statement_counts (show_statement_declare local line)

pub statement_counts_init_scalar : (local : _) (value : _) (line : _) → statement_counts (statement_of (TStmt.InitScalar local value line)) ≡ None
statement_counts_init_scalar local value line = ap statement_counts (show_statement_init_scalar local value line)

pub statement_counts_init_list : (local : _) (items : _) (line : _) → statement_counts (statement_of (TStmt.InitList local items line)) ≡ None
statement_counts_init_list local items line = ap statement_counts (show_statement_init_list local items line)

pub statement_counts_if_alone : (arms : _) (line : _) → statement_counts (statement_of (TStmt.If arms None line)) ≡ Some line
statement_counts_if_alone arms line = ap statement_counts (show_statement_if_alone arms line)

pub statement_counts_if_else : (arms : _) (last : _) (line : _) → statement_counts (statement_of (TStmt.If arms (Some last) line)) ≡ Some line
statement_counts_if_else arms last line = ap statement_counts (show_statement_if_else arms last line)

pub statement_counts_loop : (shape : _) (begin : _) (condition : _) (step : _) (body : _) (line : _) → statement_counts (statement_of (TStmt.Loop shape begin condition step body line)) ≡ Some line
statement_counts_loop shape begin condition step body line = ap statement_counts (show_statement_loop shape begin condition step body line)

pub statement_counts_switch : (value : _) (cases : _) (default : _) (statements : _) (line : _) → statement_counts (statement_of (TStmt.Switch value cases default statements line)) ≡ Some line
statement_counts_switch value cases default statements line = ap statement_counts (show_statement_switch value cases default statements line)

pub statement_counts_break : (line : _) → statement_counts (statement_of (TStmt.Break line)) ≡ Some line
statement_counts_break line = ap statement_counts (show_statement_break line)

pub statement_counts_continue : (line : _) → statement_counts (statement_of (TStmt.Continue line)) ≡ Some line
statement_counts_continue line = ap statement_counts (show_statement_continue line)

pub statement_counts_return : (value : _) (line : _) → statement_counts (statement_of (TStmt.Return value line)) ≡ Some line
statement_counts_return value line = ap statement_counts (show_statement_return value line)

pub ruleset statements_count = (statement_counts_block, statement_counts_empty, statement_counts_expr, statement_counts_declare, statement_counts_init_scalar, statement_counts_init_list, statement_counts_if_alone, statement_counts_if_else, statement_counts_loop, statement_counts_switch, statement_counts_break, statement_counts_continue, statement_counts_return)

pub is_loop_loop : (shape : _) (begin : _) (condition : _) (step : _) (body : _) (line : _) → is_loop (statement_of (TStmt.Loop shape begin condition step body line)) ≡ true
is_loop_loop shape begin condition step body line = ap is_loop (show_statement_loop shape begin condition step body line)

pub ruleset loops = (is_loop_loop)

pub is_switch_switch : (value : _) (cases : _) (default : _) (statements : _) (line : _) → is_switch (statement_of (TStmt.Switch value cases default statements line)) ≡ true
is_switch_switch value cases default statements line = ap is_switch (show_statement_switch value cases default statements line)

pub ruleset switches = (is_switch_switch)

pub list_in_init_list : (local : _) (items : _) (line : _) → list_in (statement_of (TStmt.InitList local items line)) ≡ Some (local, map item_of items.items)
list_in_init_list local items line = ap list_in (show_statement_init_list local items line)

pub ruleset lists = (list_in_init_list)

pub answer_of_step : (spot : Spot) (v : Datum) (op : _) (place : _) (operation : _) (size : _) (ty : _) (line : _) → answer_of (expression_of (TExpr.Step op place operation size ty line)) spot v ≡ if is_postfix op then v else kept_in spot v
answer_of_step spot v op place operation size ty line = ap (λ t. answer_of t spot v) (show_expression_step op place operation size ty line)

pub ruleset answers = (answer_of_step)

pub value_counts_to_name : (object : _) (ty : _) (line : _) → value_counts_to (place_of (TPlace.Name object ty line)) ≡ None
value_counts_to_name object ty line = ap value_counts_to (show_place_name object ty line)

pub value_counts_to_bit : (register : _) (bit : _) (line : _) → value_counts_to (place_of (TPlace.Bit register bit line)) ≡ None
value_counts_to_bit register bit line = ap value_counts_to (show_place_bit register bit line)

pub value_counts_to_member : (whole : _) (member : _) (offset : _) (ty : _) (line : _) → value_counts_to (place_of (TPlace.Member whole member offset ty line)) ≡ None
value_counts_to_member whole member offset ty line = ap value_counts_to (show_place_member whole member offset ty line)

pub value_counts_to_deref : (pointer : _) (ty : _) (line : _) → value_counts_to (place_of (TPlace.Deref pointer ty line)) ≡ Some line
value_counts_to_deref pointer ty line = ap value_counts_to (show_place_deref pointer ty line)

pub ruleset values_count_to = (value_counts_to_name, value_counts_to_bit, value_counts_to_member, value_counts_to_deref)

pub found_counts_to_name : (object : _) (ty : _) (line : _) → found_counts_to (place_of (TPlace.Name object ty line)) ≡ None
found_counts_to_name object ty line = ap found_counts_to (show_place_name object ty line)

pub found_counts_to_bit : (register : _) (bit : _) (line : _) → found_counts_to (place_of (TPlace.Bit register bit line)) ≡ None
found_counts_to_bit register bit line = ap found_counts_to (show_place_bit register bit line)

pub found_counts_to_member : (whole : _) (member : _) (offset : _) (ty : _) (line : _) → found_counts_to (place_of (TPlace.Member whole member offset ty line)) ≡ Some line
found_counts_to_member whole member offset ty line = ap found_counts_to (show_place_member whole member offset ty line)

pub found_counts_to_deref : (pointer : _) (ty : _) (line : _) → found_counts_to (place_of (TPlace.Deref pointer ty line)) ≡ None
found_counts_to_deref pointer ty line = ap found_counts_to (show_place_deref pointer ty line)

pub ruleset finds_count_to = (found_counts_to_name, found_counts_to_bit, found_counts_to_member, found_counts_to_deref)
