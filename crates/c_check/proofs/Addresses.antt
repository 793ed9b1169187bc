-- The static object whose address a value is, of each variant of the typed trees.
use Rattle.std.proofs.Common.{◌≡◌, None, ap}
use Rattle.c_typed.proofs.Shapes.{show_expression_constant, show_expression_read, show_expression_address, show_expression_convert, show_expression_cast, show_expression_unary, show_expression_binary, show_expression_offset, show_expression_difference, show_expression_logical, show_expression_conditional, show_expression_comma, show_expression_assign, show_expression_struct_assign, show_expression_update, show_expression_step, show_expression_call, show_place_name, show_place_bit, show_place_member, show_place_deref}
use Rattle.c_typed.specs.Views.{expression_of, place_of}
use Rattle.c_typed.specs.declared.expression.TExpr.TheVariants as TExpr
use Rattle.c_typed.specs.declared.expression.TPlace.TheVariants as TPlace
use Rattle.type_rules.specs.Slots.{static_number, static_name, static_address}

pub address_constant : (value : _) (line : _) → static_address (expression_of (TExpr.Constant value line)) ≡ None
address_constant value line = ap static_address (show_expression_constant value line)

pub address_read : (place : _) (ty : _) (line : _) → static_address (expression_of (TExpr.Read place ty line)) ≡ None
address_read place ty line = ap static_address (show_expression_read place ty line)

pub address_address : (place : _) (ty : _) (line : _) → static_address (expression_of (TExpr.Address place ty line)) ≡ static_name (place_of place.value)
address_address place ty line = ap static_address (show_expression_address place ty line)

pub address_convert : (operand : _) (ty : _) (line : _) → static_address (expression_of (TExpr.Convert operand ty line)) ≡ None
address_convert operand ty line = ap static_address (show_expression_convert operand ty line)

pub address_cast : (operand : _) (ty : _) (line : _) → static_address (expression_of (TExpr.Cast operand ty line)) ≡ None
address_cast operand ty line = ap static_address (show_expression_cast operand ty line)

pub address_unary : (op : _) (operand : _) (ty : _) (line : _) → static_address (expression_of (TExpr.Unary op operand ty line)) ≡ None
address_unary op operand ty line = ap static_address (show_expression_unary op operand ty line)

pub address_binary : (op : _) (left : _) (right : _) (ty : _) (line : _) → static_address (expression_of (TExpr.Binary op left right ty line)) ≡ None
address_binary op left right ty line = ap static_address (show_expression_binary op left right ty line)

pub address_offset : (op : _) (left : _) (right : _) (size : _) (ty : _) (line : _) → static_address (expression_of (TExpr.Offset op left right size ty line)) ≡ None
address_offset op left right size ty line = ap static_address (show_expression_offset op left right size ty line)

pub address_difference : (left : _) (right : _) (size : _) (line : _) → static_address (expression_of (TExpr.Difference left right size line)) ≡ None
address_difference left right size line = ap static_address (show_expression_difference left right size line)

pub address_logical : (op : _) (left : _) (right : _) (line : _) → static_address (expression_of (TExpr.Logical op left right line)) ≡ None
address_logical op left right line = ap static_address (show_expression_logical op left right line)

pub address_conditional : (condition : _) (chosen : _) (otherwise : _) (ty : _) (line : _) → static_address (expression_of (TExpr.Conditional condition chosen otherwise ty line)) ≡ None
address_conditional condition chosen otherwise ty line = ap static_address (show_expression_conditional condition chosen otherwise ty line)

pub address_comma : (left : _) (right : _) (ty : _) (line : _) → static_address (expression_of (TExpr.Comma left right ty line)) ≡ None
address_comma left right ty line = ap static_address (show_expression_comma left right ty line)

pub address_assign : (place : _) (value : _) (ty : _) (line : _) → static_address (expression_of (TExpr.Assign place value ty line)) ≡ None
address_assign place value ty line = ap static_address (show_expression_assign place value ty line)

pub address_struct_assign : (place : _) (from : _) (size : _) (line : _) → static_address (expression_of (TExpr.StructAssign place from size line)) ≡ None
address_struct_assign place from size line = ap static_address (show_expression_struct_assign place from size line)

pub address_update : (op : _) (place : _) (value : _) (operation : _) (size : _) (ty : _) (line : _) → static_address (expression_of (TExpr.Update op place value operation size ty line)) ≡ None
address_update op place value operation size ty line = ap static_address (show_expression_update op place value operation size ty line)

pub address_step : (op : _) (place : _) (operation : _) (size : _) (ty : _) (line : _) → static_address (expression_of (TExpr.Step op place operation size ty line)) ≡ None
address_step op place operation size ty line = ap static_address (show_expression_step op place operation size ty line)

pub address_call : (function : _) (arguments : _) (ty : _) (line : _) → static_address (expression_of (TExpr.Call function arguments ty line)) ≡ None
address_call function arguments ty line = ap static_address (show_expression_call function arguments ty line)

pub ruleset addresses = (address_constant, address_read, address_address, address_convert, address_cast, address_unary, address_binary, address_offset, address_difference, address_logical, address_conditional, address_comma, address_assign, address_struct_assign, address_update, address_step, address_call)

pub name_name : (object : _) (ty : _) (line : _) → static_name (place_of (TPlace.Name object ty line)) ≡ static_number object
name_name object ty line = ap static_name (show_place_name object ty line)

pub name_bit : (register : _) (bit : _) (line : _) → static_name (place_of (TPlace.Bit register bit line)) ≡ None
name_bit register bit line = ap static_name (show_place_bit register bit line)

pub name_member : (whole : _) (member : _) (offset : _) (ty : _) (line : _) → static_name (place_of (TPlace.Member whole member offset ty line)) ≡ None
name_member whole member offset ty line = ap static_name (show_place_member whole member offset ty line)

pub name_deref : (pointer : _) (ty : _) (line : _) → static_name (place_of (TPlace.Deref pointer ty line)) ≡ None
name_deref pointer ty line = ap static_name (show_place_deref pointer ty line)

pub ruleset names = (name_name, name_bit, name_member, name_deref)
