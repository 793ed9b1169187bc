-- Which expressions only read, of the trees that the code has.
use Rattle.std.proofs.Common.{◌≡◌, true, false, ap}
use Rattle.c_typed.proofs.Shapes.{show_expression_constant, show_expression_read, show_expression_address, show_expression_convert, show_expression_cast, show_expression_unary, show_expression_binary, show_expression_offset, show_expression_difference, show_expression_logical, show_expression_conditional, show_expression_comma, show_expression_assign, show_expression_struct_assign, show_expression_update, show_expression_step, show_expression_call}
use Rattle.c_typed.specs.Views.{expression_of}
use Rattle.c_typed.specs.declared.expression.TExpr.TheVariants as TExpr
use Rattle.src_machine.specs.Seen.{is_read}

pub is_read_constant : (value : _) (line : _) → is_read (expression_of (TExpr.Constant value line)) ≡ false
is_read_constant value line = ap is_read (show_expression_constant value line)

pub is_read_read : (place : _) (ty : _) (line : _) → is_read (expression_of (TExpr.Read place ty line)) ≡ true
is_read_read place ty line = ap is_read (show_expression_read place ty line)

pub is_read_address : (place : _) (ty : _) (line : _) → is_read (expression_of (TExpr.Address place ty line)) ≡ false
is_read_address place ty line = ap is_read (show_expression_address place ty line)

pub is_read_convert : (operand : _) (ty : _) (line : _) → is_read (expression_of (TExpr.Convert operand ty line)) ≡ false
is_read_convert operand ty line = ap is_read (show_expression_convert operand ty line)

pub is_read_cast : (operand : _) (ty : _) (line : _) → is_read (expression_of (TExpr.Cast operand ty line)) ≡ false
is_read_cast operand ty line = ap is_read (show_expression_cast operand ty line)

pub is_read_unary : (op : _) (operand : _) (ty : _) (line : _) → is_read (expression_of (TExpr.Unary op operand ty line)) ≡ false
is_read_unary op operand ty line = ap is_read (show_expression_unary op operand ty line)

pub is_read_binary : (op : _) (left : _) (right : _) (ty : _) (line : _) → is_read (expression_of (TExpr.Binary op left right ty line)) ≡ false
is_read_binary op left right ty line = ap is_read (show_expression_binary op left right ty line)

pub is_read_offset : (op : _) (left : _) (right : _) (size : _) (ty : _) (line : _) → is_read (expression_of (TExpr.Offset op left right size ty line)) ≡ false
is_read_offset op left right size ty line = ap is_read (show_expression_offset op left right size ty line)

pub is_read_difference : (left : _) (right : _) (size : _) (line : _) → is_read (expression_of (TExpr.Difference left right size line)) ≡ false
is_read_difference left right size line = ap is_read (show_expression_difference left right size line)

pub is_read_logical : (op : _) (left : _) (right : _) (line : _) → is_read (expression_of (TExpr.Logical op left right line)) ≡ false
is_read_logical op left right line = ap is_read (show_expression_logical op left right line)

pub is_read_conditional : (condition : _) (chosen : _) (otherwise : _) (ty : _) (line : _) → is_read (expression_of (TExpr.Conditional condition chosen otherwise ty line)) ≡ false
is_read_conditional condition chosen otherwise ty line = ap is_read (show_expression_conditional condition chosen otherwise ty line)

pub is_read_comma : (left : _) (right : _) (ty : _) (line : _) → is_read (expression_of (TExpr.Comma left right ty line)) ≡ false
is_read_comma left right ty line = ap is_read (show_expression_comma left right ty line)

pub is_read_assign : (place : _) (value : _) (ty : _) (line : _) → is_read (expression_of (TExpr.Assign place value ty line)) ≡ false
is_read_assign place value ty line = ap is_read (show_expression_assign place value ty line)

pub is_read_struct_assign : (place : _) (from : _) (size : _) (line : _) → is_read (expression_of (TExpr.StructAssign place from size line)) ≡ false
is_read_struct_assign place from size line = ap is_read (show_expression_struct_assign place from size line)

pub is_read_update : (op : _) (place : _) (value : _) (operation : _) (size : _) (ty : _) (line : _) → is_read (expression_of (TExpr.Update op place value operation size ty line)) ≡ false
is_read_update op place value operation size ty line = ap is_read (show_expression_update op place value operation size ty line)

pub is_read_step : (op : _) (place : _) (operation : _) (size : _) (ty : _) (line : _) → is_read (expression_of (TExpr.Step op place operation size ty line)) ≡ false
is_read_step op place operation size ty line = ap is_read (show_expression_step op place operation size ty line)

pub is_read_call : (function : _) (arguments : _) (ty : _) (line : _) → is_read (expression_of (TExpr.Call function arguments ty line)) ≡ false
is_read_call function arguments ty line = ap is_read (show_expression_call function arguments ty line)

pub ruleset reads = (is_read_read)
