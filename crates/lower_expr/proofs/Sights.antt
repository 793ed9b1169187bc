-- Each node's code, and the places that nodes name, from those of their parts.
use Rattle.std.proofs.Common.{◌≡◌, ℕ, Bool, true, false, [], ◌∷◌, ◌++◌, map, ap}
use Rattle.c_ints.specs.Range.{bytes_of}
use Rattle.c_typed.proofs.Shapes.{show_expression_constant, show_expression_read, show_expression_address, show_expression_convert, show_expression_cast, show_expression_unary, show_expression_binary, show_expression_offset, show_expression_difference, show_expression_logical, show_expression_conditional, show_expression_comma, show_expression_assign, show_expression_struct_assign, show_expression_update, show_expression_step, show_expression_call, show_place_name, show_place_bit, show_place_member, show_place_deref}
use Rattle.c_typed.specs.Folding.{bits, constant_bits}
use Rattle.c_typed.specs.Types.{type_of, place_type}
use Rattle.c_typed.specs.Views.{expression_of, place_of, arguments_of}
use Rattle.c_typed.specs.declared.expression.TExpr.TheVariants as TExpr
use Rattle.c_typed.specs.declared.expression.TPlace.TheVariants as TPlace
use Rattle.core_code.specs.Tree as code
use Rattle.core_code.specs.declared.code.Byte.TheVariants.{Frame, Result}
use Rattle.core_puts.specs.Bytes.{beyond, operation_type}
use Rattle.lower_expr.specs.Layout.{Layout, width, value_width, place_width, object_byte, copy_of}
use Rattle.lower_expr.specs.Lowering.{expr_code, address_code, arguments_code, arguments_width, pointer_code, behind_pointer, shifts_by_constant, change_code, is_pointer, update_of, step_of}
use Rattle.core_puts.specs.Puts.{sets, choice}
use Rattle.lower_expr.specs.Rows.{widened, tested, unary_row, logical_row, binary_row, offset_row, difference_row, member_row, address_row, value_row, assigned_row, update_row, step_number, step_row, called_row, struct_row}
use Rattle.lower_expr.specs.Spots.{spot_of, member_spot}
use Rattle.lower_expr.specs.declared.places.Spot.TheVariants.{Fixed, Bit, Computed}

pub expr_code_constant : (l : Layout) (copy base : ℕ) (wanted : Bool) (value : _) (line : _) → expr_code l copy base wanted (expression_of (TExpr.Constant value line)) ≡ sets (Frame copy base) (bits value) (bytes_of value.ty)
unfolding expr_code address_code arguments_code
expr_code_constant l copy base wanted value line = ap (expr_code l copy base wanted) (show_expression_constant value line)

pub expr_code_read : (l : Layout) (copy base : ℕ) (wanted : Bool) (place : _) (ty : _) (line : _) → expr_code l copy base wanted (expression_of (TExpr.Read place ty line)) ≡ pointer_code (spot_of l copy (place_of place.value)) (address_code l copy base (place_of place.value)) ++ value_row (spot_of l copy (place_of place.value)) (Frame copy base) (width l ty)
unfolding expr_code address_code arguments_code
expr_code_read l copy base wanted place ty line = ap (expr_code l copy base wanted) (show_expression_read place ty line)

pub expr_code_address : (l : Layout) (copy base : ℕ) (wanted : Bool) (place : _) (ty : _) (line : _) → expr_code l copy base wanted (expression_of (TExpr.Address place ty line)) ≡ pointer_code (spot_of l copy (place_of place.value)) (address_code l copy base (place_of place.value)) ++ address_row (spot_of l copy (place_of place.value)) (Frame copy base)
unfolding expr_code address_code arguments_code
expr_code_address l copy base wanted place ty line = ap (expr_code l copy base wanted) (show_expression_address place ty line)

pub expr_code_convert : (l : Layout) (copy base : ℕ) (wanted : Bool) (operand : _) (ty : _) (line : _) → expr_code l copy base wanted (expression_of (TExpr.Convert operand ty line)) ≡ expr_code l copy base true (expression_of operand.value) ++ widened (type_of (expression_of operand.value)) ty (Frame copy base)
unfolding expr_code address_code arguments_code
expr_code_convert l copy base wanted operand ty line = ap (expr_code l copy base wanted) (show_expression_convert operand ty line)

pub expr_code_cast : (l : Layout) (copy base : ℕ) (wanted : Bool) (operand : _) (ty : _) (line : _) → expr_code l copy base wanted (expression_of (TExpr.Cast operand ty line)) ≡ expr_code l copy base true (expression_of operand.value) ++ widened (type_of (expression_of operand.value)) ty (Frame copy base)
unfolding expr_code address_code arguments_code
expr_code_cast l copy base wanted operand ty line = ap (expr_code l copy base wanted) (show_expression_cast operand ty line)

pub expr_code_unary : (l : Layout) (copy base : ℕ) (wanted : Bool) (op : _) (operand : _) (ty : _) (line : _) → expr_code l copy base wanted (expression_of (TExpr.Unary op operand ty line)) ≡ expr_code l copy base true (expression_of operand.value) ++ unary_row op (operation_type ty) (Frame copy base) (value_width l (expression_of operand.value))
unfolding expr_code address_code arguments_code
expr_code_unary l copy base wanted op operand ty line = ap (expr_code l copy base wanted) (show_expression_unary op operand ty line)

pub expr_code_binary : (l : Layout) (copy base : ℕ) (wanted : Bool) (op : _) (left : _) (right : _) (ty : _) (line : _) → expr_code l copy base wanted (expression_of (TExpr.Binary op left right ty line)) ≡ expr_code l copy base true (expression_of left.value) ++ change_code (shifts_by_constant op (expression_of right.value)) (expr_code l copy (beyond base (value_width l (expression_of left.value))) true (expression_of right.value)) ++ binary_row (shifts_by_constant op (expression_of right.value)) op (operation_type (type_of (expression_of left.value))) (Frame copy base) (Frame copy (beyond base (value_width l (expression_of left.value)))) (constant_bits (expression_of right.value)) (value_width l (expression_of right.value))
unfolding expr_code address_code arguments_code
expr_code_binary l copy base wanted op left right ty line = ap (expr_code l copy base wanted) (show_expression_binary op left right ty line)

pub expr_code_offset : (l : Layout) (copy base : ℕ) (wanted : Bool) (op : _) (left : _) (right : _) (size : _) (ty : _) (line : _) → expr_code l copy base wanted (expression_of (TExpr.Offset op left right size ty line)) ≡ expr_code l copy base true (expression_of left.value) ++ expr_code l copy (beyond base 2) true (expression_of right.value) ++ offset_row op (Frame copy base) (is_pointer (type_of (expression_of left.value))) size
unfolding expr_code address_code arguments_code
expr_code_offset l copy base wanted op left right size ty line = ap (expr_code l copy base wanted) (show_expression_offset op left right size ty line)

pub expr_code_difference : (l : Layout) (copy base : ℕ) (wanted : Bool) (left : _) (right : _) (size : _) (line : _) → expr_code l copy base wanted (expression_of (TExpr.Difference left right size line)) ≡ expr_code l copy base true (expression_of left.value) ++ expr_code l copy (beyond base 2) true (expression_of right.value) ++ difference_row (Frame copy base) size
unfolding expr_code address_code arguments_code
expr_code_difference l copy base wanted left right size line = ap (expr_code l copy base wanted) (show_expression_difference left right size line)

pub expr_code_logical : (l : Layout) (copy base : ℕ) (wanted : Bool) (op : _) (left : _) (right : _) (line : _) → expr_code l copy base wanted (expression_of (TExpr.Logical op left right line)) ≡ expr_code l copy base true (expression_of left.value) ++ logical_row op (Frame copy base) (value_width l (expression_of left.value)) (expr_code l copy base true (expression_of right.value) ++ tested (Frame copy base) (value_width l (expression_of right.value)) 1 0 ∷ []) ∷ []
unfolding expr_code address_code arguments_code
expr_code_logical l copy base wanted op left right line = ap (expr_code l copy base wanted) (show_expression_logical op left right line)

pub expr_code_conditional : (l : Layout) (copy base : ℕ) (wanted : Bool) (condition : _) (held : _) (failed : _) (ty : _) (line : _) → expr_code l copy base wanted (expression_of (TExpr.Conditional condition held failed ty line)) ≡ expr_code l copy base true (expression_of condition.value) ++ choice (Frame copy base) (value_width l (expression_of condition.value)) (expr_code l copy base wanted (expression_of held.value)) (expr_code l copy base wanted (expression_of failed.value)) ∷ []
unfolding expr_code address_code arguments_code
expr_code_conditional l copy base wanted condition held failed ty line = ap (expr_code l copy base wanted) (show_expression_conditional condition held failed ty line)

pub expr_code_comma : (l : Layout) (copy base : ℕ) (wanted : Bool) (left : _) (right : _) (ty : _) (line : _) → expr_code l copy base wanted (expression_of (TExpr.Comma left right ty line)) ≡ expr_code l copy base false (expression_of left.value) ++ expr_code l copy base wanted (expression_of right.value)
unfolding expr_code address_code arguments_code
expr_code_comma l copy base wanted left right ty line = ap (expr_code l copy base wanted) (show_expression_comma left right ty line)

pub expr_code_assign : (l : Layout) (copy base : ℕ) (wanted : Bool) (place : _) (value : _) (ty : _) (line : _) → expr_code l copy base wanted (expression_of (TExpr.Assign place value ty line)) ≡ pointer_code (spot_of l copy (place_of place.value)) (address_code l copy base (place_of place.value)) ++ expr_code l copy (behind_pointer l copy base (place_of place.value)) true (expression_of value.value) ++ assigned_row wanted (spot_of l copy (place_of place.value)) l.root (Frame copy base) (width l ty)
unfolding expr_code address_code arguments_code
expr_code_assign l copy base wanted place value ty line = ap (expr_code l copy base wanted) (show_expression_assign place value ty line)

pub expr_code_struct_assign : (l : Layout) (copy base : ℕ) (wanted : Bool) (place : _) (from : _) (size : _) (line : _) → expr_code l copy base wanted (expression_of (TExpr.StructAssign place from size line)) ≡ pointer_code (spot_of l copy (place_of place.value)) (address_code l copy base (place_of place.value)) ++ pointer_code (spot_of l copy (place_of from.value)) (address_code l copy (behind_pointer l copy base (place_of place.value)) (place_of from.value)) ++ struct_row l.root (spot_of l copy (place_of place.value)) (spot_of l copy (place_of from.value)) (Frame copy base) size
unfolding expr_code address_code arguments_code
expr_code_struct_assign l copy base wanted place from size line = ap (expr_code l copy base wanted) (show_expression_struct_assign place from size line)

pub expr_code_update : (l : Layout) (copy base : ℕ) (wanted : Bool) (op : _) (place : _) (value : _) (operation : _) (size : _) (ty : _) (line : _) → expr_code l copy base wanted (expression_of (TExpr.Update op place value operation size ty line)) ≡ pointer_code (spot_of l copy (place_of place.value)) (address_code l copy base (place_of place.value)) ++ change_code (shifts_by_constant op (expression_of value.value)) (expr_code l copy (behind_pointer l copy base (place_of place.value)) true (expression_of value.value)) ++ update_row (update_of wanted l op (place_of place.value) (expression_of value.value) operation size) (spot_of l copy (place_of place.value)) l.root (Frame copy base) (place_width l (place_of place.value)) (place_type (place_of place.value)).ty
unfolding expr_code address_code arguments_code
expr_code_update l copy base wanted op place value operation size ty line = ap (expr_code l copy base wanted) (show_expression_update op place value operation size ty line)

pub expr_code_step : (l : Layout) (copy base : ℕ) (wanted : Bool) (op : _) (place : _) (operation : _) (size : _) (ty : _) (line : _) → expr_code l copy base wanted (expression_of (TExpr.Step op place operation size ty line)) ≡ pointer_code (spot_of l copy (place_of place.value)) (address_code l copy base (place_of place.value)) ++ step_row (step_of wanted l op operation) (step_number operation size) (spot_of l copy (place_of place.value)) l.root (Frame copy base) (place_width l (place_of place.value)) (place_type (place_of place.value)).ty
unfolding expr_code address_code arguments_code
expr_code_step l copy base wanted op place operation size ty line = ap (expr_code l copy base wanted) (show_expression_step op place operation size ty line)

pub expr_code_call : (l : Layout) (copy base : ℕ) (wanted : Bool) (function : _) (arguments : _) (ty : _) (line : _) → expr_code l copy base wanted (expression_of (TExpr.Call function arguments ty line)) ≡ arguments_code l copy base 0 (arguments_of (map expression_of arguments.items)) ++ called_row wanted l.root (copy_of l function) (Frame copy base) (arguments_width l 0 (arguments_of (map expression_of arguments.items))) (width l ty)
unfolding expr_code address_code arguments_code
expr_code_call l copy base wanted function arguments ty line = ap (expr_code l copy base wanted) (show_expression_call function arguments ty line)

pub address_code_name : (l : Layout) (copy base : ℕ) (object : _) (ty : _) (line : _) → address_code l copy base (place_of (TPlace.Name object ty line)) ≡ code.Address (Frame copy base) (object_byte l copy object) ∷ []
unfolding expr_code address_code arguments_code
address_code_name l copy base object ty line = ap (address_code l copy base) (show_place_name object ty line)

pub address_code_bit : (l : Layout) (copy base : ℕ) (register : _) (bit : _) (line : _) → address_code l copy base (place_of (TPlace.Bit register bit line)) ≡ []
unfolding expr_code address_code arguments_code
address_code_bit l copy base register bit line = ap (address_code l copy base) (show_place_bit register bit line)

pub address_code_member : (l : Layout) (copy base : ℕ) (whole : _) (member : _) (offset : _) (ty : _) (line : _) → address_code l copy base (place_of (TPlace.Member whole member offset ty line)) ≡ address_code l copy base (place_of whole.value) ++ member_row (Frame copy base) offset (Result l.root 0)
unfolding expr_code address_code arguments_code
address_code_member l copy base whole member offset ty line = ap (address_code l copy base) (show_place_member whole member offset ty line)

pub address_code_deref : (l : Layout) (copy base : ℕ) (pointer : _) (ty : _) (line : _) → address_code l copy base (place_of (TPlace.Deref pointer ty line)) ≡ expr_code l copy base true (expression_of pointer.value)
unfolding expr_code address_code arguments_code
address_code_deref l copy base pointer ty line = ap (address_code l copy base) (show_place_deref pointer ty line)

pub spot_of_name : (l : Layout) (copy : ℕ) (object : _) (ty : _) (line : _) → spot_of l copy (place_of (TPlace.Name object ty line)) ≡ Fixed (object_byte l copy object)
unfolding spot_of
spot_of_name l copy object ty line = ap (spot_of l copy) (show_place_name object ty line)

pub spot_of_bit : (l : Layout) (copy : ℕ) (register : _) (bit : _) (line : _) → spot_of l copy (place_of (TPlace.Bit register bit line)) ≡ Bit register bit
unfolding spot_of
spot_of_bit l copy register bit line = ap (spot_of l copy) (show_place_bit register bit line)

pub spot_of_member : (l : Layout) (copy : ℕ) (whole : _) (member : _) (offset : _) (ty : _) (line : _) → spot_of l copy (place_of (TPlace.Member whole member offset ty line)) ≡ member_spot (spot_of l copy (place_of whole.value)) offset
unfolding spot_of
spot_of_member l copy whole member offset ty line = ap (spot_of l copy) (show_place_member whole member offset ty line)

pub spot_of_deref : (l : Layout) (copy : ℕ) (pointer : _) (ty : _) (line : _) → spot_of l copy (place_of (TPlace.Deref pointer ty line)) ≡ Computed
unfolding spot_of
spot_of_deref l copy pointer ty line = ap (spot_of l copy) (show_place_deref pointer ty line)

pub ruleset all_codes = (expr_code_constant, expr_code_read, expr_code_address, expr_code_convert, expr_code_cast, expr_code_unary, expr_code_binary, expr_code_offset, expr_code_difference, expr_code_logical, expr_code_conditional, expr_code_comma, expr_code_assign, expr_code_struct_assign, expr_code_update, expr_code_step, expr_code_call)

pub ruleset all_addresses = (address_code_name, address_code_bit, address_code_member, address_code_deref)

pub ruleset all_spots = (spot_of_name, spot_of_bit, spot_of_member, spot_of_deref)
