-- The code of an expression, which leaves its value at the offset `base` of the frame of a function copy, if it is wanted.
use Rattle.std.specs.Prelude.{ℕ, Bool, true, false, ◌&&◌, List, [], ◌∷◌, ◌++◌}
use Rattle.c_ints.specs.Range.{bytes_of}
use Rattle.c_ints.specs.declared.operators.BinOp.{BinOp}
use Rattle.c_typed.specs.Folding.{bits, constant_bits}
use Rattle.c_typed.specs.Trees as tree
use Rattle.c_typed.specs.Trees.{Expression, Expressions, Place}
use Rattle.c_typed.specs.Types.{type_of, place_type, is_constant}
use Rattle.c_typed.specs.Words.{step_operator}
use Rattle.c_typed.specs.declared.expression.StepOp.{StepOp}
use Rattle.c_typed.specs.declared.types.Ty.{Ty}
use Rattle.c_typed.specs.declared.types.Ty.TheVariants.{Void, Int, Pointer, Array, Struct}
use Rattle.core_code.specs.Tree as code
use Rattle.core_code.specs.Tree.{Tree}
use Rattle.core_code.specs.declared.code.Byte.TheVariants.{Frame, Result}
use Rattle.core_puts.specs.Bytes.{beyond, operation_type}
use Rattle.lower_expr.specs.Layout.{Layout, width, value_width, place_width, object_byte, copy_of}
use Rattle.core_puts.specs.Puts.{sets, choice}
use Rattle.lower_expr.specs.Rows.{widened, tested, unary_row, logical_row, is_shift, binary_row, offset_row, difference_row, member_row, address_row, value_row, assigned_row, change_of, update_row, step_number, keeps_old, step_row, called_row, struct_row}
use Rattle.lower_expr.specs.Spots.{spot_of, pointer_bytes}
use Rattle.lower_expr.specs.declared.assignments.Change.TheVariants.{Plain}
use Rattle.lower_expr.specs.declared.assignments.Update.{Update}
use Rattle.lower_expr.specs.declared.places.Spot.{Spot}
use Rattle.lower_expr.specs.declared.places.Spot.TheVariants.{Fixed, Bit, Computed}

-- The code that computes the address of a place, where it has to be computed.
abbrev pub pointer_code : Spot → List Tree → List Tree
pointer_code (Fixed byte) address = []
pointer_code (Bit register bit) address = []
pointer_code Computed address = address

-- where what follows the address of a place begins
abbrev pub behind_pointer : Layout → ℕ → ℕ → Place → ℕ
behind_pointer l copy base place = beyond base (pointer_bytes (spot_of l copy place))

-- a shift by an integer constant expression, whose count is no code of its own
abbrev pub shifts_by_constant : BinOp → Expression → Bool
shifts_by_constant op count = is_shift op && is_constant count

abbrev pub change_code : Bool → List Tree → List Tree
change_code true right = []
change_code false right = right

abbrev pub is_pointer : Ty → Bool
is_pointer Void = false
is_pointer (Int ty) = false
is_pointer (Pointer target) = true
is_pointer (Array element length size) = false
is_pointer (Struct number) = false

abbrev pub arguments_width : Layout → ℕ → Expressions → ℕ
arguments_width l before tree.NoExpression = before
arguments_width l before (tree.AndExpression e es) = arguments_width l (beyond before (value_width l e)) es

-- An update by the value of an expression, and a step, which is an update by a constant.
abbrev pub update_of : Bool → Layout → BinOp → Place → Expression → Ty → ℕ → Update
update_of wanted l op place value operation size = record {
  op = op;
  change = change_of (shifts_by_constant op value) operation size (constant_bits value);
  operation = operation;
  count = value_width l value;
  keeps_old = false;
  is_wanted = wanted;
}

abbrev pub step_of : Bool → Layout → StepOp → Ty → Update
step_of wanted l op operation = record {
  op = step_operator op;
  change = Plain;
  operation = operation;
  count = width l operation;
  keeps_old = keeps_old op;
  is_wanted = wanted;
}

-- Operands stand one behind the other from `base` on, and operators work in place.
unfoldable mutual
  pub expr_code : Layout → ℕ → ℕ → Bool → Expression → List Tree
  expr_code l copy base wanted (tree.Constant value line) = sets (Frame copy base) (bits value) (bytes_of value.ty)
  expr_code l copy base wanted (tree.Read place ty line) =
      pointer_code (spot_of l copy place) (address_code l copy base place)
      ++ value_row (spot_of l copy place) (Frame copy base) (width l ty)
  expr_code l copy base wanted (tree.Address place ty line) =
      pointer_code (spot_of l copy place) (address_code l copy base place) ++ address_row (spot_of l copy place) (Frame copy base)
  expr_code l copy base wanted (tree.Convert operand ty line) = expr_code l copy base true operand ++ widened (type_of operand) ty (Frame copy base)
  expr_code l copy base wanted (tree.Cast operand ty line) = expr_code l copy base true operand ++ widened (type_of operand) ty (Frame copy base)
  expr_code l copy base wanted (tree.Unary op operand ty line) = expr_code l copy base true operand ++ unary_row op (operation_type ty) (Frame copy base) (value_width l operand)
  expr_code l copy base wanted (tree.Binary op left right ty line) =
      expr_code l copy base true left
      ++ change_code (shifts_by_constant op right) (expr_code l copy (beyond base (value_width l left)) true right)
      ++ binary_row (shifts_by_constant op right) op (operation_type (type_of left)) (Frame copy base) (Frame copy (beyond base (value_width l left))) (constant_bits right) (value_width l right)
  expr_code l copy base wanted (tree.Offset op left right size ty line) =
      expr_code l copy base true left ++ expr_code l copy (beyond base 2) true right ++ offset_row op (Frame copy base) (is_pointer (type_of left)) size
  expr_code l copy base wanted (tree.Difference left right size line) =
      expr_code l copy base true left ++ expr_code l copy (beyond base 2) true right ++ difference_row (Frame copy base) size
  expr_code l copy base wanted (tree.Logical op left right line) =
      expr_code l copy base true left
      ++ logical_row op (Frame copy base) (value_width l left) (expr_code l copy base true right ++ tested (Frame copy base) (value_width l right) 1 0 ∷ []) ∷ []
  expr_code l copy base wanted (tree.Conditional condition held failed ty line) =
      expr_code l copy base true condition ++ choice (Frame copy base) (value_width l condition) (expr_code l copy base wanted held) (expr_code l copy base wanted failed) ∷ []
  expr_code l copy base wanted (tree.Comma left right ty line) = expr_code l copy base false left ++ expr_code l copy base wanted right
  expr_code l copy base wanted (tree.Assign place value ty line) =
      pointer_code (spot_of l copy place) (address_code l copy base place)
      ++ expr_code l copy (behind_pointer l copy base place) true value
      ++ assigned_row wanted (spot_of l copy place) l.root (Frame copy base) (width l ty)
  expr_code l copy base wanted (tree.StructAssign place from size line) =
      pointer_code (spot_of l copy place) (address_code l copy base place)
      ++ pointer_code (spot_of l copy from) (address_code l copy (behind_pointer l copy base place) from)
      ++ struct_row l.root (spot_of l copy place) (spot_of l copy from) (Frame copy base) size
  expr_code l copy base wanted (tree.Update op place value operation size ty line) =
      pointer_code (spot_of l copy place) (address_code l copy base place)
      ++ change_code (shifts_by_constant op value) (expr_code l copy (behind_pointer l copy base place) true value)
      ++ update_row (update_of wanted l op place value operation size) (spot_of l copy place) l.root (Frame copy base) (place_width l place) (place_type place).ty
  expr_code l copy base wanted (tree.Step op place operation size ty line) =
      pointer_code (spot_of l copy place) (address_code l copy base place)
      ++ step_row (step_of wanted l op operation) (step_number operation size) (spot_of l copy place) l.root (Frame copy base) (place_width l place) (place_type place).ty
  expr_code l copy base wanted (tree.Call function arguments ty line) =
      arguments_code l copy base 0 arguments
      ++ called_row wanted l.root (copy_of l function) (Frame copy base) (arguments_width l 0 arguments) (width l ty)

  -- The address of a place. A bit has none.
  pub address_code : Layout → ℕ → ℕ → Place → List Tree
  address_code l copy base (tree.Name object ty line) = code.Address (Frame copy base) (object_byte l copy object) ∷ []
  address_code l copy base (tree.Bit register bit line) = []
  address_code l copy base (tree.Member whole member offset ty line) =
      address_code l copy base whole ++ member_row (Frame copy base) offset (Result l.root 0)
  address_code l copy base (tree.Deref pointer ty line) = expr_code l copy base true pointer

  -- Each argument stands behind those before it, which have `before` bytes.
  pub arguments_code : Layout → ℕ → ℕ → ℕ → Expressions → List Tree
  arguments_code l copy base before tree.NoExpression = []
  arguments_code l copy base before (tree.AndExpression e es) =
      expr_code l copy (beyond base before) true e ++ arguments_code l copy base (beyond before (value_width l e)) es
