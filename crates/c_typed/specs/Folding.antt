-- The value of an integer constant expression (ISO/IEC 9899:1990, 6.4). It has none where a part of it that is evaluated
-- is undefined, as a division by 0 is.
use Rattle.std.specs.Prelude.{ℕ, Bool, true, false, not, nat_eq, if◌then◌else◌, Option, Some, None}
use Rattle.c_ints.specs.Conversions.{promoted}
use Rattle.c_ints.specs.Operators.{truth, cut_to, shifts, outcome, unary_type, exact_unary}
use Rattle.c_ints.specs.Quantity.{Quantity}
use Rattle.c_ints.specs.Range.{pattern}
use Rattle.c_ints.specs.declared.operators.BinOp.{BinOp}
use Rattle.c_ints.specs.declared.operators.UnOp.{UnOp}
use Rattle.c_ints.specs.declared.types.IntTy.{IntTy}
use Rattle.c_ints.specs.declared.types.IntTy.TheVariants as int
use Rattle.c_typed.specs.Trees as tree
use Rattle.c_typed.specs.Trees.{Expression}
use Rattle.c_typed.specs.Types.{is_constant}
use Rattle.c_typed.specs.declared.expression.LogicalOp.{LogicalOp}
use Rattle.c_typed.specs.declared.expression.LogicalOp.TheVariants as logical
use Rattle.c_typed.specs.declared.folding.Folded.{Folded}
use Rattle.c_typed.specs.declared.folding.Folded.TheVariants as folding
use Rattle.c_typed.specs.declared.types.Ty.{Ty}
use Rattle.c_typed.specs.declared.types.Ty.TheVariants.{Void, Int, Pointer, Array, Struct}

-- the bits of a value
unfoldable pub bits : Quantity → ℕ
bits v = pattern v.ty v.number

-- It isn't 0.
abbrev pub holds : Quantity → Bool
holds v = not (nat_eq (bits v) 0)

abbrev pub truth_value : Bool → Quantity
truth_value is = cut_to int.Int (truth is)

-- an integer in a type
abbrev pub converted_to : IntTy → Option Quantity → Option Quantity
converted_to ty None = None
converted_to ty (Some v) = Some (cut_to ty v.number)

abbrev pub converted : Ty → Option Quantity → Option Quantity
converted Void v = None
converted (Int ty) v = converted_to ty v
converted (Pointer target) v = None
converted (Array element length size) v = None
converted (Struct number) v = None

abbrev pub negated : UnOp → Option Quantity → Option Quantity
negated op None = None
negated op (Some v) = Some (cut_to (unary_type op v.ty) (exact_unary op v.number))

-- The operands are promoted, and those of an operator other than a shift have one type.
abbrev pub right_type : Bool → IntTy → IntTy → IntTy
right_type true left right = promoted right
right_type false left right = promoted left

abbrev pub applied : BinOp → Quantity → Quantity → Option Quantity
applied op a b = outcome op (cut_to (promoted a.ty) a.number) (cut_to (right_type (shifts op) a.ty b.ty) b.number)

abbrev pub combined : BinOp → Option Quantity → Option Quantity → Option Quantity
combined op None right = None
combined op (Some a) None = None
combined op (Some a) (Some b) = applied op a b

abbrev pub truth_of : Option Quantity → Option Quantity
truth_of None = None
truth_of (Some v) = Some (truth_value (holds v))

-- The right operand counts only where the left one doesn't decide.
abbrev pub decided : LogicalOp → Bool → Option Quantity → Option Quantity
decided logical.And true right = truth_of right
decided logical.And false right = Some (truth_value false)
decided logical.Or true right = Some (truth_value true)
decided logical.Or false right = truth_of right

abbrev pub connected : LogicalOp → Option Quantity → Option Quantity → Option Quantity
connected op None right = None
connected op (Some a) right = decided op (holds a) right

abbrev pub chosen : Option Quantity → Option Quantity → Option Quantity → Option Quantity
chosen None held failed = None
chosen (Some v) held failed = if holds v then held else failed

-- The value of an expression that is an integer constant expression; of another one it says nothing.
unfoldable pub constant_value : Expression → Option Quantity
constant_value (tree.Constant value line) = Some value
constant_value (tree.Read place ty line) = None
constant_value (tree.Address place ty line) = None
constant_value (tree.Convert operand ty line) = converted ty (constant_value operand)
constant_value (tree.Cast operand ty line) = converted ty (constant_value operand)
constant_value (tree.Unary op operand ty line) = negated op (constant_value operand)
constant_value (tree.Binary op left right ty line) = combined op (constant_value left) (constant_value right)
constant_value (tree.Offset op left right size ty line) = None
constant_value (tree.Difference left right size line) = None
constant_value (tree.Logical op left right line) = connected op (constant_value left) (constant_value right)
constant_value (tree.Conditional condition held failed ty line) = chosen (constant_value condition) (constant_value held) (constant_value failed)
constant_value (tree.Comma left right ty line) = None
constant_value (tree.Assign place value ty line) = None
constant_value (tree.StructAssign place from size line) = None
constant_value (tree.Update op place value operation size ty line) = None
constant_value (tree.Step op place operation size ty line) = None
constant_value (tree.Call function arguments ty line) = None

-- its bits, and 0 where it is undefined
abbrev pub bits_of : Option Quantity → ℕ
bits_of None = 0
bits_of (Some v) = bits v

abbrev pub constant_bits : Expression → ℕ
constant_bits e = bits_of (constant_value e)

-- What an expression is as an integer constant expression: none, one without a value, or one with this value.
abbrev pub with_value : Option Quantity → Folded
with_value None = folding.Undefined
with_value (Some v) = folding.Value v

abbrev pub folded : Expression → Folded
folded e = if is_constant e then with_value (constant_value e) else folding.Variable
