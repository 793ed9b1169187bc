-- Which functions and helpers a function calls, and chains of calls.
use Rattle.std.specs.Prelude.{ℕ, nat_eq, Bool, true, false, if◌then◌else◌, List, [], ◌∷◌, ◌++◌, Option, Some, None}
use Rattle.c_ints.specs.declared.operators.BinOp.{BinOp}
use Rattle.c_ints.specs.declared.operators.BinOp.TheVariants as binop
use Rattle.c_ints.specs.declared.types.IntTy.{IntTy}
use Rattle.c_ints.specs.declared.types.IntTy.TheVariants as int
use Rattle.c_typed.specs.Trees as tree
use Rattle.c_typed.specs.Trees.{Expression, Expressions, Place, Item, Statement, Statements, Arm, Arms, LastArm}
use Rattle.c_typed.specs.Types.{type_of, is_constant}
use Rattle.c_typed.specs.declared.calls.FnId.{FnId}
use Rattle.c_typed.specs.declared.calls.FnId.TheVariants as callee
use Rattle.c_typed.specs.declared.calls.FnId.TheVariants.{User}
use Rattle.c_typed.specs.declared.calls.Helper.{Helper}
use Rattle.c_typed.specs.declared.calls.Helper.TheVariants.{Mul2, Mul4, Divu2, Divs2, Remu2, Rems2, Divu4, Divs4, Remu4, Rems4, Shl2, Shru2, Shrs2, Shl4, Shru4, Shrs4}
use Rattle.c_typed.specs.declared.types.Ty.{Ty}
use Rattle.c_typed.specs.declared.types.Ty.TheVariants.{Int}

-- the helper of that width and sign for a type: signed and unsigned of 2 bytes, signed and unsigned of 4 bytes
abbrev pub by_type : Helper → Helper → Helper → Helper → IntTy → Option Helper
by_type s2 u2 s4 u4 int.Char = None
by_type s2 u2 s4 u4 int.SChar = None
by_type s2 u2 s4 u4 int.UChar = None
by_type s2 u2 s4 u4 int.Short = Some s2
by_type s2 u2 s4 u4 int.UShort = Some u2
by_type s2 u2 s4 u4 int.Int = Some s2
by_type s2 u2 s4 u4 int.UInt = Some u2
by_type s2 u2 s4 u4 int.Long = Some s4
by_type s2 u2 s4 u4 int.ULong = Some u4

-- The helper of an operator on a type; a shift by an integer constant expression has none.
abbrev pub int_helper : BinOp → Bool → IntTy → Option Helper
int_helper binop.Mul constant ty = by_type Mul2 Mul2 Mul4 Mul4 ty
int_helper binop.Div constant ty = by_type Divs2 Divu2 Divs4 Divu4 ty
int_helper binop.Rem constant ty = by_type Rems2 Remu2 Rems4 Remu4 ty
int_helper binop.Shl true ty = None
int_helper binop.Shl false ty = by_type Shl2 Shl2 Shl4 Shl4 ty
int_helper binop.Shr true ty = None
int_helper binop.Shr false ty = by_type Shrs2 Shru2 Shrs4 Shru4 ty
int_helper _ constant ty = None

abbrev pub helper_for : BinOp → Bool → Ty → Option Helper
helper_for op constant (Int ty) = int_helper op constant ty
helper_for op constant _ = None

-- A difference of pointers divides, but for elements of one byte.
abbrev pub difference_helper : ℕ → Option Helper
difference_helper size = if nat_eq size 1 then None else Some Divs2

abbrev pub helper_calls : Option Helper → List FnId
helper_calls None = []
helper_calls (Some h) = callee.Helper h ∷ []

unfoldable mutual
  -- the calls of an expression, each as often as it stands there
  pub calls : Expression → List FnId
  calls (tree.Constant value line) = []
  calls (tree.Read place ty line) = place_calls place
  calls (tree.Address place ty line) = place_calls place
  calls (tree.Convert operand ty line) = calls operand
  calls (tree.Cast operand ty line) = calls operand
  calls (tree.Unary op operand ty line) = calls operand
  calls (tree.Binary op left right ty line) = calls left ++ calls right ++ helper_calls (helper_for op (is_constant right) (type_of left))
  calls (tree.Offset op left right size ty line) = calls left ++ calls right
  calls (tree.Difference left right size line) = calls left ++ calls right ++ helper_calls (difference_helper size)
  calls (tree.Logical op left right line) = calls left ++ calls right
  calls (tree.Conditional condition chosen otherwise ty line) = calls condition ++ calls chosen ++ calls otherwise
  calls (tree.Comma left right ty line) = calls left ++ calls right
  calls (tree.Assign place value ty line) = place_calls place ++ calls value
  calls (tree.StructAssign place from size line) = place_calls place ++ place_calls from
  calls (tree.Update op place value operation size ty line) = place_calls place ++ calls value ++ helper_calls (helper_for op (is_constant value) operation)
  calls (tree.Step op place operation size ty line) = place_calls place
  calls (tree.Call function arguments ty line) = arguments_calls arguments ++ User function ∷ []

  pub place_calls : Place → List FnId
  place_calls (tree.Name object ty line) = []
  place_calls (tree.Bit register bit line) = []
  place_calls (tree.Member whole member offset ty line) = place_calls whole
  place_calls (tree.Deref pointer ty line) = calls pointer

  pub arguments_calls : Expressions → List FnId
  arguments_calls tree.NoExpression = []
  arguments_calls (tree.AndExpression e es) = calls e ++ arguments_calls es

abbrev pub any_calls : Option Expression → List FnId
any_calls None = []
any_calls (Some e) = calls e

abbrev pub item_calls : Item → List FnId
item_calls (tree.Scalar offset value) = calls value
item_calls (tree.Struct offset from size) = place_calls from
item_calls (tree.Text offset bytes size) = []

abbrev pub items_calls : List Item → List FnId
items_calls [] = []
items_calls (item ∷ items) = item_calls item ++ items_calls items

unfoldable mutual
  pub statement_calls : Statement → List FnId
  statement_calls (tree.Block statements line) = statements_calls statements
  statement_calls (tree.Empty line) = []
  statement_calls (tree.Expr value line) = calls value
  statement_calls (tree.Declare local line) = []
  statement_calls (tree.InitScalar local value line) = calls value
  statement_calls (tree.InitList local items line) = items_calls items
  statement_calls (tree.If arms otherwise line) = arms_calls arms ++ last_calls otherwise
  statement_calls (tree.Loop shape begin condition step body line) = any_calls begin ++ any_calls condition ++ any_calls step ++ statement_calls body
  statement_calls (tree.Switch value cases default statements line) = calls value ++ statements_calls statements
  statement_calls (tree.Break line) = []
  statement_calls (tree.Continue line) = []
  statement_calls (tree.Return value line) = any_calls value

  pub statements_calls : Statements → List FnId
  statements_calls tree.NoStatement = []
  statements_calls (tree.AndStatement s ss) = statement_calls s ++ statements_calls ss

  pub arm_calls : Arm → List FnId
  arm_calls (tree.OneArm condition chosen line) = calls condition ++ statement_calls chosen

  pub arms_calls : Arms → List FnId
  arms_calls tree.NoArm = []
  arms_calls (tree.AndArm arm arms) = arm_calls arm ++ arms_calls arms

  pub last_calls : LastArm → List FnId
  last_calls tree.NoLast = []
  last_calls (tree.Last s) = statement_calls s
