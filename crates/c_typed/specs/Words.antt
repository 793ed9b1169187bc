-- The stated words of a typed program: upper bounds of the code of each node, and their sums.
use Rattle.std.specs.Prelude.{ℕ, zero, suc, ◌+◌, ◌-◌, ◌*◌, ◌/◌, nat_lt, nat_eq, Bool, true, false, if◌then◌else◌, List, [], ◌∷◌, Option, Some, None, map, slice_index}
use Rattle.c_ints.specs.Range.{bytes_of}
use Rattle.c_ints.specs.declared.operators.BinOp.{BinOp}
use Rattle.c_ints.specs.declared.operators.BinOp.TheVariants as binop
use Rattle.c_ints.specs.declared.operators.UnOp.{UnOp}
use Rattle.c_ints.specs.declared.operators.UnOp.TheVariants as unop
use Rattle.c_typed.specs.Room.{arguments_bytes}
use Rattle.c_typed.specs.Trees as tree
use Rattle.c_typed.specs.Trees.{Expression, Expressions, Place, Item, Statement, Statements, Arm, Arms, LastArm, VariableTree, FunctionTree, StaticTree, Program}
use Rattle.c_typed.specs.Types.{type_bytes, value_bytes, place_bytes, form_of, is_constant}
use Rattle.c_typed.specs.declared.expression.PlaceForm.{PlaceForm}
use Rattle.c_typed.specs.declared.expression.PlaceForm.TheVariants.{Fixed, Bit, Computed}
use Rattle.c_typed.specs.declared.expression.StepOp.{StepOp}
use Rattle.c_typed.specs.declared.expression.StepOp.TheVariants.{PreIncrement, PreDecrement, PostIncrement, PostDecrement}
use Rattle.c_typed.specs.declared.statement.TCase.{TCase}
use Rattle.c_typed.specs.declared.types.Ty.{Ty}
use Rattle.c_typed.specs.declared.types.Ty.TheVariants.{Pointer}

-- reading the value of a place of so many bytes
abbrev pub read_words : PlaceForm → ℕ → ℕ
read_words Fixed bytes = 6 * bytes
read_words Bit bytes = 10
read_words Computed bytes = 14 + 6 * bytes

-- storing to it
abbrev pub store_words : PlaceForm → ℕ → ℕ
store_words Fixed bytes = 6 * bytes
store_words Bit bytes = 20
store_words Computed bytes = 14 + 12 * bytes

-- the address of a place
abbrev pub address_words : PlaceForm → ℕ
address_words Fixed = 8
address_words Bit = 0
address_words Computed = 0

-- a member of a place of that form
abbrev pub member_words : PlaceForm → ℕ
member_words Fixed = 0
member_words Bit = 12
member_words Computed = 12

-- a conversion from so many bytes to so many
abbrev pub convert_words : ℕ → ℕ → ℕ
convert_words from to = if nat_lt from to then 8 + 4 * (to - from) else 0

abbrev pub unary_words : UnOp → ℕ → ℕ → ℕ
unary_words unop.Plus operand bytes = convert_words operand bytes
unary_words unop.Minus operand bytes = 10 * bytes
unary_words unop.Not operand bytes = 4 * bytes
unary_words unop.Bang operand bytes = 4 * operand + 16

-- a shift of so many bytes, by an integer constant expression or not
abbrev pub shift_words : Bool → ℕ → ℕ
shift_words true bytes = 8 * bytes + 20
shift_words false bytes = 14 * bytes + 14

-- a binary operator whose left operand has so many bytes
abbrev pub operator_words : BinOp → Bool → ℕ → ℕ
operator_words binop.Mul constant bytes = 20 * bytes + 10
operator_words binop.Div constant bytes = 20 * bytes + 10
operator_words binop.Rem constant bytes = 20 * bytes + 10
operator_words binop.Add constant bytes = 10 * bytes
operator_words binop.Sub constant bytes = 10 * bytes
operator_words binop.Shl constant bytes = shift_words constant bytes
operator_words binop.Shr constant bytes = shift_words constant bytes
operator_words binop.Lt constant bytes = 10 * bytes + 30
operator_words binop.Gt constant bytes = 10 * bytes + 30
operator_words binop.Le constant bytes = 10 * bytes + 30
operator_words binop.Ge constant bytes = 10 * bytes + 30
operator_words binop.Eq constant bytes = 10 * bytes + 20
operator_words binop.Ne constant bytes = 10 * bytes + 20
operator_words binop.And constant bytes = 8 * bytes
operator_words binop.Xor constant bytes = 8 * bytes
operator_words binop.Or constant bytes = 8 * bytes

-- The number of binary digits of a number below 2 to the `fuel`.
unfoldable pub digits_within : ℕ → ℕ → ℕ
digits_within zero n = 0
digits_within (suc fuel) n = if nat_eq n 0 then 0 else 1 + digits_within fuel (n / 2)

abbrev pub binary_digits : ℕ → ℕ
binary_digits n = digits_within 64 n

-- counting in elements of so many bytes
abbrev pub scale : ℕ → ℕ
scale size = if nat_eq size 1 then 0 else 12 + 20 * (binary_digits size - 1)

-- a pointer and an integer
abbrev pub offset_words : ℕ → ℕ
offset_words size = 20 + scale size

-- the difference of two pointers
abbrev pub difference_words : ℕ → ℕ
difference_words size = if nat_eq size 1 then 20 else 80

-- an assignment of a structure of so many bytes
abbrev pub struct_words : PlaceForm → PlaceForm → ℕ → ℕ
struct_words Fixed Fixed size = 6 * size
struct_words _ _ size = 28 * size + 8

-- an operator of an update: on a pointer to elements of `size` bytes, or on integers of so many bytes
abbrev pub change_words : BinOp → Bool → Ty → ℕ → ℕ → ℕ
change_words op constant (Pointer target) bytes size = offset_words size
change_words op constant _ bytes size = operator_words op constant bytes

abbrev pub computed_words : PlaceForm → ℕ
computed_words Computed = 14
computed_words Fixed = 0
computed_words Bit = 0

-- An update reads the place, converts to the operation's type, operates, converts back and stores.
abbrev pub update_words : BinOp → Bool → PlaceForm → ℕ → Ty → ℕ → ℕ → ℕ
update_words op constant form place operation bytes size =
    read_words form place + convert_words place bytes + change_words op constant operation bytes size + convert_words bytes place + store_words form place + 12 * bytes + computed_words form

-- `++` and `--`: updates by an int constant; the postfix forms keep the old value.
abbrev pub step_operator : StepOp → BinOp
step_operator PreIncrement = binop.Add
step_operator PreDecrement = binop.Sub
step_operator PostIncrement = binop.Add
step_operator PostDecrement = binop.Sub

abbrev pub kept_words : StepOp → ℕ → ℕ
kept_words PreIncrement place = 0
kept_words PreDecrement place = 0
kept_words PostIncrement place = 6 * place
kept_words PostDecrement place = 6 * place

abbrev pub step_words : StepOp → PlaceForm → ℕ → Ty → ℕ → ℕ → ℕ
step_words op form place operation bytes size = update_words (step_operator op) true form place operation bytes size + kept_words op place + 8

-- The words of an expression without its parts.
abbrev pub own_words : List ℕ → Expression → ℕ
own_words sizes (tree.Constant value line) = 4 * bytes_of value.ty
own_words sizes (tree.Read place ty line) = read_words (form_of place) (type_bytes sizes ty)
own_words sizes (tree.Address place ty line) = address_words (form_of place)
own_words sizes (tree.Convert operand ty line) = convert_words (value_bytes sizes operand) (type_bytes sizes ty)
own_words sizes (tree.Cast operand ty line) = convert_words (value_bytes sizes operand) (type_bytes sizes ty)
own_words sizes (tree.Unary op operand ty line) = unary_words op (value_bytes sizes operand) (type_bytes sizes ty)
own_words sizes (tree.Binary op left right ty line) = operator_words op (is_constant right) (value_bytes sizes left)
own_words sizes (tree.Offset op left right size ty line) = offset_words size
own_words sizes (tree.Difference left right size line) = difference_words size
own_words sizes (tree.Logical op left right line) = 4 * value_bytes sizes left + 4 * value_bytes sizes right + 30
own_words sizes (tree.Conditional condition chosen otherwise ty line) = 4 * value_bytes sizes condition + 20
own_words sizes (tree.Comma left right ty line) = 0
own_words sizes (tree.Assign place value ty line) = store_words (form_of place) (type_bytes sizes ty)
own_words sizes (tree.StructAssign place from size line) = struct_words (form_of place) (form_of from) size
own_words sizes (tree.Update op place value operation size ty line) = update_words op (is_constant value) (form_of place) (place_bytes sizes place) operation (type_bytes sizes operation) size
own_words sizes (tree.Step op place operation size ty line) = step_words op (form_of place) (place_bytes sizes place) operation (type_bytes sizes operation) size
own_words sizes (tree.Call function arguments ty line) = 6 * arguments_bytes sizes arguments + 6 * type_bytes sizes ty + 6

unfoldable mutual
  -- the words of an expression with its parts
  pub words : List ℕ → Expression → ℕ
  words sizes (tree.Constant value line) = own_words sizes (tree.Constant value line)
  words sizes (tree.Read place ty line) = own_words sizes (tree.Read place ty line) + place_words sizes place
  words sizes (tree.Address place ty line) = own_words sizes (tree.Address place ty line) + place_words sizes place
  words sizes (tree.Convert operand ty line) = own_words sizes (tree.Convert operand ty line) + words sizes operand
  words sizes (tree.Cast operand ty line) = own_words sizes (tree.Cast operand ty line) + words sizes operand
  words sizes (tree.Unary op operand ty line) = own_words sizes (tree.Unary op operand ty line) + words sizes operand
  words sizes (tree.Binary op left right ty line) = own_words sizes (tree.Binary op left right ty line) + (words sizes left + words sizes right)
  words sizes (tree.Offset op left right size ty line) = own_words sizes (tree.Offset op left right size ty line) + (words sizes left + words sizes right)
  words sizes (tree.Difference left right size line) = own_words sizes (tree.Difference left right size line) + (words sizes left + words sizes right)
  words sizes (tree.Logical op left right line) = own_words sizes (tree.Logical op left right line) + (words sizes left + words sizes right)
  words sizes (tree.Conditional condition chosen otherwise ty line) = own_words sizes (tree.Conditional condition chosen otherwise ty line) + (words sizes condition + (words sizes chosen + words sizes otherwise))
  words sizes (tree.Comma left right ty line) = own_words sizes (tree.Comma left right ty line) + (words sizes left + words sizes right)
  words sizes (tree.Assign place value ty line) = own_words sizes (tree.Assign place value ty line) + (place_words sizes place + words sizes value)
  words sizes (tree.StructAssign place from size line) = own_words sizes (tree.StructAssign place from size line) + (place_words sizes place + place_words sizes from)
  words sizes (tree.Update op place value operation size ty line) = own_words sizes (tree.Update op place value operation size ty line) + (place_words sizes place + words sizes value)
  words sizes (tree.Step op place operation size ty line) = own_words sizes (tree.Step op place operation size ty line) + place_words sizes place
  words sizes (tree.Call function arguments ty line) = own_words sizes (tree.Call function arguments ty line) + arguments_words sizes arguments

  pub place_words : List ℕ → Place → ℕ
  place_words sizes (tree.Name object ty line) = 0
  place_words sizes (tree.Bit register bit line) = 0
  place_words sizes (tree.Member whole member offset ty line) = member_words (form_of whole) + place_words sizes whole
  place_words sizes (tree.Deref pointer ty line) = words sizes pointer

  pub arguments_words : List ℕ → Expressions → ℕ
  arguments_words sizes tree.NoExpression = 0
  arguments_words sizes (tree.AndExpression e es) = words sizes e + arguments_words sizes es

abbrev pub any_words : List ℕ → Option Expression → ℕ
any_words sizes None = 0
any_words sizes (Some e) = words sizes e

abbrev pub any_bytes : List ℕ → Option Expression → ℕ
any_bytes sizes None = 0
any_bytes sizes (Some e) = value_bytes sizes e

-- a condition of an `if` or a loop, or none
abbrev pub condition_words : List ℕ → Option Expression → ℕ
condition_words sizes None = 20
condition_words sizes (Some e) = 4 * value_bytes sizes e + 20 + words sizes e

-- an item of a local's list, which is stored to a fixed place
abbrev pub item_words : List ℕ → Item → ℕ
item_words sizes (tree.Scalar offset value) = store_words Fixed (value_bytes sizes value) + words sizes value
item_words sizes (tree.Struct offset from size) = struct_words Fixed (form_of from) size + place_words sizes from
item_words sizes (tree.Text offset bytes size) = 4 * size

abbrev pub items_words : List ℕ → List Item → ℕ
items_words sizes [] = 0
items_words sizes (item ∷ items) = item_words sizes item + items_words sizes items

-- the bytes of a local that an item gives a value
abbrev pub item_bytes : List ℕ → Item → ℕ
item_bytes sizes (tree.Scalar offset value) = value_bytes sizes value
item_bytes sizes (tree.Struct offset from size) = size
item_bytes sizes (tree.Text offset bytes size) = size

abbrev pub items_bytes : List ℕ → List Item → ℕ
items_bytes sizes [] = 0
items_bytes sizes (item ∷ items) = item_bytes sizes item + items_bytes sizes items

-- each case of a switch on a value of so many bytes
abbrev pub cases_words : ℕ → List TCase → ℕ
cases_words bytes [] = 0
cases_words bytes (case ∷ cases) = 10 * bytes + 14 + cases_words bytes cases

unfoldable mutual
  -- The words of a statement with its parts; `locals` has the bytes of each local of the function. Bytes of a local
  -- without an item take 4 words each.
  pub statement_words : List ℕ → List ℕ → Statement → ℕ
  statement_words sizes locals (tree.Block statements line) = statements_words sizes locals statements
  statement_words sizes locals (tree.Empty line) = 0
  statement_words sizes locals (tree.Expr value line) = words sizes value
  statement_words sizes locals (tree.Declare local line) = 0
  statement_words sizes locals (tree.InitScalar local value line) = store_words Fixed (value_bytes sizes value) + words sizes value
  statement_words sizes locals (tree.InitList local items line) = items_words sizes items + 4 * (slice_index locals local - items_bytes sizes items)
  statement_words sizes locals (tree.If arms otherwise line) = arms_words sizes locals arms + last_words sizes locals otherwise
  statement_words sizes locals (tree.Loop shape begin condition step body line) = condition_words sizes condition + (any_words sizes begin + (any_words sizes step + statement_words sizes locals body))
  statement_words sizes locals (tree.Switch value cases default statements line) = 10 + cases_words (value_bytes sizes value) cases + (words sizes value + statements_words sizes locals statements)
  statement_words sizes locals (tree.Break line) = 4
  statement_words sizes locals (tree.Continue line) = 4
  statement_words sizes locals (tree.Return value line) = 6 * any_bytes sizes value + 6 + any_words sizes value

  pub statements_words : List ℕ → List ℕ → Statements → ℕ
  statements_words sizes locals tree.NoStatement = 0
  statements_words sizes locals (tree.AndStatement s ss) = statement_words sizes locals s + statements_words sizes locals ss

  pub arm_words : List ℕ → List ℕ → Arm → ℕ
  arm_words sizes locals (tree.OneArm condition chosen line) = 4 * value_bytes sizes condition + 20 + (words sizes condition + statement_words sizes locals chosen)

  pub arms_words : List ℕ → List ℕ → Arms → ℕ
  arms_words sizes locals tree.NoArm = 0
  arms_words sizes locals (tree.AndArm arm arms) = arm_words sizes locals arm + arms_words sizes locals arms

  pub last_words : List ℕ → List ℕ → LastArm → ℕ
  last_words sizes locals tree.NoLast = 0
  last_words sizes locals (tree.Last s) = statement_words sizes locals s

abbrev pub variable_bytes : List ℕ → VariableTree → ℕ
variable_bytes sizes v = type_bytes sizes v.ty.ty

-- The block of a function: 4 words and its parts.
abbrev pub block_size : List ℕ → FunctionTree → ℕ
block_size sizes f = 4 + statements_words sizes (map (variable_bytes sizes) f.locals) f.body

abbrev pub statics_bytes : List ℕ → List StaticTree → ℕ
statics_bytes sizes [] = 0
statics_bytes sizes (s ∷ ss) = type_bytes sizes s.ty.ty + statics_bytes sizes ss

-- The start block: 100 words, and 4 for each byte of a static.
abbrev pub start_size : Program → ℕ
start_size p = 100 + 4 * statics_bytes p.sizes p.statics
