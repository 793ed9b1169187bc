-- The temporary bytes that expressions and statements need in a frame, and the bytes of frames.
use Rattle.std.specs.Prelude.{ℕ, ◌+◌, ◌*◌, max, List, [], ◌∷◌, Option, Some, None}
use Rattle.c_ints.specs.Range.{bytes_of}
use Rattle.c_ints.specs.declared.operators.UnOp.{UnOp}
use Rattle.c_ints.specs.declared.operators.UnOp.TheVariants.{Bang}
use Rattle.c_typed.specs.Trees as tree
use Rattle.c_typed.specs.Trees.{Expression, Expressions, Place, Item, Statement, Statements, Arm, Arms, LastArm, VariableTree, FunctionTree}
use Rattle.c_typed.specs.Types.{type_bytes, value_bytes, place_bytes, form_of}
use Rattle.c_typed.specs.declared.expression.PlaceForm.{PlaceForm}
use Rattle.c_typed.specs.declared.expression.PlaceForm.TheVariants.{Fixed, Bit, Computed}

-- The address of a computed place takes 2 bytes.
abbrev pub address_bytes : PlaceForm → ℕ
address_bytes Fixed = 0
address_bytes Bit = 0
address_bytes Computed = 2

-- The value that a place has: the place is found first, and its value stands behind its address.
abbrev pub read_room : ℕ → PlaceForm → ℕ → ℕ
read_room place form bytes = max place (address_bytes form + bytes)

-- `!` gives 2 bytes behind its operand, and the others as many as their own value has.
abbrev pub unary_room : UnOp → ℕ → ℕ → ℕ → ℕ
unary_room Bang operand operand_bytes bytes = max operand (operand_bytes + 2)
unary_room _ operand operand_bytes bytes = max operand (operand_bytes + bytes)

-- The right operand stands behind the left one, and behind both the result and two bytes more.
abbrev pub binary_room : ℕ → ℕ → ℕ → ℕ → ℕ → ℕ
binary_room left left_bytes right right_bytes bytes = max left (max (left_bytes + right) (left_bytes + right_bytes + bytes + 2))

-- The value stands behind the place's address, and behind it two bytes more.
abbrev pub assign_room : ℕ → PlaceForm → ℕ → ℕ → ℕ
assign_room place form value value_bytes = max place (max (address_bytes form + value) (address_bytes form + value_bytes + 2))

abbrev pub struct_room : ℕ → PlaceForm → ℕ → PlaceForm → ℕ
struct_room place form from from_form = max place (max (address_bytes form + from) (address_bytes form + address_bytes from_form + 2))

-- Behind the place's address stand the value, the place's old value, and three times the bytes of the operation's type.
abbrev pub update_room : ℕ → PlaceForm → ℕ → ℕ → ℕ → ℕ → ℕ
update_room place form place_bytes value value_bytes operation = max place (max (address_bytes form + value) (address_bytes form + value_bytes + place_bytes + 3 * operation + 2))

-- the bytes of the arguments of a call
abbrev pub arguments_bytes : List ℕ → Expressions → ℕ
arguments_bytes sizes tree.NoExpression = 0
arguments_bytes sizes (tree.AndExpression e es) = value_bytes sizes e + arguments_bytes sizes es

-- The temporary bytes of an expression, from those of its parts in their order.
abbrev pub node_room : List ℕ → Expression → ℕ → ℕ → ℕ → ℕ
node_room sizes (tree.Constant value line) first second third = bytes_of value.ty
node_room sizes (tree.Read place ty line) first second third = read_room first (form_of place) (type_bytes sizes ty)
node_room sizes (tree.Address place ty line) first second third = max first 2
node_room sizes (tree.Convert operand ty line) first second third = max first (value_bytes sizes operand + type_bytes sizes ty)
node_room sizes (tree.Cast operand ty line) first second third = max first (value_bytes sizes operand + type_bytes sizes ty)
node_room sizes (tree.Unary op operand ty line) first second third = unary_room op first (value_bytes sizes operand) (type_bytes sizes ty)
node_room sizes (tree.Binary op left right ty line) first second third = binary_room first (value_bytes sizes left) second (value_bytes sizes right) (type_bytes sizes ty)
node_room sizes (tree.Offset op left right size ty line) first second third = binary_room first (value_bytes sizes left) second (value_bytes sizes right) (type_bytes sizes ty)
node_room sizes (tree.Difference left right size line) first second third = binary_room first (value_bytes sizes left) second (value_bytes sizes right) 2
node_room sizes (tree.Logical op left right line) first second third = max first (max second 2)
node_room sizes (tree.Conditional condition chosen otherwise ty line) first second third = max first (max second third)
node_room sizes (tree.Comma left right ty line) first second third = max first second
node_room sizes (tree.Assign place value ty line) first second third = assign_room first (form_of place) second (value_bytes sizes value)
node_room sizes (tree.StructAssign place from size line) first second third = struct_room first (form_of place) second (form_of from)
node_room sizes (tree.Update op place value operation size ty line) first second third = update_room first (form_of place) (place_bytes sizes place) second (value_bytes sizes value) (type_bytes sizes operation)
node_room sizes (tree.Step op place operation size ty line) first second third = update_room first (form_of place) (place_bytes sizes place) 2 2 (type_bytes sizes operation)
node_room sizes (tree.Call function arguments ty line) first second third = max first (max (arguments_bytes sizes arguments) (type_bytes sizes ty))

unfoldable mutual
  -- the temporary bytes of an expression
  pub room : List ℕ → Expression → ℕ
  room sizes (tree.Constant value line) = node_room sizes (tree.Constant value line) 0 0 0
  room sizes (tree.Read place ty line) = node_room sizes (tree.Read place ty line) (place_room sizes place) 0 0
  room sizes (tree.Address place ty line) = node_room sizes (tree.Address place ty line) (place_room sizes place) 0 0
  room sizes (tree.Convert operand ty line) = node_room sizes (tree.Convert operand ty line) (room sizes operand) 0 0
  room sizes (tree.Cast operand ty line) = node_room sizes (tree.Cast operand ty line) (room sizes operand) 0 0
  room sizes (tree.Unary op operand ty line) = node_room sizes (tree.Unary op operand ty line) (room sizes operand) 0 0
  room sizes (tree.Binary op left right ty line) = node_room sizes (tree.Binary op left right ty line) (room sizes left) (room sizes right) 0
  room sizes (tree.Offset op left right size ty line) = node_room sizes (tree.Offset op left right size ty line) (room sizes left) (room sizes right) 0
  room sizes (tree.Difference left right size line) = node_room sizes (tree.Difference left right size line) (room sizes left) (room sizes right) 0
  room sizes (tree.Logical op left right line) = node_room sizes (tree.Logical op left right line) (room sizes left) (room sizes right) 0
  room sizes (tree.Conditional condition chosen otherwise ty line) = node_room sizes (tree.Conditional condition chosen otherwise ty line) (room sizes condition) (room sizes chosen) (room sizes otherwise)
  room sizes (tree.Comma left right ty line) = node_room sizes (tree.Comma left right ty line) (room sizes left) (room sizes right) 0
  room sizes (tree.Assign place value ty line) = node_room sizes (tree.Assign place value ty line) (place_room sizes place) (room sizes value) 0
  room sizes (tree.StructAssign place from size line) = node_room sizes (tree.StructAssign place from size line) (place_room sizes place) (place_room sizes from) 0
  room sizes (tree.Update op place value operation size ty line) = node_room sizes (tree.Update op place value operation size ty line) (place_room sizes place) (room sizes value) 0
  room sizes (tree.Step op place operation size ty line) = node_room sizes (tree.Step op place operation size ty line) (place_room sizes place) 0 0
  room sizes (tree.Call function arguments ty line) = node_room sizes (tree.Call function arguments ty line) (arguments_room sizes 0 arguments) 0 0

  -- those that finding a place takes
  pub place_room : List ℕ → Place → ℕ
  place_room sizes (tree.Name object ty line) = 0
  place_room sizes (tree.Bit register bit line) = 0
  place_room sizes (tree.Member whole member offset ty line) = place_room sizes whole
  place_room sizes (tree.Deref pointer ty line) = room sizes pointer

  -- Each argument stands behind those before it, which have `before` bytes.
  pub arguments_room : List ℕ → ℕ → Expressions → ℕ
  arguments_room sizes before tree.NoExpression = 0
  arguments_room sizes before (tree.AndExpression e es) = max (before + room sizes e) (arguments_room sizes (before + value_bytes sizes e) es)

abbrev pub any_room : List ℕ → Option Expression → ℕ
any_room sizes None = 0
any_room sizes (Some e) = room sizes e

-- A local that is given a value: an assignment to a fixed place.
abbrev pub local_room : ℕ → ℕ → ℕ
local_room value value_bytes = assign_room 0 Fixed value value_bytes

abbrev pub item_room : List ℕ → Item → ℕ
item_room sizes (tree.Scalar offset value) = local_room (room sizes value) (value_bytes sizes value)
item_room sizes (tree.Struct offset from size) = struct_room 0 Fixed (place_room sizes from) (form_of from)
item_room sizes (tree.Text offset bytes size) = 0

abbrev pub items_room : List ℕ → List Item → ℕ
items_room sizes [] = 0
items_room sizes (item ∷ items) = max (item_room sizes item) (items_room sizes items)

-- The value of a switch, and behind it once more as many bytes and two.
abbrev pub switch_room : ℕ → ℕ → ℕ
switch_room value value_bytes = max value (2 * value_bytes + 2)

unfoldable mutual
  -- the greatest number of temporary bytes of the expressions of a statement
  pub statement_room : List ℕ → Statement → ℕ
  statement_room sizes (tree.Block statements line) = statements_room sizes statements
  statement_room sizes (tree.Empty line) = 0
  statement_room sizes (tree.Expr value line) = room sizes value
  statement_room sizes (tree.Declare local line) = 0
  statement_room sizes (tree.InitScalar local value line) = local_room (room sizes value) (value_bytes sizes value)
  statement_room sizes (tree.InitList local items line) = items_room sizes items
  statement_room sizes (tree.If arms otherwise line) = max (arms_room sizes arms) (last_room sizes otherwise)
  statement_room sizes (tree.Loop shape begin condition step body line) = max (any_room sizes begin) (max (any_room sizes condition) (max (any_room sizes step) (statement_room sizes body)))
  statement_room sizes (tree.Switch value cases default statements line) = max (switch_room (room sizes value) (value_bytes sizes value)) (statements_room sizes statements)
  statement_room sizes (tree.Break line) = 0
  statement_room sizes (tree.Continue line) = 0
  statement_room sizes (tree.Return value line) = any_room sizes value

  pub statements_room : List ℕ → Statements → ℕ
  statements_room sizes tree.NoStatement = 0
  statements_room sizes (tree.AndStatement s ss) = max (statement_room sizes s) (statements_room sizes ss)

  pub arm_room : List ℕ → Arm → ℕ
  arm_room sizes (tree.OneArm condition chosen line) = max (room sizes condition) (statement_room sizes chosen)

  pub arms_room : List ℕ → Arms → ℕ
  arms_room sizes tree.NoArm = 0
  arms_room sizes (tree.AndArm arm arms) = max (arm_room sizes arm) (arms_room sizes arms)

  pub last_room : List ℕ → LastArm → ℕ
  last_room sizes tree.NoLast = 0
  last_room sizes (tree.Last s) = statement_room sizes s

abbrev pub variables_bytes : List ℕ → List VariableTree → ℕ
variables_bytes sizes [] = 0
variables_bytes sizes (v ∷ vs) = type_bytes sizes v.ty.ty + variables_bytes sizes vs

-- The frame of a function: its parameters, its locals that are not static, and its temporary bytes.
abbrev pub frame_size : List ℕ → FunctionTree → ℕ
frame_size sizes f = variables_bytes sizes f.params + (variables_bytes sizes f.locals + statements_room sizes f.body)
