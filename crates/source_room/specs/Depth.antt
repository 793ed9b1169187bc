-- How many entries of the stack a run of the source needs at a time, by the longest way through each body. A node that waits for a
-- part is an entry, and of its parts one is under way at a time; so a node has one entry and those of the part that has most.
-- Each argument of a call that has its value is an entry too, and waits until the call. A node without parts counts one, though it
-- waits for nothing: so each node has one at least.
use Rattle.std.specs.Prelude.{ℕ, ◌+◌, ◌*◌, max, List, [], ◌∷◌, Option, Some, None}
use Rattle.c_typed.specs.Trees.{Expression, Expressions, Place, Item, Statement, Statements, Arm, Arms, LastArm, FunctionTree, Program}
use Rattle.c_typed.specs.Trees.{Constant, Read, Address, Convert, Cast, Unary, Binary, Offset, Difference, Logical, Conditional, Comma, Assign, StructAssign, Update, Step, Call}
use Rattle.c_typed.specs.Trees.{NoExpression, AndExpression, Name, Bit, Member, Deref, Scalar, Struct, Text}
use Rattle.c_typed.specs.Trees.{Block, Empty, Expr, Declare, InitScalar, InitList, If, Loop, Switch, Break, Continue, Return, NoStatement, AndStatement, OneArm, NoArm, AndArm, NoLast, Last}

unfoldable mutual
  pub expression_depth : Expression → ℕ
  expression_depth (Constant value line) = 1
  expression_depth (Read place ty line) = 1 + place_depth place
  expression_depth (Address place ty line) = 1 + place_depth place
  expression_depth (Convert operand ty line) = 1 + expression_depth operand
  expression_depth (Cast operand ty line) = 1 + expression_depth operand
  expression_depth (Unary op operand ty line) = 1 + expression_depth operand
  expression_depth (Binary op left right ty line) = 1 + max (expression_depth left) (expression_depth right)
  expression_depth (Offset op pointer by scale ty line) = 1 + max (expression_depth pointer) (expression_depth by)
  expression_depth (Difference left right scale line) = 1 + max (expression_depth left) (expression_depth right)
  expression_depth (Logical op left right line) = 1 + max (expression_depth left) (expression_depth right)
  expression_depth (Conditional condition first second ty line) = 1 + max (expression_depth condition) (max (expression_depth first) (expression_depth second))
  expression_depth (Comma left right ty line) = 1 + max (expression_depth left) (expression_depth right)
  expression_depth (Assign place value ty line) = 1 + max (place_depth place) (expression_depth value)
  expression_depth (StructAssign to from size line) = 1 + max (place_depth to) (place_depth from)
  expression_depth (Update op place value operation scale ty line) = 1 + max (place_depth place) (expression_depth value)
  expression_depth (Step op place operation scale ty line) = 1 + place_depth place
  expression_depth (Call function arguments ty line) = 1 + arguments_depth arguments

  -- the values of the arguments before one wait below it
  pub arguments_depth : Expressions → ℕ
  arguments_depth NoExpression = 0
  arguments_depth (AndExpression e es) = max (expression_depth e) (1 + arguments_depth es)

  pub place_depth : Place → ℕ
  place_depth (Name object ty line) = 1
  place_depth (Bit register number line) = 1
  place_depth (Member whole number offset ty line) = 1 + place_depth whole
  place_depth (Deref pointer ty line) = 1 + expression_depth pointer

-- an expression that may be left out
abbrev pub any_depth : Option Expression → ℕ
any_depth None = 0
any_depth (Some e) = expression_depth e

abbrev pub item_depth : Item → ℕ
item_depth (Scalar offset value) = expression_depth value
item_depth (Struct offset from size) = place_depth from
item_depth (Text offset bytes size) = 0

abbrev pub items_depth : List Item → ℕ
items_depth [] = 0
items_depth (item ∷ items) = max (item_depth item) (items_depth items)

-- The list of a block waits for each of its statements. The body of a switch is a list as well, and waits above the switch.
unfoldable mutual
  pub statement_depth : Statement → ℕ
  statement_depth (Block body line) = 1 + body_depth body
  statement_depth (Empty line) = 1
  statement_depth (Expr e line) = 1 + expression_depth e
  statement_depth (Declare local line) = 1
  statement_depth (InitScalar local value line) = 1 + expression_depth value
  statement_depth (InitList local items line) = 1 + items_depth items
  statement_depth (If arms last line) = 1 + max (arms_depth arms) (last_depth last)
  statement_depth (Loop _ begin condition step body line) = 1 + max (any_depth begin) (max (any_depth condition) (max (any_depth step) (statement_depth body)))
  statement_depth (Switch value cases default body line) = 1 + max (expression_depth value) (1 + body_depth body)
  statement_depth (Break line) = 1
  statement_depth (Continue line) = 1
  statement_depth (Return value line) = 1 + any_depth value

  pub body_depth : Statements → ℕ
  body_depth NoStatement = 0
  body_depth (AndStatement s ss) = max (statement_depth s) (body_depth ss)

  pub arm_depth : Arm → ℕ
  arm_depth (OneArm condition body line) = max (expression_depth condition) (statement_depth body)

  pub arms_depth : Arms → ℕ
  arms_depth NoArm = 0
  arms_depth (AndArm arm arms) = max (arm_depth arm) (arms_depth arms)

  pub last_depth : LastArm → ℕ
  last_depth NoLast = 0
  last_depth (Last s) = statement_depth s

-- A function's entries: the caller that it returns to, the list of its body, and what stands above these.
abbrev pub function_depth : FunctionTree → ℕ
function_depth f = 2 + body_depth f.body

abbrev pub functions_depth : List FunctionTree → ℕ
functions_depth [] = 0
functions_depth (f ∷ fs) = function_depth f + functions_depth fs

-- A function that doesn't reach itself is active at most once for main and once for the handler.
abbrev pub most_entries : Program → ℕ
most_entries p = 2 * functions_depth p.functions

abbrev pub deepest_of : List FunctionTree → ℕ
deepest_of [] = 0
deepest_of (f ∷ fs) = max (function_depth f) (deepest_of fs)

-- what the function needs that needs most
abbrev pub deepest_function : Program → ℕ
deepest_function p = deepest_of p.functions
