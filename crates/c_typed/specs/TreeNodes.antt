-- How many nodes a program has, counted on its tree as pure data: each expression, place and statement, each arm of an
-- `if`, each case label, and each function. A declarator alone is none.
use Rattle.std.specs.Prelude.{ℕ, ◌+◌, List, [], ◌∷◌, length, Option, Some, None}
use Rattle.c_typed.specs.Trees.{Expression, Expressions, Place, Item, Statement, Statements, Arm, Arms, LastArm, FunctionTree, Program}
use Rattle.c_typed.specs.Trees.{Constant, Read, Address, Convert, Cast, Unary, Binary, Offset, Difference, Logical, Conditional, Comma, Assign, StructAssign, Update, Step, Call}
use Rattle.c_typed.specs.Trees.{NoExpression, AndExpression, Name, Bit, Member, Deref, Scalar, Struct, Text}
use Rattle.c_typed.specs.Trees.{Block, Empty, Expr, Declare, InitScalar, InitList, If, Loop, Switch, Break, Continue, Return, NoStatement, AndStatement, OneArm, NoArm, AndArm, NoLast, Last}

unfoldable mutual
  pub nodes_in : Expression → ℕ
  nodes_in (Constant value line) = 1
  nodes_in (Read place ty line) = 1 + nodes_at place
  nodes_in (Address place ty line) = 1 + nodes_at place
  nodes_in (Convert operand ty line) = 1 + nodes_in operand
  nodes_in (Cast operand ty line) = 1 + nodes_in operand
  nodes_in (Unary op operand ty line) = 1 + nodes_in operand
  nodes_in (Binary op left right ty line) = 1 + (nodes_in left + nodes_in right)
  nodes_in (Offset op pointer by scale ty line) = 1 + (nodes_in pointer + nodes_in by)
  nodes_in (Difference left right scale line) = 1 + (nodes_in left + nodes_in right)
  nodes_in (Logical op left right line) = 1 + (nodes_in left + nodes_in right)
  nodes_in (Conditional condition first second ty line) = 1 + (nodes_in condition + (nodes_in first + nodes_in second))
  nodes_in (Comma left right ty line) = 1 + (nodes_in left + nodes_in right)
  nodes_in (Assign place value ty line) = 1 + (nodes_at place + nodes_in value)
  nodes_in (StructAssign to from size line) = 1 + (nodes_at to + nodes_at from)
  nodes_in (Update op place value operation scale ty line) = 1 + (nodes_at place + nodes_in value)
  nodes_in (Step op place operation scale ty line) = 1 + nodes_at place
  nodes_in (Call function arguments ty line) = 1 + nodes_of_all arguments

  pub nodes_of_all : Expressions → ℕ
  nodes_of_all NoExpression = 0
  nodes_of_all (AndExpression e es) = nodes_in e + nodes_of_all es

  pub nodes_at : Place → ℕ
  nodes_at (Name object ty line) = 1
  nodes_at (Bit register number line) = 1
  nodes_at (Member whole number offset ty line) = 1 + nodes_at whole
  nodes_at (Deref pointer ty line) = 1 + nodes_in pointer

-- an expression that may be left out
abbrev pub nodes_in_any : Option Expression → ℕ
nodes_in_any None = 0
nodes_in_any (Some e) = nodes_in e

abbrev pub item_nodes : Item → ℕ
item_nodes (Scalar offset value) = nodes_in value
item_nodes (Struct offset from size) = nodes_at from
item_nodes (Text offset bytes size) = 0

abbrev pub items_nodes : List Item → ℕ
items_nodes [] = 0
items_nodes (item ∷ items) = item_nodes item + items_nodes items

unfoldable mutual
  pub statement_nodes : Statement → ℕ
  statement_nodes (Block body line) = 1 + nodes_of_body body
  statement_nodes (Empty line) = 1
  statement_nodes (Expr e line) = 1 + nodes_in e
  statement_nodes (Declare local line) = 0
  statement_nodes (InitScalar local value line) = 1 + nodes_in value
  statement_nodes (InitList local items line) = 1 + items_nodes items
  statement_nodes (If arms last line) = arms_nodes arms + last_nodes last
  statement_nodes (Loop _ begin condition step body line) = 1 + (nodes_in_any begin + (nodes_in_any condition + (nodes_in_any step + statement_nodes body)))
  statement_nodes (Switch value cases default body line) = 1 + (nodes_in value + (length cases + nodes_of_body body))
  statement_nodes (Break line) = 1
  statement_nodes (Continue line) = 1
  statement_nodes (Return value line) = 1 + nodes_in_any value

  pub nodes_of_body : Statements → ℕ
  nodes_of_body NoStatement = 0
  nodes_of_body (AndStatement s ss) = statement_nodes s + nodes_of_body ss

  pub arm_nodes : Arm → ℕ
  arm_nodes (OneArm condition body line) = 1 + (nodes_in condition + statement_nodes body)

  pub arms_nodes : Arms → ℕ
  arms_nodes NoArm = 0
  arms_nodes (AndArm arm arms) = arm_nodes arm + arms_nodes arms

  pub last_nodes : LastArm → ℕ
  last_nodes NoLast = 0
  last_nodes (Last s) = statement_nodes s

abbrev pub functions_nodes : List FunctionTree → ℕ
functions_nodes [] = 0
functions_nodes (f ∷ fs) = 1 + nodes_of_body f.body + functions_nodes fs

-- the nodes of a program
abbrev pub nodes_of : Program → ℕ
nodes_of p = functions_nodes p.functions
