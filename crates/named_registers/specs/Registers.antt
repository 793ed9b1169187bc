-- Which device registers a typed program names, by themselves or by a bit: with the line of each node that does, in any function, whether
-- it is called or not. What stands only in a `sizeof`, in the length of an array or in a label of a switch is no node.
use Rattle.std.specs.Prelude.{ℕ, nat_eq, Bool, false, ◌||◌, List, [], ◌∷◌, ◌++◌, Option, Some, None}
use Rattle.c_typed.specs.Trees as tree
use Rattle.c_typed.specs.Trees.{Expression, Expressions, Place, Item, Statement, Statements, Arm, Arms, LastArm, FunctionTree, Program}
use Rattle.c_typed.specs.declared.expression.Object.{Object}
use Rattle.c_typed.specs.declared.expression.Object.TheVariants.{Static, Param, Local, Register}

-- a register that a node names, by its lowest address, and the node's line
pub record Naming : Type 0 where
  pub register : ℕ
  pub line : ℕ

abbrev pub object_registers : Object → ℕ → List Naming
object_registers (Static number) line = []
object_registers (Param number) line = []
object_registers (Local number) line = []
object_registers (Register address) line = record { register = address; line = line } ∷ []

unfoldable mutual
  -- the registers that an expression names, each as often as it does
  pub registers : Expression → List Naming
  registers (tree.Constant value line) = []
  registers (tree.Read place ty line) = place_registers place
  registers (tree.Address place ty line) = place_registers place
  registers (tree.Convert operand ty line) = registers operand
  registers (tree.Cast operand ty line) = registers operand
  registers (tree.Unary op operand ty line) = registers operand
  registers (tree.Binary op left right ty line) = registers left ++ registers right
  registers (tree.Offset op left right size ty line) = registers left ++ registers right
  registers (tree.Difference left right size line) = registers left ++ registers right
  registers (tree.Logical op left right line) = registers left ++ registers right
  registers (tree.Conditional condition chosen otherwise ty line) = registers condition ++ registers chosen ++ registers otherwise
  registers (tree.Comma left right ty line) = registers left ++ registers right
  registers (tree.Assign place value ty line) = place_registers place ++ registers value
  registers (tree.StructAssign place from size line) = place_registers place ++ place_registers from
  registers (tree.Update op place value operation size ty line) = place_registers place ++ registers value
  registers (tree.Step op place operation size ty line) = place_registers place
  registers (tree.Call function arguments ty line) = arguments_registers arguments

  pub place_registers : Place → List Naming
  place_registers (tree.Name object ty line) = object_registers object line
  place_registers (tree.Bit register bit line) = record { register = register; line = line } ∷ []
  place_registers (tree.Member whole member offset ty line) = place_registers whole
  place_registers (tree.Deref pointer ty line) = registers pointer

  pub arguments_registers : Expressions → List Naming
  arguments_registers tree.NoExpression = []
  arguments_registers (tree.AndExpression e es) = registers e ++ arguments_registers es

abbrev pub any_registers : Option Expression → List Naming
any_registers None = []
any_registers (Some e) = registers e

abbrev pub item_registers : Item → List Naming
item_registers (tree.Scalar offset value) = registers value
item_registers (tree.Struct offset from size) = place_registers from
item_registers (tree.Text offset bytes size) = []

abbrev pub items_registers : List Item → List Naming
items_registers [] = []
items_registers (item ∷ items) = item_registers item ++ items_registers items

unfoldable mutual
  pub statement_registers : Statement → List Naming
  statement_registers (tree.Block statements line) = statements_registers statements
  statement_registers (tree.Empty line) = []
  statement_registers (tree.Expr value line) = registers value
  statement_registers (tree.Declare local line) = []
  statement_registers (tree.InitScalar local value line) = registers value
  statement_registers (tree.InitList local items line) = items_registers items
  statement_registers (tree.If arms otherwise line) = arms_registers arms ++ last_registers otherwise
  statement_registers (tree.Loop shape begin condition step body line) = any_registers begin ++ any_registers condition ++ any_registers step ++ statement_registers body
  statement_registers (tree.Switch value cases default statements line) = registers value ++ statements_registers statements
  statement_registers (tree.Break line) = []
  statement_registers (tree.Continue line) = []
  statement_registers (tree.Return value line) = any_registers value

  pub statements_registers : Statements → List Naming
  statements_registers tree.NoStatement = []
  statements_registers (tree.AndStatement s ss) = statement_registers s ++ statements_registers ss

  pub arm_registers : Arm → List Naming
  arm_registers (tree.OneArm condition chosen line) = registers condition ++ statement_registers chosen

  pub arms_registers : Arms → List Naming
  arms_registers tree.NoArm = []
  arms_registers (tree.AndArm arm arms) = arm_registers arm ++ arms_registers arms

  pub last_registers : LastArm → List Naming
  last_registers tree.NoLast = []
  last_registers (tree.Last s) = statement_registers s

-- the registers that functions name; what a static object begins with names none
abbrev pub functions_registers : List FunctionTree → List Naming
functions_registers [] = []
functions_registers (f ∷ fs) = statements_registers f.body ++ functions_registers fs

abbrev pub program_registers : Program → List Naming
program_registers p = functions_registers p.functions

abbrev pub is_named_in : List Naming → ℕ → Bool
is_named_in [] address = false
is_named_in (n ∷ ns) address = nat_eq n.register address || is_named_in ns address

-- the program names the register of this lowest address
abbrev pub names_register : Program → ℕ → Bool
names_register p address = is_named_in (program_registers p) address
