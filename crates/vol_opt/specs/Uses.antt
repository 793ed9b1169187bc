-- Which static objects the nodes of a typed program name, and of which they take the address: of an object, of a member of one, or of an
-- array's first element, as an index does. What stands only in a `sizeof`, in the length of an array or in a label of a switch is no node.
use Rattle.std.specs.Prelude.{ℕ, Bool, if◌then◌else◌, List, [], ◌∷◌, ◌++◌, Option, Some, None}
use Rattle.c_typed.specs.Trees as tree
use Rattle.c_typed.specs.Trees.{Expression, Expressions, Place, Item, Statement, Statements, Arm, Arms, LastArm}
use Rattle.c_typed.specs.declared.expression.Object.{Object}
use Rattle.c_typed.specs.declared.expression.Object.TheVariants.{Static, Param, Local, Register}

-- the number of a static object
abbrev pub static_in : Object → List ℕ
static_in (Static number) = number ∷ []
static_in (Param number) = []
static_in (Local number) = []
static_in (Register address) = []

-- The static object that a place is, or is a member of; none where a pointer leads there.
unfoldable pub whole_of : Place → List ℕ
whole_of (tree.Name object ty line) = static_in object
whole_of (tree.Bit register bit line) = []
whole_of (tree.Member whole member offset ty line) = whole_of whole
whole_of (tree.Deref pointer ty line) = []

-- a name, where names are asked for
abbrev pub named_in : Bool → Object → List ℕ
named_in names object = if names then static_in object else []

unfoldable mutual
  -- The static objects whose address an expression takes, and, where names are asked for, those that it names too.
  pub uses : Bool → Expression → List ℕ
  uses names (tree.Constant value line) = []
  uses names (tree.Read place ty line) = place_uses names place
  uses names (tree.Address place ty line) = whole_of place ++ place_uses names place
  uses names (tree.Convert operand ty line) = uses names operand
  uses names (tree.Cast operand ty line) = uses names operand
  uses names (tree.Unary op operand ty line) = uses names operand
  uses names (tree.Binary op left right ty line) = uses names left ++ uses names right
  uses names (tree.Offset op left right size ty line) = uses names left ++ uses names right
  uses names (tree.Difference left right size line) = uses names left ++ uses names right
  uses names (tree.Logical op left right line) = uses names left ++ uses names right
  uses names (tree.Conditional condition chosen otherwise ty line) = uses names condition ++ uses names chosen ++ uses names otherwise
  uses names (tree.Comma left right ty line) = uses names left ++ uses names right
  uses names (tree.Assign place value ty line) = place_uses names place ++ uses names value
  uses names (tree.StructAssign place from size line) = place_uses names place ++ place_uses names from
  uses names (tree.Update op place value operation size ty line) = place_uses names place ++ uses names value
  uses names (tree.Step op place operation size ty line) = place_uses names place
  uses names (tree.Call function arguments ty line) = arguments_uses names arguments

  pub place_uses : Bool → Place → List ℕ
  place_uses names (tree.Name object ty line) = named_in names object
  place_uses names (tree.Bit register bit line) = []
  place_uses names (tree.Member whole member offset ty line) = place_uses names whole
  place_uses names (tree.Deref pointer ty line) = uses names pointer

  pub arguments_uses : Bool → Expressions → List ℕ
  arguments_uses names tree.NoExpression = []
  arguments_uses names (tree.AndExpression e es) = uses names e ++ arguments_uses names es

abbrev pub any_uses : Bool → Option Expression → List ℕ
any_uses names None = []
any_uses names (Some e) = uses names e

abbrev pub item_uses : Bool → Item → List ℕ
item_uses names (tree.Scalar offset value) = uses names value
item_uses names (tree.Struct offset from size) = place_uses names from
item_uses names (tree.Text offset bytes size) = []

abbrev pub items_uses : Bool → List Item → List ℕ
items_uses names [] = []
items_uses names (item ∷ items) = item_uses names item ++ items_uses names items

unfoldable mutual
  pub statement_uses : Bool → Statement → List ℕ
  statement_uses names (tree.Block statements line) = statements_uses names statements
  statement_uses names (tree.Empty line) = []
  statement_uses names (tree.Expr value line) = uses names value
  statement_uses names (tree.Declare local line) = []
  statement_uses names (tree.InitScalar local value line) = uses names value
  statement_uses names (tree.InitList local items line) = items_uses names items
  statement_uses names (tree.If arms otherwise line) = arms_uses names arms ++ last_uses names otherwise
  statement_uses names (tree.Loop shape begin condition step body line) = any_uses names begin ++ any_uses names condition ++ any_uses names step ++ statement_uses names body
  statement_uses names (tree.Switch value cases default statements line) = uses names value ++ statements_uses names statements
  statement_uses names (tree.Break line) = []
  statement_uses names (tree.Continue line) = []
  statement_uses names (tree.Return value line) = any_uses names value

  pub statements_uses : Bool → Statements → List ℕ
  statements_uses names tree.NoStatement = []
  statements_uses names (tree.AndStatement s ss) = statement_uses names s ++ statements_uses names ss

  pub arm_uses : Bool → Arm → List ℕ
  arm_uses names (tree.OneArm condition chosen line) = uses names condition ++ statement_uses names chosen

  pub arms_uses : Bool → Arms → List ℕ
  arms_uses names tree.NoArm = []
  arms_uses names (tree.AndArm arm arms) = arm_uses names arm ++ arms_uses names arms

  pub last_uses : Bool → LastArm → List ℕ
  last_uses names tree.NoLast = []
  last_uses names (tree.Last s) = statement_uses names s
