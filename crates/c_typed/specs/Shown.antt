-- The typed trees that the code has, as pure data.
use Rattle.std.specs.Prelude.{ℕ, List, [], ◌∷◌, Option, Some, None, map}
use Rattle.std.specs.Global.{Box}
use Rattle.std.specs.Option.{option_map}
use Rattle.c_typed.specs.Trees as tree
use Rattle.c_typed.specs.Trees.{Expression, Expressions, Place, Item, Statement, Statements, Arm, Arms, LastArm, VariableTree, StaticTree, FunctionTree, MemberTree, StructureTree, Program}
use Rattle.c_typed.specs.declared.expression.TExpr.{TExpr}
use Rattle.c_typed.specs.declared.expression.TPlace.{TPlace}
use Rattle.c_typed.specs.declared.expression.TExpr.TheOpen as Open
use Rattle.c_typed.specs.declared.expression.TExpr.TheFolds.{fold-TExpr, fold-TPlace}
use Rattle.c_typed.specs.declared.program.Function.{Function}
use Rattle.c_typed.specs.declared.program.Static.{Static}
use Rattle.c_typed.specs.declared.program.Variable.{Variable}
use Rattle.c_typed.specs.declared.statement.TArm.{TArm}
use Rattle.c_typed.specs.declared.statement.TItem.{TItem}
use Rattle.c_typed.specs.declared.statement.TItem.TheVariants as items
use Rattle.c_typed.specs.declared.statement.TStmt.{TStmt}
use Rattle.c_typed.specs.declared.statement.TStmt.TheOpen as OpenStmt
use Rattle.c_typed.specs.declared.statement.TStmt.TheFolds.{fold-TStmt, fold-TArm}
use Rattle.c_typed.specs.declared.types.Member.{Member}
use Rattle.c_typed.specs.declared.types.Qualified.{Qualified}
use Rattle.c_typed.specs.declared.types.Structure.{Structure}

abbrev pub arguments_of : List Expression → Expressions
arguments_of [] = tree.NoExpression
arguments_of (e ∷ es) = tree.AndExpression e (arguments_of es)

-- One layer of a tree, with the pure data of each part in the place of that part.
abbrev pub expression_step : Open.TExpr-F Expression Place → Expression
expression_step (Open.Constant value line) = tree.Constant value line
expression_step (Open.Read place ty line) = tree.Read place.value ty line
expression_step (Open.Address place ty line) = tree.Address place.value ty line
expression_step (Open.Convert operand ty line) = tree.Convert operand.value ty line
expression_step (Open.Cast operand ty line) = tree.Cast operand.value ty line
expression_step (Open.Unary op operand ty line) = tree.Unary op operand.value ty line
expression_step (Open.Binary op left right ty line) = tree.Binary op left.value right.value ty line
expression_step (Open.Offset op left right size ty line) = tree.Offset op left.value right.value size ty line
expression_step (Open.Difference left right size line) = tree.Difference left.value right.value size line
expression_step (Open.Logical op left right line) = tree.Logical op left.value right.value line
expression_step (Open.Conditional condition chosen otherwise ty line) = tree.Conditional condition.value chosen.value otherwise.value ty line
expression_step (Open.Comma left right ty line) = tree.Comma left.value right.value ty line
expression_step (Open.Assign place value ty line) = tree.Assign place.value value.value ty line
expression_step (Open.StructAssign place from size line) = tree.StructAssign place.value from.value size line
expression_step (Open.Update op place value operation size ty line) = tree.Update op place.value value.value operation size ty line
expression_step (Open.Step op place operation size ty line) = tree.Step op place.value operation size ty line
expression_step (Open.Call function arguments ty line) = tree.Call function (arguments_of arguments.items) ty line

abbrev pub place_step : Open.TPlace-F Expression Place → Place
place_step (Open.Name object ty line) = tree.Name object ty line
place_step (Open.Bit register bit line) = tree.Bit register bit line
place_step (Open.Member whole member offset ty line) = tree.Member whole.value member offset ty line
place_step (Open.Deref pointer ty line) = tree.Deref pointer.value ty line

-- A whole expression, and a whole place.
unfoldable pub expression_of : TExpr → Expression
expression_of = fold-TExpr Expression Place expression_step place_step

unfoldable pub place_of : TPlace → Place
place_of = fold-TPlace Expression Place expression_step place_step

abbrev pub item_of : TItem → Item
item_of (items.Scalar offset value) = tree.Scalar offset (expression_of value)
item_of (items.Struct offset from size) = tree.Struct offset (place_of from) size
item_of (items.Text offset bytes size) = tree.Text offset bytes.items size

abbrev pub statements_of : List Statement → Statements
statements_of [] = tree.NoStatement
statements_of (s ∷ ss) = tree.AndStatement s (statements_of ss)

abbrev pub arms_of : List Arm → Arms
arms_of [] = tree.NoArm
arms_of (a ∷ as_) = tree.AndArm a (arms_of as_)

abbrev pub last_of : Option (Box Statement) → LastArm
last_of None = tree.NoLast
last_of (Some last) = tree.Last last.value

abbrev pub statement_step : OpenStmt.TStmt-F Statement Arm → Statement
statement_step (OpenStmt.Block statements line) = tree.Block (statements_of statements.items) line
statement_step (OpenStmt.Empty line) = tree.Empty line
statement_step (OpenStmt.Expr value line) = tree.Expr (expression_of value) line
statement_step (OpenStmt.Declare local line) = tree.Declare local line
statement_step (OpenStmt.InitScalar local value line) = tree.InitScalar local (expression_of value) line
statement_step (OpenStmt.InitList local items line) = tree.InitList local (map item_of items.items) line
statement_step (OpenStmt.If arms otherwise line) = tree.If (arms_of arms.items) (last_of otherwise) line
statement_step (OpenStmt.Loop shape begin condition step body line) = tree.Loop shape (option_map expression_of begin) (option_map expression_of condition) (option_map expression_of step) body.value line
statement_step (OpenStmt.Switch value cases default statements line) = tree.Switch (expression_of value) cases.items default (statements_of statements.items) line
statement_step (OpenStmt.Break line) = tree.Break line
statement_step (OpenStmt.Continue line) = tree.Continue line
statement_step (OpenStmt.Return value line) = tree.Return (option_map expression_of value) line

abbrev pub arm_step : OpenStmt.TArm-F Statement Arm → Arm
arm_step arm = tree.OneArm (expression_of arm.condition) arm.then arm.line

-- A whole statement, and a whole arm.
unfoldable pub statement_of : TStmt → Statement
statement_of = fold-TStmt Statement Arm statement_step arm_step

unfoldable pub arm_of : TArm → Arm
arm_of = fold-TArm Statement Arm statement_step arm_step

abbrev pub last_arm_of : Option (Box TStmt) → LastArm
last_arm_of None = tree.NoLast
last_arm_of (Some last) = tree.Last (statement_of last.value)

abbrev pub variable_of : Variable → VariableTree
variable_of v = record { name = v.name.items; ty = v.ty; line = v.line }

abbrev pub static_of : Static → StaticTree
static_of s = record { name = s.name.items; ty = s.ty; initial = s.initial.items; line = s.line }

abbrev pub function_of : Function → FunctionTree
function_of f = record { name = f.name.items; result = f.result; params = map variable_of f.params.items; locals = map variable_of f.locals.items; body = statements_of (map statement_of f.body.items); interrupt = f.interrupt; line = f.line }

abbrev pub size_of : Structure → ℕ
size_of s = s.size

abbrev pub member_of : Member → MemberTree
member_of m = record { ty = m.ty; offset = m.offset }

abbrev pub structure_of : Structure → StructureTree
structure_of s = record { members = map member_of s.members.items; size = s.size }

-- a whole program, from its four tables
abbrev pub program_from : List Qualified → List Structure → List Static → List Function → Program
program_from targets structures statics functions = record { targets = targets; structures = map structure_of structures; sizes = map size_of structures; statics = map static_of statics; functions = map function_of functions }
