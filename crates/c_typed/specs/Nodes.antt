-- How many nodes a typed tree has: each expression, place and statement, each arm of an `if`, each case label,
-- and each function.
use Rattle.std.specs.Prelude.{ℕ, ◌+◌, ◌-◌, ◌^◌, List, [], ◌∷◌, Option, Some, None, map, min, length}
use Rattle.std.specs.Global.{Box}
use Rattle.c_typed.specs.declared.expression.TExpr.{TExpr}
use Rattle.c_typed.specs.declared.expression.TPlace.{TPlace}
use Rattle.c_typed.specs.declared.expression.TExpr.TheOpen as Open
use Rattle.c_typed.specs.declared.expression.TExpr.TheFolds.{fold-TExpr, fold-TPlace}
use Rattle.c_typed.specs.declared.statement.TItem.{TItem}
use Rattle.c_typed.specs.declared.statement.TItem.TheVariants as items
use Rattle.c_typed.specs.declared.statement.TStmt.{TStmt}
use Rattle.c_typed.specs.declared.statement.TArm.{TArm}
use Rattle.c_typed.specs.declared.statement.TStmt.TheOpen as OpenStmt
use Rattle.c_typed.specs.declared.statement.TStmt.TheFolds.{fold-TStmt, fold-TArm}
use Rattle.c_typed.specs.declared.program.Function.{Function}
use Rattle.c_typed.specs.declared.program.Static.{Static}

-- a count as far as a number of 64 bits holds it
abbrev pub capped : ℕ → ℕ
capped n = min n (2 ^ 64 - 1)

abbrev pub total : List ℕ → ℕ
total [] = 0
total (n ∷ ns) = n + total ns

-- One layer of a tree, with the count of each part in the place of that part.
abbrev pub expression_step : Open.TExpr-F ℕ ℕ → ℕ
expression_step (Open.Constant x1 x2) = 1
expression_step (Open.Read x1 x2 x3) = 1 + x1.value
expression_step (Open.Address x1 x2 x3) = 1 + x1.value
expression_step (Open.Convert x1 x2 x3) = 1 + x1.value
expression_step (Open.Cast x1 x2 x3) = 1 + x1.value
expression_step (Open.Unary x1 x2 x3 x4) = 1 + x2.value
expression_step (Open.Binary x1 x2 x3 x4 x5) = 1 + (x2.value + x3.value)
expression_step (Open.Offset x1 x2 x3 x4 x5 x6) = 1 + (x2.value + x3.value)
expression_step (Open.Difference x1 x2 x3 x4) = 1 + (x1.value + x2.value)
expression_step (Open.Logical x1 x2 x3 x4) = 1 + (x2.value + x3.value)
expression_step (Open.Conditional x1 x2 x3 x4 x5) = 1 + (x1.value + (x2.value + x3.value))
expression_step (Open.Comma x1 x2 x3 x4) = 1 + (x1.value + x2.value)
expression_step (Open.Assign x1 x2 x3 x4) = 1 + (x1.value + x2.value)
expression_step (Open.StructAssign x1 x2 x3 x4) = 1 + (x1.value + x2.value)
expression_step (Open.Update x1 x2 x3 x4 x5 x6 x7) = 1 + (x2.value + x3.value)
expression_step (Open.Step x1 x2 x3 x4 x5 x6) = 1 + x2.value
expression_step (Open.Call x1 x2 x3 x4) = 1 + total x2.items

abbrev pub place_step : Open.TPlace-F ℕ ℕ → ℕ
place_step (Open.Name x1 x2 x3) = 1
place_step (Open.Bit x1 x2 x3) = 1
place_step (Open.Member x1 x2 x3 x4 x5) = 1 + x1.value
place_step (Open.Deref x1 x2 x3) = 1 + x1.value

-- The nodes of a whole expression, and of a place.
unfoldable pub expression_nodes : TExpr → ℕ
expression_nodes = fold-TExpr ℕ ℕ expression_step place_step

unfoldable pub place_nodes : TPlace → ℕ
place_nodes = fold-TPlace ℕ ℕ expression_step place_step

abbrev pub any_nodes : Option TExpr → ℕ
any_nodes None = 0
any_nodes (Some e) = expression_nodes e

abbrev pub item_nodes : TItem → ℕ
item_nodes (items.Scalar offset value) = expression_nodes value
item_nodes (items.Struct offset from size) = place_nodes from
item_nodes (items.Text offset bytes size) = 0

abbrev pub last_of : Option (Box ℕ) → ℕ
last_of None = 0
last_of (Some last) = last.value

abbrev pub statement_step : OpenStmt.TStmt-F ℕ ℕ → ℕ
statement_step (OpenStmt.Block x1 x2) = 1 + total x1.items
statement_step (OpenStmt.Empty x1) = 1
statement_step (OpenStmt.Expr x1 x2) = 1 + expression_nodes x1
statement_step (OpenStmt.Declare x1 x2) = 0
statement_step (OpenStmt.InitScalar x1 x2 x3) = 1 + expression_nodes x2
statement_step (OpenStmt.InitList x1 x2 x3) = 1 + total (map item_nodes x2.items)
statement_step (OpenStmt.If x1 x2 x3) = total x1.items + last_of x2
statement_step (OpenStmt.Loop x1 x2 x3 x4 x5 x6) = 1 + (any_nodes x2 + (any_nodes x3 + (any_nodes x4 + x5.value)))
statement_step (OpenStmt.Switch x1 x2 x3 x4 x5) = 1 + (expression_nodes x1 + (length x2.items + total x4.items))
statement_step (OpenStmt.Break x1) = 1
statement_step (OpenStmt.Continue x1) = 1
statement_step (OpenStmt.Return x1 x2) = 1 + any_nodes x1

abbrev pub arm_step : OpenStmt.TArm-F ℕ ℕ → ℕ
arm_step a = 1 + (expression_nodes a.condition + a.then)

-- The nodes of a whole statement, and of an arm.
unfoldable pub statement_nodes : TStmt → ℕ
statement_nodes = fold-TStmt ℕ ℕ statement_step arm_step

unfoldable pub arm_nodes : TArm → ℕ
arm_nodes = fold-TArm ℕ ℕ statement_step arm_step

abbrev pub last_nodes : Option (Box TStmt) → ℕ
last_nodes None = 0
last_nodes (Some last) = statement_nodes last.value

abbrev pub function_nodes : Function → ℕ
function_nodes f = 1 + total (map statement_nodes f.body.items)

-- the nodes of a program with these functions
abbrev pub program_nodes : List Function → ℕ
program_nodes functions = total (map function_nodes functions)

-- the parameters and locals of a function
abbrev pub variables : Function → ℕ
variables f = length f.params.items + length f.locals.items

-- Nodes, static objects, parameters and locals together.
abbrev pub program_size : List Static → List Function → ℕ
program_size statics functions = program_nodes functions + length statics + total (map variables functions)
