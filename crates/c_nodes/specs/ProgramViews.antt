-- The initializers, declarations, statements and units that the code has, as pure data.
use Rattle.std.specs.Prelude.{ℕ, List, [], ◌∷◌, Option, Some, None, map}
use Rattle.std.specs.Global.{Box}
use Rattle.c_nodes.specs.Words.{quoted}
use Rattle.c_nodes.specs.Trees.{Tree}
use Rattle.c_nodes.specs.Views.{expr_of, cond_of, assign_of, specs_of, declarator_of}
use Rattle.c_nodes.specs.Programs as tree
use Rattle.c_nodes.specs.Programs.{ConditionTree, HeadTree, LabelTree, InitTree, MoreInits, NoInit, AndInit, BegunTree, DeclaredTrees, DeclarationTree, StatementTree, BlockTree, Statements, NoStatement, AndStatement, ArmTree, Arms, NoElse, Else, ElseIf, Items, NoItem, AndLabel, AndInner, ItemTree}
use Rattle.c_nodes.specs.declared.expression.Expr.{Expr}
use Rattle.c_nodes.specs.declared.statement.Unit.{Unit}
use Rattle.c_nodes.specs.declared.statement.Item.{Item}
use Rattle.c_nodes.specs.declared.statement.Declaration.{Declaration}
use Rattle.c_nodes.specs.declared.statement.Declared.{Declared}
use Rattle.c_nodes.specs.declared.statement.NextInitDeclarator.{NextInitDeclarator}
use Rattle.c_nodes.specs.declared.statement.InitDeclarator.{InitDeclarator}
use Rattle.c_nodes.specs.declared.statement.EqualsInit.{EqualsInit}
use Rattle.c_nodes.specs.declared.statement.Init.{Init}
use Rattle.c_nodes.specs.declared.statement.NextInit.{NextInit}
use Rattle.c_nodes.specs.declared.statement.Condition.{Condition}
use Rattle.c_nodes.specs.declared.statement.ForHead.{ForHead}
use Rattle.c_nodes.specs.declared.statement.Label.{Label}
use Rattle.c_nodes.specs.declared.statement.Statement.{Statement}
use Rattle.c_nodes.specs.declared.statement.SwitchItem.{SwitchItem}
use Rattle.c_nodes.specs.declared.statement.Arm.{Arm}
use Rattle.c_nodes.specs.declared.statement.Block.{Block}
use Rattle.c_nodes.specs.declared.statement.ElseArm.{ElseArm}
use Rattle.c_nodes.specs.declared.statement.IfChain.{IfChain}
use Rattle.c_nodes.specs.declared.statement.Otherwise.{Otherwise}
use Rattle.c_nodes.specs.declared.statement.Item.TheVariants as items
use Rattle.c_nodes.specs.declared.statement.Label.TheVariants as labels
use Rattle.c_nodes.specs.declared.statement.Init.TheOpen as OpenInit
use Rattle.c_nodes.specs.declared.statement.Init.TheFolds.{fold-Init, fold-NextInit}
use Rattle.c_nodes.specs.declared.statement.Statement.TheOpen as Open
use Rattle.c_nodes.specs.declared.statement.Statement.TheFolds.{fold-Statement, fold-SwitchItem, fold-Arm, fold-Block, fold-ElseArm, fold-IfChain, fold-Otherwise}

-- an expression that may be left out
abbrev pub any_of : Option Expr → Option Tree
any_of None = None
any_of (Some e) = Some (expr_of e)

abbrev pub condition_of : Condition → ConditionTree
condition_of c = record { opening = c.opening; expr = expr_of c.expr; closing = c.closing }

abbrev pub head_of : ForHead → HeadTree
head_of h = record { opening = h.opening; begin = any_of h.begin; first = h.first_semicolon; condition = any_of h.condition; second = h.second_semicolon; step = any_of h.step; closing = h.closing }

abbrev pub label_of : Label → LabelTree
label_of (labels.Case keyword value colon) = tree.Case keyword (cond_of value) colon
label_of (labels.Default keyword colon) = tree.Default keyword colon

-- Initializers.
abbrev pub more_inits : List (ℕ × InitTree) → MoreInits
more_inits [] = NoInit
more_inits (i ∷ is) = AndInit i.0 i.1 (more_inits is)

abbrev pub init_step : OpenInit.Init-F InitTree (ℕ × InitTree) → InitTree
init_step (OpenInit.Assign assign) = tree.Value (assign_of assign)
init_step (OpenInit.Text text) = tree.Quoted (quoted text)
init_step (OpenInit.List opening first others last_comma closing) = tree.Listed opening first.value (more_inits others.items) last_comma closing

abbrev pub next_init_step : OpenInit.NextInit-F InitTree (ℕ × InitTree) → ℕ × InitTree
next_init_step n = (n.comma, n.init)

unfoldable pub init_of : Init → InitTree
init_of = fold-Init InitTree (ℕ × InitTree) init_step next_init_step

unfoldable pub next_init_of : NextInit → ℕ × InitTree
next_init_of = fold-NextInit InitTree (ℕ × InitTree) init_step next_init_step

-- Declarations.
abbrev pub equals_of : Option EqualsInit → Option (ℕ × InitTree)
equals_of None = None
equals_of (Some e) = Some (e.equals, init_of e.init)

abbrev pub begun_of : InitDeclarator → BegunTree
begun_of d = record { declarator = declarator_of d.declarator; init = equals_of d.init }

abbrev pub next_begun_of : NextInitDeclarator → ℕ × BegunTree
next_begun_of n = (n.comma, begun_of n.declarator)

abbrev pub declared_of : Option Declared → Option DeclaredTrees
declared_of None = None
declared_of (Some d) = Some (begun_of d.first, map next_begun_of d.others.items)

abbrev pub declaration_of : Declaration → DeclarationTree
declaration_of d = record { specs = specs_of d.specs; declared = declared_of d.declared; semicolon = d.semicolon }

-- Statements.
abbrev pub statements_of : List StatementTree → Statements
statements_of [] = NoStatement
statements_of (s ∷ ss) = AndStatement s (statements_of ss)

-- the arms behind the first, and `else`
abbrev pub arms_of : List (ℕ × ArmTree) → Option (ℕ × StatementTree) → Arms
arms_of [] None = NoElse
arms_of [] (Some e) = Else e.0 e.1
arms_of (a ∷ as_) last = ElseIf a.0 a.1 (arms_of as_ last)

abbrev pub last_of : Option (Box (ℕ × StatementTree)) → Option (ℕ × StatementTree)
last_of None = None
last_of (Some e) = Some e.value

-- what stands in the body of a `switch`
pub data InnerTree : Type 0 where
  LabelInner : LabelTree → InnerTree
  StatementInner : StatementTree → InnerTree

abbrev pub with_inner : InnerTree → Items → Items
with_inner (LabelInner l) is = AndLabel l is
with_inner (StatementInner s) is = AndInner s is

abbrev pub items_of : List InnerTree → Items
items_of [] = NoItem
items_of (i ∷ is) = with_inner i (items_of is)

-- One layer of a statement, with the pure data of each part in the place of that part.
abbrev pub LayerStatement : Type 0
LayerStatement = Open.Statement-F StatementTree InnerTree ArmTree BlockTree (ℕ × ArmTree) StatementTree (ℕ × StatementTree)

abbrev pub LayerSwitchItem : Type 0
LayerSwitchItem = Open.SwitchItem-F StatementTree InnerTree ArmTree BlockTree (ℕ × ArmTree) StatementTree (ℕ × StatementTree)

abbrev pub LayerArm : Type 0
LayerArm = Open.Arm-F StatementTree InnerTree ArmTree BlockTree (ℕ × ArmTree) StatementTree (ℕ × StatementTree)

abbrev pub LayerBlock : Type 0
LayerBlock = Open.Block-F StatementTree InnerTree ArmTree BlockTree (ℕ × ArmTree) StatementTree (ℕ × StatementTree)

abbrev pub LayerElseArm : Type 0
LayerElseArm = Open.ElseArm-F StatementTree InnerTree ArmTree BlockTree (ℕ × ArmTree) StatementTree (ℕ × StatementTree)

abbrev pub LayerIfChain : Type 0
LayerIfChain = Open.IfChain-F StatementTree InnerTree ArmTree BlockTree (ℕ × ArmTree) StatementTree (ℕ × StatementTree)

abbrev pub LayerOtherwise : Type 0
LayerOtherwise = Open.Otherwise-F StatementTree InnerTree ArmTree BlockTree (ℕ × ArmTree) StatementTree (ℕ × StatementTree)

abbrev pub statement_step : LayerStatement → StatementTree
statement_step (Open.Block block) = tree.Braced block
statement_step (Open.Expr expr semicolon) = tree.Plain (any_of expr) semicolon
statement_step (Open.If chain) = chain
statement_step (Open.While keyword condition body) = tree.While keyword (condition_of condition) body.value
statement_step (Open.Do keyword body while_keyword condition semicolon) = tree.Do keyword body.value while_keyword (condition_of condition) semicolon
statement_step (Open.For keyword head body) = tree.For keyword (head_of head.value) body.value
statement_step (Open.Switch keyword value opening items closing) = tree.Switch keyword (condition_of value) opening (items_of items.items) closing
statement_step (Open.Break keyword semicolon) = tree.Break keyword semicolon
statement_step (Open.Continue keyword semicolon) = tree.Continue keyword semicolon
statement_step (Open.Return keyword value semicolon) = tree.Return keyword (any_of value) semicolon

abbrev pub switch_item_step : LayerSwitchItem → InnerTree
switch_item_step (Open.Label label) = LabelInner (label_of label)
switch_item_step (Open.Statement statement) = StatementInner statement

abbrev pub arm_step : LayerArm → ArmTree
arm_step a = tree.Arm a.keyword (condition_of a.condition) a.then

abbrev pub block_step : LayerBlock → BlockTree
block_step b = tree.Block b.opening (map declaration_of b.declarations.items) (statements_of b.statements.items) b.closing

abbrev pub else_arm_step : LayerElseArm → ℕ × ArmTree
else_arm_step e = (e.else_keyword, e.arm)

abbrev pub if_chain_step : LayerIfChain → StatementTree
if_chain_step c = tree.Chain c.first.value (arms_of c.others.items (last_of c.last))

abbrev pub otherwise_step : LayerOtherwise → ℕ × StatementTree
otherwise_step o = (o.keyword, o.statement)

unfoldable pub statement_of : Statement → StatementTree
statement_of = fold-Statement StatementTree InnerTree ArmTree BlockTree (ℕ × ArmTree) StatementTree (ℕ × StatementTree) statement_step switch_item_step arm_step block_step else_arm_step if_chain_step otherwise_step

unfoldable pub switch_item_of : SwitchItem → InnerTree
switch_item_of = fold-SwitchItem StatementTree InnerTree ArmTree BlockTree (ℕ × ArmTree) StatementTree (ℕ × StatementTree) statement_step switch_item_step arm_step block_step else_arm_step if_chain_step otherwise_step

unfoldable pub arm_of : Arm → ArmTree
arm_of = fold-Arm StatementTree InnerTree ArmTree BlockTree (ℕ × ArmTree) StatementTree (ℕ × StatementTree) statement_step switch_item_step arm_step block_step else_arm_step if_chain_step otherwise_step

unfoldable pub block_of : Block → BlockTree
block_of = fold-Block StatementTree InnerTree ArmTree BlockTree (ℕ × ArmTree) StatementTree (ℕ × StatementTree) statement_step switch_item_step arm_step block_step else_arm_step if_chain_step otherwise_step

unfoldable pub else_arm_of : ElseArm → ℕ × ArmTree
else_arm_of = fold-ElseArm StatementTree InnerTree ArmTree BlockTree (ℕ × ArmTree) StatementTree (ℕ × StatementTree) statement_step switch_item_step arm_step block_step else_arm_step if_chain_step otherwise_step

unfoldable pub if_chain_of : IfChain → StatementTree
if_chain_of = fold-IfChain StatementTree InnerTree ArmTree BlockTree (ℕ × ArmTree) StatementTree (ℕ × StatementTree) statement_step switch_item_step arm_step block_step else_arm_step if_chain_step otherwise_step

unfoldable pub otherwise_of : Otherwise → ℕ × StatementTree
otherwise_of = fold-Otherwise StatementTree InnerTree ArmTree BlockTree (ℕ × ArmTree) StatementTree (ℕ × StatementTree) statement_step switch_item_step arm_step block_step else_arm_step if_chain_step otherwise_step

abbrev pub otherwise_in : Option (Box Otherwise) → Option (ℕ × StatementTree)
otherwise_in None = None
otherwise_in (Some e) = Some (otherwise_of e.value)

-- Units.
abbrev pub item_of : Item → ItemTree
item_of (items.Function f) = tree.Function (specs_of f.specs) (declarator_of f.declarator) (block_of f.body)
item_of (items.Declaration d) = tree.Declaration (declaration_of d)

abbrev pub unit_of : Unit → List ItemTree
unit_of u = map item_of u.items.items
