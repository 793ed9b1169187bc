-- The nodes of a tree of the code are those of it as pure data.
use Rattle.std.proofs.Common.{◌≡◌, ◌≤◌, ℕ, ◌+◌, length, List, [], ◌∷◌, Option, Some, None, map, refl, sym, ap, subst, ◌∙◌, arith}
use Rattle.std.specs.Option.{option_map}
use Rattle.c_typed.specs.Nodes as counted
use Rattle.c_typed.specs.Nodes.{total, expression_nodes, place_nodes, any_nodes, statement_nodes, arm_nodes, program_nodes}
use Rattle.c_typed.specs.TreeNodes as pure
use Rattle.c_typed.specs.TreeNodes.{nodes_in, nodes_of_all, nodes_at, nodes_in_any, items_nodes, nodes_of_body, arms_nodes, functions_nodes, nodes_of}
use Rattle.c_typed.specs.Trees.{Expression, Place, Statement, Arm, FunctionTree, Program}
use Rattle.c_typed.specs.Views as views
use Rattle.c_typed.specs.Views.{expression_of, place_of, arguments_of, item_of, statement_of, arm_of, statements_of, arms_of, function_of, program_of}
use Rattle.c_typed.specs.declared.expression.TExpr.{TExpr}
use Rattle.c_typed.specs.declared.expression.TPlace.{TPlace}
use Rattle.c_typed.specs.declared.expression.TExpr.TheOpen as Open
use Rattle.c_typed.specs.declared.expression.TExpr.TheFolds.{map-TExpr, map-TPlace, ind-TExpr, ind-TPlace, fold-roll-TExpr, fold-roll-TPlace}
use Rattle.c_typed.specs.declared.program.Function.{Function}
use Rattle.c_typed.specs.declared.program.Typed.{Typed}
use Rattle.c_typed.specs.declared.statement.TArm.{TArm}
use Rattle.c_typed.specs.declared.statement.TItem.{TItem}
use Rattle.c_typed.specs.declared.statement.TItem.TheVariants as items
use Rattle.c_typed.specs.declared.statement.TStmt.{TStmt}
use Rattle.c_typed.specs.declared.statement.TStmt.TheOpen as OpenStmt
use Rattle.c_typed.specs.declared.statement.TStmt.TheFolds.{map-TStmt, map-TArm, ind-TStmt, fold-roll-TStmt, fold-roll-TArm}

-- ---- expressions and places
abbrev IsSame : TExpr → Type 0
IsSame e = nodes_in (expression_of e) ≡ expression_nodes e

abbrev IsSamePlace : TPlace → Type 0
IsSamePlace e = nodes_at (place_of e) ≡ place_nodes e

abbrev Known : Type 0
Known = (e : TExpr) × IsSame e

abbrev KnownPlace : Type 0
KnownPlace = (e : TPlace) × IsSamePlace e

first : Known → TExpr
first e = e.0

all_same : (es : List Known) → nodes_of_all (arguments_of (map expression_of (map (λ e. e.0) es))) ≡ total (map expression_nodes (map (λ e. e.0) es))
unfolding nodes_in
all_same [] = refl
all_same (e ∷ es) = let h = e.1 in let i = all_same es in omega arith

abbrev Agrees : Open.TExpr-F TExpr TPlace → Type 0
Agrees x = nodes_in (views.expression_step (map-TExpr TExpr TPlace Expression Place expression_of place_of x)) ≡ counted.expression_step (map-TExpr TExpr TPlace ℕ ℕ expression_nodes place_nodes x)

abbrev AgreesPlace : Open.TPlace-F TExpr TPlace → Type 0
AgreesPlace x = nodes_at (views.place_step (map-TPlace TExpr TPlace Expression Place expression_of place_of x)) ≡ counted.place_step (map-TPlace TExpr TPlace ℕ ℕ expression_nodes place_nodes x)

layer : (y : Open.TExpr-F Known KnownPlace) → Agrees (map-TExpr Known KnownPlace TExpr TPlace (λ e. e.0) (λ e. e.0) y)
unfolding nodes_in
layer (Open.Constant value line) = refl
layer (Open.Read place ty line) = ap (λ n. 1 + n) place.value.1
layer (Open.Address place ty line) = ap (λ n. 1 + n) place.value.1
layer (Open.Convert operand ty line) = ap (λ n. 1 + n) operand.value.1
layer (Open.Cast operand ty line) = ap (λ n. 1 + n) operand.value.1
layer (Open.Unary op operand ty line) = ap (λ n. 1 + n) operand.value.1
layer (Open.Binary op left right ty line) = let l = left.value.1 in let r = right.value.1 in omega arith
layer (Open.Offset op left right size ty line) = let l = left.value.1 in let r = right.value.1 in omega arith
layer (Open.Difference left right size line) = let l = left.value.1 in let r = right.value.1 in omega arith
layer (Open.Logical op left right line) = let l = left.value.1 in let r = right.value.1 in omega arith
layer (Open.Conditional condition chosen otherwise ty line) = let c = condition.value.1 in let l = chosen.value.1 in let r = otherwise.value.1 in omega arith
layer (Open.Comma left right ty line) = let l = left.value.1 in let r = right.value.1 in omega arith
layer (Open.Assign place value ty line) = let l = place.value.1 in let r = value.value.1 in omega arith
layer (Open.StructAssign place from size line) = let l = place.value.1 in let r = from.value.1 in omega arith
layer (Open.Update op place value operation size ty line) = let l = place.value.1 in let r = value.value.1 in omega arith
layer (Open.Step op place operation size ty line) = ap (λ n. 1 + n) place.value.1
layer (Open.Call function arguments ty line) = ap (λ n. 1 + n) (all_same arguments.items)

place_layer : (y : Open.TPlace-F Known KnownPlace) → AgreesPlace (map-TPlace Known KnownPlace TExpr TPlace (λ e. e.0) (λ e. e.0) y)
unfolding nodes_in
place_layer (Open.Name object ty line) = refl
place_layer (Open.Bit register number line) = refl
place_layer (Open.Member whole member offset ty line) = ap (λ n. 1 + n) whole.value.1
place_layer (Open.Deref pointer ty line) = ap (λ n. 1 + n) pointer.value.1

pub expression_counts : (e : TExpr) → nodes_in (expression_of e) ≡ expression_nodes e
unfolding expression_of place_of expression_nodes place_nodes
expression_counts = ind-TExpr IsSame IsSamePlace
    (λ x y is. ap nodes_in (fold-roll-TExpr Expression Place views.expression_step views.place_step x) ∙ subst Agrees is (layer y) ∙ sym (fold-roll-TExpr ℕ ℕ counted.expression_step counted.place_step x))
    (λ x y is. ap nodes_at (fold-roll-TPlace Expression Place views.expression_step views.place_step x) ∙ subst AgreesPlace is (place_layer y) ∙ sym (fold-roll-TPlace ℕ ℕ counted.expression_step counted.place_step x))

pub place_counts : (e : TPlace) → nodes_at (place_of e) ≡ place_nodes e
unfolding expression_of place_of expression_nodes place_nodes
place_counts = ind-TPlace IsSame IsSamePlace
    (λ x y is. ap nodes_in (fold-roll-TExpr Expression Place views.expression_step views.place_step x) ∙ subst Agrees is (layer y) ∙ sym (fold-roll-TExpr ℕ ℕ counted.expression_step counted.place_step x))
    (λ x y is. ap nodes_at (fold-roll-TPlace Expression Place views.expression_step views.place_step x) ∙ subst AgreesPlace is (place_layer y) ∙ sym (fold-roll-TPlace ℕ ℕ counted.expression_step counted.place_step x))

-- ---- statements
any_counts : (o : Option TExpr) → nodes_in_any (option_map expression_of o) ≡ any_nodes o
any_counts None = refl
any_counts (Some e) = expression_counts e

item_counts : (i : TItem) → pure.item_nodes (item_of i) ≡ counted.item_nodes i
item_counts (items.Scalar offset value) = expression_counts value
item_counts (items.Struct offset from size) = place_counts from
item_counts (items.Text offset bytes size) = refl

items_count : (is : List TItem) → items_nodes (map item_of is) ≡ total (map counted.item_nodes is)
items_count [] = refl
items_count (i ∷ is) = let h = item_counts i in let d = items_count is in omega arith

abbrev IsSameStatement : TStmt → Type 0
IsSameStatement t = pure.statement_nodes (statement_of t) ≡ statement_nodes t

abbrev IsSameArm : TArm → Type 0
IsSameArm a = pure.arm_nodes (arm_of a) ≡ arm_nodes a

abbrev KnownStatement : Type 0
KnownStatement = (t : TStmt) × IsSameStatement t

abbrev KnownArm : Type 0
KnownArm = (a : TArm) × IsSameArm a

all_statements : (ts : List KnownStatement) → nodes_of_body (statements_of (map statement_of (map (λ t. t.0) ts))) ≡ total (map statement_nodes (map (λ t. t.0) ts))
unfolding pure.statement_nodes
all_statements [] = refl
all_statements (t ∷ ts) = let h = t.1 in let i = all_statements ts in omega arith

all_arms : (as_ : List KnownArm) → arms_nodes (arms_of (map arm_of (map (λ t. t.0) as_))) ≡ total (map arm_nodes (map (λ t. t.0) as_))
unfolding pure.statement_nodes
all_arms [] = refl
all_arms (a ∷ as_) = let h = a.1 in let i = all_arms as_ in omega arith

abbrev AgreesStatement : OpenStmt.TStmt-F TStmt TArm → Type 0
AgreesStatement x = pure.statement_nodes (views.statement_step (map-TStmt TStmt TArm Statement Arm statement_of arm_of x)) ≡ counted.statement_step (map-TStmt TStmt TArm ℕ ℕ statement_nodes arm_nodes x)

abbrev AgreesArm : OpenStmt.TArm-F TStmt TArm → Type 0
AgreesArm x = pure.arm_nodes (views.arm_step (map-TArm TStmt TArm Statement Arm statement_of arm_of x)) ≡ counted.arm_step (map-TArm TStmt TArm ℕ ℕ statement_nodes arm_nodes x)

statement_layer : (y : OpenStmt.TStmt-F KnownStatement KnownArm) → AgreesStatement (map-TStmt KnownStatement KnownArm TStmt TArm (λ e. e.0) (λ e. e.0) y)
unfolding pure.statement_nodes
statement_layer (OpenStmt.Block statements line) = ap (λ n. 1 + n) (all_statements statements.items)
statement_layer (OpenStmt.Empty line) = refl
statement_layer (OpenStmt.Expr value line) = ap (λ n. 1 + n) (expression_counts value)
statement_layer (OpenStmt.Declare local line) = refl
statement_layer (OpenStmt.InitScalar local value line) = ap (λ n. 1 + n) (expression_counts value)
statement_layer (OpenStmt.InitList local list line) = ap (λ n. 1 + n) (items_count list.items)
statement_layer (OpenStmt.If arms None line) = let h = all_arms arms.items in omega arith
statement_layer (OpenStmt.If arms (Some last) line) = let h = all_arms arms.items in let d = last.value.1 in omega arith
statement_layer (OpenStmt.Loop shape begin condition step body line) =
    let a = any_counts begin in let b = any_counts condition in let c = any_counts step in let d = body.value.1 in omega arith
statement_layer (OpenStmt.Switch value cases default statements line) = let h = expression_counts value in let d = all_statements statements.items in omega arith
statement_layer (OpenStmt.Break line) = refl
statement_layer (OpenStmt.Continue line) = refl
statement_layer (OpenStmt.Return value line) = ap (λ n. 1 + n) (any_counts value)

arm_layer : (y : OpenStmt.TArm-F KnownStatement KnownArm) → AgreesArm (map-TArm KnownStatement KnownArm TStmt TArm (λ e. e.0) (λ e. e.0) y)
unfolding pure.statement_nodes
arm_layer y = let h = expression_counts y.condition in let d = y.then.1 in omega arith

pub statement_counts : (t : TStmt) → pure.statement_nodes (statement_of t) ≡ statement_nodes t
unfolding statement_of arm_of statement_nodes arm_nodes
statement_counts = ind-TStmt IsSameStatement IsSameArm
    (λ x y is. ap pure.statement_nodes (fold-roll-TStmt Statement Arm views.statement_step views.arm_step x) ∙ subst AgreesStatement is (statement_layer y) ∙ sym (fold-roll-TStmt ℕ ℕ counted.statement_step counted.arm_step x))
    (λ x y is. ap pure.arm_nodes (fold-roll-TArm Statement Arm views.statement_step views.arm_step x) ∙ subst AgreesArm is (arm_layer y) ∙ sym (fold-roll-TArm ℕ ℕ counted.statement_step counted.arm_step x))

-- ---- programs
body_counts : (ts : List TStmt) → nodes_of_body (statements_of (map statement_of ts)) ≡ total (map statement_nodes ts)
unfolding pure.statement_nodes
body_counts [] = refl
body_counts (t ∷ ts) = let h = statement_counts t in let i = body_counts ts in omega arith

pub functions_count : (fs : List Function) → functions_nodes (map function_of fs) ≡ program_nodes fs
functions_count [] = refl
functions_count (f ∷ fs) = let h = body_counts f.body.items in let i = functions_count fs in omega arith

pub program_counts : (p : Typed) → nodes_of (program_of p) ≡ program_nodes p.functions.items
program_counts p = functions_count p.functions.items

-- each function is a node
functions_few : (fs : List FunctionTree) → length fs ≤ functions_nodes fs
functions_few [] = omega arith
functions_few (f ∷ fs) = let i = functions_few fs in omega arith

pub few_functions : (p : Program) → length p.functions ≤ nodes_of p
few_functions p = functions_few p.functions

pub few_nodes : (p : Typed) → nodes_of (program_of p) ≤ 268435456
few_nodes p = let c = program_counts p in let s = p.small in omega arith
