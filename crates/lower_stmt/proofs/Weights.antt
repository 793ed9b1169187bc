-- How large a statement is: a measure of the recursion that makes its code.
use Rattle.std.proofs.Common.{◌≡◌, ℕ, zero, suc, ◌+◌, ◌<◌, ◌≤◌, List, [], ◌∷◌, length, get_or, map, ap, arith}
use Rattle.std.specs.Global.{Box}
use Rattle.std.specs.Prelude.{Option, Some, None}
use Rattle.c_typed.proofs.Shapes.{show_statement_block, show_statement_if_alone, show_statement_if_else, show_statement_loop, show_statement_switch, show_arm}
use Rattle.c_typed.specs.Trees as tree
use Rattle.c_typed.specs.Trees.{Statement, Statements, Arm, Arms, LastArm}
use Rattle.c_typed.specs.Views.{statement_of, statements_of, arm_of, arms_of, last_arm_of}
use Rattle.c_typed.specs.declared.statement.TArm.{TArm}
use Rattle.c_typed.specs.declared.statement.TStmt.TheViews.{out-TArm}
use Rattle.c_typed.specs.declared.statement.TStmt.TheVariants as TStmt
use Rattle.c_typed.specs.declared.statement.TStmt.{TStmt}

unfoldable mutual
  pub weight : Statement → ℕ
  weight (tree.Block body line) = 1 + body_weight body
  weight (tree.Empty line) = 1
  weight (tree.Expr e line) = 1
  weight (tree.Declare local line) = 1
  weight (tree.InitScalar local value line) = 1
  weight (tree.InitList local items line) = 1
  weight (tree.If arms last line) = 1 + (arms_weight arms + last_weight last)
  weight (tree.Loop shape begin condition step body line) = 1 + weight body
  weight (tree.Switch value cases default body line) = 1 + body_weight body
  weight (tree.Break line) = 1
  weight (tree.Continue line) = 1
  weight (tree.Return value line) = 1

  pub body_weight : Statements → ℕ
  body_weight tree.NoStatement = 0
  body_weight (tree.AndStatement s ss) = weight s + body_weight ss

  pub arm_weight : Arm → ℕ
  arm_weight (tree.OneArm condition body line) = 1 + weight body

  pub arms_weight : Arms → ℕ
  arms_weight tree.NoArm = 0
  arms_weight (tree.AndArm arm arms) = arm_weight arm + arms_weight arms

  pub last_weight : LastArm → ℕ
  last_weight tree.NoLast = 0
  last_weight (tree.Last s) = weight s

abbrev pub weight_of : TStmt → ℕ
weight_of s = weight (statement_of s)

abbrev pub list_weight : List TStmt → ℕ
list_weight ss = body_weight (statements_of (map statement_of ss))

abbrev pub arms_weight_of : List TArm → ℕ
arms_weight_of arms = arms_weight (arms_of (map arm_of arms))

block_weight : (statements : _) (line : _) → weight_of (TStmt.Block statements line) ≡ 1 + list_weight statements.items
unfolding weight
block_weight statements line = ap weight (show_statement_block statements line)

if_weight : (arms : _) (otherwise : _) (line : _) → weight_of (TStmt.If arms otherwise line) ≡ 1 + (arms_weight_of arms.items + last_weight (last_arm_of otherwise))
unfolding weight
if_weight arms None line = ap weight (show_statement_if_alone arms line)
if_weight arms (Some last) line = ap weight (show_statement_if_else arms last line)

loop_weight : (shape : _) (begin : _) (condition : _) (step : _) (body : _) (line : _) → weight_of (TStmt.Loop shape begin condition step body line) ≡ 1 + weight_of body.value
unfolding weight
loop_weight shape begin condition step body line = ap weight (show_statement_loop shape begin condition step body line)

switch_weight : (value : _) (cases : _) (default : _) (statements : _) (line : _) → weight_of (TStmt.Switch value cases default statements line) ≡ 1 + list_weight statements.items
unfolding weight
switch_weight value cases default statements line = ap weight (show_statement_switch value cases default statements line)

-- ---- kinds of statements
pub in_block : (s : TStmt) (list : List TStmt) (statements : _) (line : _) → s ≡ TStmt.Block statements line → list ≡ statements.items → list_weight list < weight_of s
in_block s list statements line is whole =
    let all = ap weight_of is in
    let part = ap list_weight whole in
    let sum = block_weight statements line in
    omega (arith, all, part, sum)

pub in_last : (s : TStmt) (arms : _) (otherwise : _) (line : _) → s ≡ TStmt.If arms otherwise line → last_weight (last_arm_of otherwise) < weight_of s
in_last s arms otherwise line is =
    let all = ap weight_of is in
    let sum = if_weight arms otherwise line in
    omega (arith, all, sum)

pub in_arms : (s : TStmt) (list : List TArm) (arms : _) (otherwise : _) (line : _) → s ≡ TStmt.If arms otherwise line → list ≡ arms.items → arms_weight_of list < weight_of s
in_arms s list arms otherwise line is whole =
    let all = ap weight_of is in
    let part = ap arms_weight_of whole in
    let sum = if_weight arms otherwise line in
    omega (arith, all, part, sum)

pub in_loop : (s body : TStmt) (shape : _) (begin : _) (condition : _) (step : _) (inner : _) (line : _) → s ≡ TStmt.Loop shape begin condition step inner line → body ≡ inner.value → weight_of body < weight_of s
in_loop s body shape begin condition step inner line is same =
    let all = ap weight_of is in
    let part = ap weight_of same in
    let sum = loop_weight shape begin condition step inner line in
    omega (arith, all, part, sum)

pub in_switch : (s : TStmt) (list : List TStmt) (value : _) (cases : _) (default : _) (statements : _) (line : _) → s ≡ TStmt.Switch value cases default statements line → list ≡ statements.items → list_weight list < weight_of s
in_switch s list value cases default statements line is whole =
    let all = ap weight_of is in
    let part = ap list_weight whole in
    let sum = switch_weight value cases default statements line in
    omega (arith, all, part, sum)

pub in_arm : (arm : TArm) → weight_of (out-TArm arm).then < arm_weight (arm_of arm)
unfolding arm_weight
in_arm arm = let sum = ap arm_weight (show_arm arm) in omega (arith, sum)

pub in_otherwise : (last : Option (Box TStmt)) (statement : Box TStmt) (s : TStmt) → last ≡ Some statement → s ≡ statement.value → weight_of s ≤ last_weight (last_arm_of last)
unfolding last_weight
in_otherwise last statement s is same =
    let all = ap (λ o. last_weight (last_arm_of o)) is in
    let part = ap weight_of same in
    omega (arith, all, part)

-- ---- lists
pub in_list : (ss : List TStmt) (i : ℕ) (s : TStmt) → i < length ss → s ≡ get_or ss i s → weight_of s ≤ list_weight ss
unfolding body_weight
in_list [] i s lt is = omega (arith, lt)
in_list (x ∷ xs) zero s lt is = let same = ap weight_of is in omega (arith, same)
in_list (x ∷ xs) (suc i) s lt is = let rest = in_list xs i s (omega (arith, lt)) is in omega (arith, rest)

pub one_of_arms : (arms : List TArm) (i : ℕ) (a : TArm) → i < length arms → a ≡ get_or arms i a → arm_weight (arm_of a) ≤ arms_weight_of arms
unfolding arms_weight
one_of_arms [] i a lt is = omega (arith, lt)
one_of_arms (x ∷ xs) zero a lt is = let same = ap (λ y. arm_weight (arm_of y)) is in omega (arith, same)
one_of_arms (x ∷ xs) (suc i) a lt is = let rest = one_of_arms xs i a (omega (arith, lt)) is in omega (arith, rest)
