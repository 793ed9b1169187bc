-- That the numbers of loops fit below each part of a statement, as they do below the statement.
use Rattle.std.proofs.Common.{◌≡◌, ℕ, zero, suc, ◌+◌, ◌-◌, ◌^◌, ◌<◌, ◌≤◌, List, [], ◌∷◌, length, get_or, map, refl, ap, ◌∙◌, arith}
use Rattle.std.proofs.lemmas.List.{length-append, length-map}
use Rattle.std.specs.Global.{Box}
use Rattle.std.specs.Option.{option_map}
use Rattle.std.specs.Prelude.{Option, Some, None, option_to_list}
use Rattle.c_typed.proofs.NodeCounts.{few_nodes}
use Rattle.c_typed.proofs.Shapes.{show_statement_block, show_statement_if_alone, show_statement_if_else, show_statement_loop, show_statement_switch, show_arm}
use Rattle.c_typed.specs.TreeNodes.{nodes_in, nodes_in_any, statement_nodes, nodes_of_body, arm_nodes, arms_nodes, last_nodes, functions_nodes}
use Rattle.c_typed.specs.Views.{expression_of, statement_of, statements_of, arm_of, arms_of, last_arm_of, function_of}
use Rattle.c_typed.specs.declared.program.Function.{Function}
use Rattle.c_typed.specs.declared.program.Typed.{Typed}
use Rattle.c_typed.specs.declared.statement.TArm.{TArm}
use Rattle.c_typed.specs.declared.statement.TCase.{TCase}
use Rattle.c_typed.specs.declared.statement.TStmt.TheViews.{out-TArm}
use Rattle.c_typed.specs.declared.statement.TStmt.TheVariants as TStmt
use Rattle.c_typed.specs.declared.statement.TStmt.{TStmt}
use Rattle.lower_stmt.specs.Jumps.{HasRoom, in_while, in_body, in_segment}
use Rattle.lower_stmt.specs.Labels.{labels_of}
use Rattle.lower_stmt.specs.declared.jumps.Jumps.{Jumps}

-- ---- nodes of a statement's parts
block_nodes : (statements : _) (line : _) → statement_nodes (statement_of (TStmt.Block statements line)) ≡ 1 + nodes_of_body (statements_of (map statement_of statements.items))
unfolding statement_nodes
block_nodes statements line = ap statement_nodes (show_statement_block statements line)

if_nodes : (arms : _) (otherwise : _) (line : _) → statement_nodes (statement_of (TStmt.If arms otherwise line)) ≡ arms_nodes (arms_of (map arm_of arms.items)) + last_nodes (last_arm_of otherwise)
unfolding statement_nodes
if_nodes arms None line = ap statement_nodes (show_statement_if_alone arms line)
if_nodes arms (Some last) line = ap statement_nodes (show_statement_if_else arms last line)

loop_nodes : (shape : _) (begin : _) (condition : _) (step : _) (body : _) (line : _)
    → statement_nodes (statement_of (TStmt.Loop shape begin condition step body line)) ≡ 1 + (nodes_in_any (option_map expression_of begin) + (nodes_in_any (option_map expression_of condition) + (nodes_in_any (option_map expression_of step) + statement_nodes (statement_of body.value))))
unfolding statement_nodes
loop_nodes shape begin condition step body line = ap statement_nodes (show_statement_loop shape begin condition step body line)

switch_nodes : (value : _) (cases : _) (default : _) (statements : _) (line : _)
    → statement_nodes (statement_of (TStmt.Switch value cases default statements line)) ≡ 1 + (nodes_in (expression_of value) + (length cases.items + nodes_of_body (statements_of (map statement_of statements.items))))
unfolding statement_nodes
switch_nodes value cases default statements line = ap statement_nodes (show_statement_switch value cases default statements line)

one_arm_nodes : (arm : TArm) → arm_nodes (arm_of arm) ≡ 1 + (nodes_in (expression_of (out-TArm arm).condition) + statement_nodes (statement_of (out-TArm arm).then))
unfolding arm_nodes
one_arm_nodes arm = ap arm_nodes (show_arm arm)

-- ---- kinds of statements
pub block_room : (j : Jumps) (s : TStmt) (list : List TStmt) (statements : _) (line : _) → s ≡ TStmt.Block statements line → list ≡ statements.items → HasRoom j (statement_nodes (statement_of s)) → HasRoom j (nodes_of_body (statements_of (map statement_of list)))
block_room j s list statements line is whole room =
    let all = ap (λ t. statement_nodes (statement_of t)) is in
    let part = ap (λ ts. nodes_of_body (statements_of (map statement_of ts))) whole in
    let sum = block_nodes statements line in
    omega (arith, all, part, sum, room)

pub last_room : (j : Jumps) (s : TStmt) (arms : _) (otherwise : _) (line : _) → s ≡ TStmt.If arms otherwise line → HasRoom j (statement_nodes (statement_of s)) → HasRoom j (last_nodes (last_arm_of otherwise))
last_room j s arms otherwise line is room =
    let all = ap (λ t. statement_nodes (statement_of t)) is in
    let sum = if_nodes arms otherwise line in
    omega (arith, all, sum, room)

pub arms_room : (j : Jumps) (s : TStmt) (list : List TArm) (arms : _) (otherwise : _) (line : _) → s ≡ TStmt.If arms otherwise line → list ≡ arms.items → HasRoom j (statement_nodes (statement_of s)) → HasRoom j (arms_nodes (arms_of (map arm_of list)))
arms_room j s list arms otherwise line is whole room =
    let all = ap (λ t. statement_nodes (statement_of t)) is in
    let part = ap (λ ts. arms_nodes (arms_of (map arm_of ts))) whole in
    let sum = if_nodes arms otherwise line in
    omega (arith, all, part, sum, room)

loop_room : (j k : Jumps) (s body : TStmt) (shape : _) (begin : _) (condition : _) (step : _) (inner : _) (line : _) → k.turn ≡ 0 → s ≡ TStmt.Loop shape begin condition step inner line → body ≡ inner.value → HasRoom j (statement_nodes (statement_of s)) → HasRoom k (statement_nodes (statement_of body))
loop_room j k s body shape begin condition step inner line none is same room =
    let all = ap (λ t. statement_nodes (statement_of t)) is in
    let part = ap (λ t. statement_nodes (statement_of t)) same in
    let sum = loop_nodes shape begin condition step inner line in
    omega (arith, all, part, sum, none, room)

-- In a loop the numbers begin anew.
pub while_room : (j : Jumps) (s body : TStmt) (shape : _) (begin : _) (condition : _) (step : _) (inner : _) (line : _) → s ≡ TStmt.Loop shape begin condition step inner line → body ≡ inner.value → HasRoom j (statement_nodes (statement_of s)) → HasRoom in_while (statement_nodes (statement_of body))
while_room j s body shape begin condition step inner line is same room = loop_room j in_while s body shape begin condition step inner line refl is same room

pub body_room : (j : Jumps) (s body : TStmt) (shape : _) (begin : _) (condition : _) (step : _) (inner : _) (line : _) → s ≡ TStmt.Loop shape begin condition step inner line → body ≡ inner.value → HasRoom j (statement_nodes (statement_of s)) → HasRoom in_body (statement_nodes (statement_of body))
body_room j s body shape begin condition step inner line is same room = loop_room j in_body s body shape begin condition step inner line refl is same room

pub switch_room : (j : Jumps) (s : TStmt) (labels : List TCase) (list : List TStmt) (value : _) (cases : _) (default : _) (statements : _) (line : _) → s ≡ TStmt.Switch value cases default statements line → labels ≡ cases.items → list ≡ statements.items → HasRoom j (statement_nodes (statement_of s))
    → HasRoom j (1 + length labels + nodes_of_body (statements_of (map statement_of list)))
switch_room j s labels list value cases default statements line is given whole room =
    let all = ap (λ t. statement_nodes (statement_of t)) is in
    let count = ap length given in
    let part = ap (λ ts. nodes_of_body (statements_of (map statement_of ts))) whole in
    let sum = switch_nodes value cases default statements line in
    omega (arith, all, count, part, sum, room)

pub then_room : (j : Jumps) (arm : TArm) → HasRoom j (arm_nodes (arm_of arm)) → HasRoom j (statement_nodes (statement_of (out-TArm arm).then))
then_room j arm room = let sum = one_arm_nodes arm in omega (arith, sum, room)

pub otherwise_room : (j : Jumps) (last : Option (Box TStmt)) (statement : Box TStmt) (s : TStmt) → last ≡ Some statement → s ≡ statement.value → HasRoom j (last_nodes (last_arm_of last)) → HasRoom j (statement_nodes (statement_of s))
unfolding last_nodes
otherwise_room j last statement s is same room =
    let all = ap (λ o. last_nodes (last_arm_of o)) is in
    let part = ap (λ t. statement_nodes (statement_of t)) same in
    omega (arith, all, part, room)

-- ---- lists
statement_within : (ss : List TStmt) (i : ℕ) (s : TStmt) → i < length ss → s ≡ get_or ss i s → statement_nodes (statement_of s) ≤ nodes_of_body (statements_of (map statement_of ss))
unfolding nodes_of_body
statement_within [] i s lt is = omega (arith, lt)
statement_within (x ∷ xs) zero s lt is = let same = ap (λ y. statement_nodes (statement_of y)) is in omega (arith, same)
statement_within (x ∷ xs) (suc i) s lt is = let rest = statement_within xs i s (omega (arith, lt)) is in omega (arith, rest)

arm_within : (arms : List TArm) (i : ℕ) (a : TArm) → i < length arms → a ≡ get_or arms i a → arm_nodes (arm_of a) ≤ arms_nodes (arms_of (map arm_of arms))
unfolding arms_nodes
arm_within [] i a lt is = omega (arith, lt)
arm_within (x ∷ xs) zero a lt is = let same = ap (λ y. arm_nodes (arm_of y)) is in omega (arith, same)
arm_within (x ∷ xs) (suc i) a lt is = let rest = arm_within xs i a (omega (arith, lt)) is in omega (arith, rest)

pub statement_room : (j : Jumps) (ss : List TStmt) (i : ℕ) (s : TStmt) → i < length ss → s ≡ get_or ss i s → HasRoom j (nodes_of_body (statements_of (map statement_of ss))) → HasRoom j (statement_nodes (statement_of s))
statement_room j ss i s lt is room = let part = statement_within ss i s lt is in omega (arith, part, room)

pub arm_room : (j : Jumps) (arms : List TArm) (i : ℕ) (a : TArm) → i < length arms → a ≡ get_or arms i a → HasRoom j (arms_nodes (arms_of (map arm_of arms))) → HasRoom j (arm_nodes (arm_of a))
arm_room j arms i a lt is room = let part = arm_within arms i a lt is in omega (arith, part, room)

-- ---- switches
few_default : (default : Option ℕ) → length (option_to_list default) ≤ 1
few_default None = omega arith
few_default (Some target) = omega arith

few_labels : (cases : List TCase) (default : Option ℕ) → length (labels_of cases default) ≤ 1 + length cases
few_labels cases default =
    let all = length-append (map (λ (c : TCase). c.target) cases) (option_to_list default) in
    let mapped = length-map cases (λ (c : TCase). c.target) in
    let one = few_default default in
    omega (arith, all, mapped, one)

-- A statement of a segment, which has at most one loop for each label behind it.
pub segment_room : (j : Jumps) (cases : List TCase) (default : Option ℕ) (found labels : List ℕ) (count now behind i : ℕ) (ss : List TStmt) (s : TStmt) → found ≡ labels_of cases default → labels ≡ found → count ≤ length labels → behind ≡ count - now → i < length ss → s ≡ get_or ss i s
    → HasRoom j (1 + length cases + nodes_of_body (statements_of (map statement_of ss))) → HasRoom (in_segment j behind) (statement_nodes (statement_of s))
segment_room j cases default found labels count now behind i ss s made same few less lt is room =
    let most = few_labels cases default in
    let sizes = ap length (same ∙ made) in
    let part = statement_within ss i s lt is in
    omega (arith, most, sizes, few, less, part, room)

-- ---- functions
body_nodes : (fs : List Function) (n : ℕ) (f : Function) → n < length fs → f ≡ get_or fs n f → 1 + nodes_of_body (function_of f).body ≤ functions_nodes (map function_of fs)
body_nodes [] n f lt is = omega (arith, lt)
body_nodes (x ∷ xs) zero f lt is = let same = ap (λ y. nodes_of_body (function_of y).body) is in omega (arith, same)
body_nodes (x ∷ xs) (suc n) f lt is = let rest = body_nodes xs n f (omega (arith, lt)) is in omega (arith, rest)

-- The body of a function of a typed program has at most 2 to the 28 nodes.
pub body_is_small : (p : Typed) (list : List Function) (n : ℕ) (f : Function) → list ≡ p.functions.items → n < length list → f ≡ get_or list n f → nodes_of_body (function_of f).body ≤ 2 ^ 28
body_is_small p list n f same lt is =
    let part = body_nodes list n f lt is in
    let whole = ap (λ fs. functions_nodes (map function_of fs)) same in
    let few = few_nodes p in
    omega (arith, part, whole, few)
