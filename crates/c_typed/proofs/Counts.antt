-- The count of nodes of each node from the counts of its parts.
use Rattle.std.proofs.Common.{◌≡◌, ℕ, ◌+◌, ◌<◌, ◌≤◌, ◌^◌, List, Option, Some, None, map, drop, length, refl, sym, ap, ◌∙◌, arith}
use Rattle.std.specs.Global.{Box}
use Rattle.std.proofs.Math.ListN.{get_or}
use Rattle.std.proofs.lemmas.List.{drop_more, drop_all}
use Rattle.c_typed.specs.Nodes.{capped, total, expression_step, place_step, expression_nodes, place_nodes, any_nodes, item_nodes, statement_step, arm_step, statement_nodes, arm_nodes, last_nodes}
use Rattle.c_typed.specs.declared.expression.TExpr.TheVariants as TExpr
use Rattle.c_typed.specs.declared.expression.TPlace.TheVariants as TPlace
use Rattle.c_typed.specs.declared.expression.TExpr.TheOpen as Open
use Rattle.c_typed.specs.declared.expression.TExpr.TheFolds.{fold-TExpr, fold-TPlace, fold-roll-TExpr, fold-roll-TPlace}
use Rattle.c_typed.specs.declared.statement.TStmt.TheVariants as TStmt
use Rattle.c_typed.specs.declared.statement.TStmt as StmtOf
use Rattle.c_typed.specs.declared.statement.TArm.{TArm}
use Rattle.c_typed.specs.declared.statement.TStmt.TheOpen as OpenStmt
use Rattle.c_typed.specs.declared.statement.TStmt.TheViews.{out-TArm}
use Rattle.c_typed.specs.declared.statement.TStmt.TheFolds.{map-TStmt, fold-TStmt, fold-roll-TStmt, fold_out-TArm}

pub see_expression_constant : (x1 : _) (x2 : _) → expression_nodes (TExpr.Constant x1 x2) ≡ 1
unfolding expression_nodes place_nodes
see_expression_constant x1 x2 = ap (fold-TExpr ℕ ℕ expression_step place_step) (sym (TExpr.rolls-Constant x1 x2)) ∙ fold-roll-TExpr ℕ ℕ expression_step place_step (Open.Constant x1 x2)

pub see_expression_read : (x1 : _) (x2 : _) (x3 : _) → expression_nodes (TExpr.Read x1 x2 x3) ≡ 1 + place_nodes x1.value
unfolding expression_nodes place_nodes
see_expression_read x1 x2 x3 = ap (fold-TExpr ℕ ℕ expression_step place_step) (sym (TExpr.rolls-Read x1 x2 x3)) ∙ fold-roll-TExpr ℕ ℕ expression_step place_step (Open.Read x1 x2 x3)

pub see_expression_address : (x1 : _) (x2 : _) (x3 : _) → expression_nodes (TExpr.Address x1 x2 x3) ≡ 1 + place_nodes x1.value
unfolding expression_nodes place_nodes
see_expression_address x1 x2 x3 = ap (fold-TExpr ℕ ℕ expression_step place_step) (sym (TExpr.rolls-Address x1 x2 x3)) ∙ fold-roll-TExpr ℕ ℕ expression_step place_step (Open.Address x1 x2 x3)

pub see_expression_convert : (x1 : _) (x2 : _) (x3 : _) → expression_nodes (TExpr.Convert x1 x2 x3) ≡ 1 + expression_nodes x1.value
unfolding expression_nodes place_nodes
see_expression_convert x1 x2 x3 = ap (fold-TExpr ℕ ℕ expression_step place_step) (sym (TExpr.rolls-Convert x1 x2 x3)) ∙ fold-roll-TExpr ℕ ℕ expression_step place_step (Open.Convert x1 x2 x3)

pub see_expression_cast : (x1 : _) (x2 : _) (x3 : _) → expression_nodes (TExpr.Cast x1 x2 x3) ≡ 1 + expression_nodes x1.value
unfolding expression_nodes place_nodes
see_expression_cast x1 x2 x3 = ap (fold-TExpr ℕ ℕ expression_step place_step) (sym (TExpr.rolls-Cast x1 x2 x3)) ∙ fold-roll-TExpr ℕ ℕ expression_step place_step (Open.Cast x1 x2 x3)

pub see_expression_unary : (x1 : _) (x2 : _) (x3 : _) (x4 : _) → expression_nodes (TExpr.Unary x1 x2 x3 x4) ≡ 1 + expression_nodes x2.value
unfolding expression_nodes place_nodes
see_expression_unary x1 x2 x3 x4 = ap (fold-TExpr ℕ ℕ expression_step place_step) (sym (TExpr.rolls-Unary x1 x2 x3 x4)) ∙ fold-roll-TExpr ℕ ℕ expression_step place_step (Open.Unary x1 x2 x3 x4)

pub see_expression_binary : (x1 : _) (x2 : _) (x3 : _) (x4 : _) (x5 : _) → expression_nodes (TExpr.Binary x1 x2 x3 x4 x5) ≡ 1 + (expression_nodes x2.value + expression_nodes x3.value)
unfolding expression_nodes place_nodes
see_expression_binary x1 x2 x3 x4 x5 = ap (fold-TExpr ℕ ℕ expression_step place_step) (sym (TExpr.rolls-Binary x1 x2 x3 x4 x5)) ∙ fold-roll-TExpr ℕ ℕ expression_step place_step (Open.Binary x1 x2 x3 x4 x5)

pub see_expression_offset : (x1 : _) (x2 : _) (x3 : _) (x4 : _) (x5 : _) (x6 : _) → expression_nodes (TExpr.Offset x1 x2 x3 x4 x5 x6) ≡ 1 + (expression_nodes x2.value + expression_nodes x3.value)
unfolding expression_nodes place_nodes
see_expression_offset x1 x2 x3 x4 x5 x6 = ap (fold-TExpr ℕ ℕ expression_step place_step) (sym (TExpr.rolls-Offset x1 x2 x3 x4 x5 x6)) ∙ fold-roll-TExpr ℕ ℕ expression_step place_step (Open.Offset x1 x2 x3 x4 x5 x6)

pub see_expression_difference : (x1 : _) (x2 : _) (x3 : _) (x4 : _) → expression_nodes (TExpr.Difference x1 x2 x3 x4) ≡ 1 + (expression_nodes x1.value + expression_nodes x2.value)
unfolding expression_nodes place_nodes
see_expression_difference x1 x2 x3 x4 = ap (fold-TExpr ℕ ℕ expression_step place_step) (sym (TExpr.rolls-Difference x1 x2 x3 x4)) ∙ fold-roll-TExpr ℕ ℕ expression_step place_step (Open.Difference x1 x2 x3 x4)

pub see_expression_logical : (x1 : _) (x2 : _) (x3 : _) (x4 : _) → expression_nodes (TExpr.Logical x1 x2 x3 x4) ≡ 1 + (expression_nodes x2.value + expression_nodes x3.value)
unfolding expression_nodes place_nodes
see_expression_logical x1 x2 x3 x4 = ap (fold-TExpr ℕ ℕ expression_step place_step) (sym (TExpr.rolls-Logical x1 x2 x3 x4)) ∙ fold-roll-TExpr ℕ ℕ expression_step place_step (Open.Logical x1 x2 x3 x4)

pub see_expression_conditional : (x1 : _) (x2 : _) (x3 : _) (x4 : _) (x5 : _) → expression_nodes (TExpr.Conditional x1 x2 x3 x4 x5) ≡ 1 + (expression_nodes x1.value + (expression_nodes x2.value + expression_nodes x3.value))
unfolding expression_nodes place_nodes
see_expression_conditional x1 x2 x3 x4 x5 = ap (fold-TExpr ℕ ℕ expression_step place_step) (sym (TExpr.rolls-Conditional x1 x2 x3 x4 x5)) ∙ fold-roll-TExpr ℕ ℕ expression_step place_step (Open.Conditional x1 x2 x3 x4 x5)

pub see_expression_comma : (x1 : _) (x2 : _) (x3 : _) (x4 : _) → expression_nodes (TExpr.Comma x1 x2 x3 x4) ≡ 1 + (expression_nodes x1.value + expression_nodes x2.value)
unfolding expression_nodes place_nodes
see_expression_comma x1 x2 x3 x4 = ap (fold-TExpr ℕ ℕ expression_step place_step) (sym (TExpr.rolls-Comma x1 x2 x3 x4)) ∙ fold-roll-TExpr ℕ ℕ expression_step place_step (Open.Comma x1 x2 x3 x4)

pub see_expression_assign : (x1 : _) (x2 : _) (x3 : _) (x4 : _) → expression_nodes (TExpr.Assign x1 x2 x3 x4) ≡ 1 + (place_nodes x1.value + expression_nodes x2.value)
unfolding expression_nodes place_nodes
see_expression_assign x1 x2 x3 x4 = ap (fold-TExpr ℕ ℕ expression_step place_step) (sym (TExpr.rolls-Assign x1 x2 x3 x4)) ∙ fold-roll-TExpr ℕ ℕ expression_step place_step (Open.Assign x1 x2 x3 x4)

pub see_expression_struct_assign : (x1 : _) (x2 : _) (x3 : _) (x4 : _) → expression_nodes (TExpr.StructAssign x1 x2 x3 x4) ≡ 1 + (place_nodes x1.value + place_nodes x2.value)
unfolding expression_nodes place_nodes
see_expression_struct_assign x1 x2 x3 x4 = ap (fold-TExpr ℕ ℕ expression_step place_step) (sym (TExpr.rolls-StructAssign x1 x2 x3 x4)) ∙ fold-roll-TExpr ℕ ℕ expression_step place_step (Open.StructAssign x1 x2 x3 x4)

pub see_expression_update : (x1 : _) (x2 : _) (x3 : _) (x4 : _) (x5 : _) (x6 : _) (x7 : _) → expression_nodes (TExpr.Update x1 x2 x3 x4 x5 x6 x7) ≡ 1 + (place_nodes x2.value + expression_nodes x3.value)
unfolding expression_nodes place_nodes
see_expression_update x1 x2 x3 x4 x5 x6 x7 = ap (fold-TExpr ℕ ℕ expression_step place_step) (sym (TExpr.rolls-Update x1 x2 x3 x4 x5 x6 x7)) ∙ fold-roll-TExpr ℕ ℕ expression_step place_step (Open.Update x1 x2 x3 x4 x5 x6 x7)

pub see_expression_step : (x1 : _) (x2 : _) (x3 : _) (x4 : _) (x5 : _) (x6 : _) → expression_nodes (TExpr.Step x1 x2 x3 x4 x5 x6) ≡ 1 + place_nodes x2.value
unfolding expression_nodes place_nodes
see_expression_step x1 x2 x3 x4 x5 x6 = ap (fold-TExpr ℕ ℕ expression_step place_step) (sym (TExpr.rolls-Step x1 x2 x3 x4 x5 x6)) ∙ fold-roll-TExpr ℕ ℕ expression_step place_step (Open.Step x1 x2 x3 x4 x5 x6)

pub see_expression_call : (x1 : _) (x2 : _) (x3 : _) (x4 : _) → expression_nodes (TExpr.Call x1 x2 x3 x4) ≡ 1 + total (map expression_nodes x2.items)
unfolding expression_nodes place_nodes
see_expression_call x1 x2 x3 x4 = ap (fold-TExpr ℕ ℕ expression_step place_step) (sym (TExpr.rolls-Call x1 x2 x3 x4)) ∙ fold-roll-TExpr ℕ ℕ expression_step place_step (Open.Call x1 x2 x3 x4)

pub see_place_name : (x1 : _) (x2 : _) (x3 : _) → place_nodes (TPlace.Name x1 x2 x3) ≡ 1
unfolding expression_nodes place_nodes
see_place_name x1 x2 x3 = ap (fold-TPlace ℕ ℕ expression_step place_step) (sym (TPlace.rolls-Name x1 x2 x3)) ∙ fold-roll-TPlace ℕ ℕ expression_step place_step (Open.Name x1 x2 x3)

pub see_place_bit : (x1 : _) (x2 : _) (x3 : _) → place_nodes (TPlace.Bit x1 x2 x3) ≡ 1
unfolding expression_nodes place_nodes
see_place_bit x1 x2 x3 = ap (fold-TPlace ℕ ℕ expression_step place_step) (sym (TPlace.rolls-Bit x1 x2 x3)) ∙ fold-roll-TPlace ℕ ℕ expression_step place_step (Open.Bit x1 x2 x3)

pub see_place_member : (x1 : _) (x2 : _) (x3 : _) (x4 : _) (x5 : _) → place_nodes (TPlace.Member x1 x2 x3 x4 x5) ≡ 1 + place_nodes x1.value
unfolding expression_nodes place_nodes
see_place_member x1 x2 x3 x4 x5 = ap (fold-TPlace ℕ ℕ expression_step place_step) (sym (TPlace.rolls-Member x1 x2 x3 x4 x5)) ∙ fold-roll-TPlace ℕ ℕ expression_step place_step (Open.Member x1 x2 x3 x4 x5)

pub see_place_deref : (x1 : _) (x2 : _) (x3 : _) → place_nodes (TPlace.Deref x1 x2 x3) ≡ 1 + expression_nodes x1.value
unfolding expression_nodes place_nodes
see_place_deref x1 x2 x3 = ap (fold-TPlace ℕ ℕ expression_step place_step) (sym (TPlace.rolls-Deref x1 x2 x3)) ∙ fold-roll-TPlace ℕ ℕ expression_step place_step (Open.Deref x1 x2 x3)

pub see_statement_block : (x1 : _) (x2 : _) → statement_nodes (TStmt.Block x1 x2) ≡ 1 + total (map statement_nodes x1.items)
unfolding statement_nodes arm_nodes
see_statement_block x1 x2 = ap (fold-TStmt ℕ ℕ statement_step arm_step) (sym (TStmt.rolls-Block x1 x2)) ∙ fold-roll-TStmt ℕ ℕ statement_step arm_step (OpenStmt.Block x1 x2)

pub see_statement_empty : (x1 : _) → statement_nodes (TStmt.Empty x1) ≡ 1
unfolding statement_nodes arm_nodes
see_statement_empty x1 = ap (fold-TStmt ℕ ℕ statement_step arm_step) (sym (TStmt.rolls-Empty x1)) ∙ fold-roll-TStmt ℕ ℕ statement_step arm_step (OpenStmt.Empty x1)

pub see_statement_expr : (x1 : _) (x2 : _) → statement_nodes (TStmt.Expr x1 x2) ≡ 1 + expression_nodes x1
unfolding statement_nodes arm_nodes
see_statement_expr x1 x2 = ap (fold-TStmt ℕ ℕ statement_step arm_step) (sym (TStmt.rolls-Expr x1 x2)) ∙ fold-roll-TStmt ℕ ℕ statement_step arm_step (OpenStmt.Expr x1 x2)

pub see_statement_declare : (x1 : _) (x2 : _) → statement_nodes (TStmt.Declare x1 x2) ≡ 0
unfolding statement_nodes arm_nodes
see_statement_declare x1 x2 = ap (fold-TStmt ℕ ℕ statement_step arm_step) (sym (TStmt.rolls-Declare x1 x2)) ∙ fold-roll-TStmt ℕ ℕ statement_step arm_step (OpenStmt.Declare x1 x2)

pub see_statement_init_scalar : (x1 : _) (x2 : _) (x3 : _) → statement_nodes (TStmt.InitScalar x1 x2 x3) ≡ 1 + expression_nodes x2
unfolding statement_nodes arm_nodes
see_statement_init_scalar x1 x2 x3 = ap (fold-TStmt ℕ ℕ statement_step arm_step) (sym (TStmt.rolls-InitScalar x1 x2 x3)) ∙ fold-roll-TStmt ℕ ℕ statement_step arm_step (OpenStmt.InitScalar x1 x2 x3)

pub see_statement_init_list : (x1 : _) (x2 : _) (x3 : _) → statement_nodes (TStmt.InitList x1 x2 x3) ≡ 1 + total (map item_nodes x2.items)
unfolding statement_nodes arm_nodes
see_statement_init_list x1 x2 x3 = ap (fold-TStmt ℕ ℕ statement_step arm_step) (sym (TStmt.rolls-InitList x1 x2 x3)) ∙ fold-roll-TStmt ℕ ℕ statement_step arm_step (OpenStmt.InitList x1 x2 x3)

if_layer : (x1 : _) (x2 : Option (Box StmtOf.TStmt)) (x3 : _) → statement_step (map-TStmt StmtOf.TStmt TArm ℕ ℕ statement_nodes arm_nodes (OpenStmt.If x1 x2 x3)) ≡ total (map arm_nodes x1.items) + last_nodes x2
unfolding statement_nodes arm_nodes
if_layer x1 None x3 = refl
if_layer x1 (Some last) x3 = refl

pub see_statement_if : (x1 : _) (x2 : _) (x3 : _) → statement_nodes (TStmt.If x1 x2 x3) ≡ total (map arm_nodes x1.items) + last_nodes x2
unfolding statement_nodes arm_nodes
see_statement_if x1 x2 x3 = ap (fold-TStmt ℕ ℕ statement_step arm_step) (sym (TStmt.rolls-If x1 x2 x3)) ∙ fold-roll-TStmt ℕ ℕ statement_step arm_step (OpenStmt.If x1 x2 x3) ∙ if_layer x1 x2 x3

pub see_statement_loop : (x1 : _) (x2 : _) (x3 : _) (x4 : _) (x5 : _) (x6 : _) → statement_nodes (TStmt.Loop x1 x2 x3 x4 x5 x6) ≡ 1 + (any_nodes x2 + (any_nodes x3 + (any_nodes x4 + statement_nodes x5.value)))
unfolding statement_nodes arm_nodes
see_statement_loop x1 x2 x3 x4 x5 x6 = ap (fold-TStmt ℕ ℕ statement_step arm_step) (sym (TStmt.rolls-Loop x1 x2 x3 x4 x5 x6)) ∙ fold-roll-TStmt ℕ ℕ statement_step arm_step (OpenStmt.Loop x1 x2 x3 x4 x5 x6)

pub see_statement_switch : (x1 : _) (x2 : _) (x3 : _) (x4 : _) (x5 : _) → statement_nodes (TStmt.Switch x1 x2 x3 x4 x5) ≡ 1 + (expression_nodes x1 + (length x2.items + total (map statement_nodes x4.items)))
unfolding statement_nodes arm_nodes
see_statement_switch x1 x2 x3 x4 x5 = ap (fold-TStmt ℕ ℕ statement_step arm_step) (sym (TStmt.rolls-Switch x1 x2 x3 x4 x5)) ∙ fold-roll-TStmt ℕ ℕ statement_step arm_step (OpenStmt.Switch x1 x2 x3 x4 x5)

pub see_statement_break : (x1 : _) → statement_nodes (TStmt.Break x1) ≡ 1
unfolding statement_nodes arm_nodes
see_statement_break x1 = ap (fold-TStmt ℕ ℕ statement_step arm_step) (sym (TStmt.rolls-Break x1)) ∙ fold-roll-TStmt ℕ ℕ statement_step arm_step (OpenStmt.Break x1)

pub see_statement_continue : (x1 : _) → statement_nodes (TStmt.Continue x1) ≡ 1
unfolding statement_nodes arm_nodes
see_statement_continue x1 = ap (fold-TStmt ℕ ℕ statement_step arm_step) (sym (TStmt.rolls-Continue x1)) ∙ fold-roll-TStmt ℕ ℕ statement_step arm_step (OpenStmt.Continue x1)

pub see_statement_return : (x1 : _) (x2 : _) → statement_nodes (TStmt.Return x1 x2) ≡ 1 + any_nodes x1
unfolding statement_nodes arm_nodes
see_statement_return x1 x2 = ap (fold-TStmt ℕ ℕ statement_step arm_step) (sym (TStmt.rolls-Return x1 x2)) ∙ fold-roll-TStmt ℕ ℕ statement_step arm_step (OpenStmt.Return x1 x2)

pub see_arm : (x : TArm) → arm_nodes x ≡ 1 + (expression_nodes (out-TArm x).condition + statement_nodes (out-TArm x).then)
unfolding statement_nodes arm_nodes
see_arm x = fold_out-TArm ℕ ℕ statement_step arm_step x

one_apart : {A : Type 0} (f : A → ℕ) (xs : List A) (i : ℕ) (x : A) → i < length xs → x ≡ get_or xs i x → total (map f (drop i xs)) ≡ f x + total (map f (drop (i + 1) xs))
one_apart f xs i x lt is = ap (λ l. total (map f l)) (drop_more xs i x lt) ∙ ap (λ y. f y + total (map f (drop (i + 1) xs))) (sym is)

counted : (now count n r rest more whole : ℕ) → rest ≡ n + more → r ≡ capped n → now ≡ capped (count + r) → capped (count + rest) ≡ capped whole → capped (now + more) ≡ capped whole
counted now count n r rest more whole split made put so_far = omega (arith, split, made, put, so_far)

-- one part of a list more is counted
pub one_more : {A : Type 0} (f : A → ℕ) (xs : List A) (i : ℕ) (x : A) (now count r whole : ℕ) → i < length xs → x ≡ get_or xs i x → r ≡ capped (f x) → now ≡ capped (count + r) → now < 2 ^ 64 → (count < 2 ^ 64) × (capped (count + total (map f (drop i xs))) ≡ capped whole) → (now < 2 ^ 64) × (capped (now + total (map f (drop (i + 1) xs))) ≡ capped whole)
one_more f xs i x now count r whole lt is made put fits so_far = (fits, counted now count (f x) r (total (map f (drop i xs))) (total (map f (drop (i + 1) xs))) whole (one_apart f xs i x lt is) made put so_far.1)

ended : (count rest whole : ℕ) → rest ≡ 0 → count < 2 ^ 64 → capped (count + rest) ≡ capped whole → count ≡ capped whole
ended count rest whole none fits so_far = omega (arith, none, fits, so_far)

-- all parts of a list are counted
pub all_counted : {A : Type 0} (f : A → ℕ) (xs : List A) (i : ℕ) (count whole : ℕ) → length xs ≤ i → (count < 2 ^ 64) × (capped (count + total (map f (drop i xs))) ≡ capped whole) → count ≡ capped whole
all_counted f xs i count whole past so_far = ended count (total (map f (drop i xs))) whole (ap (λ l. total (map f l)) (drop_all i xs past)) so_far.0 so_far.1
