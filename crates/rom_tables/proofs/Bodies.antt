-- Each statement once more, from its parts.
use Rattle.std.proofs.Common.{◌≡◌, ℕ, ◌+◌, ◌<◌, ◌≤◌, List, Option, Some, None, [], ◌∷◌, ◌++◌, length, map, option_map, take, get_or, refl, sym, ap, ◌∙◌}
use Rattle.std.specs.Global.{Box}
use Rattle.std.proofs.lemmas.List.{map_more, map_push, take_all}
use Rattle.c_typed.proofs.Shapes.{show_statement_block, show_statement_empty, show_statement_expr, show_statement_declare, show_statement_init_scalar, show_statement_init_list, show_statement_loop, show_statement_switch, show_statement_break, show_statement_continue, show_statement_return, show_statement_if_alone, show_statement_if_else, show_arm}
use Rattle.c_typed.specs.Trees as tree
use Rattle.c_typed.specs.Trees.{Item, Statement, Statements, Arm, Arms}
use Rattle.c_typed.specs.Views.{arm_of, arms_of, expression_of, item_of, last_arm_of, statement_of, statements_of}
use Rattle.c_typed.specs.declared.statement.TArm.{TArm}
use Rattle.c_typed.specs.declared.statement.TItem.{TItem}
use Rattle.c_typed.specs.declared.statement.TStmt.{TStmt}
use Rattle.c_typed.specs.declared.statement.TStmt.TheVariants as TStmt
use Rattle.c_typed.specs.declared.statement.TStmt.TheViews.{out-TArm}
use Rattle.rom_tables.specs.Outlined.{outlined_arm, outlined_arms, outlined_expression, outlined_item, outlined_last, outlined_option, outlined_statement, outlined_statements}

-- ---- statements
pub show_if : (arms : _) (otherwise : Option (Box TStmt)) (line : _) → statement_of (TStmt.If arms otherwise line) ≡ tree.If (arms_of (map arm_of arms.items)) (last_arm_of otherwise) line
show_if arms None line = show_statement_if_alone arms line
show_if arms (Some last) line = show_statement_if_else arms last line

pub outlined_block : (ts : List ℕ) (first : ℕ) (statements : _) (line : _) → outlined_statement ts first (statement_of (TStmt.Block statements line)) ≡ tree.Block (outlined_statements ts first (statements_of (map statement_of statements.items))) line
unfolding outlined_statement outlined_statements outlined_arm outlined_arms outlined_last
outlined_block ts first statements line = ap (outlined_statement ts first) (show_statement_block statements line)

pub outlined_empty : (ts : List ℕ) (first : ℕ) (line : _) → outlined_statement ts first (statement_of (TStmt.Empty line)) ≡ tree.Empty line
unfolding outlined_statement outlined_statements outlined_arm outlined_arms outlined_last
outlined_empty ts first line = ap (outlined_statement ts first) (show_statement_empty line)

pub outlined_expr : (ts : List ℕ) (first : ℕ) (value : _) (line : _) → outlined_statement ts first (statement_of (TStmt.Expr value line)) ≡ tree.Expr (outlined_expression ts first (expression_of value)) line
unfolding outlined_statement outlined_statements outlined_arm outlined_arms outlined_last
outlined_expr ts first value line = ap (outlined_statement ts first) (show_statement_expr value line)

pub outlined_declare : (ts : List ℕ) (first : ℕ) (local : _) (line : _) → outlined_statement ts first (statement_of (TStmt.Declare local line)) ≡ tree.Declare local line
unfolding outlined_statement outlined_statements outlined_arm outlined_arms outlined_last
outlined_declare ts first local line = ap (outlined_statement ts first) (show_statement_declare local line)

pub outlined_init_scalar : (ts : List ℕ) (first : ℕ) (local : _) (value : _) (line : _) → outlined_statement ts first (statement_of (TStmt.InitScalar local value line)) ≡ tree.InitScalar local (outlined_expression ts first (expression_of value)) line
unfolding outlined_statement outlined_statements outlined_arm outlined_arms outlined_last
outlined_init_scalar ts first local value line = ap (outlined_statement ts first) (show_statement_init_scalar local value line)

pub outlined_init_list : (ts : List ℕ) (first : ℕ) (local : _) (items : _) (line : _) → outlined_statement ts first (statement_of (TStmt.InitList local items line)) ≡ tree.InitList local (map (outlined_item ts first) (map item_of items.items)) line
unfolding outlined_statement outlined_statements outlined_arm outlined_arms outlined_last
outlined_init_list ts first local items line = ap (outlined_statement ts first) (show_statement_init_list local items line)

pub outlined_loop : (ts : List ℕ) (first : ℕ) (shape : _) (begin : _) (condition : _) (step : _) (body : _) (line : _) → outlined_statement ts first (statement_of (TStmt.Loop shape begin condition step body line)) ≡ tree.Loop shape (outlined_option ts first (option_map expression_of begin)) (outlined_option ts first (option_map expression_of condition)) (outlined_option ts first (option_map expression_of step)) (outlined_statement ts first (statement_of body.value)) line
unfolding outlined_statement outlined_statements outlined_arm outlined_arms outlined_last
outlined_loop ts first shape begin condition step body line = ap (outlined_statement ts first) (show_statement_loop shape begin condition step body line)

pub outlined_switch : (ts : List ℕ) (first : ℕ) (value : _) (cases : _) (default : _) (statements : _) (line : _) → outlined_statement ts first (statement_of (TStmt.Switch value cases default statements line)) ≡ tree.Switch (outlined_expression ts first (expression_of value)) cases.items default (outlined_statements ts first (statements_of (map statement_of statements.items))) line
unfolding outlined_statement outlined_statements outlined_arm outlined_arms outlined_last
outlined_switch ts first value cases default statements line = ap (outlined_statement ts first) (show_statement_switch value cases default statements line)

pub outlined_break : (ts : List ℕ) (first : ℕ) (line : _) → outlined_statement ts first (statement_of (TStmt.Break line)) ≡ tree.Break line
unfolding outlined_statement outlined_statements outlined_arm outlined_arms outlined_last
outlined_break ts first line = ap (outlined_statement ts first) (show_statement_break line)

pub outlined_continue : (ts : List ℕ) (first : ℕ) (line : _) → outlined_statement ts first (statement_of (TStmt.Continue line)) ≡ tree.Continue line
unfolding outlined_statement outlined_statements outlined_arm outlined_arms outlined_last
outlined_continue ts first line = ap (outlined_statement ts first) (show_statement_continue line)

pub outlined_return : (ts : List ℕ) (first : ℕ) (value : _) (line : _) → outlined_statement ts first (statement_of (TStmt.Return value line)) ≡ tree.Return (outlined_option ts first (option_map expression_of value)) line
unfolding outlined_statement outlined_statements outlined_arm outlined_arms outlined_last
outlined_return ts first value line = ap (outlined_statement ts first) (show_statement_return value line)

pub outlined_if : (ts : List ℕ) (first : ℕ) (arms : _) (otherwise : Option (Box TStmt)) (line : _) → outlined_statement ts first (statement_of (TStmt.If arms otherwise line)) ≡ tree.If (outlined_arms ts first (arms_of (map arm_of arms.items))) (outlined_last ts first (last_arm_of otherwise)) line
unfolding outlined_statement outlined_statements outlined_arm outlined_arms outlined_last
outlined_if ts first arms otherwise line = ap (outlined_statement ts first) (show_if arms otherwise line)

pub arm_sight : (ts : List ℕ) (first : ℕ) (a : TArm) → outlined_arm ts first (arm_of a) ≡ tree.OneArm (outlined_expression ts first (expression_of (out-TArm a).condition)) (outlined_statement ts first (statement_of (out-TArm a).then)) (out-TArm a).line
unfolding outlined_statement outlined_statements outlined_arm outlined_arms outlined_last
arm_sight ts first a = ap (outlined_arm ts first) (show_arm a)

pub ruleset statement_sights = (outlined_block, outlined_empty, outlined_expr, outlined_declare, outlined_init_scalar, outlined_init_list, outlined_loop, outlined_switch, outlined_break, outlined_continue, outlined_return, outlined_if)

-- ---- lists of them
pub item_more : (ts : List ℕ) (first : ℕ) (given made : List TItem) (k : ℕ) (c n : TItem) → k < length given → c ≡ get_or given k c → item_of n ≡ outlined_item ts first (item_of c) → map item_of made ≡ map (outlined_item ts first) (map item_of (take k given)) → map item_of (made ++ n ∷ []) ≡ map (outlined_item ts first) (map item_of (take (k + 1) given))
item_more ts first given made k c n below is same before =
    map_push item_of made n
    ∙ ap (λ (l : List Item). l ++ item_of n ∷ []) before
    ∙ ap (λ (t : Item). map (outlined_item ts first) (map item_of (take k given)) ++ t ∷ []) (same ∙ ap (λ (t : TItem). outlined_item ts first (item_of t)) is)
    ∙ sym (ap (map (outlined_item ts first)) (map_more item_of given k c below) ∙ map_push (outlined_item ts first) (map item_of (take k given)) (item_of (get_or given k c)))

pub items_all : (ts : List ℕ) (first : ℕ) (given made : List TItem) (k : ℕ) → length given ≤ k → map item_of made ≡ map (outlined_item ts first) (map item_of (take k given)) → map item_of made ≡ map (outlined_item ts first) (map item_of given)
items_all ts first given made k past before = before ∙ ap (λ (l : List TItem). map (outlined_item ts first) (map item_of l)) (take_all k given past)

pub statement_more : (ts : List ℕ) (first : ℕ) (given made : List TStmt) (k : ℕ) (c n : TStmt) → k < length given → c ≡ get_or given k c → statement_of n ≡ outlined_statement ts first (statement_of c) → map statement_of made ≡ map (outlined_statement ts first) (map statement_of (take k given)) → map statement_of (made ++ n ∷ []) ≡ map (outlined_statement ts first) (map statement_of (take (k + 1) given))
statement_more ts first given made k c n below is same before =
    map_push statement_of made n
    ∙ ap (λ (l : List Statement). l ++ statement_of n ∷ []) before
    ∙ ap (λ (t : Statement). map (outlined_statement ts first) (map statement_of (take k given)) ++ t ∷ []) (same ∙ ap (λ (t : TStmt). outlined_statement ts first (statement_of t)) is)
    ∙ sym (ap (map (outlined_statement ts first)) (map_more statement_of given k c below) ∙ map_push (outlined_statement ts first) (map statement_of (take k given)) (statement_of (get_or given k c)))

each_statement : (ts : List ℕ) (first : ℕ) (xs : List Statement) → statements_of (map (outlined_statement ts first) xs) ≡ outlined_statements ts first (statements_of xs)
unfolding outlined_statement outlined_statements outlined_arm outlined_arms outlined_last
each_statement ts first [] = refl
each_statement ts first (x ∷ xs) = ap (tree.AndStatement (outlined_statement ts first x)) (each_statement ts first xs)

pub statements_all : (ts : List ℕ) (first : ℕ) (given made : List TStmt) (k : ℕ) → length given ≤ k → map statement_of made ≡ map (outlined_statement ts first) (map statement_of (take k given)) → statements_of (map statement_of made) ≡ outlined_statements ts first (statements_of (map statement_of given))
statements_all ts first given made k past before =
    ap statements_of (before ∙ ap (λ (l : List TStmt). map (outlined_statement ts first) (map statement_of l)) (take_all k given past)) ∙ each_statement ts first (map statement_of given)

pub arm_more : (ts : List ℕ) (first : ℕ) (given made : List TArm) (k : ℕ) (c n : TArm) → k < length given → c ≡ get_or given k c → arm_of n ≡ outlined_arm ts first (arm_of c) → map arm_of made ≡ map (outlined_arm ts first) (map arm_of (take k given)) → map arm_of (made ++ n ∷ []) ≡ map (outlined_arm ts first) (map arm_of (take (k + 1) given))
arm_more ts first given made k c n below is same before =
    map_push arm_of made n
    ∙ ap (λ (l : List Arm). l ++ arm_of n ∷ []) before
    ∙ ap (λ (t : Arm). map (outlined_arm ts first) (map arm_of (take k given)) ++ t ∷ []) (same ∙ ap (λ (t : TArm). outlined_arm ts first (arm_of t)) is)
    ∙ sym (ap (map (outlined_arm ts first)) (map_more arm_of given k c below) ∙ map_push (outlined_arm ts first) (map arm_of (take k given)) (arm_of (get_or given k c)))

each_arm : (ts : List ℕ) (first : ℕ) (xs : List Arm) → arms_of (map (outlined_arm ts first) xs) ≡ outlined_arms ts first (arms_of xs)
unfolding outlined_statement outlined_statements outlined_arm outlined_arms outlined_last
each_arm ts first [] = refl
each_arm ts first (x ∷ xs) = ap (tree.AndArm (outlined_arm ts first x)) (each_arm ts first xs)

pub arms_all : (ts : List ℕ) (first : ℕ) (given made : List TArm) (k : ℕ) → length given ≤ k → map arm_of made ≡ map (outlined_arm ts first) (map arm_of (take k given)) → arms_of (map arm_of made) ≡ outlined_arms ts first (arms_of (map arm_of given))
arms_all ts first given made k past before =
    ap arms_of (before ∙ ap (λ (l : List TArm). map (outlined_arm ts first) (map arm_of l)) (take_all k given past)) ∙ each_arm ts first (map arm_of given)
