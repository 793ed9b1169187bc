-- What the rules say of each kind of statement, as the checker's functions answer it.
use Rattle.std.proofs.Common.{◌≡◌, ℕ, List, [], ◌∷◌, ◌++◌, map, Option, Some, None, Result, Ok, Err, refl, ap, ◌∙◌}
use Rattle.c_ints.specs.Conversions.{promoted}
use Rattle.c_ints.specs.declared.types.IntTy.{IntTy}
use Rattle.c_nodes.proofs.ProgramShapes as shapes
use Rattle.c_nodes.specs.ProgramViews as views
use Rattle.c_nodes.specs.Programs as tree
use Rattle.c_nodes.specs.Programs.{ArmTree, Arms, BlockTree, ConditionTree, HeadTree, Items, Statements, StatementTree}
use Rattle.c_nodes.specs.Trees.{Tree}
use Rattle.c_nodes.specs.Views.{expr_of}
use Rattle.c_nodes.specs.declared.statement.Statement.TheVariants as node
use Rattle.c_typed.specs.Trees as typed
use Rattle.c_typed.specs.Trees.{Expression, Statement}
use Rattle.c_typed.specs.Types.{type_of}
use Rattle.c_typed.specs.Views as shown
use Rattle.c_typed.specs.declared.types.Ty.TheVariants.{Int}
use Rattle.type_rules.specs.Conversions.{converted}
use Rattle.type_rules.specs.Declarations.{block_declarations}
use Rattle.type_rules.specs.Expressions.{value_of}
use Rattle.type_rules.specs.Faults as kind
use Rattle.type_rules.specs.Faults.{Fault}
use Rattle.type_rules.specs.Known.{Known, given, wanted, go_on, ◌>>=◌}
use Rattle.type_rules.specs.Names.{leave}
use Rattle.type_rules.specs.Statements as rule
use Rattle.type_rules.specs.Terms.{Operand}
use Rattle.c_check.specs.StatementViews.{scoped_rule, while_rule, do_rule, for_rule, switch_rule, chain_arms, if_of, switch_of}
use Rattle.c_outline.specs.Flows.{break_rule, continue_rule}

-- ---- lists of typed statements and arms: the rules' are those of the typed trees

pub same_statements : (ss : List Statement) → shown.statements_of ss ≡ rule.statements_of ss
same_statements [] = refl
same_statements (s ∷ ss) = ap (typed.AndStatement s) (same_statements ss)

pub same_arms : (arms : List typed.Arm) → shown.arms_of arms ≡ rule.arms_of arms
same_arms [] = refl
same_arms (a ∷ arms) = ap (typed.AndArm a) (same_arms arms)

pub ruleset as_rules = (same_statements, same_arms)

-- ---- blocks

scoped_behind : (line : ℕ) (first : List Statement) (said : Result (List Statement × Known) Fault) → go_on (λ made. leave >>= (λ _. given made)) (go_on (λ others. given (typed.Block (rule.statements_of (first ++ others)) line)) said) ≡ go_on (λ made. leave >>= (λ _. given (typed.Block (rule.statements_of made) line))) (go_on (λ others. given (first ++ others)) said)
scoped_behind line first (Ok x) = refl
scoped_behind line first (Err fault) = refl

scoped_from : (line : ℕ) (ss : Statements) (flow : rule.Flow) (said : Result (List Statement × Known) Fault) → go_on (λ made. leave >>= (λ _. given made)) (go_on (λ first. rule.statements ss flow >>= (λ others. given (typed.Block (rule.statements_of (first ++ others)) line))) said) ≡ go_on (λ made. leave >>= (λ _. given (typed.Block (rule.statements_of made) line))) (go_on (λ first. rule.statements ss flow >>= (λ others. given (first ++ others))) said)
scoped_from line ss flow (Ok x) = scoped_behind line x.0 (rule.statements ss flow x.1)
scoped_from line ss flow (Err fault) = refl

clause_braced : (b : BlockTree) (flow : rule.Flow) (known : Known) → rule.statement (tree.Braced b) flow known ≡ scoped_rule b flow known
unfolding rule.statement rule.block_statement
clause_braced (tree.Block line ds ss closing) flow known = scoped_from line ss flow (block_declarations ds (record known { scopes = [] ∷ known.scopes }))

pub node_block : (inner : _) (flow : rule.Flow) (known : Known) → rule.statement (views.statement_of (node.Block inner)) flow known ≡ scoped_rule (views.block_of inner) flow known
node_block inner flow known = ap (λ s. rule.statement s flow known) (shapes.show_statement_block inner) ∙ clause_braced (views.block_of inner) flow known

-- ---- expressions, `return`, `break`, `continue`

clause_plain : (e : Option Tree) (semicolon : ℕ) (flow : rule.Flow) (known : Known) → rule.statement (tree.Plain e semicolon) flow known ≡ rule.plain_statement e semicolon known
unfolding rule.statement
clause_plain e semicolon flow known = refl

pub node_expr : (expr : _) (semicolon : _) (flow : rule.Flow) (known : Known) → rule.statement (views.statement_of (node.Expr expr semicolon)) flow known ≡ rule.plain_statement (views.any_of expr) semicolon known
node_expr expr semicolon flow known = ap (λ s. rule.statement s flow known) (shapes.show_statement_expr expr semicolon) ∙ clause_plain (views.any_of expr) semicolon flow known

clause_return : (line : ℕ) (e : Option Tree) (semicolon : ℕ) (flow : rule.Flow) (known : Known) → rule.statement (tree.Return line e semicolon) flow known ≡ rule.return_statement e line known
unfolding rule.statement
clause_return line e semicolon flow known = refl

pub node_return : (keyword : _) (value : _) (semicolon : _) (flow : rule.Flow) (known : Known) → rule.statement (views.statement_of (node.Return keyword value semicolon)) flow known ≡ rule.return_statement (views.any_of value) keyword known
node_return keyword value semicolon flow known = ap (λ s. rule.statement s flow known) (shapes.show_statement_return keyword value semicolon) ∙ clause_return keyword (views.any_of value) semicolon flow known

clause_break : (line semicolon : ℕ) (flow : rule.Flow) (known : Known) → rule.statement (tree.Break line semicolon) flow known ≡ break_rule flow line known
unfolding rule.statement
clause_break line semicolon flow known = refl

pub node_break : (keyword : _) (semicolon : _) (flow : rule.Flow) (known : Known) → rule.statement (views.statement_of (node.Break keyword semicolon)) flow known ≡ break_rule flow keyword known
node_break keyword semicolon flow known = ap (λ s. rule.statement s flow known) (shapes.show_statement_break keyword semicolon) ∙ clause_break keyword semicolon flow known

clause_continue : (line semicolon : ℕ) (flow : rule.Flow) (known : Known) → rule.statement (tree.Continue line semicolon) flow known ≡ continue_rule flow line known
unfolding rule.statement
clause_continue line semicolon flow known = refl

pub node_continue : (keyword : _) (semicolon : _) (flow : rule.Flow) (known : Known) → rule.statement (views.statement_of (node.Continue keyword semicolon)) flow known ≡ continue_rule flow keyword known
node_continue keyword semicolon flow known = ap (λ s. rule.statement s flow known) (shapes.show_statement_continue keyword semicolon) ∙ clause_continue keyword semicolon flow known

-- ---- loops

clause_while : (line : ℕ) (c : ConditionTree) (s : StatementTree) (flow : rule.Flow) (known : Known) → rule.statement (tree.While line c s) flow known ≡ while_rule c.expr s line known
unfolding rule.statement
clause_while line c s flow known = refl

pub node_while : (keyword : _) (condition : _) (body : _) (flow : rule.Flow) (known : Known) → rule.statement (views.statement_of (node.While keyword condition body)) flow known ≡ while_rule (expr_of condition.expr) (views.statement_of body.value) keyword known
node_while keyword condition body flow known = ap (λ s. rule.statement s flow known) (shapes.show_statement_while keyword condition body) ∙ clause_while keyword (views.condition_of condition) (views.statement_of body.value) flow known

clause_do : (line : ℕ) (s : StatementTree) (word : ℕ) (c : ConditionTree) (semicolon : ℕ) (flow : rule.Flow) (known : Known) → rule.statement (tree.Do line s word c semicolon) flow known ≡ do_rule c.expr s line known
unfolding rule.statement
clause_do line s word c semicolon flow known = refl

pub node_do : (keyword : _) (body : _) (while_keyword : _) (condition : _) (semicolon : _) (flow : rule.Flow) (known : Known) → rule.statement (views.statement_of (node.Do keyword body while_keyword condition semicolon)) flow known ≡ do_rule (expr_of condition.expr) (views.statement_of body.value) keyword known
node_do keyword body while_keyword condition semicolon flow known = ap (λ s. rule.statement s flow known) (shapes.show_statement_do keyword body while_keyword condition semicolon) ∙ clause_do keyword (views.statement_of body.value) while_keyword (views.condition_of condition) semicolon flow known

clause_for : (line : ℕ) (h : HeadTree) (s : StatementTree) (flow : rule.Flow) (known : Known) → rule.statement (tree.For line h s) flow known ≡ for_rule h s line known
unfolding rule.statement
clause_for line h s flow known = refl

pub node_for : (keyword : _) (head : _) (body : _) (flow : rule.Flow) (known : Known) → rule.statement (views.statement_of (node.For keyword head body)) flow known ≡ for_rule (views.head_of head.value) (views.statement_of body.value) keyword known
node_for keyword head body flow known = ap (λ s. rule.statement s flow known) (shapes.show_statement_for keyword head body) ∙ clause_for keyword (views.head_of head.value) (views.statement_of body.value) flow known

-- ---- `switch`

switched_at : (x : Operand) (mid : Known) (is : Items) (flow : rule.Flow) (line : ℕ) (found : Option IntTy) →
    go_on (λ ty. rule.items is (rule.in_switch flow) (promoted ty) rule.no_items >>= (λ body. given (typed.Switch (converted x (Int (promoted ty))) body.cases body.default (rule.statements_of body.statements) line))) (wanted kind.Operand x.line found mid)
    ≡ go_on (λ (s : Expression × IntTy). rule.items is (rule.in_switch flow) s.1 rule.no_items >>= (λ body. given (switch_of s.0 body line))) (go_on (λ ty. given (converted x (Int (promoted ty)), promoted ty)) (wanted kind.Operand x.line found mid))
switched_at x mid is flow line (Some ty) = refl
switched_at x mid is flow line None = refl

switched_from : (is : Items) (flow : rule.Flow) (line : ℕ) (said : Result (Operand × Known) Fault) →
    go_on (λ x. wanted kind.Operand x.line (rule.int_of (type_of x.value)) >>= (λ ty. rule.items is (rule.in_switch flow) (promoted ty) rule.no_items >>= (λ body. given (typed.Switch (converted x (Int (promoted ty))) body.cases body.default (rule.statements_of body.statements) line)))) said
    ≡ go_on (λ (s : Expression × IntTy). rule.items is (rule.in_switch flow) s.1 rule.no_items >>= (λ body. given (switch_of s.0 body line))) (go_on (λ x. wanted kind.Operand x.line (rule.int_of (type_of x.value)) >>= (λ ty. given (converted x (Int (promoted ty)), promoted ty))) said)
switched_from is flow line (Ok x) = switched_at x.0 x.1 is flow line (rule.int_of (type_of (x.0).value))
switched_from is flow line (Err fault) = refl

clause_switch : (line : ℕ) (c : ConditionTree) (opening : ℕ) (is : Items) (closing : ℕ) (flow : rule.Flow) (known : Known) → rule.statement (tree.Switch line c opening is closing) flow known ≡ switch_rule c.expr is flow line known
unfolding rule.statement
clause_switch line c opening is closing flow known = switched_from is flow line (value_of c.expr known)

pub node_switch : (keyword : _) (value : _) (opening : _) (items : _) (closing : _) (flow : rule.Flow) (known : Known) → rule.statement (views.statement_of (node.Switch keyword value opening items closing)) flow known ≡ switch_rule (expr_of value.expr) (views.items_of (map views.switch_item_of items.items)) flow keyword known
node_switch keyword value opening items closing flow known = ap (λ s. rule.statement s flow known) (shapes.show_statement_switch keyword value opening items closing) ∙ clause_switch keyword (views.condition_of value) opening (views.items_of (map views.switch_item_of items.items)) closing flow known

-- ---- `if`

pub node_if : (chain : _) (flow : rule.Flow) (known : Known) → rule.statement (views.statement_of (node.If chain)) flow known ≡ rule.statement (views.if_chain_of chain) flow known
node_if chain flow known = ap (λ s. rule.statement s flow known) (shapes.show_statement_if chain)

pub ruleset nodes = (node_block, node_expr, node_return, node_break, node_continue, node_while, node_do, node_for, node_switch, node_if)

chained : (line : ℕ) (first : typed.Arm) (said : Result (rule.Others × Known) Fault) → go_on (λ others. given (typed.If (rule.arms_of (first ∷ others.0)) (rule.last_of others.1) line)) said ≡ go_on (λ made. given (if_of made line)) (go_on (λ made. given ((first ∷ []) ++ made.0, made.1)) said)
chained line first (Ok x) = refl
chained line first (Err fault) = refl

chained_from : (line : ℕ) (others : Arms) (flow : rule.Flow) (said : Result (typed.Arm × Known) Fault) →
    go_on (λ first. rule.other_arms others flow >>= (λ made. given (typed.If (rule.arms_of (first ∷ made.0)) (rule.last_of made.1) line))) said
    ≡ go_on (λ made. given (if_of made line)) (go_on (λ first. rule.other_arms others flow >>= (λ made. given ((first ∷ []) ++ made.0, made.1))) said)
chained_from line others flow (Ok x) = chained line x.0 (rule.other_arms others flow x.1)
chained_from line others flow (Err fault) = refl

pub clause_chain : (first : ArmTree) (others : Arms) (flow : rule.Flow) (known : Known) → rule.statement (tree.Chain first others) flow known ≡ (chain_arms first others flow >>= (λ made. given (if_of made (rule.arm_line first)))) known
unfolding rule.statement
clause_chain first others flow known = chained_from (rule.arm_line first) others flow (rule.arm first flow known)
