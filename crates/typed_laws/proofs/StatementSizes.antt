-- Statements: at most three nodes, static objects and locals for each token.
use Rattle.std.proofs.Common.{◌≡◌, ℕ, ◌+◌, ◌*◌, ◌≤◌, not, List, [], ◌∷◌, ◌++◌, length, Option, Some, None, is_some, refl, arith, length-append}
use Rattle.c_ints.specs.Conversions.{promoted}
use Rattle.c_ints.specs.Operators.{cut_to}
use Rattle.c_ints.specs.declared.types.IntTy.{IntTy}
use Rattle.c_token.specs.declared.token.Punct.TheVariants as marks
use Rattle.c_nodes.specs.Programs as tree
use Rattle.c_nodes.specs.Programs.{ConditionTree, HeadTree, LabelTree, StatementTree, BlockTree, Statements, ArmTree, Arms, Items, spelled_any, spelled_condition, spelled_head, spelled_label, spelled_declarations, spelled_statement, spelled_block, spelled_statements, spelled_arm, spelled_arms, spelled_items}
use Rattle.c_nodes.specs.Trees.{Tree, spelled}
use Rattle.c_nodes.specs.Words.{Symbol, Symbols, punct}
use Rattle.c_typed.specs.Sameness.{is_void, is_scalar}
use Rattle.c_typed.specs.TreeNodes.{nodes_in, nodes_in_any, statement_nodes, nodes_of_body, arm_nodes, arms_nodes, last_nodes}
use Rattle.c_typed.specs.Trees as typed
use Rattle.c_typed.specs.Trees.{Expression, Statement}
use Rattle.c_typed.specs.Types.{type_of}
use Rattle.c_typed.specs.declared.statement.LoopForm.TheVariants as loops
use Rattle.c_typed.specs.declared.statement.TCase.{TCase}
use Rattle.c_typed.specs.declared.types.Ty.TheVariants.{Int}
use Rattle.type_rules.specs.Conversions.{converted, assigned}
use Rattle.type_rules.specs.Faults as kind
use Rattle.type_rules.specs.Known.{Known, given, go_on}
use Rattle.type_rules.specs.Names.{enter, leave}
use Rattle.type_rules.specs.Statements.{Flow, outside, in_loop, in_switch, condition, value_if_any, condition_if_any, plain_statement, return_statement, int_of, SwitchBody, no_items, stands_already, case_added, label_rule, statements_of, arms_of, last_of, arm_line, statement, block_statement, statements, arm, other_arms, items, body_statements}
use Rattle.type_rules.specs.Terms.{Operand}
use Rattle.typed_laws.specs.Weights.{Met, held, Costs, nothing, operand_nodes, value_size, Spends, body_nodes, others_nodes, switch_nodes}
use Rattle.typed_laws.proofs.DeclarationSizes.{joined_nodes, no_nodes, block_declarations_met}
use Rattle.typed_laws.proofs.EnumeratorSizes.{constant_met}
use Rattle.typed_laws.proofs.ExpressionSizes.{value_of_met}
use Rattle.typed_laws.proofs.StepSizes.{met_given, met_on, met_tried, met_wanted, met_weaker, met_kept}
use Rattle.typed_laws.proofs.ValueSizes.{converted_nodes, assigned_met}

-- ---- expressions of statements

condition_met : (h : ℕ) (e : Tree) (known : Known) → held known ≤ h → Met (Costs h (3 * length (spelled e)) value_size) (condition e known)
condition_met h e known within = met_on (Costs h (3 * length (spelled e)) operand_nodes) _ _ _ (value_of_met e h known within)
    (λ x k c. met_tried _ ((not (is_scalar (type_of x.value)), kind.Operand) ∷ []) x.line k (λ u. given x.value) (met_given _ _ _ (record { light = c.light; within = c.within })))

any_met : (h : ℕ) (e : Option Tree) (known : Known) → held known ≤ h → Met (Costs h (3 * length (spelled_any e)) nodes_in_any) (value_if_any e known)
any_met h None known within = met_given _ _ _ (record { light = omega arith; within = within })
any_met h (Some e) known within = met_on (Costs h (3 * length (spelled e)) operand_nodes) _ _ _ (value_of_met e h known within) (λ x k c. met_given _ _ _ (record { light = omega arith; within = c.within }))

any_condition_met : (h : ℕ) (e : Option Tree) (known : Known) → held known ≤ h → Met (Costs h (3 * length (spelled_any e)) nodes_in_any) (condition_if_any e known)
any_condition_met h None known within = met_given _ _ _ (record { light = omega arith; within = within })
any_condition_met h (Some e) known within = met_on (Costs h (3 * length (spelled e)) value_size) _ _ _ (condition_met h e known within) (λ c k d. met_given _ _ _ (record { light = omega arith; within = d.within }))

-- ---- single statements

plain_met : (e : Option Tree) (line : ℕ) (known : Known) → Met (Spends (held known + 3 * (length (spelled_any e) + 1)) statement_nodes) (plain_statement e line known)
unfolding statement_nodes nodes_of_body arm_nodes arms_nodes last_nodes
plain_met None line known = met_given _ _ _ (omega arith)
plain_met (Some e) line known = met_on (Costs (held known) (3 * length (spelled e)) operand_nodes) _ _ _ (value_of_met e (held known) known (omega arith)) (λ x k c. met_given _ _ _ (omega arith))

return_met : (e : Option Tree) (line : ℕ) (known : Known) → Met (Spends (held known + 3 * (length (spelled_any e) + 1)) statement_nodes) (return_statement e line known)
unfolding statement_nodes nodes_of_body arm_nodes arms_nodes last_nodes
return_met None line known = met_tried _ ((not (is_void (known.body).result), kind.Return) ∷ []) line known (λ u. given (typed.Return None line)) (met_given _ _ _ (omega arith))
return_met (Some e) line known = met_on (Costs (held known) (3 * length (spelled e)) operand_nodes) _ _ _ (value_of_met e (held known) known (omega arith))
    (λ x k c. met_tried _ ((is_void (k.body).result, kind.Return) ∷ []) line k (λ u. λ k2. go_on (λ value. given (typed.Return (Some value) line)) (assigned x (k.body).result line k2))
    (met_on (Costs (held known) (3 * length (spelled e)) nodes_in) _ _ (λ value. given (typed.Return (Some value) line)) (assigned_met (held known) (3 * length (spelled e)) x (k.body).result line k c.light c.within)
    (λ value k2 c2. met_given _ _ _ (omega arith))))

-- ---- switches

label_met : (l : LabelTree) (ty : IntTy) (body : SwitchBody) (known : Known) → Met (Spends (held known + switch_nodes body + 3 * length (spelled_label l)) switch_nodes) (label_rule l ty body known)
label_met (tree.Case line e colon) ty body known = met_on (Costs (held known) 0 nothing) _ _ _ (constant_met (held known) e known (omega arith))
    (λ v k c. met_tried _ ((stands_already body.cases (cut_to ty v.number), kind.Jump) ∷ []) line k (λ u. given (case_added body (cut_to ty v.number) line))
    (met_given _ _ _ (omega (arith, length-append {A = TCase}))))
label_met (tree.Default line colon) ty body known = met_tried _ ((is_some body.default, kind.Jump) ∷ []) line known (λ u. given (record body { default = Some (length body.statements) })) (met_given _ _ _ (omega arith))

one_nodes : (s : Statement) → body_nodes (s ∷ []) ≡ statement_nodes s
unfolding statement_nodes nodes_of_body arm_nodes arms_nodes last_nodes
one_nodes s = omega arith

first_nodes : (s : Statement) (ss : List Statement) → body_nodes (s ∷ ss) ≡ statement_nodes s + body_nodes ss
unfolding statement_nodes nodes_of_body arm_nodes arms_nodes last_nodes
first_nodes s ss = refl

switch_made : (n : ℕ) (x : Operand) (ty : IntTy) (body : SwitchBody) (line : ℕ) → operand_nodes x ≤ n → statement_nodes (typed.Switch (converted x (Int ty)) body.cases body.default (statements_of body.statements) line) ≤ 1 + n + switch_nodes body
unfolding statement_nodes nodes_of_body arm_nodes arms_nodes last_nodes
switch_made n x ty body line light = omega (arith, converted_nodes x (Int ty))

none_made : switch_nodes no_items ≡ 0
unfolding statement_nodes nodes_of_body arm_nodes arms_nodes last_nodes
none_made = refl

-- ---- tokens

condition_tokens : (c : ConditionTree) (rest : Symbols) → length (spelled_condition c ++ rest) ≡ length (spelled c.expr) + 2 + length rest
condition_tokens c rest = omega (arith, length-append (spelled c.expr ++ punct marks.RightParenthesis c.closing ∷ []) rest, length-append (spelled c.expr) (punct marks.RightParenthesis c.closing ∷ []))

head_tokens : (h : HeadTree) (rest : Symbols) → length (spelled_head h ++ rest) ≡ length (spelled_any h.begin) + (length (spelled_any h.condition) + length (spelled_any h.step)) + 4 + length rest
head_tokens h rest = omega (
  arith,
  length-append (spelled_head h) rest,
  length-append (spelled_any h.begin) (punct marks.Semicolon h.first ∷ (spelled_any h.condition ++ punct marks.Semicolon h.second ∷ (spelled_any h.step ++ punct marks.RightParenthesis h.closing ∷ []))),
  length-append (spelled_any h.condition) (punct marks.Semicolon h.second ∷ (spelled_any h.step ++ punct marks.RightParenthesis h.closing ∷ [])),
  length-append (spelled_any h.step) (punct marks.RightParenthesis h.closing ∷ []),
)

-- ---- the recursion

mutual
  unfolding statement block_statement statements arm other_arms items statement_nodes nodes_of_body arm_nodes arms_nodes last_nodes

  pub statement_met : (s : StatementTree) (flow : Flow) (known : Known) → Met (Spends (held known + 3 * length (spelled_statement s)) statement_nodes) (statement s flow known)
  statement_met (tree.Braced b) flow known = met_on (Costs (held known) 0 nothing) _ (enter known) (λ u. λ k. go_on (λ made. λ k2. go_on (λ v. given made) (leave k2)) (block_statement b flow k)) (met_kept (held known) _ _ (omega arith))
      (λ u k c. met_on (Spends (held k + 3 * length (spelled_block b)) statement_nodes) _ _ (λ made. λ k2. go_on (λ v. given made) (leave k2)) (block_met b flow k) (λ made k2 g. met_given _ made _ (omega arith)))
  statement_met (tree.Plain e semicolon) flow known = met_weaker (Spends (held known + 3 * (length (spelled_any e) + 1)) statement_nodes) _ _ (λ s k g. omega (arith, length-append {A = Symbol})) (plain_met e semicolon known)
  statement_met (tree.Chain a as_) flow known = met_on (Spends (held known + 3 * length (spelled_arm a)) arm_nodes) _ _ _ (arm_met a flow known)
      (λ first k g. met_on (Spends (held k + 3 * length (spelled_arms as_)) others_nodes) _ _ (λ others. given (typed.If (arms_of (first ∷ others.0)) (last_of others.1) (arm_line a))) (other_arms_met as_ flow k)
      (λ others k2 g2. met_given _ _ _ (omega (arith, length-append (spelled_arm a) (spelled_arms as_)))))
  statement_met (tree.While line c s) flow known = met_on (Costs (held known) (3 * length (spelled c.expr)) value_size) _ _ _ (condition_met (held known) c.expr known (omega arith))
      (λ e k d. met_on (Spends (held k + 3 * length (spelled_statement s)) statement_nodes) _ _ (λ body. given (typed.Loop loops.While None (Some e) None body line)) (statement_met s in_loop k)
      (λ body k2 g. met_given _ _ _ (omega (arith, condition_tokens c (spelled_statement s)))))
  statement_met (tree.Do line s word c semicolon) flow known = met_on (Spends (held known + 3 * length (spelled_statement s)) statement_nodes) _ _ _ (statement_met s in_loop known)
      (λ body k g. met_on (Costs (held k) (3 * length (spelled c.expr)) value_size) _ _ (λ e. given (typed.Loop loops.Do None (Some e) None body line)) (condition_met (held k) c.expr k (omega arith))
      (λ e k2 d. met_given _ _ _ (omega (arith, condition_tokens c (punct marks.Semicolon semicolon ∷ []), length-append {A = Symbol}))))
  statement_met (tree.For line h s) flow known = met_on (Costs (held known) (3 * length (spelled_any h.begin)) nodes_in_any) _ _ _ (any_met (held known) h.begin known (omega arith))
      (λ begin k1 d1. met_on (Costs (held known) (3 * length (spelled_any h.condition)) nodes_in_any) _ _ _ (any_condition_met (held known) h.condition k1 d1.within)
      (λ e k2 d2. met_on (Costs (held known) (3 * length (spelled_any h.step)) nodes_in_any) _ _ _ (any_met (held known) h.step k2 d2.within)
      (λ step k3 d3. met_on (Spends (held k3 + 3 * length (spelled_statement s)) statement_nodes) _ _ (λ body. given (typed.Loop loops.For begin e step body line)) (statement_met s in_loop k3)
      (λ body k4 g. met_given _ _ _ (omega (arith, head_tokens h (spelled_statement s)))))))
  statement_met (tree.Switch line c opening is closing) flow known = met_on (Costs (held known) (3 * length (spelled c.expr)) operand_nodes) _ _ _ (value_of_met c.expr (held known) known (omega arith))
      (λ x k d. met_wanted _ kind.Operand x.line (int_of (type_of x.value)) k _
      (λ ty found. met_on (Spends (held k + switch_nodes no_items + 3 * length (spelled_items is)) switch_nodes) _ _ (λ body. given (typed.Switch (converted x (Int (promoted ty))) body.cases body.default (statements_of body.statements) line)) (items_met is (in_switch flow) (promoted ty) no_items k)
      (λ body k2 g. met_given _ _ _ (omega (arith, switch_made (3 * length (spelled c.expr)) x (promoted ty) body line d.light, none_made, condition_tokens c (punct marks.LeftBrace opening ∷ (spelled_items is ++ punct marks.RightBrace closing ∷ [])), length-append (spelled_items is) (punct marks.RightBrace closing ∷ []))))))
  statement_met (tree.Break line semicolon) flow known = met_tried _ ((not flow.breaks, kind.Jump) ∷ []) line known (λ u. given (typed.Break line)) (met_given _ _ _ (omega arith))
  statement_met (tree.Continue line semicolon) flow known = met_tried _ ((not flow.continues, kind.Jump) ∷ []) line known (λ u. given (typed.Continue line)) (met_given _ _ _ (omega arith))
  statement_met (tree.Return line e semicolon) flow known = met_weaker (Spends (held known + 3 * (length (spelled_any e) + 1)) statement_nodes) _ _ (λ s k g. omega (arith, length-append {A = Symbol})) (return_met e line known)

  block_met : (b : BlockTree) (flow : Flow) (known : Known) → Met (Spends (held known + 3 * length (spelled_block b)) statement_nodes) (block_statement b flow known)
  block_met (tree.Block line ds ss closing) flow known = met_on (Spends (held known + 3 * length (spelled_declarations ds)) body_nodes) _ _ _ (block_declarations_met ds known)
      (λ first k g. met_on (Spends (held k + 3 * length (spelled_statements ss)) body_nodes) _ _ (λ others. given (typed.Block (statements_of (first ++ others)) line)) (statements_met ss flow k)
      (λ others k2 g2. met_given _ _ _ (omega (arith, joined_nodes first others, length-append {A = Symbol}))))

  pub statements_met : (ss : Statements) (flow : Flow) (known : Known) → Met (Spends (held known + 3 * length (spelled_statements ss)) body_nodes) (statements ss flow known)
  statements_met tree.NoStatement flow known = met_given _ _ _ (omega (arith, no_nodes))
  statements_met (tree.AndStatement s ss) flow known = met_on (Spends (held known + 3 * length (spelled_statement s)) statement_nodes) _ _ _ (statement_met s flow known)
      (λ first k g. met_on (Spends (held k + 3 * length (spelled_statements ss)) body_nodes) _ _ (λ others. given (first ∷ others)) (statements_met ss flow k)
      (λ others k2 g2. met_given _ _ _ (omega (arith, first_nodes first others, length-append (spelled_statement s) (spelled_statements ss)))))

  arm_met : (a : ArmTree) (flow : Flow) (known : Known) → Met (Spends (held known + 3 * length (spelled_arm a)) arm_nodes) (arm a flow known)
  arm_met (tree.Arm line c s) flow known = met_on (Costs (held known) (3 * length (spelled c.expr)) value_size) _ _ _ (condition_met (held known) c.expr known (omega arith))
      (λ e k d. met_on (Spends (held k + 3 * length (spelled_statement s)) statement_nodes) _ _ (λ made. given (typed.OneArm e made line)) (statement_met s flow k)
      (λ made k2 g. met_given _ _ _ (omega (arith, condition_tokens c (spelled_statement s)))))

  other_arms_met : (as_ : Arms) (flow : Flow) (known : Known) → Met (Spends (held known + 3 * length (spelled_arms as_)) others_nodes) (other_arms as_ flow known)
  other_arms_met tree.NoElse flow known = met_given _ _ _ (omega arith)
  other_arms_met (tree.Else line s) flow known = met_on (Spends (held known + 3 * length (spelled_statement s)) statement_nodes) _ _ _ (statement_met s flow known) (λ last k g. met_given _ _ _ (omega arith))
  other_arms_met (tree.ElseIf line a as_) flow known = met_on (Spends (held known + 3 * length (spelled_arm a)) arm_nodes) _ _ _ (arm_met a flow known)
      (λ first k g. met_on (Spends (held k + 3 * length (spelled_arms as_)) others_nodes) _ _ (λ others. given (first ∷ others.0, others.1)) (other_arms_met as_ flow k)
      (λ others k2 g2. met_given _ _ _ (omega (arith, length-append (spelled_arm a) (spelled_arms as_)))))

  items_met : (is : Items) (flow : Flow) (ty : IntTy) (body : SwitchBody) (known : Known) → Met (Spends (held known + switch_nodes body + 3 * length (spelled_items is)) switch_nodes) (items is flow ty body known)
  items_met tree.NoItem flow ty body known = met_given _ _ _ (omega arith)
  items_met (tree.AndLabel l is) flow ty body known = met_on (Spends (held known + switch_nodes body + 3 * length (spelled_label l)) switch_nodes) _ _ _ (label_met l ty body known)
      (λ next k g. met_weaker (Spends (held k + switch_nodes next + 3 * length (spelled_items is)) switch_nodes) _ _ (λ b k2 g2. omega (arith, length-append (spelled_label l) (spelled_items is))) (items_met is flow ty next k))
  items_met (tree.AndInner s is) flow ty body known = met_on (Spends (held known + 3 * length (spelled_statement s)) statement_nodes) _ _ _ (statement_met s flow known)
      (λ made k g. met_weaker (Spends (held k + switch_nodes (record body { statements = body.statements ++ made ∷ [] }) + 3 * length (spelled_items is)) switch_nodes) _ _
      (λ b k2 g2. omega (arith, joined_nodes body.statements (made ∷ []), one_nodes made, length-append (spelled_statement s) (spelled_items is))) (items_met is flow ty (record body { statements = body.statements ++ made ∷ [] }) k))

-- The body of a function.
pub body_met : (b : BlockTree) (known : Known) → Met (Spends (held known + 3 * length (spelled_block b)) nodes_of_body) (body_statements b known)
body_met (tree.Block opening ds ss closing) known = met_on (Spends (held known + 3 * length (spelled_declarations ds)) body_nodes) _ _ _ (block_declarations_met ds known)
    (λ first k g. met_on (Spends (held k + 3 * length (spelled_statements ss)) body_nodes) _ _ (λ others. given (statements_of (first ++ others))) (statements_met ss outside k)
    (λ others k2 g2. met_given _ _ _ (omega (arith, joined_nodes first others, length-append {A = Symbol}))))
