-- Statements: the declarators of their blocks have names of the text.
use Rattle.std.proofs.Common.{◌≡◌, ℕ, true, not, List, [], ◌∷◌, ◌++◌, length, Option, Some, None, is_some}
use Rattle.c_ints.specs.Conversions.{promoted}
use Rattle.c_ints.specs.Operators.{cut_to}
use Rattle.c_ints.specs.declared.types.IntTy.{IntTy}
use Rattle.c_token.specs.Longest.{is_word}
use Rattle.c_token.specs.declared.token.Keyword.TheVariants as keywords
use Rattle.c_token.specs.declared.token.Punct.TheVariants as marks
use Rattle.c_nodes.specs.Programs as tree
use Rattle.c_nodes.specs.Programs.{LabelTree, StatementTree, BlockTree, Statements, ArmTree, Arms, Items, spelled_condition, spelled_head, spelled_label, spelled_declarations, spelled_statement, spelled_block, spelled_statements, spelled_arm, spelled_arms, spelled_items, IsStatement, IsBlock, AreStatements, IsArm, AreArms, AreItems}
use Rattle.c_nodes.specs.Trees.{Tree}
use Rattle.c_nodes.specs.Words.{key, punct}
use Rattle.c_typed.specs.Sameness.{is_void, is_scalar}
use Rattle.c_typed.specs.Trees as typed
use Rattle.c_typed.specs.Types.{type_of}
use Rattle.c_typed.specs.declared.statement.LoopForm.TheVariants as loops
use Rattle.c_typed.specs.declared.types.Ty.TheVariants.{Int}
use Rattle.type_rules.specs.Conversions.{converted, assigned}
use Rattle.type_rules.specs.Faults as kind
use Rattle.type_rules.specs.Known.{Known, given, go_on}
use Rattle.type_rules.specs.Names.{enter, leave}
use Rattle.type_rules.specs.Statements.{Flow, outside, in_loop, in_switch, condition, value_if_any, condition_if_any, plain_statement, return_statement, int_of, SwitchBody, no_items, stands_already, case_added, label_rule, statements_of, arms_of, last_of, arm_line, statement, block_statement, statements, arm, other_arms, items, body_statements}
use Rattle.program_laws.specs.Named.{AreWords, Held, Stays}
use Rattle.program_laws.proofs.Declarations.{block_declarations_stay}
use Rattle.program_laws.proofs.Enumerators.{constant_stays}
use Rattle.program_laws.proofs.Expressions.{value_of_stays}
use Rattle.program_laws.proofs.Steps.{stays_given, stays_on, stays_tried, stays_wanted}
use Rattle.program_laws.proofs.Values.{assigned_stays}
use Rattle.program_laws.proofs.Words.{words_left, words_right}

-- ---- expressions of statements, and single statements

module _ (whose : List ℕ) where
  condition_stays : (e : Tree) (known : Known) → Held whose known → Stays whose (condition e known)
  condition_stays e known held = stays_on _ _ _ (value_of_stays e whose known held)
      (λ x k g. stays_tried _ ((not (is_scalar (type_of x.value)), kind.Operand) ∷ []) x.line k (λ u. given x.value) (stays_given _ _ g))

  any_stays : (e : Option Tree) (known : Known) → Held whose known → Stays whose (value_if_any e known)
  any_stays None known held = stays_given _ _ held
  any_stays (Some e) known held = stays_on _ _ _ (value_of_stays e whose known held) (λ x k g. stays_given _ _ g)

  any_condition_stays : (e : Option Tree) (known : Known) → Held whose known → Stays whose (condition_if_any e known)
  any_condition_stays None known held = stays_given _ _ held
  any_condition_stays (Some e) known held = stays_on _ _ _ (condition_stays e known held) (λ c k g. stays_given _ _ g)

  plain_stays : (e : Option Tree) (line : ℕ) (known : Known) → Held whose known → Stays whose (plain_statement e line known)
  plain_stays None line known held = stays_given _ _ held
  plain_stays (Some e) line known held = stays_on _ _ _ (value_of_stays e whose known held) (λ x k g. stays_given _ _ g)

  return_stays : (e : Option Tree) (line : ℕ) (known : Known) → Held whose known → Stays whose (return_statement e line known)
  return_stays None line known held = stays_tried _ ((not (is_void (known.body).result), kind.Return) ∷ []) line known (λ u. given (typed.Return None line)) (stays_given _ _ held)
  return_stays (Some e) line known held = stays_on _ _ _ (value_of_stays e whose known held)
      (λ x k g. stays_tried _ ((is_void (k.body).result, kind.Return) ∷ []) line k (λ u. λ k2. go_on (λ value. given (typed.Return (Some value) line)) (assigned x (k.body).result line k2))
      (stays_on _ _ (λ value. given (typed.Return (Some value) line)) (assigned_stays whose x (k.body).result line k g) (λ value k2 g2. stays_given _ _ g2)))

  label_stays : (l : LabelTree) (ty : IntTy) (body : SwitchBody) (known : Known) → Held whose known → Stays whose (label_rule l ty body known)
  label_stays (tree.Case line e colon) ty body known held = stays_on _ _ _ (constant_stays whose e known held)
      (λ v k g. stays_tried _ ((stands_already body.cases (cut_to ty v.number), kind.Jump) ∷ []) line k (λ u. given (case_added body (cut_to ty v.number) line)) (stays_given _ _ g))
  label_stays (tree.Default line colon) ty body known held = stays_tried _ ((is_some body.default, kind.Jump) ∷ []) line known (λ u. given (record body { default = Some (length body.statements) })) (stays_given _ _ held)

-- ---- the recursion

mutual
  unfolding statement block_statement statements arm other_arms items

  pub statement_stays : (s : StatementTree) (whose : List ℕ) (word : is_word whose ≡ true) (flow : Flow) (known : Known) → IsStatement s → AreWords (spelled_statement s) → Held whose known → Stays whose (statement s flow known)
  statement_stays (tree.Braced b) whose word flow known is words held = stays_on _ (enter known) (λ u. λ k. go_on (λ made. λ k2. go_on (λ v. given made) (leave k2)) (block_statement b flow k)) (stays_given _ _ held)
      (λ u k g. stays_on _ _ (λ made. λ k2. go_on (λ v. given made) (leave k2)) (block_stays b whose word flow k is words g) (λ made k2 g2. stays_given made _ g2))
  statement_stays (tree.Plain e semicolon) whose word flow known is words held = plain_stays whose e semicolon known held
  statement_stays (tree.Chain a as_) whose word flow known is words held = stays_on _ _ _ (arm_stays a whose word flow known is.0 (words_left (spelled_arm a) (spelled_arms as_) words) held)
      (λ first k g. stays_on _ _ (λ others. given (typed.If (arms_of (first ∷ others.0)) (last_of others.1) (arm_line a))) (other_arms_stay as_ whose word flow k is.1 (words_right (spelled_arm a) (spelled_arms as_) words) g)
      (λ others k2 g2. stays_given _ _ g2))
  statement_stays (tree.While line c s) whose word flow known is words held = stays_on _ _ _ (condition_stays whose c.expr known held)
      (λ e k g. stays_on _ _ (λ body. given (typed.Loop loops.While None (Some e) None body line)) (statement_stays s whose word in_loop k is.1 (words_right (spelled_condition c) (spelled_statement s) words.1) g)
      (λ body k2 g2. stays_given _ _ g2))
  statement_stays (tree.Do line s word_line c semicolon) whose word flow known is words held = stays_on _ _ _ (statement_stays s whose word in_loop known is.0 (words_left (spelled_statement s) (key keywords.While word_line ∷ (spelled_condition c ++ punct marks.Semicolon semicolon ∷ [])) words.1) held)
      (λ body k g. stays_on _ _ (λ e. given (typed.Loop loops.Do None (Some e) None body line)) (condition_stays whose c.expr k g) (λ e k2 g2. stays_given _ _ g2))
  statement_stays (tree.For line h s) whose word flow known is words held = stays_on _ _ _ (any_stays whose h.begin known held)
      (λ begin k g. stays_on _ _ _ (any_condition_stays whose h.condition k g)
      (λ e k2 g2. stays_on _ _ _ (any_stays whose h.step k2 g2)
      (λ step k3 g3. stays_on _ _ (λ body. given (typed.Loop loops.For begin e step body line)) (statement_stays s whose word in_loop k3 is.1 (words_right (spelled_head h) (spelled_statement s) words.1) g3)
      (λ body k4 g4. stays_given _ _ g4))))
  statement_stays (tree.Switch line c opening is_ closing) whose word flow known is words held = stays_on _ _ _ (value_of_stays c.expr whose known held)
      (λ x k g. stays_wanted _ kind.Operand x.line (int_of (type_of x.value)) k _
      (λ ty. stays_on _ _ (λ body. given (typed.Switch (converted x (Int (promoted ty))) body.cases body.default (statements_of body.statements) line))
      (items_stay is_ whose word (in_switch flow) (promoted ty) no_items k is.1 (words_left (spelled_items is_) (punct marks.RightBrace closing ∷ []) (words_right (spelled_condition c) (punct marks.LeftBrace opening ∷ (spelled_items is_ ++ punct marks.RightBrace closing ∷ [])) words.1).1) g)
      (λ body k2 g2. stays_given _ _ g2)))
  statement_stays (tree.Break line semicolon) whose word flow known is words held = stays_tried _ ((not flow.breaks, kind.Jump) ∷ []) line known (λ u. given (typed.Break line)) (stays_given _ _ held)
  statement_stays (tree.Continue line semicolon) whose word flow known is words held = stays_tried _ ((not flow.continues, kind.Jump) ∷ []) line known (λ u. given (typed.Continue line)) (stays_given _ _ held)
  statement_stays (tree.Return line e semicolon) whose word flow known is words held = return_stays whose e line known held

  block_stays : (b : BlockTree) (whose : List ℕ) (word : is_word whose ≡ true) (flow : Flow) (known : Known) → IsBlock b → AreWords (spelled_block b) → Held whose known → Stays whose (block_statement b flow known)
  block_stays (tree.Block line ds ss closing) whose word flow known is words held =
      stays_on _ _ _ (block_declarations_stay whose word ds known is.0 (words_left (spelled_declarations ds) (spelled_statements ss ++ punct marks.RightBrace closing ∷ []) words.1) held)
      (λ first k g. stays_on _ _ (λ others. given (typed.Block (statements_of (first ++ others)) line))
      (statements_stay ss whose word flow k is.1 (words_left (spelled_statements ss) (punct marks.RightBrace closing ∷ []) (words_right (spelled_declarations ds) (spelled_statements ss ++ punct marks.RightBrace closing ∷ []) words.1)) g)
      (λ others k2 g2. stays_given _ _ g2))

  pub statements_stay : (ss : Statements) (whose : List ℕ) (word : is_word whose ≡ true) (flow : Flow) (known : Known) → AreStatements ss → AreWords (spelled_statements ss) → Held whose known → Stays whose (statements ss flow known)
  statements_stay tree.NoStatement whose word flow known are words held = stays_given _ _ held
  statements_stay (tree.AndStatement s ss) whose word flow known are words held = stays_on _ _ _ (statement_stays s whose word flow known are.0 (words_left (spelled_statement s) (spelled_statements ss) words) held)
      (λ first k g. stays_on _ _ (λ others. given (first ∷ others)) (statements_stay ss whose word flow k are.1 (words_right (spelled_statement s) (spelled_statements ss) words) g) (λ others k2 g2. stays_given _ _ g2))

  arm_stays : (a : ArmTree) (whose : List ℕ) (word : is_word whose ≡ true) (flow : Flow) (known : Known) → IsArm a → AreWords (spelled_arm a) → Held whose known → Stays whose (arm a flow known)
  arm_stays (tree.Arm line c s) whose word flow known is words held = stays_on _ _ _ (condition_stays whose c.expr known held)
      (λ e k g. stays_on _ _ (λ made. given (typed.OneArm e made line)) (statement_stays s whose word flow k is.1 (words_right (spelled_condition c) (spelled_statement s) words.1) g) (λ made k2 g2. stays_given _ _ g2))

  other_arms_stay : (as_ : Arms) (whose : List ℕ) (word : is_word whose ≡ true) (flow : Flow) (known : Known) → AreArms as_ → AreWords (spelled_arms as_) → Held whose known → Stays whose (other_arms as_ flow known)
  other_arms_stay tree.NoElse whose word flow known are words held = stays_given _ _ held
  other_arms_stay (tree.Else line s) whose word flow known are words held = stays_on _ _ _ (statement_stays s whose word flow known are.0 words.1 held) (λ last k g. stays_given _ _ g)
  other_arms_stay (tree.ElseIf line a as_) whose word flow known are words held = stays_on _ _ _ (arm_stays a whose word flow known are.0 (words_left (spelled_arm a) (spelled_arms as_) words.1) held)
      (λ first k g. stays_on _ _ (λ others. given (first ∷ others.0, others.1)) (other_arms_stay as_ whose word flow k are.1 (words_right (spelled_arm a) (spelled_arms as_) words.1) g)
      (λ others k2 g2. stays_given _ _ g2))

  items_stay : (is_ : Items) (whose : List ℕ) (word : is_word whose ≡ true) (flow : Flow) (ty : IntTy) (body : SwitchBody) (known : Known) → AreItems is_ → AreWords (spelled_items is_) → Held whose known → Stays whose (items is_ flow ty body known)
  items_stay tree.NoItem whose word flow ty body known are words held = stays_given _ _ held
  items_stay (tree.AndLabel l is_) whose word flow ty body known are words held = stays_on _ _ _ (label_stays whose l ty body known held)
      (λ next k g. items_stay is_ whose word flow ty next k are.1 (words_right (spelled_label l) (spelled_items is_) words) g)
  items_stay (tree.AndInner s is_) whose word flow ty body known are words held = stays_on _ _ _ (statement_stays s whose word flow known are.0 (words_left (spelled_statement s) (spelled_items is_) words) held)
      (λ made k g. items_stay is_ whose word flow ty (record body { statements = body.statements ++ made ∷ [] }) k are.1 (words_right (spelled_statement s) (spelled_items is_) words) g)

-- The body of a function.
pub body_stays : (b : BlockTree) (whose : List ℕ) (word : is_word whose ≡ true) (known : Known) → IsBlock b → AreWords (spelled_block b) → Held whose known → Stays whose (body_statements b known)
body_stays (tree.Block opening ds ss closing) whose word known is words held =
    stays_on _ _ _ (block_declarations_stay whose word ds known is.0 (words_left (spelled_declarations ds) (spelled_statements ss ++ punct marks.RightBrace closing ∷ []) words.1) held)
    (λ first k g. stays_on _ _ (λ others. given (statements_of (first ++ others)))
    (statements_stay ss whose word outside k is.1 (words_left (spelled_statements ss) (punct marks.RightBrace closing ∷ []) (words_right (spelled_declarations ds) (spelled_statements ss ++ punct marks.RightBrace closing ∷ []) words.1)) g)
    (λ others k2 g2. stays_given _ _ g2))
