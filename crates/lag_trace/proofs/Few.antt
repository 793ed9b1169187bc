-- A node of a function has at most 200 steps that count, those of a structure that is copied between fixed places but for few. What these have
-- more is paid by their words, of which a block has few.
use Rattle.std.proofs.Common.{◌≡◌, ℕ, ◌+◌, ◌-◌, ◌*◌, ◌≤◌, Bool, true, false, List, [], ◌∷◌, Option, Some, None, ap, arith}
use Rattle.std.proofs.lemmas.Bool.{and_parts}
use Rattle.std.proofs.lemmas.Grind.{common_steps}
use Rattle.std.specs.Prelude.{nat_le}
use Rattle.c_typed.specs.TreeNodes.{nodes_in, nodes_of_all, nodes_at, nodes_in_any, items_nodes, statement_nodes, nodes_of_body, arm_nodes, arms_nodes, last_nodes}
use Rattle.c_typed.specs.Trees as tree
use Rattle.c_typed.specs.Trees.{Expression, Expressions, Place, Item, Statement, Statements, Arm, Arms, LastArm, VariableTree, Program}
use Rattle.c_typed.specs.Types.{type_bytes, place_type, place_bytes, member_form, form_of, item_start}
use Rattle.c_typed.specs.Words.{words, place_words, arguments_words, any_words, condition_words, item_bytes, items_words, statement_words, statements_words, arm_words, arms_words, last_words, read_words, struct_words}
use Rattle.c_typed.specs.declared.expression.PlaceForm.{PlaceForm}
use Rattle.c_typed.specs.declared.expression.PlaceForm.TheVariants as forms
use Rattle.c_typed.specs.declared.statement.LoopForm.{LoopForm}
use Rattle.c_typed.specs.declared.types.Ty.{Ty}
use Rattle.src_rules.proofs.Rules.{read_rule, update_rule, step_rule}
use Rattle.src_rules.specs.Parts.{IsExpressionOf, AreArgumentsOf, IsPlaceOf, AnyIsOf, AnyConditionIsOf, IsItemOf, AreItemsOf, IsReturnOf, IsStatementOf, AreStatementsOf, IsArmOf, AreArmsOf, IsLastOf, local_bytes}
use Rattle.src_values.specs.Objects.{function_at}
use Rattle.lag_trace.proofs.Ahead.{ahead_in, ahead_of_all, ahead_at, ahead_in_any, items_ahead, statement_ahead, statements_ahead, arm_ahead, arms_ahead, last_ahead}

-- ---- bytes that fit a block
member_read : (form : PlaceForm) (n : ℕ) → read_words (member_form form) n ≤ 2048 → n ≤ 341
member_read forms.Fixed n h = omega arith
member_read forms.Bit n h = omega arith
member_read forms.Computed n h = omega arith

-- a place whose bytes are read; a bit is one
read_few : (q : List ℕ) (place : Place) → read_words (form_of place) (place_bytes q place) ≤ 2048 → place_bytes q place ≤ 341
read_few q (tree.Name object ty line) h = omega arith
read_few q (tree.Bit register number line) h = omega arith
read_few q (tree.Member whole member offset ty line) h = member_read (form_of whole) (type_bytes q ty.ty) h
read_few q (tree.Deref pointer ty line) h = omega arith

copy_few : (to from : PlaceForm) (size : ℕ) → 6 * size ≤ struct_words to from size
copy_few forms.Fixed forms.Fixed size = omega arith
copy_few forms.Fixed forms.Bit size = omega arith
copy_few forms.Fixed forms.Computed size = omega arith
copy_few forms.Bit from size = omega arith
copy_few forms.Computed from size = omega arith

condition_few : (q : List ℕ) (o : Option Expression) → any_words q o ≤ condition_words q o
condition_few q None = omega arith
condition_few q (Some e) = omega arith

le_of : (a b : ℕ) → nat_le a b ≡ true → a ≤ b
le_of a b e = grind (arith, common_steps)

module _ (p : Program) (f : ℕ) where
  abbrev q : List ℕ
  q = p.sizes

  -- what is read where a place of a type is
  type_few : (place : Place) (ty : Ty) → (place_type place).ty ≡ ty → read_words (form_of place) (place_bytes q place) ≤ 2048 → type_bytes q ty ≤ 341
  type_few place ty e h = let a = ap (type_bytes q) e in let b = read_few q place h in omega arith

  -- what is read is what has the words
  read_same : (place : Place) (ty : Ty) → (place_type place).ty ≡ ty → read_words (form_of place) (type_bytes q ty) ≤ 2048 → type_bytes q ty ≤ 341
  read_same place ty e h = let a = ap (λ t. read_words (form_of place) (type_bytes q t)) e in type_few place ty e (omega arith)

  mutual
    unfolding ahead_in nodes_in words

    pub few_in : (e : Expression) → IsExpressionOf p f e → words q e ≤ 2048 → 25 * ahead_in q e + 200 ≤ 5000 * nodes_in e + 2 * words q e
    few_in (tree.Constant value line) h w = omega arith
    few_in (tree.Read place ty line) h w = let d = few_at place h.1 (omega arith) in let b = read_same place ty (read_rule p place ty line h.0).0 (omega arith) in omega arith
    few_in (tree.Address place ty line) h w = let d = few_at place h.1 (omega arith) in omega arith
    few_in (tree.Convert operand ty line) h w = let d = few_in operand h.1 (omega arith) in omega arith
    few_in (tree.Cast operand ty line) h w = let d = few_in operand h.1 (omega arith) in omega arith
    few_in (tree.Unary op operand ty line) h w = let d = few_in operand h.1 (omega arith) in omega arith
    few_in (tree.Binary op left right ty line) h w = let d = few_in left h.1 (omega arith) in let e = few_in right h.2 (omega arith) in omega arith
    few_in (tree.Offset op left right size ty line) h w = let d = few_in left h.1 (omega arith) in let e = few_in right h.2 (omega arith) in omega arith
    few_in (tree.Difference left right size line) h w = let d = few_in left h.1 (omega arith) in let e = few_in right h.2 (omega arith) in omega arith
    few_in (tree.Logical op left right line) h w = let d = few_in left h.1 (omega arith) in let e = few_in right h.2 (omega arith) in omega arith
    few_in (tree.Conditional condition chosen otherwise ty line) h w =
        let d = few_in condition h.1 (omega arith) in let e = few_in chosen h.2 (omega arith) in let g = few_in otherwise h.3 (omega arith) in omega arith
    few_in (tree.Comma left right ty line) h w = let d = few_in left h.1 (omega arith) in let e = few_in right h.2 (omega arith) in omega arith
    few_in (tree.Assign place value ty line) h w = let d = few_at place h.1 (omega arith) in let e = few_in value h.2 (omega arith) in omega arith
    few_in (tree.StructAssign place from size line) h w =
        let d = few_at place h.1 (omega arith) in let e = few_at from h.2 (omega arith) in let c = copy_few (form_of place) (form_of from) size in omega arith
    few_in (tree.Update op place value operation size ty line) h w =
        let d = few_at place h.1 (omega arith) in
        let e = few_in value h.2 (omega arith) in
        let b = type_few place ty (update_rule p op place value operation size ty line h.0).0 (omega arith) in
        omega arith
    few_in (tree.Step op place operation size ty line) h w =
        let d = few_at place h.1 (omega arith) in
        let b = type_few place ty (step_rule p op place operation size ty line h.0).0 (omega arith) in
        omega arith
    few_in (tree.Call g arguments ty line) h w = let d = few_of_all arguments (function_at p g).params h.3 (omega arith) in omega arith

    few_of_all : (es : Expressions) (vs : List VariableTree) → AreArgumentsOf p f es vs → arguments_words q es ≤ 2048 → 25 * ahead_of_all q es ≤ 5000 * nodes_of_all es + 2 * arguments_words q es
    few_of_all tree.NoExpression vs h w = omega arith
    few_of_all (tree.AndExpression e es) [] h w = absurd h
    few_of_all (tree.AndExpression e es) (v ∷ vs) h w = let d = few_in e h.1 (omega arith) in let i = few_of_all es vs h.2 (omega arith) in omega arith

    -- a place has few steps of its own
    few_at : (place : Place) → IsPlaceOf p f place → place_words q place ≤ 2048 → 25 * ahead_at q place + 4975 ≤ 5000 * nodes_at place + 2 * place_words q place
    few_at (tree.Name object ty line) h w = omega arith
    few_at (tree.Bit register number line) h w = omega arith
    few_at (tree.Member whole member offset ty line) h w = let d = few_at whole h.1 (omega arith) in omega arith
    few_at (tree.Deref pointer ty line) h w = let d = few_in pointer h.1 (omega arith) in omega arith

  few_any : (o : Option Expression) → AnyIsOf p f o → any_words q o ≤ 2048 → 25 * ahead_in_any q o ≤ 5000 * nodes_in_any o + 2 * any_words q o
  few_any None h w = omega arith
  few_any (Some e) h w = let d = few_in e h w in omega arith

  few_condition : (o : Option Expression) → AnyConditionIsOf p f o → any_words q o ≤ 2048 → 25 * ahead_in_any q o ≤ 5000 * nodes_in_any o + 2 * any_words q o
  few_condition None h w = omega arith
  few_condition (Some e) h w = let d = few_in e h.1 w in omega arith

  few_items : (size before : ℕ) (items : List Item) → size ≤ 96 → before ≤ size → AreItemsOf p f size before items → items_words q items ≤ 2048 → 25 * items_ahead q items + 25 * before ≤ 2400 + 25 * size + 5000 * items_nodes items + 2 * items_words q items
  few_items size before [] small within h w = omega arith
  few_items size before (item ∷ items) small within h w =
      let a = and_parts _ _ h.0 in
      let b = and_parts _ _ a.1 in
      few_item size before item items small (le_of _ _ a.0) (le_of _ _ b.0) (le_of _ _ b.1) h.1 w
      (few_items size (item_start item + item_bytes q item) items small (let x = le_of _ _ b.0 in let y = le_of _ _ b.1 in omega arith) h.2 (omega arith))
    where
      few_item : (size before : ℕ) (item : Item) (items : List Item) → size ≤ 96 → before ≤ item_start item → item_start item ≤ size → item_bytes q item ≤ size - item_start item → IsItemOf p f item → items_words q (item ∷ items) ≤ 2048
          → 25 * items_ahead q items + 25 * (item_start item + item_bytes q item) ≤ 2400 + 25 * size + 5000 * items_nodes items + 2 * items_words q items
          → 25 * items_ahead q (item ∷ items) + 25 * before ≤ 2400 + 25 * size + 5000 * items_nodes (item ∷ items) + 2 * items_words q (item ∷ items)
      few_item size before (tree.Scalar offset e) items small a b c h w rest = let d = few_in e h.1 (omega arith) in omega arith
      few_item size before (tree.Struct offset from bytes) items small a b c h w rest = let d = few_at from h.2 (omega arith) in let s = copy_few forms.Fixed (form_of from) bytes in omega arith
      few_item size before (tree.Text offset text bytes) items small a b c h w rest = omega arith

  few_return : (o : Option Expression) → IsReturnOf p f o → any_words q o ≤ 2048 → 25 * ahead_in_any q o ≤ 5000 * nodes_in_any o + 2 * any_words q o
  few_return None h w = omega arith
  few_return (Some e) h w = let d = few_in e h.1 w in omega arith

  -- no local of the function has more bytes than any local may have
  module _ (locals : List ℕ) (small : (local : ℕ) → local_bytes p f local ≤ 96) where
    mutual
      unfolding statement_ahead statement_nodes statement_words

      pub few_statement : (t : Statement) (d l r : Bool) → IsStatementOf p f d l r t → statement_words q locals t ≤ 2048 → 25 * statement_ahead q t ≤ 5000 * statement_nodes t + 2 * statement_words q locals t
      few_statement (tree.Block ss line) d l r h w = let a = few_statements ss true l r h (omega arith) in omega arith
      few_statement (tree.Empty line) d l r h w = omega arith
      few_statement (tree.Expr e line) d l r h w = let a = few_in e h (omega arith) in omega arith
      few_statement (tree.Declare local line) d l r h w = omega arith
      few_statement (tree.InitScalar local value line) d l r h w = let a = few_in value h.1.value (omega arith) in omega arith
      few_statement (tree.InitList local all line) d l r h w = let s = small local in let a = few_items (local_bytes p f local) 0 all s (omega arith) h.1.fit (omega arith) in omega arith
      few_statement (tree.If chain otherwise line) d l r h w = let a = few_arms chain l r h.1 (omega arith) in let b = few_last otherwise l r h.2 (omega arith) in omega arith
      few_statement (tree.Loop shape first condition step body line) d l r h w =
          let a = few_any first h.0 (omega arith) in
          let b = few_condition condition h.1 (let c = condition_few q condition in omega arith) in
          let c = condition_few q condition in
          let e = few_any step h.2 (omega arith) in
          let g = few_statement body false true true h.3 (omega arith) in
          omega arith
      few_statement (tree.Switch e cases default ss line) d l r h w = let a = few_in e h.3 (omega arith) in let b = few_statements ss false true r h.4 (omega arith) in omega arith
      few_statement (tree.Break line) d l r h w = omega arith
      few_statement (tree.Continue line) d l r h w = omega arith
      few_statement (tree.Return value line) d l r h w = let a = few_return value h (omega arith) in omega arith

      pub few_statements : (ss : Statements) (d l r : Bool) → AreStatementsOf p f d l r ss → statements_words q locals ss ≤ 2048 → 25 * statements_ahead q ss ≤ 5000 * nodes_of_body ss + 2 * statements_words q locals ss
      few_statements tree.NoStatement d l r h w = omega arith
      few_statements (tree.AndStatement t ts) d l r h w = let a = few_statement t d l r h.0 (omega arith) in let b = few_statements ts d l r h.1 (omega arith) in omega arith

      few_arm : (arm : Arm) (l r : Bool) → IsArmOf p f l r arm → arm_words q locals arm ≤ 2048 → 25 * arm_ahead q arm ≤ 5000 * arm_nodes arm + 2 * arm_words q locals arm
      few_arm (tree.OneArm condition chosen line) l r h w = let a = few_in condition h.0.1 (omega arith) in let b = few_statement chosen false l r h.1 (omega arith) in omega arith

      few_arms : (arms : Arms) (l r : Bool) → AreArmsOf p f l r arms → arms_words q locals arms ≤ 2048 → 25 * arms_ahead q arms ≤ 5000 * arms_nodes arms + 2 * arms_words q locals arms
      few_arms tree.NoArm l r h w = omega arith
      few_arms (tree.AndArm arm more) l r h w = let a = few_arm arm l r h.0 (omega arith) in let b = few_arms more l r h.1 (omega arith) in omega arith

      few_last : (otherwise : LastArm) (l r : Bool) → IsLastOf p f l r otherwise → last_words q locals otherwise ≤ 2048 → 25 * last_ahead q otherwise ≤ 5000 * last_nodes otherwise + 2 * last_words q locals otherwise
      few_last tree.NoLast l r h w = omega arith
      few_last (tree.Last t) l r h w = few_statement t false l r h w

    -- the parts of a loop that a turn has
    pub few_turn : (shape : LoopForm) (first condition step : Option Expression) (body : Statement) (line : ℕ) (d l r : Bool) → IsStatementOf p f d l r (tree.Loop shape first condition step body line) → statement_words q locals (tree.Loop shape first condition step body line) ≤ 2048
        → 25 * (ahead_in_any q condition + (ahead_in_any q step + statement_ahead q body)) + 5000 ≤ 5000 * statement_nodes (tree.Loop shape first condition step body line) + 2 * statement_words q locals (tree.Loop shape first condition step body line)
    unfolding statement_nodes statement_words
    few_turn shape first condition step body line d l r h w =
        let b = few_condition condition h.1 (let c = condition_few q condition in omega arith) in
        let c = condition_few q condition in
        let e = few_any step h.2 (omega arith) in
        let g = few_statement body false true true h.3 (omega arith) in
        omega arith
