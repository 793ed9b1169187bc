-- In a sound program no table stands in a sum that doesn't add: so its outlined trees are those in which sums that add alone are outlined.
use Rattle.std.proofs.Common.{◌≡◌, ℕ, ◌+◌, Bool, true, false, not, ◌&&◌, ◌||◌, List, [], ◌∷◌, Option, Some, None, is_some, refl, sym, ap, ◌∙◌}
use Rattle.std.proofs.lemmas.Bool.{and_parts, false≢true}
use Rattle.std.specs.Prelude.{slice_get, map}
use Rattle.c_ints.specs.declared.operators.BinOp.{BinOp}
use Rattle.c_ints.specs.declared.operators.BinOp.TheVariants as ops
use Rattle.c_typed.specs.Fits.{Standing, Used, Pointed, Alone, rule_holds, place_rule_holds, fits, place_fits, arguments_fit, goes_to, source_of, is_reached, operand_standing, params_of}
use Rattle.c_typed.specs.Rules.{is_start}
use Rattle.c_typed.specs.Sameness.{same_flag, is_the, pointed, element_of, is_scalar, is_struct, is_promoted}
use Rattle.c_typed.specs.Sound.{any_fits, condition_fits, any_condition_fits, value_fits, first_value_fits, item_fits, items_fit, list_fits, lies_within, has_parts, is_some_arm, loop_fits, cases_fit, default_fits, count_of, return_fits, statement_fits, statements_fit, arm_fits, arms_fit, last_fits}
use Rattle.c_typed.specs.Trees as tree
use Rattle.c_typed.specs.Trees.{Expression, Expressions, Place, Item, Statement, Statements, Arm, Arms, LastArm, VariableTree, StaticTree, FunctionTree, Program}
use Rattle.c_typed.specs.Types.{type_of, place_type, type_bytes, item_start}
use Rattle.c_typed.specs.Words.{item_bytes}
use Rattle.c_typed.specs.declared.expression.Object.TheVariants as names
use Rattle.c_typed.specs.declared.types.Qualified.{Qualified}
use Rattle.c_typed.specs.declared.types.Ty.{Ty}
use Rattle.rom_source.proofs.Adding.{sum_left_added, sum_right_added, added_left, added_right, added_expression, added_arguments, added_place, added_item, added_option, added_statement, added_statements, added_arm, added_arms, added_last}
use Rattle.rom_source.proofs.Facts.{table_there, named_same, same_flag_true}
use Rattle.rom_tables.specs.Outlined.{outlined_expression, outlined_arguments, outlined_place, outlined_item, outlined_option, outlined_statement, outlined_statements, outlined_arm, outlined_arms, outlined_last}
use Rattle.rom_tables.specs.Tables.{tables_of, place_in, start_table, sum_table_left, sum_table_right, table_on_left, table_on_right}

module _ (p : Program) (f : FunctionTree) (first : ℕ) where
  abbrev pub ts : List ℕ
  ts = tables_of p

  constant_not : (reached constant : Bool) (a b : Bool) → reached ≡ false → constant ≡ true → ((a && (true && (reached || not constant))) || (b && (false || (reached || not constant)))) ≡ true → false ≡ true
  constant_not true constant a b r c e = sym r
  constant_not false false a b r c e = c
  constant_not false true true true r c e = e
  constant_not false true true false r c e = e
  constant_not false true false true r c e = e
  constant_not false true false false r c e = e

  start_by : (n : ℕ) (ty : Qualified) (at : ℕ) (to : Ty) (line : ℕ) (x : Option ℕ) → place_in n 0 ts ≡ x → fits p f Used (tree.Address (tree.Name (names.Static n) ty at) to line) ≡ true → x ≡ None
  unfolding fits rule_holds place_rule_holds is_reached
  start_by n ty at to line None is h = refl
  start_by n ty at to line (Some t) is h =
      let a = and_parts (rule_holds p Used (tree.Address (tree.Name (names.Static n) ty at) to line)) _ h in
      let d = table_there p n t is in
      let same = named_same p n ty d.static (slice_get p.statics n) d.there a.1 in
      let constant = same_flag_true d.static.ty.constant ty.constant (and_parts (same_flag d.static.ty.constant ty.constant) _ (and_parts _ _ same).1).0 (and_parts _ _ d.table).0 in
      absurd (false≢true (constant_not false ty.constant (is_the (pointed p to) ty) (is_start p ty to (element_of p ty ty.ty)) refl constant a.0))

  -- what is no operand of a sum after `*` is no start of a table
  no_start : (e : Expression) → fits p f Used e ≡ true → start_table ts e ≡ None
  no_start (tree.Address (tree.Name (names.Static n) ty at) to line) h = start_by n ty at to line (place_in n 0 ts) refl h
  no_start (tree.Address (tree.Name object ty at) to line) h = refl
  no_start (tree.Address place to line) h = refl
  no_start e h = refl

  both_same : (op : BinOp) (l r : Expression) (size : ℕ) (ty : Ty) (line : ℕ) → fits p f Pointed (tree.Offset op l r size ty line) ≡ true
      → (start_table ts l ≡ sum_left_added ts (tree.Offset op l r size ty line)) × (start_table ts r ≡ sum_right_added ts (tree.Offset op l r size ty line))
  unfolding fits rule_holds
  both_same ops.Add l r size ty line h = (refl, refl)
  both_same ops.Sub l r size ty line h =
      let a = and_parts (rule_holds p Pointed (tree.Offset ops.Sub l r size ty line)) _ h in
      let b = and_parts (fits p f Used l) (fits p f Used r) a.1 in
      (no_start l b.0, no_start r b.1)
  both_same op l r size ty line h = absurd (false≢true h)

  pointer_same : (e : Expression) → fits p f Pointed e ≡ true → (sum_table_left ts e ≡ sum_left_added ts e) × (sum_table_right ts e ≡ sum_right_added ts e)
  pointer_same (tree.Offset op l r size ty line) h = both_same op l r size ty line h
  pointer_same e h = (refl, refl)

  tables_same : (place : Place) → place_fits p f place ≡ true → (table_on_left ts place ≡ added_left ts place) × (table_on_right ts place ≡ added_right ts place)
  unfolding fits
  tables_same (tree.Deref pointer ty line) h = pointer_same pointer (and_parts (place_rule_holds p f (tree.Deref pointer ty line)) _ h).1
  tables_same place h = (refl, refl)

  mutual
    unfolding fits outlined_expression added_expression

    same_expression : (standing : Standing) (e : Expression) → fits p f standing e ≡ true → outlined_expression ts first e ≡ added_expression ts first e
    same_expression standing (tree.Constant value line) h = refl
    same_expression standing (tree.Read place ty line) h =
        let a = and_parts (rule_holds p standing (tree.Read place ty line)) _ h in
        let b = tables_same place a.1 in
        rw (b.0, b.1, same_place place a.1) refl
    same_expression standing (tree.Address place ty line) h = rw (same_place place (and_parts (rule_holds p standing (tree.Address place ty line)) _ h).1) refl
    same_expression standing (tree.Convert operand ty line) h = rw (same_expression Used operand (and_parts (rule_holds p standing (tree.Convert operand ty line)) _ h).1) refl
    same_expression standing (tree.Cast operand ty line) h = rw (same_expression Used operand (and_parts (rule_holds p standing (tree.Cast operand ty line)) _ h).1) refl
    same_expression standing (tree.Unary op operand ty line) h = rw (same_expression Used operand (and_parts (rule_holds p standing (tree.Unary op operand ty line)) _ h).1) refl
    same_expression standing (tree.Binary op left right ty line) h =
        let a = and_parts (fits p f Used left) _ (and_parts (rule_holds p standing (tree.Binary op left right ty line)) _ h).1 in
        rw (same_expression Used left a.0, same_expression Used right a.1) refl
    same_expression standing (tree.Offset op left right size ty line) h =
        let a = and_parts (fits p f (operand_standing standing op) left) _ (and_parts (rule_holds p standing (tree.Offset op left right size ty line)) _ h).1 in
        rw (same_expression (operand_standing standing op) left a.0, same_expression (operand_standing standing op) right a.1) refl
    same_expression standing (tree.Difference left right size line) h =
        let a = and_parts (fits p f Used left) _ (and_parts (rule_holds p standing (tree.Difference left right size line)) _ h).1 in
        rw (same_expression Used left a.0, same_expression Used right a.1) refl
    same_expression standing (tree.Logical op left right line) h =
        let a = and_parts (fits p f Used left) _ (and_parts (rule_holds p standing (tree.Logical op left right line)) _ h).1 in
        rw (same_expression Used left a.0, same_expression Used right a.1) refl
    same_expression standing (tree.Conditional condition chosen otherwise ty line) h =
        let a = and_parts (fits p f Used condition) _ (and_parts (rule_holds p standing (tree.Conditional condition chosen otherwise ty line)) _ h).1 in
        let b = and_parts (fits p f Used chosen) _ a.1 in
        rw (same_expression Used condition a.0, same_expression Used chosen b.0, same_expression Used otherwise b.1) refl
    same_expression standing (tree.Comma left right ty line) h =
        let a = and_parts (fits p f Used left) _ (and_parts (rule_holds p standing (tree.Comma left right ty line)) _ h).1 in
        rw (same_expression Used left a.0, same_expression Used right a.1) refl
    same_expression standing (tree.Assign place value ty line) h =
        let a = and_parts (place_fits p f place) _ (and_parts (rule_holds p standing (tree.Assign place value ty line)) _ h).1 in
        rw (same_place place a.0, same_expression Used value a.1) refl
    same_expression standing (tree.StructAssign place from size line) h =
        let a = and_parts (place_fits p f place) _ (and_parts (rule_holds p standing (tree.StructAssign place from size line)) _ h).1 in
        rw (same_place place a.0, same_place from a.1) refl
    same_expression standing (tree.Update op place value operation size ty line) h =
        let a = and_parts (place_fits p f place) _ (and_parts (rule_holds p standing (tree.Update op place value operation size ty line)) _ h).1 in
        rw (same_place place a.0, same_expression Used value a.1) refl
    same_expression standing (tree.Step op place operation size ty line) h = rw (same_place place (and_parts (rule_holds p standing (tree.Step op place operation size ty line)) _ h).1) refl
    same_expression standing (tree.Call g arguments ty line) h =
        rw (same_arguments arguments (params_of (slice_get p.functions g)) (and_parts (rule_holds p standing (tree.Call g arguments ty line)) _ h).1) refl

    same_place : (place : Place) → place_fits p f place ≡ true → outlined_place ts first place ≡ added_place ts first place
    same_place (tree.Name object ty line) h = refl
    same_place (tree.Bit register number line) h = refl
    same_place (tree.Member whole member offset ty line) h = rw (same_place whole (and_parts (place_rule_holds p f (tree.Member whole member offset ty line)) _ h).1) refl
    same_place (tree.Deref pointer ty line) h = rw (same_expression Pointed pointer (and_parts (place_rule_holds p f (tree.Deref pointer ty line)) _ h).1) refl

    same_arguments : (es : Expressions) (vs : List VariableTree) → arguments_fit p f es vs ≡ true → outlined_arguments ts first es ≡ added_arguments ts first es
    same_arguments tree.NoExpression vs h = refl
    same_arguments (tree.AndExpression e es) [] h = absurd (false≢true h)
    same_arguments (tree.AndExpression e es) (v ∷ vs) h =
        let a = and_parts (goes_to p (source_of e) (type_of e) v.ty.ty) _ h in
        let b = and_parts (fits p f Used e) _ a.1 in
        rw (same_expression Used e b.0, same_arguments es vs b.1) refl

  same_option : (e : Option Expression) → any_fits p f e ≡ true → outlined_option ts first e ≡ added_option ts first e
  same_option None h = refl
  same_option (Some e) h = ap Some (same_expression Used e h)

  same_condition : (e : Expression) → condition_fits p f e ≡ true → outlined_expression ts first e ≡ added_expression ts first e
  same_condition e h = same_expression Used e (and_parts (is_scalar (type_of e)) _ h).1

  same_any_condition : (e : Option Expression) → any_condition_fits p f e ≡ true → outlined_option ts first e ≡ added_option ts first e
  same_any_condition None h = refl
  same_any_condition (Some e) h = ap Some (same_condition e h)

  same_value : (ty : Ty) (e : Expression) → value_fits p f ty e ≡ true → outlined_expression ts first e ≡ added_expression ts first e
  same_value ty e h = same_expression Used e (and_parts (goes_to p (source_of e) (type_of e) ty) _ h).1

  same_first : (v : Option VariableTree) (e : Expression) → first_value_fits p f v e ≡ true → outlined_expression ts first e ≡ added_expression ts first e
  same_first None e h = absurd (false≢true h)
  same_first (Some v) e h = same_value v.ty.ty e h

  same_item : (i : Item) → item_fits p f i ≡ true → outlined_item ts first i ≡ added_item ts first i
  same_item (tree.Scalar offset e) h = ap (tree.Scalar offset) (same_value (type_of e) e h)
  same_item (tree.Struct offset from size) h = ap (λ place. tree.Struct offset place size) (same_place from (and_parts _ _ (and_parts (is_struct (place_type from).ty) _ h).1).1)
  same_item (tree.Text offset text size) h = refl

  same_items : (size before : ℕ) (items : List Item) → items_fit p f size before items ≡ true → map (outlined_item ts first) items ≡ map (added_item ts first) items
  same_items size before [] h = refl
  same_items size before (i ∷ items) h =
      let a = and_parts (item_fits p f i) _ (and_parts (lies_within size before (item_start i) (item_bytes p.sizes i)) _ h).1 in
      rw (same_item i a.0, same_items size (item_start i + item_bytes p.sizes i) items a.1) refl

  same_list : (v : Option VariableTree) (items : List Item) → list_fits p f v items ≡ true → map (outlined_item ts first) items ≡ map (added_item ts first) items
  same_list None items h = absurd (false≢true h)
  same_list (Some v) items h = same_items (type_bytes p.sizes v.ty.ty) 0 items (and_parts (has_parts v.ty.ty) _ h).1

  same_return : (e : Option Expression) → return_fits p f e ≡ true → outlined_option ts first e ≡ added_option ts first e
  same_return None h = refl
  same_return (Some e) h = ap Some (same_value f.result e h)

  mutual
    unfolding statement_fits outlined_statement added_statement

    same_statement : (declares leaves repeats : Bool) (t : Statement) → statement_fits p f declares leaves repeats t ≡ true → outlined_statement ts first t ≡ added_statement ts first t
    same_statement declares leaves repeats (tree.Block ss line) h = rw (same_statements true leaves repeats ss h) refl
    same_statement declares leaves repeats (tree.Empty line) h = refl
    same_statement declares leaves repeats (tree.Expr e line) h = rw (same_expression Alone e h) refl
    same_statement declares leaves repeats (tree.Declare local line) h = refl
    same_statement declares leaves repeats (tree.InitScalar local e line) h = rw (same_first (slice_get f.locals local) e (and_parts declares _ h).1) refl
    same_statement declares leaves repeats (tree.InitList local items line) h = ap (λ all. tree.InitList local all line) (same_list (slice_get f.locals local) items (and_parts declares _ h).1)
    same_statement declares leaves repeats (tree.If chain otherwise line) h =
        let a = and_parts (arms_fit p f leaves repeats chain) _ (and_parts (is_some_arm chain) _ h).1 in
        rw (same_arms leaves repeats chain a.0, same_last leaves repeats otherwise a.1) refl
    same_statement declares leaves repeats (tree.Loop shape begin condition step body line) h =
        let a = and_parts (any_fits p f begin) _ (and_parts (loop_fits shape (is_some begin) (is_some condition) (is_some step)) _ h).1 in
        let b = and_parts (any_condition_fits p f condition) _ a.1 in
        let c = and_parts (any_fits p f step) _ b.1 in
        ap (λ x. tree.Loop shape x (outlined_option ts first condition) (outlined_option ts first step) (outlined_statement ts first body) line) (same_option begin a.0)
        ∙ ap (λ x. tree.Loop shape (added_option ts first begin) x (outlined_option ts first step) (outlined_statement ts first body) line) (same_any_condition condition b.0)
        ∙ ap (λ x. tree.Loop shape (added_option ts first begin) (added_option ts first condition) x (outlined_statement ts first body) line) (same_option step c.0)
        ∙ ap (λ x. tree.Loop shape (added_option ts first begin) (added_option ts first condition) (added_option ts first step) x line) (same_statement false true true body c.1)
    same_statement declares leaves repeats (tree.Switch e cases default ss line) h =
        let a = and_parts (is_promoted (type_of e) && fits p f Used e) _ h in
        let b = and_parts (cases_fit (type_of e) (count_of ss) cases) _ a.1 in
        let c = and_parts (default_fits (count_of ss) default) _ b.1 in
        rw (same_expression Used e (and_parts (is_promoted (type_of e)) _ a.0).1, same_statements false true repeats ss c.1) refl
    same_statement declares leaves repeats (tree.Break line) h = refl
    same_statement declares leaves repeats (tree.Continue line) h = refl
    same_statement declares leaves repeats (tree.Return e line) h = ap (λ x. tree.Return x line) (same_return e h)

    pub same_statements : (declares leaves repeats : Bool) (ss : Statements) → statements_fit p f declares leaves repeats ss ≡ true → outlined_statements ts first ss ≡ added_statements ts first ss
    same_statements declares leaves repeats tree.NoStatement h = refl
    same_statements declares leaves repeats (tree.AndStatement t ss) h =
        let a = and_parts (statement_fits p f declares leaves repeats t) _ h in
        rw (same_statement declares leaves repeats t a.0, same_statements declares leaves repeats ss a.1) refl

    same_arm : (leaves repeats : Bool) (a : Arm) → arm_fits p f leaves repeats a ≡ true → outlined_arm ts first a ≡ added_arm ts first a
    same_arm leaves repeats (tree.OneArm condition chosen line) h =
        let a = and_parts (condition_fits p f condition) _ h in
        rw (same_condition condition a.0, same_statement false leaves repeats chosen a.1) refl

    same_arms : (leaves repeats : Bool) (chain : Arms) → arms_fit p f leaves repeats chain ≡ true → outlined_arms ts first chain ≡ added_arms ts first chain
    same_arms leaves repeats tree.NoArm h = refl
    same_arms leaves repeats (tree.AndArm arm more) h =
        let a = and_parts (arm_fits p f leaves repeats arm) _ h in
        rw (same_arm leaves repeats arm a.0, same_arms leaves repeats more a.1) refl

    same_last : (leaves repeats : Bool) (l : LastArm) → last_fits p f leaves repeats l ≡ true → outlined_last ts first l ≡ added_last ts first l
    same_last leaves repeats tree.NoLast h = refl
    same_last leaves repeats (tree.Last t) h = rw (same_statement false leaves repeats t h) refl
