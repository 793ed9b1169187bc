-- Statements and functions fit once more, in the program with the readers.
use Rattle.std.proofs.Common.{◌≡◌, ℕ, ◌+◌, suc, Bool, true, false, ◌&&◌, ◌||◌, List, [], ◌∷◌, map, nat_eq, nat_le, Option, Some, None, refl, ap, ◌∙◌, slice_get, is_some}
use Rattle.std.specs.List.{list_all}
use Rattle.c_typed.specs.Fits.{Used, Alone, source_of, goes_to, fits, place_fits}
use Rattle.c_typed.specs.Sameness.{is_scalar, is_void, is_struct, is_promoted, is_complete}
use Rattle.c_typed.specs.Sound.{any_fits, condition_fits, any_condition_fits, value_fits, first_value_fits, copied_item_fits, item_fits, lies_within, items_fit, has_parts, list_fits, loop_fits, default_fits, cases_fit, count_of, return_fits, switch_rule, is_some_arm, statement_fits, statements_fit, arm_fits, arms_fit, last_fits, array_is_there, type_is_there, object_fits, param_fits, local_fits, result_fits, function_fits}
use Rattle.c_typed.specs.Trees as tree
use Rattle.c_typed.specs.Trees.{Expression, Place, Item, Statement, Statements, Arm, Arms, LastArm, VariableTree, StaticTree, FunctionTree, Program}
use Rattle.c_typed.specs.Types.{type_bytes, type_of, place_type, item_start}
use Rattle.c_typed.specs.Words.{item_bytes}
use Rattle.c_typed.specs.declared.statement.LoopForm.{LoopForm}
use Rattle.c_typed.specs.declared.types.Qualified.{Qualified}
use Rattle.c_typed.specs.declared.types.Ty.{Ty}
use Rattle.c_typed.specs.declared.types.Ty.TheVariants.{Void, Int, Pointer, Array, Struct}
use Rattle.rom_tables.proofs.Attributes.{type_again, place_type_again}
use Rattle.rom_tables.proofs.Soundness.{IsRead, fits_again, place_again, argument_goes}
use Rattle.rom_tables.proofs.Wider.{both_hold, first_holds, second_holds, found_holds, complete_same, Stays, wider}
use Rattle.rom_tables.specs.Outlined.{outlined_expression, outlined_place, outlined_item, outlined_option, outlined_statement, outlined_statements, outlined_arm, outlined_arms, outlined_last, outlined_function}
use Rattle.rom_tables.specs.Tables.{place_in}

pub all_hold : {A : Type 0} (test other : A → Bool) → ((x : A) → test x ≡ true → other x ≡ true) → (xs : List A) → list_all test xs ≡ true → list_all other xs ≡ true
all_hold test other f [] h = h
all_hold test other f (x ∷ xs) h = both_hold (test x) (list_all test xs) (other x) (list_all other xs) (f x) (all_hold test other f xs) h

-- ---- types
module _ (p : Program) (rows : List Qualified) (functions : List FunctionTree) (more : (n : ℕ) → Stays (slice_get p.targets n) (slice_get rows n)) where
  array_of : (found : Option Qualified) (count size : ℕ) → array_is_there p found count size ≡ true → array_is_there (wider p rows functions) found count size ≡ true
  array_of None count size h = h
  array_of (Some element) count size h = h

  pub type_holds : (ty : Ty) → type_is_there p ty ≡ true → type_is_there (wider p rows functions) ty ≡ true
  type_holds Void h = h
  type_holds (Int ty) h = h
  type_holds (Pointer row) h = found_holds (λ o. is_some o) refl (slice_get p.targets row) (slice_get rows row) (more row) h
  type_holds (Array element count size) h = found_holds (λ o. array_is_there (wider p rows functions) o count size) refl (slice_get p.targets element) (slice_get rows element) (more element) (array_of (slice_get p.targets element) count size h)
  type_holds (Struct number) h = h

  pub object_holds : (ty : Ty) → object_fits p ty ≡ true → object_fits (wider p rows functions) ty ≡ true
  object_holds ty = both_hold (type_is_there p ty) (is_complete p ty && nat_le (type_bytes p.sizes ty) 65535) (type_is_there (wider p rows functions) ty) (is_complete (wider p rows functions) ty && nat_le (type_bytes p.sizes ty) 65535) (type_holds ty)
      (first_holds (is_complete p ty) (nat_le (type_bytes p.sizes ty) 65535) (is_complete (wider p rows functions) ty) (λ e. complete_same p rows functions more ty ∙ e))

  pub param_holds : (v : VariableTree) → param_fits p v ≡ true → param_fits (wider p rows functions) v ≡ true
  param_holds v = second_holds (is_scalar v.ty.ty) (type_is_there p v.ty.ty) (type_is_there (wider p rows functions) v.ty.ty) (type_holds v.ty.ty)

  pub local_holds : (v : VariableTree) → local_fits p v ≡ true → local_fits (wider p rows functions) v ≡ true
  local_holds v = object_holds v.ty.ty

-- ---- what is counted of a statement
module _ (ts : List ℕ) (first : ℕ) where
  count_again : (ss : Statements) → count_of (outlined_statements ts first ss) ≡ count_of ss
  unfolding outlined_statement outlined_statements outlined_arm outlined_arms outlined_last
  count_again tree.NoStatement = refl
  count_again (tree.AndStatement s ss) = ap suc (count_again ss)

  some_again : (e : Option Expression) → is_some (outlined_option ts first e) ≡ is_some e
  some_again None = refl
  some_again (Some e) = refl

  start_again : (item : Item) → item_start (outlined_item ts first item) ≡ item_start item
  start_again (tree.Scalar offset value) = refl
  start_again (tree.Struct offset from size) = refl
  start_again (tree.Text offset bytes size) = refl

  bytes_again : (sizes : List ℕ) (item : Item) → item_bytes sizes (outlined_item ts first item) ≡ item_bytes sizes item
  bytes_again sizes (tree.Scalar offset value) = ap (type_bytes sizes) (type_again ts first value)
  bytes_again sizes (tree.Struct offset from size) = refl
  bytes_again sizes (tree.Text offset bytes size) = refl

  some_arm_again : (as_ : Arms) → is_some_arm (outlined_arms ts first as_) ≡ is_some_arm as_
  unfolding outlined_statement outlined_statements outlined_arm outlined_arms outlined_last
  some_arm_again tree.NoArm = refl
  some_arm_again (tree.AndArm a more) = refl

module _ (p : Program) (rows : List Qualified) (functions : List FunctionTree) (more : (n : ℕ) → Stays (slice_get p.targets n) (slice_get rows n)) (ts : List ℕ) (first : ℕ) (same : (n : ℕ) (g : FunctionTree) → slice_get p.functions n ≡ Some g → slice_get functions n ≡ Some (outlined_function ts first g)) (reads : (n t : ℕ) → place_in n 0 ts ≡ Some t → IsRead p functions first n t) (f : FunctionTree) where
  e_fits : (standing : _) (e : Expression) → fits p f standing e ≡ true → fits (wider p rows functions) (outlined_function ts first f) standing (outlined_expression ts first e) ≡ true
  e_fits = fits_again p rows functions more ts first same reads f

  any_again : (e : Option Expression) → any_fits p f e ≡ true → any_fits (wider p rows functions) (outlined_function ts first f) (outlined_option ts first e) ≡ true
  any_again None h = h
  any_again (Some e) h = e_fits Used e h

  condition_again : (e : Expression) → condition_fits p f e ≡ true → condition_fits (wider p rows functions) (outlined_function ts first f) (outlined_expression ts first e) ≡ true
  condition_again e = both_hold (is_scalar (type_of e)) (fits p f Used e) (is_scalar (type_of (outlined_expression ts first e))) (fits (wider p rows functions) (outlined_function ts first f) Used (outlined_expression ts first e)) (λ h. ap is_scalar (type_again ts first e) ∙ h) (e_fits Used e)

  any_condition_again : (e : Option Expression) → any_condition_fits p f e ≡ true → any_condition_fits (wider p rows functions) (outlined_function ts first f) (outlined_option ts first e) ≡ true
  any_condition_again None h = h
  any_condition_again (Some e) h = condition_again e h

  value_again : (ty : Ty) (e : Expression) → value_fits p f ty e ≡ true → value_fits (wider p rows functions) (outlined_function ts first f) ty (outlined_expression ts first e) ≡ true
  value_again ty e = both_hold (goes_to p (source_of e) (type_of e) ty) (fits p f Used e) (goes_to (wider p rows functions) (source_of (outlined_expression ts first e)) (type_of (outlined_expression ts first e)) ty) (fits (wider p rows functions) (outlined_function ts first f) Used (outlined_expression ts first e)) (argument_goes p rows functions more ts first same reads e ty) (e_fits Used e)

  first_value_again : (v : Option VariableTree) (e : Expression) → first_value_fits p f v e ≡ true → first_value_fits (wider p rows functions) (outlined_function ts first f) v (outlined_expression ts first e) ≡ true
  first_value_again None e h = h
  first_value_again (Some v) e h = value_again v.ty.ty e h

  -- ---- lists of first values
  copied_again : (from : Place) (size : ℕ) → copied_item_fits p f from size ≡ true → copied_item_fits (wider p rows functions) (outlined_function ts first f) (outlined_place ts first from) size ≡ true
  copied_again from size h =
      ap (λ q. is_struct q.ty && (nat_eq size (type_bytes p.sizes q.ty) && place_fits (wider p rows functions) (outlined_function ts first f) (outlined_place ts first from))) (place_type_again ts first from)
      ∙ second_holds (is_struct (place_type from).ty) (nat_eq size (type_bytes p.sizes (place_type from).ty) && place_fits p f from) (nat_eq size (type_bytes p.sizes (place_type from).ty) && place_fits (wider p rows functions) (outlined_function ts first f) (outlined_place ts first from))
      (second_holds (nat_eq size (type_bytes p.sizes (place_type from).ty)) (place_fits p f from) (place_fits (wider p rows functions) (outlined_function ts first f) (outlined_place ts first from)) (place_again p rows functions more ts first same reads f from)) h

  item_again : (item : Item) → item_fits p f item ≡ true → item_fits (wider p rows functions) (outlined_function ts first f) (outlined_item ts first item) ≡ true
  item_again (tree.Scalar offset value) h = ap (λ t. value_fits (wider p rows functions) (outlined_function ts first f) t (outlined_expression ts first value)) (type_again ts first value) ∙ value_again (type_of value) value h
  item_again (tree.Struct offset from size) h = copied_again from size h
  item_again (tree.Text offset bytes size) h = h

  items_again : (size before : ℕ) (items : List Item) → items_fit p f size before items ≡ true → items_fit (wider p rows functions) (outlined_function ts first f) size before (map (outlined_item ts first) items) ≡ true
  items_again size before [] h = h
  items_again size before (item ∷ items) h =
      ap (λ n. lies_within size before n (item_bytes p.sizes (outlined_item ts first item)) && (item_fits (wider p rows functions) (outlined_function ts first f) (outlined_item ts first item) && items_fit (wider p rows functions) (outlined_function ts first f) size (n + item_bytes p.sizes (outlined_item ts first item)) (map (outlined_item ts first) items))) (start_again ts first item)
      ∙ ap (λ n. lies_within size before (item_start item) n && (item_fits (wider p rows functions) (outlined_function ts first f) (outlined_item ts first item) && items_fit (wider p rows functions) (outlined_function ts first f) size (item_start item + n) (map (outlined_item ts first) items))) (bytes_again ts first p.sizes item)
      ∙ second_holds (lies_within size before (item_start item) (item_bytes p.sizes item)) (item_fits p f item && items_fit p f size (item_start item + item_bytes p.sizes item) items) (item_fits (wider p rows functions) (outlined_function ts first f) (outlined_item ts first item) && items_fit (wider p rows functions) (outlined_function ts first f) size (item_start item + item_bytes p.sizes item) (map (outlined_item ts first) items))
      (both_hold (item_fits p f item) (items_fit p f size (item_start item + item_bytes p.sizes item) items) (item_fits (wider p rows functions) (outlined_function ts first f) (outlined_item ts first item)) (items_fit (wider p rows functions) (outlined_function ts first f) size (item_start item + item_bytes p.sizes item) (map (outlined_item ts first) items)) (item_again item) (items_again size (item_start item + item_bytes p.sizes item) items)) h

  list_again : (v : Option VariableTree) (items : List Item) → list_fits p f v items ≡ true → list_fits (wider p rows functions) (outlined_function ts first f) v (map (outlined_item ts first) items) ≡ true
  list_again None items h = h
  list_again (Some v) items h = second_holds (has_parts v.ty.ty) (items_fit p f (type_bytes p.sizes v.ty.ty) 0 items) (items_fit (wider p rows functions) (outlined_function ts first f) (type_bytes p.sizes v.ty.ty) 0 (map (outlined_item ts first) items)) (items_again (type_bytes p.sizes v.ty.ty) 0 items) h

  -- ---- statements
  return_again : (e : Option Expression) → return_fits p f e ≡ true → return_fits (wider p rows functions) (outlined_function ts first f) (outlined_option ts first e) ≡ true
  return_again None h = h
  return_again (Some e) h = value_again f.result e h

  switch_again : (e : Expression) → switch_rule p f e ≡ true → switch_rule (wider p rows functions) (outlined_function ts first f) (outlined_expression ts first e) ≡ true
  switch_again e = both_hold (is_promoted (type_of e)) (fits p f Used e) (is_promoted (type_of (outlined_expression ts first e))) (fits (wider p rows functions) (outlined_function ts first f) Used (outlined_expression ts first e)) (λ h. ap is_promoted (type_again ts first e) ∙ h) (e_fits Used e)

  loop_again : (shape : LoopForm) (a b c : Option Expression) → loop_fits shape (is_some a) (is_some b) (is_some c) ≡ true → loop_fits shape (is_some (outlined_option ts first a)) (is_some (outlined_option ts first b)) (is_some (outlined_option ts first c)) ≡ true
  loop_again shape a b c h =
      ap (λ x. loop_fits shape x (is_some (outlined_option ts first b)) (is_some (outlined_option ts first c))) (some_again ts first a)
      ∙ ap (λ x. loop_fits shape (is_some a) x (is_some (outlined_option ts first c))) (some_again ts first b)
      ∙ ap (λ x. loop_fits shape (is_some a) (is_some b) x) (some_again ts first c) ∙ h

  cases_again : (e : Expression) (ss : Statements) (cases : _) → cases_fit (type_of e) (count_of ss) cases ≡ true → cases_fit (type_of (outlined_expression ts first e)) (count_of (outlined_statements ts first ss)) cases ≡ true
  cases_again e ss cases h = ap (λ t. cases_fit t (count_of (outlined_statements ts first ss)) cases) (type_again ts first e) ∙ ap (λ n. cases_fit (type_of e) n cases) (count_again ts first ss) ∙ h

  mutual
    unfolding outlined_statement outlined_statements outlined_arm outlined_arms outlined_last statement_fits statements_fit arm_fits arms_fit last_fits

    pub statement_again : (declares leaves repeats : Bool) (s : Statement) → statement_fits p f declares leaves repeats s ≡ true → statement_fits (wider p rows functions) (outlined_function ts first f) declares leaves repeats (outlined_statement ts first s) ≡ true
    statement_again declares leaves repeats (tree.Block ss line) h = statements_again true leaves repeats ss h
    statement_again declares leaves repeats (tree.Empty line) h = h
    statement_again declares leaves repeats (tree.Expr e line) h = e_fits Alone e h
    statement_again declares leaves repeats (tree.Declare local line) h = h
    statement_again declares leaves repeats (tree.InitScalar local e line) h = both_hold declares (first_value_fits p f (slice_get f.locals local) e) declares (first_value_fits (wider p rows functions) (outlined_function ts first f) (slice_get f.locals local) (outlined_expression ts first e)) (λ x. x) (first_value_again (slice_get f.locals local) e) h
    statement_again declares leaves repeats (tree.InitList local items line) h = both_hold declares (list_fits p f (slice_get f.locals local) items) declares (list_fits (wider p rows functions) (outlined_function ts first f) (slice_get f.locals local) (map (outlined_item ts first) items)) (λ x. x) (list_again (slice_get f.locals local) items) h
    statement_again declares leaves repeats (tree.If as_ otherwise line) h = both_hold _ _ _ _ (λ x. some_arm_again ts first as_ ∙ x) (both_hold _ _ _ _ (arms_again leaves repeats as_) (last_again leaves repeats otherwise)) h
    statement_again declares leaves repeats (tree.Loop shape begin condition step body line) h = both_hold _ _ _ _ (loop_again shape begin condition step) (both_hold _ _ _ _ (any_again begin) (both_hold _ _ _ _ (any_condition_again condition) (both_hold _ _ _ _ (any_again step) (statement_again false true true body)))) h
    statement_again declares leaves repeats (tree.Switch e cases default ss line) h = both_hold _ _ _ _ (switch_again e) (both_hold _ _ _ _ (cases_again e ss cases) (both_hold _ _ _ _ (λ x. ap (λ n. default_fits n default) (count_again ts first ss) ∙ x) (statements_again false true repeats ss))) h
    statement_again declares leaves repeats (tree.Break line) h = h
    statement_again declares leaves repeats (tree.Continue line) h = h
    statement_again declares leaves repeats (tree.Return e line) h = return_again e h

    pub statements_again : (declares leaves repeats : Bool) (ss : Statements) → statements_fit p f declares leaves repeats ss ≡ true → statements_fit (wider p rows functions) (outlined_function ts first f) declares leaves repeats (outlined_statements ts first ss) ≡ true
    statements_again declares leaves repeats tree.NoStatement h = h
    statements_again declares leaves repeats (tree.AndStatement s ss) h = both_hold _ _ _ _ (statement_again declares leaves repeats s) (statements_again declares leaves repeats ss) h

    arm_again : (leaves repeats : Bool) (a : Arm) → arm_fits p f leaves repeats a ≡ true → arm_fits (wider p rows functions) (outlined_function ts first f) leaves repeats (outlined_arm ts first a) ≡ true
    arm_again leaves repeats (tree.OneArm condition s line) h = both_hold _ _ _ _ (condition_again condition) (statement_again false leaves repeats s) h

    arms_again : (leaves repeats : Bool) (as_ : Arms) → arms_fit p f leaves repeats as_ ≡ true → arms_fit (wider p rows functions) (outlined_function ts first f) leaves repeats (outlined_arms ts first as_) ≡ true
    arms_again leaves repeats tree.NoArm h = h
    arms_again leaves repeats (tree.AndArm a as_) h = both_hold _ _ _ _ (arm_again leaves repeats a) (arms_again leaves repeats as_) h

    last_again : (leaves repeats : Bool) (last : LastArm) → last_fits p f leaves repeats last ≡ true → last_fits (wider p rows functions) (outlined_function ts first f) leaves repeats (outlined_last ts first last) ≡ true
    last_again leaves repeats tree.NoLast h = h
    last_again leaves repeats (tree.Last s) h = statement_again false leaves repeats s h

  -- ---- functions
  pub function_again : function_fits p f ≡ true → function_fits (wider p rows functions) (outlined_function ts first f) ≡ true
  function_again = both_hold (result_fits p f.result) (list_all (param_fits p) f.params && (list_all (local_fits p) f.locals && statements_fit p f true false false f.body)) (result_fits (wider p rows functions) f.result) (list_all (param_fits (wider p rows functions)) f.params && (list_all (local_fits (wider p rows functions)) f.locals && statements_fit (wider p rows functions) (outlined_function ts first f) true false false (outlined_statements ts first f.body)))
      (second_holds (is_scalar f.result || is_void f.result) (type_is_there p f.result) (type_is_there (wider p rows functions) f.result) (type_holds p rows functions more f.result))
      (both_hold (list_all (param_fits p) f.params) (list_all (local_fits p) f.locals && statements_fit p f true false false f.body) (list_all (param_fits (wider p rows functions)) f.params) (list_all (local_fits (wider p rows functions)) f.locals && statements_fit (wider p rows functions) (outlined_function ts first f) true false false (outlined_statements ts first f.body))
      (all_hold (param_fits p) (param_fits (wider p rows functions)) (param_holds p rows functions more) f.params)
      (both_hold (list_all (local_fits p) f.locals) (statements_fit p f true false false f.body) (list_all (local_fits (wider p rows functions)) f.locals) (statements_fit (wider p rows functions) (outlined_function ts first f) true false false (outlined_statements ts first f.body))
      (all_hold (local_fits p) (local_fits (wider p rows functions)) (local_holds p rows functions more) f.locals) (statements_again true false false f.body)))
