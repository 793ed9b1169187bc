-- Each function that a function of a sound program calls is one of the program.
use Rattle.std.proofs.Common.{◌≡◌, ℕ, ◌+◌, ◌<◌, Bool, true, false, ◌&&◌, List, [], ◌∷◌, ◌++◌, length, Option, Some, None, is_some}
use Rattle.std.proofs.lemmas.Bool.{and_parts, false≢true}
use Rattle.std.specs.Prelude.{slice_get, nat_eq}
use Rattle.c_typed.proofs.Facts.{called_function_is_there}
use Rattle.c_typed.specs.Calls.{calls, place_calls, arguments_calls, helper_calls, helper_for, difference_helper, any_calls, items_calls, statement_calls, statements_calls, arm_calls, arms_calls, last_calls}
use Rattle.c_typed.specs.Fits.{source_of, goes_to, params_of, operand_standing, rule_holds, place_rule_holds, fits, place_fits, arguments_fit, Standing, Used, Pointed, Alone}
use Rattle.c_typed.specs.Sameness.{is_scalar, is_struct, is_promoted}
use Rattle.c_typed.specs.Sound.{any_fits, condition_fits, any_condition_fits, value_fits, first_value_fits, item_fits, lies_within, items_fit, has_parts, list_fits, loop_fits, default_fits, cases_fit, count_of, return_fits, switch_rule, is_some_arm, statement_fits, statements_fit, arm_fits, arms_fit, last_fits}
use Rattle.c_typed.specs.Trees as tree
use Rattle.c_typed.specs.Trees.{Expression, Expressions, Place, Item, Statement, Statements, Arm, Arms, LastArm, VariableTree, FunctionTree, Program}
use Rattle.c_typed.specs.Types.{type_bytes, type_of, is_constant, place_type, item_start}
use Rattle.c_typed.specs.Words.{item_bytes}
use Rattle.c_typed.specs.declared.calls.FnId.{FnId}
use Rattle.c_typed.specs.declared.calls.FnId.TheVariants as callee
use Rattle.c_typed.specs.declared.calls.Helper.{Helper}
use Rattle.c_typed.specs.declared.types.Ty.{Ty}

-- the functions among these are below this number
abbrev pub AreBelow : ℕ → List FnId → Type 0
AreBelow n [] = Unit {0}
AreBelow n (callee.User function ∷ ids) = (function < n) × AreBelow n ids
AreBelow n (callee.Helper helper ∷ ids) = AreBelow n ids

both_below : (n : ℕ) (xs ys : List FnId) → AreBelow n xs → AreBelow n ys → AreBelow n (xs ++ ys)
both_below n [] ys h k = k
both_below n (callee.User function ∷ xs) ys h k = (h.0, both_below n xs ys h.1 k)
both_below n (callee.Helper helper ∷ xs) ys h k = both_below n xs ys h k

helper_below : (n : ℕ) (o : Option Helper) → AreBelow n (helper_calls o)
helper_below n None = tt
helper_below n (Some helper) = tt

module _ (p : Program) (f : FunctionTree) where
  abbrev Below : List FnId → Type 0
  Below ids = AreBelow (length p.functions) ids

  joined : (xs ys : List FnId) → Below xs → Below ys → Below (xs ++ ys)
  joined xs ys h k = both_below (length p.functions) xs ys h k

  -- ---- expressions
  mutual
    unfolding fits calls rule_holds

    pub calls_below : (standing : Standing) (e : Expression) → fits p f standing e ≡ true → Below (calls e)
    calls_below standing (tree.Constant value line) h = tt
    calls_below standing (tree.Read place ty line) h = let g = and_parts (rule_holds p standing (tree.Read place ty line)) (place_fits p f place) h in place_below place g.1
    calls_below standing (tree.Address place ty line) h = let g = and_parts (rule_holds p standing (tree.Address place ty line)) (place_fits p f place) h in place_below place g.1
    calls_below standing (tree.Convert operand ty line) h = let g = and_parts (rule_holds p standing (tree.Convert operand ty line)) (fits p f Used operand) h in calls_below Used operand g.1
    calls_below standing (tree.Cast operand ty line) h = let g = and_parts (rule_holds p standing (tree.Cast operand ty line)) (fits p f Used operand) h in calls_below Used operand g.1
    calls_below standing (tree.Unary op operand ty line) h = let g = and_parts (rule_holds p standing (tree.Unary op operand ty line)) (fits p f Used operand) h in calls_below Used operand g.1
    calls_below standing (tree.Binary op left right ty line) h =
        let g = and_parts (rule_holds p standing (tree.Binary op left right ty line)) (fits p f Used left && fits p f Used right) h in
        let d = and_parts (fits p f Used left) (fits p f Used right) g.1 in
        let helper = helper_for op (is_constant right) (type_of left) in
        joined (calls left ++ calls right) (helper_calls helper) (joined (calls left) (calls right) (calls_below Used left d.0) (calls_below Used right d.1)) (helper_below (length p.functions) helper)
    calls_below standing (tree.Offset op left right size ty line) h =
        let g = and_parts (rule_holds p standing (tree.Offset op left right size ty line)) (fits p f (operand_standing standing op) left && fits p f (operand_standing standing op) right) h in
        let d = and_parts (fits p f (operand_standing standing op) left) (fits p f (operand_standing standing op) right) g.1 in
        joined (calls left) (calls right) (calls_below (operand_standing standing op) left d.0) (calls_below (operand_standing standing op) right d.1)
    calls_below standing (tree.Difference left right size line) h =
        let g = and_parts (rule_holds p standing (tree.Difference left right size line)) (fits p f Used left && fits p f Used right) h in
        let d = and_parts (fits p f Used left) (fits p f Used right) g.1 in
        joined (calls left ++ calls right) (helper_calls (difference_helper size)) (joined (calls left) (calls right) (calls_below Used left d.0) (calls_below Used right d.1)) (helper_below (length p.functions) (difference_helper size))
    calls_below standing (tree.Logical op left right line) h =
        let g = and_parts (rule_holds p standing (tree.Logical op left right line)) (fits p f Used left && fits p f Used right) h in
        let d = and_parts (fits p f Used left) (fits p f Used right) g.1 in
        joined (calls left) (calls right) (calls_below Used left d.0) (calls_below Used right d.1)
    calls_below standing (tree.Conditional condition chosen otherwise ty line) h =
        let g = and_parts (rule_holds p standing (tree.Conditional condition chosen otherwise ty line)) (fits p f Used condition && (fits p f Used chosen && fits p f Used otherwise)) h in
        let d = and_parts (fits p f Used condition) (fits p f Used chosen && fits p f Used otherwise) g.1 in
        let b = and_parts (fits p f Used chosen) (fits p f Used otherwise) d.1 in
        joined (calls condition ++ calls chosen) (calls otherwise) (joined (calls condition) (calls chosen) (calls_below Used condition d.0) (calls_below Used chosen b.0)) (calls_below Used otherwise b.1)
    calls_below standing (tree.Comma left right ty line) h =
        let g = and_parts (rule_holds p standing (tree.Comma left right ty line)) (fits p f Used left && fits p f Used right) h in
        let d = and_parts (fits p f Used left) (fits p f Used right) g.1 in
        joined (calls left) (calls right) (calls_below Used left d.0) (calls_below Used right d.1)
    calls_below standing (tree.Assign place value ty line) h =
        let g = and_parts (rule_holds p standing (tree.Assign place value ty line)) (place_fits p f place && fits p f Used value) h in
        let d = and_parts (place_fits p f place) (fits p f Used value) g.1 in
        joined (place_calls place) (calls value) (place_below place d.0) (calls_below Used value d.1)
    calls_below standing (tree.StructAssign place from size line) h =
        let g = and_parts (rule_holds p standing (tree.StructAssign place from size line)) (place_fits p f place && place_fits p f from) h in
        let d = and_parts (place_fits p f place) (place_fits p f from) g.1 in
        joined (place_calls place) (place_calls from) (place_below place d.0) (place_below from d.1)
    calls_below standing (tree.Update op place value operation size ty line) h =
        let g = and_parts (rule_holds p standing (tree.Update op place value operation size ty line)) (place_fits p f place && fits p f Used value) h in
        let d = and_parts (place_fits p f place) (fits p f Used value) g.1 in
        let helper = helper_for op (is_constant value) operation in
        joined (place_calls place ++ calls value) (helper_calls helper) (joined (place_calls place) (calls value) (place_below place d.0) (calls_below Used value d.1)) (helper_below (length p.functions) helper)
    calls_below standing (tree.Step op place operation size ty line) h = let g = and_parts (rule_holds p standing (tree.Step op place operation size ty line)) (place_fits p f place) h in place_below place g.1
    calls_below standing (tree.Call function arguments ty line) h =
        let g = and_parts (rule_holds p standing (tree.Call function arguments ty line)) (arguments_fit p f arguments (params_of (slice_get p.functions function))) h in
        joined (arguments_calls arguments) (callee.User function ∷ []) (arguments_below arguments (params_of (slice_get p.functions function)) g.1) (called_function_is_there p f standing function arguments ty line h, tt)

    pub place_below : (place : Place) → place_fits p f place ≡ true → Below (place_calls place)
    place_below (tree.Name object ty line) h = tt
    place_below (tree.Bit register number line) h = tt
    place_below (tree.Member whole member offset ty line) h = let g = and_parts (place_rule_holds p f (tree.Member whole member offset ty line)) (place_fits p f whole) h in place_below whole g.1
    place_below (tree.Deref pointer ty line) h = let g = and_parts (place_rule_holds p f (tree.Deref pointer ty line)) (fits p f Pointed pointer) h in calls_below Pointed pointer g.1

    pub arguments_below : (es : Expressions) (vs : List VariableTree) → arguments_fit p f es vs ≡ true → Below (arguments_calls es)
    arguments_below tree.NoExpression vs h = tt
    arguments_below (tree.AndExpression e es) [] h = absurd (false≢true h)
    arguments_below (tree.AndExpression e es) (v ∷ vs) h =
        let g = and_parts (goes_to p (source_of e) (type_of e) v.ty.ty) (fits p f Used e && arguments_fit p f es vs) h in
        let d = and_parts (fits p f Used e) (arguments_fit p f es vs) g.1 in
        joined (calls e) (arguments_calls es) (calls_below Used e d.0) (arguments_below es vs d.1)

  -- ---- parts of statements
  any_below : (o : Option Expression) → any_fits p f o ≡ true → Below (any_calls o)
  any_below None h = tt
  any_below (Some e) h = calls_below Used e h

  condition_below : (e : Expression) → condition_fits p f e ≡ true → Below (calls e)
  condition_below e h = let g = and_parts (is_scalar (type_of e)) (fits p f Used e) h in calls_below Used e g.1

  any_condition_below : (o : Option Expression) → any_condition_fits p f o ≡ true → Below (any_calls o)
  any_condition_below None h = tt
  any_condition_below (Some e) h = condition_below e h

  value_below : (ty : Ty) (e : Expression) → value_fits p f ty e ≡ true → Below (calls e)
  value_below ty e h = let g = and_parts (goes_to p (source_of e) (type_of e) ty) (fits p f Used e) h in calls_below Used e g.1

  first_below : (o : Option VariableTree) (e : Expression) → first_value_fits p f o e ≡ true → Below (calls e)
  first_below None e h = absurd (false≢true h)
  first_below (Some v) e h = value_below v.ty.ty e h

  items_below : (size before : ℕ) (items : List Item) → items_fit p f size before items ≡ true → Below (items_calls items)
  items_below size before [] h = tt
  items_below size before (tree.Scalar offset e ∷ items) h =
      let item = tree.Scalar offset e in
      let last = items_fit p f size (item_start item + item_bytes p.sizes item) items in
      let g = and_parts (lies_within size before (item_start item) (item_bytes p.sizes item)) (item_fits p f item && last) h in
      let d = and_parts (item_fits p f item) last g.1 in
      joined (calls e) (items_calls items) (value_below (type_of e) e d.0) (items_below size (item_start item + item_bytes p.sizes item) items d.1)
  items_below size before (tree.Struct offset from bytes ∷ items) h =
      let item = tree.Struct offset from bytes in
      let last = items_fit p f size (item_start item + item_bytes p.sizes item) items in
      let g = and_parts (lies_within size before (item_start item) (item_bytes p.sizes item)) (item_fits p f item && last) h in
      let d = and_parts (item_fits p f item) last g.1 in
      let v = and_parts (is_struct (place_type from).ty) (nat_eq bytes (type_bytes p.sizes (place_type from).ty) && place_fits p f from) d.0 in
      let u = and_parts (nat_eq bytes (type_bytes p.sizes (place_type from).ty)) (place_fits p f from) v.1 in
      joined (place_calls from) (items_calls items) (place_below from u.1) (items_below size (item_start item + item_bytes p.sizes item) items d.1)
  items_below size before (tree.Text offset text bytes ∷ items) h =
      let item = tree.Text offset text bytes in
      let last = items_fit p f size (item_start item + item_bytes p.sizes item) items in
      let g = and_parts (lies_within size before (item_start item) (item_bytes p.sizes item)) (item_fits p f item && last) h in
      let d = and_parts (item_fits p f item) last g.1 in
      items_below size (item_start item + item_bytes p.sizes item) items d.1

  list_below : (o : Option VariableTree) (items : List Item) → list_fits p f o items ≡ true → Below (items_calls items)
  list_below None items h = absurd (false≢true h)
  list_below (Some v) items h = let g = and_parts (has_parts v.ty.ty) (items_fit p f (type_bytes p.sizes v.ty.ty) 0 items) h in items_below (type_bytes p.sizes v.ty.ty) 0 items g.1

  return_below : (o : Option Expression) → return_fits p f o ≡ true → Below (any_calls o)
  return_below None h = tt
  return_below (Some e) h = value_below f.result e h

  -- ---- statements
  mutual
    unfolding statement_fits statement_calls

    pub statement_below : (d l r : Bool) (t : Statement) → statement_fits p f d l r t ≡ true → Below (statement_calls t)
    statement_below d l r (tree.Block ss line) h = statements_below true l r ss h
    statement_below d l r (tree.Empty line) h = tt
    statement_below d l r (tree.Expr e line) h = calls_below Alone e h
    statement_below d l r (tree.Declare local line) h = tt
    statement_below d l r (tree.InitScalar local e line) h = let g = and_parts d (first_value_fits p f (slice_get f.locals local) e) h in first_below (slice_get f.locals local) e g.1
    statement_below d l r (tree.InitList local items line) h = let g = and_parts d (list_fits p f (slice_get f.locals local) items) h in list_below (slice_get f.locals local) items g.1
    statement_below d l r (tree.If chain otherwise line) h =
        let g = and_parts (is_some_arm chain) (arms_fit p f l r chain && last_fits p f l r otherwise) h in
        let b = and_parts (arms_fit p f l r chain) (last_fits p f l r otherwise) g.1 in
        joined (arms_calls chain) (last_calls otherwise) (arms_below l r chain b.0) (last_below l r otherwise b.1)
    statement_below d l r (tree.Loop shape begin condition step body line) h =
        let g = and_parts (loop_fits shape (is_some begin) (is_some condition) (is_some step)) (any_fits p f begin && (any_condition_fits p f condition && (any_fits p f step && statement_fits p f false true true body))) h in
        let a = and_parts (any_fits p f begin) (any_condition_fits p f condition && (any_fits p f step && statement_fits p f false true true body)) g.1 in
        let b = and_parts (any_condition_fits p f condition) (any_fits p f step && statement_fits p f false true true body) a.1 in
        let c = and_parts (any_fits p f step) (statement_fits p f false true true body) b.1 in
        let two = joined (any_calls begin) (any_calls condition) (any_below begin a.0) (any_condition_below condition b.0) in
        let three = joined (any_calls begin ++ any_calls condition) (any_calls step) two (any_below step c.0) in
        joined (any_calls begin ++ any_calls condition ++ any_calls step) (statement_calls body) three (statement_below false true true body c.1)
    statement_below d l r (tree.Switch e cases default ss line) h =
        let g = and_parts (switch_rule p f e) (cases_fit (type_of e) (count_of ss) cases && (default_fits (count_of ss) default && statements_fit p f false true r ss)) h in
        let value = and_parts (is_promoted (type_of e)) (fits p f Used e) g.0 in
        let a = and_parts (cases_fit (type_of e) (count_of ss) cases) (default_fits (count_of ss) default && statements_fit p f false true r ss) g.1 in
        let b = and_parts (default_fits (count_of ss) default) (statements_fit p f false true r ss) a.1 in
        joined (calls e) (statements_calls ss) (calls_below Used e value.1) (statements_below false true r ss b.1)
    statement_below d l r (tree.Break line) h = tt
    statement_below d l r (tree.Continue line) h = tt
    statement_below d l r (tree.Return value line) h = return_below value h

    pub statements_below : (d l r : Bool) (ss : Statements) → statements_fit p f d l r ss ≡ true → Below (statements_calls ss)
    statements_below d l r tree.NoStatement h = tt
    statements_below d l r (tree.AndStatement t ts) h =
        let g = and_parts (statement_fits p f d l r t) (statements_fit p f d l r ts) h in
        joined (statement_calls t) (statements_calls ts) (statement_below d l r t g.0) (statements_below d l r ts g.1)

    pub arm_below : (l r : Bool) (arm : Arm) → arm_fits p f l r arm ≡ true → Below (arm_calls arm)
    arm_below l r (tree.OneArm condition chosen line) h =
        let g = and_parts (condition_fits p f condition) (statement_fits p f false l r chosen) h in
        joined (calls condition) (statement_calls chosen) (condition_below condition g.0) (statement_below false l r chosen g.1)

    pub arms_below : (l r : Bool) (arms : Arms) → arms_fit p f l r arms ≡ true → Below (arms_calls arms)
    arms_below l r tree.NoArm h = tt
    arms_below l r (tree.AndArm arm more) h =
        let g = and_parts (arm_fits p f l r arm) (arms_fit p f l r more) h in
        joined (arm_calls arm) (arms_calls more) (arm_below l r arm g.0) (arms_below l r more g.1)

    pub last_below : (l r : Bool) (last : LastArm) → last_fits p f l r last ≡ true → Below (last_calls last)
    last_below l r tree.NoLast h = tt
    last_below l r (tree.Last t) h = statement_below false l r t h
