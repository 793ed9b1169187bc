-- The statements of a sound program's functions use open values alone.
use Rattle.std.proofs.Common.{◌≡◌, ℕ, zero, suc, ◌+◌, Bool, true, false, ◌&&◌, nat_eq, List, [], ◌∷◌, Option, Some, None, slice_get, is_some, refl}
use Rattle.std.proofs.lemmas.Bool.{and_parts, false≢true}
use Rattle.c_typed.proofs.Facts.{body_of_sound}
use Rattle.c_typed.specs.Fits.{fits, goes_to, place_fits, source_of, Used}
use Rattle.c_typed.specs.Sameness.{is_promoted, is_scalar, is_struct}
use Rattle.c_typed.specs.Sound.{any_condition_fits, any_fits, arm_fits, arms_fit, cases_fit, condition_fits, count_of, default_fits, first_value_fits, is_some_arm, is_sound, item_fits, items_fit, last_fits, lies_within, list_fits, loop_fits, return_fits, statement_fits, statements_fit, switch_rule, value_fits}
use Rattle.c_typed.specs.Trees as tree
use Rattle.c_typed.specs.Trees.{Arm, Arms, Expression, FunctionTree, Item, LastArm, Program, Statement, Statements, VariableTree}
use Rattle.c_typed.specs.Types.{place_type, type_bytes, type_of, item_start}
use Rattle.c_typed.specs.Words.{item_bytes}
use Rattle.c_typed.specs.declared.types.Ty.{Ty}
use Rattle.src_rules.specs.Giving.{statements_behind}
use Rattle.src_values.specs.Objects.{function_at, or_no_function}
use Rattle.lower_trace.proofs.OpenSound.{alone_value_open, places_open, value_open}
use Rattle.lower_trace.proofs.OpenTrees.{AnyOpen, ArmOpen, ArmsOpen, ItemsOpen, LastOpen, StatementOpen, StatementsOpen, UsedOpen}

pub behind_open : (n : ℕ) (ss : Statements) → StatementsOpen ss → StatementsOpen (statements_behind n ss)
behind_open zero ss h = h
behind_open (suc n) tree.NoStatement h = tt
behind_open (suc n) (tree.AndStatement t ts) h = behind_open n ts h.1

module _ (p : Program) (f : FunctionTree) where
  goes_open : (ty : Ty) (e : Expression) → value_fits p f ty e ≡ true → UsedOpen e
  goes_open ty e h = value_open p f e (and_parts (goes_to p (source_of e) (type_of e) ty) (fits p f Used e) h).1

  any_open : (o : Option Expression) → any_fits p f o ≡ true → AnyOpen o
  any_open None h = tt
  any_open (Some e) h = value_open p f e h

  condition_open : (e : Expression) → condition_fits p f e ≡ true → UsedOpen e
  condition_open e h = value_open p f e (and_parts (is_scalar (type_of e)) (fits p f Used e) h).1

  any_condition_open : (o : Option Expression) → any_condition_fits p f o ≡ true → AnyOpen o
  any_condition_open None h = tt
  any_condition_open (Some e) h = condition_open e h

  first_open : (o : Option VariableTree) (e : Expression) → first_value_fits p f o e ≡ true → UsedOpen e
  first_open None e h = absurd (false≢true h)
  first_open (Some v) e h = goes_open v.ty.ty e h

  items_open : (size before : ℕ) (items : List Item) → items_fit p f size before items ≡ true → ItemsOpen items
  items_open size before [] h = tt
  items_open size before (tree.Scalar offset e ∷ items) h =
      let item = tree.Scalar offset e in
      let rest = items_fit p f size (item_start item + item_bytes p.sizes item) items in
      let g = and_parts (item_fits p f item) rest (and_parts (lies_within size before (item_start item) (item_bytes p.sizes item)) (item_fits p f item && rest) h).1 in
      (goes_open (type_of e) e g.0, items_open size (item_start item + item_bytes p.sizes item) items g.1)
  items_open size before (tree.Struct offset from bytes ∷ items) h =
      let item = tree.Struct offset from bytes in
      let rest = items_fit p f size (item_start item + item_bytes p.sizes item) items in
      let g = and_parts (item_fits p f item) rest (and_parts (lies_within size before (item_start item) (item_bytes p.sizes item)) (item_fits p f item && rest) h).1 in
      let s = and_parts (nat_eq bytes (type_bytes p.sizes (place_type from).ty)) (place_fits p f from) (and_parts (is_struct (place_type from).ty) (nat_eq bytes (type_bytes p.sizes (place_type from).ty) && place_fits p f from) g.0).1 in
      (places_open p f from s.1, items_open size (item_start item + item_bytes p.sizes item) items g.1)
  items_open size before (tree.Text offset text bytes ∷ items) h =
      let item = tree.Text offset text bytes in
      let rest = items_fit p f size (item_start item + item_bytes p.sizes item) items in
      let g = and_parts (item_fits p f item) rest (and_parts (lies_within size before (item_start item) (item_bytes p.sizes item)) (item_fits p f item && rest) h).1 in
      items_open size (item_start item + item_bytes p.sizes item) items g.1

  list_open : (o : Option VariableTree) (items : List Item) → list_fits p f o items ≡ true → ItemsOpen items
  list_open None items h = absurd (false≢true h)
  list_open (Some v) items h = items_open (type_bytes p.sizes v.ty.ty) 0 items (and_parts _ (items_fit p f (type_bytes p.sizes v.ty.ty) 0 items) h).1

  return_open : (o : Option Expression) → return_fits p f o ≡ true → AnyOpen o
  return_open None h = tt
  return_open (Some e) h = goes_open f.result e h

  mutual
    unfolding statement_fits

    statement_open : (d l r : Bool) (t : Statement) → statement_fits p f d l r t ≡ true → StatementOpen t
    statement_open d l r (tree.Block ss line) h = statements_open true l r ss h
    statement_open d l r (tree.Empty line) h = tt
    statement_open d l r (tree.Expr e line) h = alone_value_open p f e h
    statement_open d l r (tree.Declare local line) h = tt
    statement_open d l r (tree.InitScalar local e line) h = first_open (slice_get f.locals local) e (and_parts d (first_value_fits p f (slice_get f.locals local) e) h).1
    statement_open d l r (tree.InitList local items line) h = list_open (slice_get f.locals local) items (and_parts d (list_fits p f (slice_get f.locals local) items) h).1
    statement_open d l r (tree.If chain otherwise line) h =
        let q = and_parts (arms_fit p f l r chain) (last_fits p f l r otherwise) (and_parts (is_some_arm chain) (arms_fit p f l r chain && last_fits p f l r otherwise) h).1 in
        (arms_open l r chain q.0, last_open l r otherwise q.1)
    statement_open d l r (tree.Loop shape begin condition step body line) h =
        let b = statement_fits p f false true true body in
        let q = and_parts (loop_fits shape (is_some begin) (is_some condition) (is_some step)) (any_fits p f begin && (any_condition_fits p f condition && (any_fits p f step && b))) h in
        let q1 = and_parts (any_fits p f begin) (any_condition_fits p f condition && (any_fits p f step && b)) q.1 in
        let q2 = and_parts (any_condition_fits p f condition) (any_fits p f step && b) q1.1 in
        let q3 = and_parts (any_fits p f step) b q2.1 in
        (any_open begin q1.0, any_condition_open condition q2.0, any_open step q3.0, statement_open false true true body q3.1)
    statement_open d l r (tree.Switch x cases default ss line) h =
        let b = statements_fit p f false true r ss in
        let q1 = and_parts (switch_rule p f x) (cases_fit (type_of x) (count_of ss) cases && (default_fits (count_of ss) default && b)) h in
        let q2 = and_parts (cases_fit (type_of x) (count_of ss) cases) (default_fits (count_of ss) default && b) q1.1 in
        let q3 = and_parts (default_fits (count_of ss) default) b q2.1 in
        (value_open p f x (and_parts (is_promoted (type_of x)) (fits p f Used x) q1.0).1, statements_open false true r ss q3.1)
    statement_open d l r (tree.Break line) h = tt
    statement_open d l r (tree.Continue line) h = tt
    statement_open d l r (tree.Return value line) h = return_open value h

    pub statements_open : (d l r : Bool) (ss : Statements) → statements_fit p f d l r ss ≡ true → StatementsOpen ss
    statements_open d l r tree.NoStatement h = tt
    statements_open d l r (tree.AndStatement t ts) h = let q = and_parts (statement_fits p f d l r t) (statements_fit p f d l r ts) h in (statement_open d l r t q.0, statements_open d l r ts q.1)

    arm_open : (l r : Bool) (arm : Arm) → arm_fits p f l r arm ≡ true → ArmOpen arm
    arm_open l r (tree.OneArm condition chosen line) h = let q = and_parts (condition_fits p f condition) (statement_fits p f false l r chosen) h in (condition_open condition q.0, statement_open false l r chosen q.1)

    arms_open : (l r : Bool) (arms : Arms) → arms_fit p f l r arms ≡ true → ArmsOpen arms
    arms_open l r tree.NoArm h = tt
    arms_open l r (tree.AndArm arm more) h = let q = and_parts (arm_fits p f l r arm) (arms_fit p f l r more) h in (arm_open l r arm q.0, arms_open l r more q.1)

    last_open : (l r : Bool) (otherwise : LastArm) → last_fits p f l r otherwise ≡ true → LastOpen otherwise
    last_open l r tree.NoLast h = tt
    last_open l r (tree.Last t) h = statement_open false l r t h

pub bodies_open : (p : Program) → is_sound p ≡ true → (f : ℕ) → StatementsOpen (function_at p f).body
bodies_open p sound f = by (slice_get p.functions f) refl
  where
    by : (o : Option FunctionTree) → slice_get p.functions f ≡ o → StatementsOpen (or_no_function o).body
    by None e = tt
    by (Some function) e = statements_open p function true false false function.body (body_of_sound p f function sound e)
