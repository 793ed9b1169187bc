-- The statements of a sound program's functions.
use Rattle.std.proofs.Common.{◌≡◌, ℕ, ◌+◌, ◌<◌, Bool, true, false, ◌&&◌, List, [], ◌∷◌, ◌++◌, length, Option, Some, None, is_some, refl, sym, subst}
use Rattle.std.proofs.lemmas.Bool.{and_parts, false≢true, leb-true}
use Rattle.std.proofs.lemmas.Option.{slice_get_within}
use Rattle.std.specs.Prelude.{slice_get, nat_eq}
use Rattle.c_typed.specs.Calls.{calls, place_calls, any_calls, items_calls, statement_calls, statements_calls, arm_calls, arms_calls, last_calls}
use Rattle.c_typed.specs.Fits.{source_of, goes_to, fits, place_fits, Used, Alone}
use Rattle.c_typed.specs.Sameness.{is_scalar, is_struct, is_void, is_promoted}
use Rattle.c_typed.specs.Sound.{any_fits, condition_fits, any_condition_fits, value_fits, local_is_there, first_value_fits, item_fits, lies_within, items_fit, has_parts, list_fits, loop_fits, default_fits, cases_fit, count_of, return_fits, switch_rule, is_some_arm, statement_fits, statements_fit, arm_fits, arms_fit, last_fits}
use Rattle.c_typed.specs.Trees as tree
use Rattle.c_typed.specs.Trees.{Expression, Expressions, Place, Item, Statement, Statements, Arm, Arms, LastArm, VariableTree, FunctionTree, Program}
use Rattle.c_typed.specs.Types.{type_bytes, type_of, place_type, item_start}
use Rattle.c_typed.specs.Words.{item_bytes}
use Rattle.c_typed.specs.declared.types.Ty.{Ty}
use Rattle.c_typed.specs.declared.types.Ty.TheVariants as types
use Rattle.src_rules.proofs.Parts.{AreCalled, left_called, right_called, goes, expression_is, place_is}
use Rattle.src_rules.proofs.Values.{same_nat}
use Rattle.src_rules.specs.Numbers.{HasNumbers, AnyHasNumbers, ItemsHaveNumbers, StatementHasNumbers, StatementsHaveNumbers, ArmHasNumbers, ArmsHaveNumbers, LastHasNumbers}
use Rattle.src_rules.specs.Parts.{GoesTo, AnyIsOf, IsConditionOf, AnyConditionIsOf, local_bytes, IsFirstOf, AreItemsOf, IsListOf, IsReturnOf, IsStatementOf, AreStatementsOf, IsArmOf, AreArmsOf, IsLastOf}
use Rattle.src_values.specs.Objects.{function_at, bytes_of_variable}

pub void_is : (ty : Ty) → is_void ty ≡ true → ty ≡ types.Void
void_is types.Void e = refl
void_is (types.Int a) e = absurd (false≢true e)
void_is (types.Pointer row) e = absurd (false≢true e)
void_is (types.Array a m x) e = absurd (false≢true e)
void_is (types.Struct n) e = absurd (false≢true e)

some_within : {A : Type 0} (xs : List A) (k : ℕ) (o : Option A) → slice_get xs k ≡ o → is_some o ≡ true → k < length xs
some_within xs k None is e = absurd (false≢true e)
some_within xs k (Some x) is e = slice_get_within xs k x is

module _ (p : Program) (n : ℕ) where
  any_is : (o : Option Expression) → any_fits p (function_at p n) o ≡ true → AnyHasNumbers o → AreCalled p n (any_calls o) → AnyIsOf p n o
  any_is None f h c = tt
  any_is (Some e) f h c = expression_is p n Used e f h c

  condition_is : (e : Expression) → condition_fits p (function_at p n) e ≡ true → HasNumbers e → AreCalled p n (calls e) → IsConditionOf p n e
  condition_is e f h c = let g = and_parts (is_scalar (type_of e)) (fits p (function_at p n) Used e) f in (g.0, expression_is p n Used e g.1 h c)

  any_condition_is : (o : Option Expression) → any_condition_fits p (function_at p n) o ≡ true → AnyHasNumbers o → AreCalled p n (any_calls o) → AnyConditionIsOf p n o
  any_condition_is None f h c = tt
  any_condition_is (Some e) f h c = condition_is e f h c

  value_goes : (ty : Ty) (e : Expression) → value_fits p (function_at p n) ty e ≡ true → GoesTo e ty × (fits p (function_at p n) Used e ≡ true)
  value_goes ty e f = let g = and_parts (goes_to p (source_of e) (type_of e) ty) (fits p (function_at p n) Used e) f in (goes p e ty g.0, g.1)

  first_is : (local : ℕ) (e : Expression) (o : Option VariableTree) → slice_get (function_at p n).locals local ≡ o → first_value_fits p (function_at p n) o e ≡ true → HasNumbers e → AreCalled p n (calls e) → IsFirstOf p n local e
  first_is local e None is f h c = absurd (false≢true f)
  first_is local e (Some v) is f h c = let g = value_goes v.ty.ty e f in record { variable = v; there = is; goes = g.0; value = expression_is p n Used e g.1 h c }

  items_are : (size before : ℕ) (items : List Item) → items_fit p (function_at p n) size before items ≡ true → ItemsHaveNumbers items → AreCalled p n (items_calls items) → AreItemsOf p n size before items
  items_are size before [] f h c = tt
  items_are size before (tree.Scalar offset e ∷ items) f h c =
      let item = tree.Scalar offset e in
      let g = and_parts (lies_within size before (item_start item) (item_bytes p.sizes item)) (item_fits p (function_at p n) item && items_fit p (function_at p n) size (item_start item + item_bytes p.sizes item) items) f in
      let d = and_parts (item_fits p (function_at p n) item) (items_fit p (function_at p n) size (item_start item + item_bytes p.sizes item) items) g.1 in
      let v = value_goes (type_of e) e d.0 in
      (g.0, (v.0.1, expression_is p n Used e v.1 h.0 (left_called p n (calls e) (items_calls items) c)), items_are size (item_start item + item_bytes p.sizes item) items d.1 h.1 (right_called p n (calls e) (items_calls items) c))
  items_are size before (tree.Struct offset from bytes ∷ items) f h c =
      let item = tree.Struct offset from bytes in
      let g = and_parts (lies_within size before (item_start item) (item_bytes p.sizes item)) (item_fits p (function_at p n) item && items_fit p (function_at p n) size (item_start item + item_bytes p.sizes item) items) f in
      let d = and_parts (item_fits p (function_at p n) item) (items_fit p (function_at p n) size (item_start item + item_bytes p.sizes item) items) g.1 in
      let v = and_parts (is_struct (place_type from).ty) (nat_eq bytes (type_bytes p.sizes (place_type from).ty) && place_fits p (function_at p n) from) d.0 in
      let u = and_parts (nat_eq bytes (type_bytes p.sizes (place_type from).ty)) (place_fits p (function_at p n) from) v.1 in
      (g.0, (v.0, same_nat bytes _ u.0, place_is p n from u.1 h.0 (left_called p n (place_calls from) (items_calls items) c)), items_are size (item_start item + item_bytes p.sizes item) items d.1 h.1 (right_called p n (place_calls from) (items_calls items) c))
  items_are size before (tree.Text offset text bytes ∷ items) f h c =
      let item = tree.Text offset text bytes in
      let g = and_parts (lies_within size before (item_start item) (item_bytes p.sizes item)) (item_fits p (function_at p n) item && items_fit p (function_at p n) size (item_start item + item_bytes p.sizes item) items) f in
      let d = and_parts (item_fits p (function_at p n) item) (items_fit p (function_at p n) size (item_start item + item_bytes p.sizes item) items) g.1 in
      (g.0, (leb-true (length text) bytes d.0, h.0), items_are size (item_start item + item_bytes p.sizes item) items d.1 h.1 c)

  list_is : (local : ℕ) (items : List Item) (o : Option VariableTree) → slice_get (function_at p n).locals local ≡ o → list_fits p (function_at p n) o items ≡ true → ItemsHaveNumbers items → AreCalled p n (items_calls items) → IsListOf p n local items
  list_is local items None is f h c = absurd (false≢true f)
  list_is local items (Some v) is f h c =
      let g = and_parts (has_parts v.ty.ty) (items_fit p (function_at p n) (type_bytes p.sizes v.ty.ty) 0 items) f in
      record { variable = v; there = is; parts = g.0; fit = items_are (local_bytes p n local) 0 items (subst (λ o. items_fit p (function_at p n) (bytes_of_variable p.sizes o) 0 items ≡ true) (sym is) g.1) h c }

  return_is : (o : Option Expression) → return_fits p (function_at p n) o ≡ true → AnyHasNumbers o → AreCalled p n (any_calls o) → IsReturnOf p n o
  return_is None f h c = void_is (function_at p n).result f
  return_is (Some e) f h c = let g = value_goes (function_at p n).result e f in (g.0, expression_is p n Used e g.1 h c)

  mutual
    unfolding statement_fits statement_calls

    pub statement_is : (d l r : Bool) (t : Statement) → statement_fits p (function_at p n) d l r t ≡ true → StatementHasNumbers t → AreCalled p n (statement_calls t) → IsStatementOf p n d l r t
    statement_is d l r (tree.Block ss line) f h c = statements_are true l r ss f h c
    statement_is d l r (tree.Empty line) f h c = tt
    statement_is d l r (tree.Expr e line) f h c = expression_is p n Alone e f h c
    statement_is d l r (tree.Declare local line) f h c = let g = and_parts d (local_is_there (function_at p n) local) f in (g.0, some_within (function_at p n).locals local (slice_get (function_at p n).locals local) refl g.1)
    statement_is d l r (tree.InitScalar local e line) f h c = let g = and_parts d (first_value_fits p (function_at p n) (slice_get (function_at p n).locals local) e) f in (g.0, first_is local e (slice_get (function_at p n).locals local) refl g.1 h c)
    statement_is d l r (tree.InitList local items line) f h c = let g = and_parts d (list_fits p (function_at p n) (slice_get (function_at p n).locals local) items) f in (g.0, list_is local items (slice_get (function_at p n).locals local) refl g.1 h c)
    statement_is d l r (tree.If chain otherwise line) f h c =
        let g = and_parts (is_some_arm chain) (arms_fit p (function_at p n) l r chain && last_fits p (function_at p n) l r otherwise) f in
        let b = and_parts (arms_fit p (function_at p n) l r chain) (last_fits p (function_at p n) l r otherwise) g.1 in
        (g.0, arms_are l r chain b.0 h.0 (left_called p n (arms_calls chain) (last_calls otherwise) c), last_is l r otherwise b.1 h.1 (right_called p n (arms_calls chain) (last_calls otherwise) c))
    statement_is d l r (tree.Loop shape begin condition step body line) f h c =
        let f' = function_at p n in
        let g = and_parts (loop_fits shape (is_some begin) (is_some condition) (is_some step)) (any_fits p f' begin && (any_condition_fits p f' condition && (any_fits p f' step && statement_fits p f' false true true body))) f in
        let g1 = and_parts (any_fits p f' begin) (any_condition_fits p f' condition && (any_fits p f' step && statement_fits p f' false true true body)) g.1 in
        let g2 = and_parts (any_condition_fits p f' condition) (any_fits p f' step && statement_fits p f' false true true body) g1.1 in
        let g3 = and_parts (any_fits p f' step) (statement_fits p f' false true true body) g2.1 in
        let c3 = left_called p n (any_calls begin ++ any_calls condition ++ any_calls step) (statement_calls body) c in
        let c2 = left_called p n (any_calls begin ++ any_calls condition) (any_calls step) c3 in
        (any_is begin g1.0 h.0 (left_called p n (any_calls begin) (any_calls condition) c2), any_condition_is condition g2.0 h.1 (right_called p n (any_calls begin) (any_calls condition) c2), any_is step g3.0 h.2 (right_called p n (any_calls begin ++ any_calls condition) (any_calls step) c3), statement_is false true true body g3.1 h.3 (right_called p n (any_calls begin ++ any_calls condition ++ any_calls step) (statement_calls body) c))
    statement_is d l r (tree.Switch e cases default ss line) f h c =
        let f' = function_at p n in
        let g = and_parts (switch_rule p f' e) (cases_fit (type_of e) (count_of ss) cases && (default_fits (count_of ss) default && statements_fit p f' false true r ss)) f in
        let g0 = and_parts (is_promoted (type_of e)) (fits p f' Used e) g.0 in
        let g1 = and_parts (cases_fit (type_of e) (count_of ss) cases) (default_fits (count_of ss) default && statements_fit p f' false true r ss) g.1 in
        let g2 = and_parts (default_fits (count_of ss) default) (statements_fit p f' false true r ss) g1.1 in
        (g0.0, g1.0, g2.0, expression_is p n Used e g0.1 h.0 (left_called p n (calls e) (statements_calls ss) c), statements_are false true r ss g2.1 h.2 (right_called p n (calls e) (statements_calls ss) c))
    statement_is d l r (tree.Break line) f h c = f
    statement_is d l r (tree.Continue line) f h c = f
    statement_is d l r (tree.Return value line) f h c = return_is value f h c

    pub statements_are : (d l r : Bool) (ss : Statements) → statements_fit p (function_at p n) d l r ss ≡ true → StatementsHaveNumbers ss → AreCalled p n (statements_calls ss) → AreStatementsOf p n d l r ss
    statements_are d l r tree.NoStatement f h c = tt
    statements_are d l r (tree.AndStatement t ts) f h c =
        let g = and_parts (statement_fits p (function_at p n) d l r t) (statements_fit p (function_at p n) d l r ts) f in
        (statement_is d l r t g.0 h.0 (left_called p n (statement_calls t) (statements_calls ts) c), statements_are d l r ts g.1 h.1 (right_called p n (statement_calls t) (statements_calls ts) c))

    pub arm_is : (l r : Bool) (arm : Arm) → arm_fits p (function_at p n) l r arm ≡ true → ArmHasNumbers arm → AreCalled p n (arm_calls arm) → IsArmOf p n l r arm
    arm_is l r (tree.OneArm condition chosen line) f h c =
        let g = and_parts (condition_fits p (function_at p n) condition) (statement_fits p (function_at p n) false l r chosen) f in
        (condition_is condition g.0 h.0 (left_called p n (calls condition) (statement_calls chosen) c), statement_is false l r chosen g.1 h.1 (right_called p n (calls condition) (statement_calls chosen) c))

    pub arms_are : (l r : Bool) (arms : Arms) → arms_fit p (function_at p n) l r arms ≡ true → ArmsHaveNumbers arms → AreCalled p n (arms_calls arms) → AreArmsOf p n l r arms
    arms_are l r tree.NoArm f h c = tt
    arms_are l r (tree.AndArm arm more) f h c =
        let g = and_parts (arm_fits p (function_at p n) l r arm) (arms_fit p (function_at p n) l r more) f in
        (arm_is l r arm g.0 h.0 (left_called p n (arm_calls arm) (arms_calls more) c), arms_are l r more g.1 h.1 (right_called p n (arm_calls arm) (arms_calls more) c))

    pub last_is : (l r : Bool) (last : LastArm) → last_fits p (function_at p n) l r last ≡ true → LastHasNumbers last → AreCalled p n (last_calls last) → IsLastOf p n l r last
    last_is l r tree.NoLast f h c = tt
    last_is l r (tree.Last t) f h c = statement_is false l r t f h c
