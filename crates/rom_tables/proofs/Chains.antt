-- Calls of a program whose tables are read by calls: those that were there, and of readers, which call nothing.
use Rattle.std.proofs.Common.{◌≡◌, ℕ, zero, suc, ◌+◌, ◌<◌, ◌≤◌, Bool, true, false, cond, ◌&&◌, List, [], ◌∷◌, ◌++◌, map, length, get_or, replicate, Option, Some, None, ◌⊎◌, inl, inr, refl, sym, ap, ap₂, ◌∙◌, subst, slice_get, slice_index_or, arith, append-nil, length-append}
use Rattle.std.specs.List.{Contains}
use Rattle.std.proofs.lemmas.List.{length-map}
use Rattle.std.proofs.lemmas.Option.{none-some, same_Some, slice_get_within}
use Rattle.std.proofs.lemmas.List.Elements.{Contains-append_left, Contains-append_right, Contains-append_cases}
use Rattle.c_ints.specs.declared.operators.BinOp.{BinOp}
use Rattle.c_typed.specs.Calls.{calls, place_calls, arguments_calls, any_calls, item_calls, items_calls, statement_calls, statements_calls, arm_calls, arms_calls, last_calls, helper_for, helper_calls, difference_helper}
use Rattle.c_typed.specs.Chains.{number_of, row_of, graph_of, Calls, IsChain}
use Rattle.c_typed.specs.Sameness.{same_type}
use Rattle.c_typed.specs.Trees as tree
use Rattle.c_typed.specs.Trees.{Expression, Expressions, Place, Item, Statement, Statements, Arm, Arms, LastArm, StaticTree, FunctionTree, Program}
use Rattle.c_typed.specs.Types.{type_of, is_constant, is_integer}
use Rattle.c_typed.specs.declared.calls.FnId.{FnId}
use Rattle.c_typed.specs.declared.calls.FnId.TheVariants as callee
use Rattle.c_typed.specs.declared.types.Qualified.{Qualified}
use Rattle.c_typed.specs.declared.types.Ty.{Ty}
use Rattle.rom_tables.proofs.Attributes.{type_again}
use Rattle.rom_tables.specs.Laws.{KeepsAcyclic}
use Rattle.rom_tables.specs.Outlined.{outlined, outlined_expression, outlined_arguments, outlined_place, outlined_item, outlined_option, outlined_statement, outlined_statements, outlined_arm, outlined_arms, outlined_last, outlined_function, index_argument, read_of, reader_of, readers, unsigned_int, with_targets}
use Rattle.rom_tables.specs.Tables.{start_table, table_on_left, table_on_right, tables_of}

-- ---- integer constants stay what they are
read_constant : (first : ℕ) (a b : Option ℕ) (place : Place) (ty : Ty) (line : ℕ) → is_constant (read_of first a b place ty line) ≡ false
unfolding is_constant
read_constant first (Some t) b place ty line = refl
read_constant first None (Some t) place ty line = refl
read_constant first None None place ty line = refl

module _ (ts : List ℕ) (first : ℕ) where
  constant_again : (e : Expression) → is_constant (outlined_expression ts first e) ≡ is_constant e
  unfolding is_constant outlined_expression outlined_arguments outlined_place
  constant_again (tree.Read place ty line) = read_constant first (table_on_left ts place) (table_on_right ts place) (outlined_place ts first place) ty line
  constant_again (tree.Convert e ty line) = ap (λ b. is_integer ty && b) (constant_again e)
  constant_again (tree.Cast e ty line) = ap (λ b. is_integer ty && b) (constant_again e)
  constant_again (tree.Unary op e ty line) = constant_again e
  constant_again (tree.Binary op l r ty line) = ap₂ (λ a b. a && b) (constant_again l) (constant_again r)
  constant_again (tree.Logical op l r line) = ap₂ (λ a b. a && b) (constant_again l) (constant_again r)
  constant_again (tree.Conditional c l r ty line) = ap₂ (λ a b. a && b) (constant_again c) (ap₂ (λ a b. a && b) (constant_again l) (constant_again r))
  constant_again _ = refl

-- ---- each call was there, or is one of a reader
abbrev Fewer : ℕ → List FnId → List FnId → Type 0
Fewer first new old = (c : FnId) → Contains new c → Contains old c ⊎ ((t : ℕ) × (c ≡ callee.User (first + t)))

fewer_same : (first : ℕ) (cs : List FnId) → Fewer first cs cs
fewer_same first cs c h = inl h

fewer_append : (first : ℕ) (a b x y : List FnId) → Fewer first a x → Fewer first b y → Fewer first (a ++ b) (x ++ y)
fewer_append first a b x y f g c h = elim (Contains-append_cases a b c h) [
  | inl i ↦ elim (f c i) [ inl j ↦ inl (Contains-append_left x y c j) | inr r ↦ inr r ]
  | inr i ↦ elim (g c i) [ inl j ↦ inl (Contains-append_right x y c j) | inr r ↦ inr r ]
]

fewer_is : (first : ℕ) (new old : List FnId) → new ≡ old → Fewer first new old
fewer_is first new old is c h = inl (subst (λ (l : List FnId). Contains l c) is h)

fewer_left : (first : ℕ) (a x y : List FnId) → Fewer first a x → Fewer first a (x ++ y)
fewer_left first a x y f c h = elim (f c h) [ inl i ↦ inl (Contains-append_left x y c i) | inr r ↦ inr r ]

fewer_right : (first : ℕ) (a x y : List FnId) → Fewer first a y → Fewer first a (x ++ y)
fewer_right first a x y f c h = elim (f c h) [ inl i ↦ inl (Contains-append_right x y c i) | inr r ↦ inr r ]

single_at : (x c : FnId) (k : ℕ) → k < 1 → slice_index_or (x ∷ []) k c ≡ c → x ≡ c
single_at x c zero below is = is
single_at x c (suc k) below is = absurd (omega (arith, below))

reader_fewer : (first t : ℕ) (new old : List FnId) → Fewer first new old → Fewer first ((new ++ []) ++ callee.User (first + t) ∷ []) old
reader_fewer first t new old f c h = elim (Contains-append_cases (new ++ []) (callee.User (first + t) ∷ []) c h) [
  | inl i ↦ f c (subst (λ (l : List FnId). Contains l c) (append-nil new) i)
  | inr i ↦ inr (t, sym (single_at (callee.User (first + t)) c i.0 i.1 i.2))
]

unsigned_calls : (e : Expression) (line : ℕ) (same : Bool) → calls (cond same e (tree.Convert e unsigned_int line)) ≡ calls e
unfolding calls place_calls arguments_calls
unsigned_calls e line true = refl
unsigned_calls e line false = refl

argument_calls : (e : Expression) (line : ℕ) → calls (index_argument e line) ≡ calls e
unfolding calls place_calls arguments_calls
argument_calls (tree.Convert e ty at) line = unsigned_calls e at (same_type (type_of e) unsigned_int)
argument_calls (tree.Constant value at) line = unsigned_calls (tree.Constant value at) line (same_type (type_of (tree.Constant value at)) unsigned_int)
argument_calls e line = unsigned_calls e line (same_type (type_of e) unsigned_int)

call_fewer : (first t : ℕ) (index : Expression) (ty : Ty) (line : ℕ) (old : List FnId) → Fewer first (calls index) old → Fewer first (calls (tree.Call (first + t) (tree.AndExpression (index_argument index line) tree.NoExpression) ty line)) old
unfolding calls place_calls arguments_calls
call_fewer first t index ty line old f = reader_fewer first t (calls (index_argument index line)) old (subst (λ (l : List FnId). Fewer first l old) (sym (argument_calls index line)) f)

sum_fewer : (first : ℕ) (a b : Option ℕ) (op : BinOp) (l r x y : Expression) (size : ℕ) (pty : Ty) (pat : ℕ) (q : Qualified) (at : ℕ) (ty : Ty) (line : ℕ) → Fewer first (calls x) (calls l) → Fewer first (calls y) (calls r) → Fewer first (calls (read_of first a b (tree.Deref (tree.Offset op x y size pty pat) q at) ty line)) (calls l ++ calls r)
unfolding calls place_calls arguments_calls
sum_fewer first (Some t) b op l r x y size pty pat q at ty line f g = call_fewer first t y ty line (calls l ++ calls r) (fewer_right first (calls y) (calls l) (calls r) g)
sum_fewer first None (Some t) op l r x y size pty pat q at ty line f g = call_fewer first t x ty line (calls l ++ calls r) (fewer_left first (calls x) (calls l) (calls r) f)
sum_fewer first None None op l r x y size pty pat q at ty line f g = fewer_append first (calls x) (calls y) (calls l) (calls r) f g

module _ (ts : List ℕ) (first : ℕ) where
  helper_fewer : (op : BinOp) (e : Expression) (ty other : Ty) → ty ≡ other → Fewer first (helper_calls (helper_for op (is_constant (outlined_expression ts first e)) ty)) (helper_calls (helper_for op (is_constant e) other))
  helper_fewer op e ty other is = fewer_is first _ _ (ap₂ (λ b t. helper_calls (helper_for op b t)) (constant_again ts first e) is)

  mutual
    unfolding calls place_calls arguments_calls outlined_expression outlined_arguments outlined_place

    calls_fewer : (e : Expression) → Fewer first (calls (outlined_expression ts first e)) (calls e)
    calls_fewer (tree.Constant value line) = fewer_same first []
    calls_fewer (tree.Read place ty line) = read_fewer place ty line
    calls_fewer (tree.Address place ty line) = place_fewer place
    calls_fewer (tree.Convert e ty line) = calls_fewer e
    calls_fewer (tree.Cast e ty line) = calls_fewer e
    calls_fewer (tree.Unary op e ty line) = calls_fewer e
    calls_fewer (tree.Binary op l r ty line) = fewer_append first _ _ _ _ (fewer_append first _ _ _ _ (calls_fewer l) (calls_fewer r)) (helper_fewer op r _ _ (type_again ts first l))
    calls_fewer (tree.Offset op l r size ty line) = fewer_append first _ _ _ _ (calls_fewer l) (calls_fewer r)
    calls_fewer (tree.Difference l r size line) = fewer_append first _ _ _ _ (fewer_append first _ _ _ _ (calls_fewer l) (calls_fewer r)) (fewer_same first (helper_calls (difference_helper size)))
    calls_fewer (tree.Logical op l r line) = fewer_append first _ _ _ _ (calls_fewer l) (calls_fewer r)
    calls_fewer (tree.Conditional c l r ty line) = fewer_append first _ _ _ _ (fewer_append first _ _ _ _ (calls_fewer c) (calls_fewer l)) (calls_fewer r)
    calls_fewer (tree.Comma l r ty line) = fewer_append first _ _ _ _ (calls_fewer l) (calls_fewer r)
    calls_fewer (tree.Assign place e ty line) = fewer_append first _ _ _ _ (place_fewer place) (calls_fewer e)
    calls_fewer (tree.StructAssign place from size line) = fewer_append first _ _ _ _ (place_fewer place) (place_fewer from)
    calls_fewer (tree.Update op place e operation size ty line) = fewer_append first _ _ _ _ (fewer_append first _ _ _ _ (place_fewer place) (calls_fewer e)) (helper_fewer op e operation operation refl)
    calls_fewer (tree.Step op place operation size ty line) = place_fewer place
    calls_fewer (tree.Call f es ty line) = fewer_append first _ _ _ _ (arguments_fewer es) (fewer_same first (callee.User f ∷ []))

    read_fewer : (place : Place) (ty : Ty) (line : ℕ) → Fewer first (calls (outlined_expression ts first (tree.Read place ty line))) (place_calls place)
    read_fewer (tree.Name object q at) ty line = fewer_same first []
    read_fewer (tree.Bit register bit at) ty line = fewer_same first []
    read_fewer (tree.Member whole member offset q at) ty line = place_fewer whole
    read_fewer (tree.Deref (tree.Offset op l r size pty pat) q at) ty line = sum_fewer first (start_table ts l) (start_table ts r) op l r (outlined_expression ts first l) (outlined_expression ts first r) size pty pat q at ty line (calls_fewer l) (calls_fewer r)
    read_fewer (tree.Deref (tree.Constant value pat) q at) ty line = fewer_same first []
    read_fewer (tree.Deref pointer q at) ty line = calls_fewer pointer

    place_fewer : (place : Place) → Fewer first (place_calls (outlined_place ts first place)) (place_calls place)
    place_fewer (tree.Name object ty line) = fewer_same first []
    place_fewer (tree.Bit register bit line) = fewer_same first []
    place_fewer (tree.Member whole member offset ty line) = place_fewer whole
    place_fewer (tree.Deref pointer ty line) = calls_fewer pointer

    arguments_fewer : (es : Expressions) → Fewer first (arguments_calls (outlined_arguments ts first es)) (arguments_calls es)
    arguments_fewer tree.NoExpression = fewer_same first []
    arguments_fewer (tree.AndExpression e es) = fewer_append first _ _ _ _ (calls_fewer e) (arguments_fewer es)

  any_fewer : (e : Option Expression) → Fewer first (any_calls (outlined_option ts first e)) (any_calls e)
  any_fewer None = fewer_same first []
  any_fewer (Some e) = calls_fewer e

  item_fewer : (i : Item) → Fewer first (item_calls (outlined_item ts first i)) (item_calls i)
  item_fewer (tree.Scalar offset e) = calls_fewer e
  item_fewer (tree.Struct offset place size) = place_fewer place
  item_fewer (tree.Text offset bytes size) = fewer_same first []

  items_fewer : (is : List Item) → Fewer first (items_calls (map (outlined_item ts first) is)) (items_calls is)
  items_fewer [] = fewer_same first []
  items_fewer (i ∷ is) = fewer_append first (item_calls (outlined_item ts first i)) (items_calls (map (outlined_item ts first) is)) (item_calls i) (items_calls is) (item_fewer i) (items_fewer is)

  mutual
    unfolding statement_calls statements_calls arm_calls arms_calls last_calls outlined_statement outlined_statements outlined_arm outlined_arms outlined_last

    statement_fewer : (s : Statement) → Fewer first (statement_calls (outlined_statement ts first s)) (statement_calls s)
    statement_fewer (tree.Block ss line) = statements_fewer ss
    statement_fewer (tree.Empty line) = fewer_same first []
    statement_fewer (tree.Expr e line) = calls_fewer e
    statement_fewer (tree.Declare local line) = fewer_same first []
    statement_fewer (tree.InitScalar local e line) = calls_fewer e
    statement_fewer (tree.InitList local is line) = items_fewer is
    statement_fewer (tree.If as_ otherwise line) = fewer_append first _ _ _ _ (arms_fewer as_) (last_fewer otherwise)
    statement_fewer (tree.Loop shape begin condition step body line) = fewer_append first _ _ _ _ (fewer_append first _ _ _ _ (fewer_append first _ _ _ _ (any_fewer begin) (any_fewer condition)) (any_fewer step)) (statement_fewer body)
    statement_fewer (tree.Switch e cases default ss line) = fewer_append first _ _ _ _ (calls_fewer e) (statements_fewer ss)
    statement_fewer (tree.Break line) = fewer_same first []
    statement_fewer (tree.Continue line) = fewer_same first []
    statement_fewer (tree.Return e line) = any_fewer e

    statements_fewer : (ss : Statements) → Fewer first (statements_calls (outlined_statements ts first ss)) (statements_calls ss)
    statements_fewer tree.NoStatement = fewer_same first []
    statements_fewer (tree.AndStatement s ss) = fewer_append first _ _ _ _ (statement_fewer s) (statements_fewer ss)

    arm_fewer : (a : Arm) → Fewer first (arm_calls (outlined_arm ts first a)) (arm_calls a)
    arm_fewer (tree.OneArm condition s line) = fewer_append first _ _ _ _ (calls_fewer condition) (statement_fewer s)

    arms_fewer : (as_ : Arms) → Fewer first (arms_calls (outlined_arms ts first as_)) (arms_calls as_)
    arms_fewer tree.NoArm = fewer_same first []
    arms_fewer (tree.AndArm a as_) = fewer_append first _ _ _ _ (arm_fewer a) (arms_fewer as_)

    last_fewer : (last : LastArm) → Fewer first (last_calls (outlined_last ts first last)) (last_calls last)
    last_fewer tree.NoLast = fewer_same first []
    last_fewer (tree.Last s) = statement_fewer s

-- ---- rows of the call graph
map_in : {A B : Type 0} (f : A → B) (xs : List A) (x : A) → Contains xs x → Contains (map f xs) (f x)
map_in f xs x h = at f xs x h.0 h.1 h.2
  where
    at : {A B : Type 0} (f : A → B) (xs : List A) (x : A) (k : ℕ) → k < length xs → slice_index_or xs k x ≡ x → Contains (map f xs) (f x)
    at f [] x k below is = absurd (omega (arith, below))
    at f (y ∷ xs) x zero below is = (0, omega arith, ap f is)
    at f (y ∷ xs) x (suc k) below is = let r = at f xs x k (omega (arith, below)) is in (suc r.0, (let b = r.1 in omega (arith, b)), r.2)

map_out : {A : Type 0} (f : A → ℕ) (xs : List A) (y : ℕ) → Contains (map f xs) y → (x : A) × Contains xs x × (f x ≡ y)
map_out f xs y h = at f xs y h.0 h.1 h.2
  where
    at : {A : Type 0} (f : A → ℕ) (xs : List A) (y k : ℕ) → k < length (map f xs) → slice_index_or (map f xs) k y ≡ y → (x : A) × Contains xs x × (f x ≡ y)
    at f [] y k below is = absurd (omega (arith, below))
    at f (x ∷ xs) y zero below is = (x, (0, omega arith, refl), is)
    at f (x ∷ xs) y (suc k) below is = let r = at f xs y k (omega (arith, below)) is in (r.0, (suc r.1.0, (let b = r.1.1 in omega (arith, b)), r.1.2), r.2)

abbrev AreEmpty : List (List ℕ) → Type 0
AreEmpty rows = (f : ℕ) → get_or rows f [] ≡ []

replicate_empty : (k : ℕ) → AreEmpty (replicate k [])
replicate_empty zero f = refl
replicate_empty (suc k) zero = refl
replicate_empty (suc k) (suc f) = replicate_empty k f

reader_empty : (m : ℕ) (p : Program) (t : ℕ) (found : Option StaticTree) (rest : List FunctionTree) (tail : List (List ℕ)) → AreEmpty (map (row_of m) rest ++ tail) → AreEmpty (map (row_of m) (reader_of p t found ++ rest) ++ tail)
unfolding calls place_calls arguments_calls statement_calls statements_calls arm_calls arms_calls last_calls
reader_empty m p t None rest tail h f = h f
reader_empty m p t (Some s) rest tail h zero = refl
reader_empty m p t (Some s) rest tail h (suc f) = h f

readers_empty : (m : ℕ) (p : Program) (ts : List ℕ) (tail : List (List ℕ)) → AreEmpty tail → AreEmpty (map (row_of m) (readers p ts) ++ tail)
readers_empty m p [] tail h = h
readers_empty m p (t ∷ ts) tail h = reader_empty m p t (slice_get p.statics t) (readers p ts) tail (readers_empty m p ts tail h)

none_in_empty : (row : List ℕ) (g : ℕ) → row ≡ [] → Contains row g → ⊥
none_in_empty row g is h = let below = h.1 in let e = ap (λ (l : List ℕ). length l) is in omega (arith, below, e)

-- who calls is one of the functions that were there
caller_in : (m : ℕ) (again : FunctionTree → FunctionTree) (fs rs : List FunctionTree) (tail : List (List ℕ)) (f g : ℕ) → AreEmpty (map (row_of m) rs ++ tail) → Contains (get_or (map (row_of m) (map again fs ++ rs) ++ tail) f []) g → (x : FunctionTree) × (slice_get fs f ≡ Some x) × Contains (row_of m (again x)) g
caller_in m again [] rs tail f g none h = absurd (none_in_empty (get_or (map (row_of m) rs ++ tail) f []) g (none f) h)
caller_in m again (x ∷ fs) rs tail zero g none h = (x, refl, h)
caller_in m again (x ∷ fs) rs tail (suc f) g none h = caller_in m again fs rs tail f g none h

row_found : (m : ℕ) (fs : List FunctionTree) (tail : List (List ℕ)) (f : ℕ) (x : FunctionTree) → slice_get fs f ≡ Some x → get_or (map (row_of m) fs ++ tail) f [] ≡ row_of m x
row_found m [] tail f x is = absurd (none-some x is)
row_found m (y ∷ fs) tail zero x is = ap (row_of m) (same_Some y x is)
row_found m (y ∷ fs) tail (suc f) x is = row_found m fs tail f x is

-- A call between functions that were there was there; all others lead behind them.
module _ (p : Program) where
  edge_by : (m : ℕ) (f g : ℕ) (x : FunctionTree) (c : FnId) → slice_get p.functions f ≡ Some x → length p.functions ≤ m → Contains (statements_calls x.body) c → number_of m c ≡ g → (length p.functions ≤ g) ⊎ Calls (graph_of p) f g
  edge_by m f g x (callee.User k) there most h is = inr (subst (λ (row : List ℕ). Contains row g) (sym (row_found (length p.functions) p.functions (replicate 16 []) f x there)) (subst (λ (n : ℕ). Contains (row_of (length p.functions) x) n) is (map_in (number_of (length p.functions)) (statements_calls x.body) (callee.User k) h)))
  edge_by m f g x (callee.Helper k) there most h is = inl (omega (arith, most, is))

  pub edge : (f g : ℕ) → Calls (graph_of (outlined p)) f g → (f < length p.functions) × ((length p.functions ≤ g) ⊎ Calls (graph_of p) f g)
  unfolding outlined
  edge f g h =
      let n = length p.functions in
      let again = outlined_function (tables_of p) n in
      let rs = readers (with_targets p (tables_of p)) (tables_of p) in
      let m = length (map again p.functions ++ rs) in
      let x = caller_in m again p.functions rs (replicate 16 []) f g (readers_empty m (with_targets p (tables_of p)) (tables_of p) (replicate 16 []) (replicate_empty 16)) h in
      let c = map_out (number_of m) (statements_calls (outlined_statements (tables_of p) n x.0.body)) g x.2 in
      let most : n ≤ m = (let a = length-append (map again p.functions) rs in let b = length-map p.functions again in omega (arith, a, b)) in (
        slice_get_within p.functions f x.0 x.1,
        elim (statements_fewer (tables_of p) n x.0.body c.0 c.1) [
          | inl old ↦ edge_by m f g x.0 c.0 x.1 most old c.2
          | inr new ↦ inl (let e = ap (number_of m) (sym new.1) ∙ c.2 in omega (arith, e))
        ],
      )

  chain_back : (h : ℕ) (hs : List ℕ) (f : ℕ) → f < length p.functions → IsChain (graph_of (outlined p)) h hs f → (h < length p.functions) × IsChain (graph_of p) h hs f
  chain_back h [] f below is = ((omega (arith, below, is)), is)
  chain_back h (k ∷ hs) f below chain =
      let rest = chain_back k hs f below chain.1 in
      let first = edge h k chain.0 in
      (first.0, (elim first.1 [ inl past ↦ absurd (let b = rest.0 in omega (arith, b, past)) | inr call ↦ call ], rest.1))

pub outlined_acyclic : KeepsAcyclic
outlined_acyclic p acyclic f loop =
    let first = edge p f loop.0 (loop.2).0 in
    acyclic f (loop.0, loop.1, (chain_back p f (loop.0 ∷ loop.1) f first.0 loop.2).1)
