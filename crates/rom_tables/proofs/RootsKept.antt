-- The rules on main and on the handler hold in the program with the readers: no reader is a root, and no root is called.
use Rattle.std.proofs.Common.{◌≡◌, ℕ, zero, suc, ◌+◌, ◌<◌, ◌≤◌, Bool, true, false, not, cond, ◌&&◌, ◌||◌, nat_eq, nat_lt, List, [], ◌∷◌, ◌++◌, map, length, get_or, Option, Some, None, inl, inr, refl, sym, ap, ap₂, ◌∙◌, slice_get, slice_index_or, arith}
use Rattle.std.specs.List.{Contains}
use Rattle.std.proofs.lemmas.Bool.{or_left, or_right, or_parts, or_from, false≢true}
use Rattle.std.proofs.lemmas.Option.{none-some}
use Rattle.c_typed.specs.Chains.{graph_of}
use Rattle.c_typed.specs.Roots.{is_main, is_handler, is_root, is_bad_main, is_bad_handler, how_many, has, holds, is_called, is_root_called}
use Rattle.c_typed.specs.Trees.{StaticTree, FunctionTree, Program}
use Rattle.c_typed.specs.declared.program.RootKind.{RootKind}
use Rattle.c_typed.specs.declared.program.RootKind.TheVariants as kinds
use Rattle.rom_tables.proofs.Chains.{edge}
use Rattle.rom_tables.specs.Laws.{KeepsRoots}
use Rattle.rom_tables.specs.Outlined.{outlined, outlined_function, reader_for, reader_of, readers, with_targets}
use Rattle.rom_tables.specs.Tables.{tables_of}
use Rattle.typed_laws.proofs.Same.{same_nat, same_nat_refl}

-- ---- tests that no reader passes
none_by : (test : FunctionTree → Bool) (p : Program) → ((n : ℕ) (s : StaticTree) → test (reader_for p n s) ≡ false) → (t : ℕ) (found : Option StaticTree) (rest : List FunctionTree) → has test rest ≡ false → has test (reader_of p t found ++ rest) ≡ false
none_by test p never t None rest h = h
none_by test p never t (Some s) rest h = or_from (test (reader_for p t s)) (has test rest) (never t s) h

no_reader : (test : FunctionTree → Bool) (p : Program) → ((n : ℕ) (s : StaticTree) → test (reader_for p n s) ≡ false) → (ts : List ℕ) → has test (readers p ts) ≡ false
no_reader test p never [] = refl
no_reader test p never (t ∷ ts) = none_by test p never t (slice_get p.statics t) (readers p ts) (no_reader test p never ts)

none_counted : (test : FunctionTree → Bool) (fs : List FunctionTree) → has test fs ≡ false → how_many test fs ≡ 0
none_counted test [] h = refl
none_counted test (f ∷ fs) h =
    let k = or_parts (test f) (has test fs) h in
    ap (λ b. cond b 1 0 + how_many test fs) k.0 ∙ (let e = none_counted test fs k.1 in omega (arith, e))

module _ (test : FunctionTree → Bool) (again : FunctionTree → FunctionTree) (same : (f : FunctionTree) → test (again f) ≡ test f) (rs : List FunctionTree) (none : has test rs ≡ false) where
  has_again : (fs : List FunctionTree) → has test (map again fs ++ rs) ≡ has test fs
  has_again [] = none
  has_again (f ∷ fs) = ap₂ (λ a b. a || b) (same f) (has_again fs)

  count_again : (fs : List FunctionTree) → how_many test (map again fs ++ rs) ≡ how_many test fs
  count_again [] = none_counted test rs none
  count_again (f ∷ fs) = ap₂ (λ a b. cond a 1 0 + b) (same f) (count_again fs)

-- ---- what is called
holds_by : (here : Bool) (f : ℕ) (row : List ℕ) (g : ℕ) → nat_eq f g ≡ here → (holds row g ≡ true → Contains row g) → (here || holds row g) ≡ true → Contains (f ∷ row) g
holds_by true f row g is rest h = (0, omega arith, same_nat f g is)
holds_by false f row g is rest h = let r = rest h in (suc r.0, (let b = r.1 in omega (arith, b)), r.2)

holds_in : (row : List ℕ) (g : ℕ) → holds row g ≡ true → Contains row g
holds_in [] g h = absurd (false≢true h)
holds_in (f ∷ row) g h = holds_by (nat_eq f g) f row g refl (holds_in row g) h

held_at : (row : List ℕ) (g k : ℕ) → k < length row → slice_index_or row k g ≡ g → holds row g ≡ true
held_at [] g k below is = absurd (omega (arith, below))
held_at (f ∷ row) g zero below is = or_left (nat_eq f g) (holds row g) (ap (λ n. nat_eq n g) is ∙ same_nat_refl g)
held_at (f ∷ row) g (suc k) below is = or_right (nat_eq f g) (holds row g) (held_at row g k (omega (arith, below)) is)

called_by : (here : Bool) (row : List ℕ) (rows : List (List ℕ)) (g : ℕ) → holds row g ≡ here → (is_called rows g ≡ true → (f : ℕ) × Contains (get_or rows f []) g) → (here || is_called rows g) ≡ true → (f : ℕ) × Contains (get_or (row ∷ rows) f []) g
called_by true row rows g is rest h = (0, holds_in row g is)
called_by false row rows g is rest h = let r = rest h in (suc r.0, r.1)

caller_of : (rows : List (List ℕ)) (g : ℕ) → is_called rows g ≡ true → (f : ℕ) × Contains (get_or rows f []) g
caller_of [] g h = absurd (false≢true h)
caller_of (row ∷ rows) g h = called_by (holds row g) row rows g refl (caller_of rows g) h

is_called_by : (rows : List (List ℕ)) (f g : ℕ) → Contains (get_or rows f []) g → is_called rows g ≡ true
is_called_by [] f g h = absurd (let below = h.1 in omega (arith, below))
is_called_by (row ∷ rows) zero g h = or_left (holds row g) (is_called rows g) (held_at row g h.0 h.1 h.2)
is_called_by (row ∷ rows) (suc f) g h = or_right (holds row g) (is_called rows g) (is_called_by rows f g h)

-- Of the functions that were there only those are called that were.
was_called : (p : Program) (g : ℕ) → g < length p.functions → is_called (graph_of (outlined p)) g ≡ true → is_called (graph_of p) g ≡ true
was_called p g below h =
    let caller = caller_of (graph_of (outlined p)) g h in
    elim (edge p caller.0 g caller.1).1 [ inl past ↦ absurd (omega (arith, below, past)) | inr call ↦ is_called_by (graph_of p) caller.0 g call ]

-- ---- no root is called
not_called : (root old new : Bool) → (new ≡ true → old ≡ true) → (root && old) ≡ false → (root && new) ≡ false
not_called false old new f h = refl
not_called true old true f h = sym (f refl) ∙ h
not_called true old false f h = refl

no_root_by : (graph : List (List ℕ)) (fs : List FunctionTree) (number : ℕ) → has is_root fs ≡ false → is_root_called graph fs number ≡ false
no_root_by graph [] number h = refl
no_root_by graph (f ∷ fs) number h =
    let k = or_parts (is_root f) (has is_root fs) h in
    or_from (is_root f && is_called graph number) (is_root_called graph fs (number + 1)) (ap (λ b. b && is_called graph number) k.0) (no_root_by graph fs (number + 1) k.1)

module _ (old new : List (List ℕ)) (most : ℕ) (was : (g : ℕ) → g < most → is_called new g ≡ true → is_called old g ≡ true) (again : FunctionTree → FunctionTree) (same : (f : FunctionTree) → is_root (again f) ≡ is_root f) (rs : List FunctionTree) (none : has is_root rs ≡ false) where
  roots_again : (fs : List FunctionTree) (number : ℕ) → number + length fs ≤ most → is_root_called old fs number ≡ false → is_root_called new (map again fs ++ rs) number ≡ false
  roots_again [] number below h = no_root_by new rs number none
  roots_again (f ∷ fs) number below h =
      let k = or_parts (is_root f && is_called old number) (is_root_called old fs (number + 1)) h in
      or_from (is_root (again f) && is_called new number) (is_root_called new (map again fs ++ rs) (number + 1))
      (ap (λ b. b && is_called new number) (same f) ∙ not_called (is_root f) (is_called old number) (is_called new number) (was number (omega (arith, below))) k.0)
      (roots_again fs (number + 1) (omega (arith, below)) k.1)

-- ---- the rules in their order
none_first : (b : Bool) (kind : RootKind) (rest : Option RootKind) → cond b (Some kind) rest ≡ None → (b ≡ false) × (rest ≡ None)
none_first false kind rest h = (refl, h)
none_first true kind rest h = absurd (none-some kind (sym h))

none_again : (b : Bool) (kind : RootKind) (rest : Option RootKind) → b ≡ false → rest ≡ None → cond b (Some kind) rest ≡ None
none_again false kind rest is h = h
none_again true kind rest is h = absurd (false≢true (sym is))

pub outlined_roots : KeepsRoots
unfolding outlined
outlined_roots p h =
    let ts = tables_of p in
    let n = length p.functions in
    let again = outlined_function ts n in
    let rs = readers (with_targets p ts) ts in
    let fs = p.functions in
    let all = map again fs ++ rs in
    let main = no_reader is_main (with_targets p ts) (λ m s. refl) ts in
    let bad_main = no_reader is_bad_main (with_targets p ts) (λ m s. refl) ts in
    let bad_handler = no_reader is_bad_handler (with_targets p ts) (λ m s. refl) ts in
    let handler = no_reader is_handler (with_targets p ts) (λ m s. refl) ts in
    let root = no_reader is_root (with_targets p ts) (λ m s. refl) ts in
    let called = cond (is_root_called (graph_of p) fs 0) (Some kinds.Called) None in
    let second = cond (nat_lt 1 (how_many is_handler fs)) (Some kinds.Second) called in
    let shape = cond (has is_bad_handler fs) (Some kinds.Shape) second in
    let mains = cond (has is_bad_main fs) (Some kinds.Main) shape in
    let a = none_first (not (has is_main fs)) kinds.None mains h in
    let b = none_first (has is_bad_main fs) kinds.Main shape a.1 in
    let c = none_first (has is_bad_handler fs) kinds.Shape second b.1 in
    let d = none_first (nat_lt 1 (how_many is_handler fs)) kinds.Second called c.1 in
    let e = none_first (is_root_called (graph_of p) fs 0) kinds.Called None d.1 in
    let new_called = cond (is_root_called (graph_of (outlined p)) all 0) (Some kinds.Called) None in
    let new_second = cond (nat_lt 1 (how_many is_handler all)) (Some kinds.Second) new_called in
    let new_shape = cond (has is_bad_handler all) (Some kinds.Shape) new_second in
    let new_mains = cond (has is_bad_main all) (Some kinds.Main) new_shape in
    none_again (not (has is_main all)) kinds.None new_mains (ap not (has_again is_main again (λ f. refl) rs main fs) ∙ a.0)
    (none_again (has is_bad_main all) kinds.Main new_shape (has_again is_bad_main again (λ f. refl) rs bad_main fs ∙ b.0)
    (none_again (has is_bad_handler all) kinds.Shape new_second (has_again is_bad_handler again (λ f. refl) rs bad_handler fs ∙ c.0)
    (none_again (nat_lt 1 (how_many is_handler all)) kinds.Second new_called (ap (nat_lt 1) (count_again is_handler again (λ f. refl) rs handler fs) ∙ d.0)
    (none_again (is_root_called (graph_of (outlined p)) all 0) kinds.Called None
    (roots_again (graph_of p) (graph_of (outlined p)) n (was_called p) again (λ f. refl) rs root fs 0 (omega arith) e.0) refl))))
