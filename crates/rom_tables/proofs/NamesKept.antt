-- Functions have different names in the program with the readers.
use Rattle.std.proofs.Common.{◌≡◌, ℕ, zero, suc, ◌+◌, ◌≤◌, Bool, true, false, cond, ◌⊎◌, inl, inr, List, [], ◌∷◌, ◌++◌, map, length, drop, get_or, Some, refl, sym, ap, ◌∙◌, slice_get, codes, arith}
use Rattle.std.proofs.lemmas.Option.{none-some, same_Some}
use Rattle.c_typed.specs.Trees.{StaticTree, FunctionTree, Program}
use Rattle.rom_tables.proofs.Programs.{tables_are}
use Rattle.rom_tables.specs.Laws.{HaveNames, KeepsNames}
use Rattle.rom_tables.specs.Outlined.{outlined, outlined_function, reader_for, reader_of, readers, with_targets}
use Rattle.rom_tables.specs.Tables.{is_table, tables_from, tables_of}

-- ---- places in a list of tables
above_by : (here : Bool) (m i n : ℕ) (ts : List ℕ) → ((j : ℕ) → slice_get ts j ≡ Some n → suc m ≤ n) → slice_get (cond here (m ∷ ts) ts) i ≡ Some n → m ≤ n
above_by true m zero n ts rest h = let e = same_Some m n h in omega (arith, e)
above_by true m (suc i) n ts rest h = let b = rest i h in omega (arith, b)
above_by false m i n ts rest h = let b = rest i h in omega (arith, b)

above : (p : Program) (m : ℕ) (ss : List StaticTree) (n i : ℕ) → slice_get (tables_from p m ss) i ≡ Some n → m ≤ n
above p m [] n i h = absurd (none-some n h)
above p m (s ∷ ss) n i h = above_by (is_table p s) m i n (tables_from p (m + 1) ss) (λ j g. let b = above p (m + 1) ss n j g in omega (arith, b)) h

once_by : (here : Bool) (m i j n : ℕ) (ts : List ℕ) → ((k : ℕ) → slice_get ts k ≡ Some n → suc m ≤ n) → ((a b : ℕ) → slice_get ts a ≡ Some n → slice_get ts b ≡ Some n → a ≡ b) → slice_get (cond here (m ∷ ts) ts) i ≡ Some n → slice_get (cond here (m ∷ ts) ts) j ≡ Some n → i ≡ j
once_by true m zero zero n ts past rest h g = refl
once_by true m zero (suc j) n ts past rest h g = absurd (let e = same_Some m n h in let b = past j g in omega (arith, e, b))
once_by true m (suc i) zero n ts past rest h g = absurd (let e = same_Some m n g in let b = past i h in omega (arith, e, b))
once_by true m (suc i) (suc j) n ts past rest h g = ap suc (rest i j h g)
once_by false m i j n ts past rest h g = rest i j h g

-- Each number stands there once.
once : (p : Program) (m : ℕ) (ss : List StaticTree) (n i j : ℕ) → slice_get (tables_from p m ss) i ≡ Some n → slice_get (tables_from p m ss) j ≡ Some n → i ≡ j
once p m [] n i j h g = absurd (none-some n h)
once p m (s ∷ ss) n i j h g = once_by (is_table p s) m i j n (tables_from p (m + 1) ss) (λ k e. let b = above p (m + 1) ss n k e in omega (arith, b)) (once p (m + 1) ss n) h g

-- ---- a function of the whole program
same_tail : (a b : List ℕ) → codes "$rom." ++ a ≡ codes "$rom." ++ b → a ≡ b
same_tail a b h = ap (drop 5) h

again_at : (again : FunctionTree → FunctionTree) (fs : List FunctionTree) (i : ℕ) (f : FunctionTree) → slice_get (map again fs) i ≡ Some f → (x : FunctionTree) × (slice_get fs i ≡ Some x) × (again x ≡ f)
again_at again [] i f h = absurd (none-some f h)
again_at again (x ∷ fs) zero f h = (x, refl, same_Some (again x) f h)
again_at again (x ∷ fs) (suc i) f h = again_at again fs i f h

reader_at : (p : Program) (ts : List ℕ) → ((i n : ℕ) → slice_get ts i ≡ Some n → (s : StaticTree) × (slice_get p.statics n ≡ Some s)) → (i : ℕ) (f : FunctionTree) → slice_get (readers p ts) i ≡ Some f → (n : ℕ) × (s : StaticTree) × (slice_get ts i ≡ Some n) × (slice_get p.statics n ≡ Some s) × (f ≡ reader_for p n s)
reader_at p [] each i f h = absurd (none-some f h)
reader_at p (t ∷ ts) each zero f h =
    let first = each 0 t refl in
    (t, first.0, refl, first.1, sym (same_Some (reader_for p t first.0) f (sym (ap (λ o. slice_get (reader_of p t o ++ readers p ts) 0) first.1) ∙ h)))
reader_at p (t ∷ ts) each (suc i) f h =
    let first = each 0 t refl in
    reader_at p ts (λ j m k. each (suc j) m k) i f (sym (ap (λ o. slice_get (reader_of p t o ++ readers p ts) (suc i)) first.1) ∙ h)

split_at : (xs ys : List FunctionTree) (i : ℕ) (f : FunctionTree) → slice_get (xs ++ ys) i ≡ Some f → (slice_get xs i ≡ Some f) ⊎ ((k : ℕ) × (i ≡ length xs + k) × (slice_get ys k ≡ Some f))
split_at [] ys i f h = inr (i, (omega arith), h)
split_at (x ∷ xs) ys zero f h = inl h
split_at (x ∷ xs) ys (suc i) f h = elim (split_at xs ys i f h) [ inl l ↦ inl l | inr r ↦ inr (r.0, (let e = r.1 in omega (arith, e)), r.2) ]

each_static : (p : Program) (i n : ℕ) → slice_get (tables_of p) i ≡ Some n → (s : StaticTree) × (slice_get p.statics n ≡ Some s)
each_static p i n h = let at = tables_are p i n h in (at.0, at.1)

abbrev IsReader : Program → List ℕ → ℕ → FunctionTree → Type 0
IsReader p ts i f = (n : ℕ) × (s : StaticTree) × (slice_get ts i ≡ Some n) × (slice_get p.statics n ≡ Some s) × (f ≡ reader_for p n s)

both_old : (p : Program) → HaveNames p → (again : FunctionTree → FunctionTree) → ((x : FunctionTree) → (again x).name ≡ x.name) → (i j : ℕ) (f g : FunctionTree) → slice_get (map again p.functions) i ≡ Some f → slice_get (map again p.functions) j ≡ Some g → f.name ≡ g.name → i ≡ j
both_old p names again kept i j f g at_i at_j same =
    let a = again_at again p.functions i f at_i in
    let b = again_at again p.functions j g at_j in
    names.functions i j a.0 b.0 a.1 b.1 (sym (kept a.0) ∙ ap (λ (x : FunctionTree). x.name) a.2 ∙ same ∙ sym (ap (λ (x : FunctionTree). x.name) b.2) ∙ kept b.0)

old_and_reader : (p : Program) → HaveNames p → (again : FunctionTree → FunctionTree) → ((x : FunctionTree) → (again x).name ≡ x.name) → (i : ℕ) (f g : FunctionTree) (k : ℕ) → slice_get (map again p.functions) i ≡ Some f → IsReader (with_targets p (tables_of p)) (tables_of p) k g → f.name ≡ g.name → ⊥
old_and_reader p names again kept i f g k at_i reader same =
    let a = again_at again p.functions i f at_i in
    names.words i a.0 a.1 (ap (λ (l : List ℕ). get_or l 0 0) (sym (kept a.0) ∙ ap (λ (x : FunctionTree). x.name) a.2 ∙ same ∙ ap (λ (x : FunctionTree). x.name) reader.4))

both_readers : (p : Program) → HaveNames p → (i j : ℕ) (f g : FunctionTree) → IsReader (with_targets p (tables_of p)) (tables_of p) i f → IsReader (with_targets p (tables_of p)) (tables_of p) j g → f.name ≡ g.name → i ≡ j
both_readers p names i j f g a b same =
    let name = same_tail (a.1).name (b.1).name (sym (ap (λ (x : FunctionTree). x.name) a.4) ∙ same ∙ ap (λ (x : FunctionTree). x.name) b.4) in
    let number = names.statics a.0 b.0 a.1 b.1 a.3 b.3 name in
    once p 0 p.statics b.0 i j (a.2 ∙ ap Some number) b.2

pub outlined_names : KeepsNames
unfolding outlined
outlined_names p names =
    let ts = tables_of p in
    let q = with_targets p ts in
    let again = outlined_function ts (length p.functions) in
    λ i j f g at_i at_j same.
    elim (split_at (map again p.functions) (readers q ts) i f at_i) [
      | inl a ↦ (elim (split_at (map again p.functions) (readers q ts) j g at_j) [
        | inl b ↦ both_old p names again (λ x. refl) i j f g a b same
        | inr b ↦ absurd (old_and_reader p names again (λ x. refl) i f g b.0 a (reader_at q ts (each_static p) b.0 g b.2) same)
      ])
      | inr a ↦ (elim (split_at (map again p.functions) (readers q ts) j g at_j) [
        | inl b ↦ absurd (old_and_reader p names again (λ x. refl) j g f a.0 b (reader_at q ts (each_static p) a.0 f a.2) (sym same))
        | inr b ↦ (let e = both_readers p names a.0 b.0 f g (reader_at q ts (each_static p) a.0 f a.2) (reader_at q ts (each_static p) b.0 g b.2) same in let l = a.1 in let r = b.1 in omega (arith, e, l, r))
      ])
    ]
