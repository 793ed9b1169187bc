-- Rows of types: a type that has none gets the next one, all others stay, and no two are equal.
use Rattle.std.proofs.Common.{◌≡◌, ℕ, zero, suc, ◌+◌, Bool, true, false, if◌then◌else◌, List, [], ◌∷◌, Some, ◌⊎◌, inl, inr, refl, sym, ap, ◌∙◌, subst, arith}
use Rattle.std.specs.Prelude.{slice_get}
use Rattle.std.proofs.lemmas.Option.{same_Some}
use Rattle.c_typed.specs.Sameness.{same_qualified}
use Rattle.c_typed.specs.declared.types.Qualified.{Qualified}
use Rattle.type_rules.specs.Rows.{place_of_row, with_row}
use Rattle.typed_laws.specs.Tables.{Adds}
use Rattle.typed_laws.proofs.Same.{same_qualified_is, same_qualified_refl}

one_more : (n : ℕ) → 1 + n ≡ suc n
one_more n = omega arith

got_next : {A : Type 0} (x : A) (xs : List A) (n : ℕ) → slice_get (x ∷ xs) (1 + n) ≡ slice_get xs n
got_next x xs n = ap (slice_get (x ∷ xs)) (one_more n)

-- the new row is there
row_here : (t q : Qualified) (ts rest : List Qualified) (n : ℕ) (b : Bool) → same_qualified t q ≡ b → slice_get rest n ≡ Some q → slice_get (if b then t ∷ ts else t ∷ rest) (if b then 0 else 1 + n) ≡ Some q
row_here t q ts rest n true e h = ap Some (same_qualified_is t q e)
row_here t q ts rest n false e h = got_next t rest n ∙ h

pub row_there : (ts : List Qualified) (q : Qualified) → slice_get (with_row ts q) (place_of_row ts q) ≡ Some q
row_there [] q = refl
row_there (t ∷ ts) q = row_here t q ts (with_row ts q) (place_of_row ts q) (same_qualified t q) refl (row_there ts q)

-- the others stay
rest_kept : (t : Qualified) (ts rest : List Qualified) (b : Bool) → Adds ts rest → Adds (t ∷ ts) (if b then t ∷ ts else t ∷ rest)
rest_kept t ts rest true adds row q h = h
rest_kept t ts rest false adds zero q h = h
rest_kept t ts rest false adds (suc row) q h = adds row q h

pub rows_kept : (ts : List Qualified) (q : Qualified) → Adds ts (with_row ts q)
rows_kept [] q row r h = absurd (cc h)
rows_kept (t ∷ ts) q row r h = rest_kept t ts (with_row ts q) (same_qualified t q) (rows_kept ts q) row r h

-- what stands at a place was there, or is new
new_here : (t q r : Qualified) (ts rest : List Qualified) (n : ℕ) (b : Bool) → ((i : ℕ) → slice_get rest i ≡ Some r → (slice_get ts i ≡ Some r) ⊎ ((q ≡ r) × (n ≡ i)))
    → (i : ℕ) → slice_get (if b then t ∷ ts else t ∷ rest) i ≡ Some r → (slice_get (t ∷ ts) i ≡ Some r) ⊎ ((q ≡ r) × ((if b then 0 else 1 + n) ≡ i))
new_here t q r ts rest n true f i h = inl h
new_here t q r ts rest n false f zero h = inl h
new_here t q r ts rest n false f (suc i) h = further (f i h)
  where
    further : (slice_get ts i ≡ Some r) ⊎ ((q ≡ r) × (n ≡ i)) → (slice_get ts i ≡ Some r) ⊎ ((q ≡ r) × (1 + n ≡ suc i))
    further (inl g) = inl g
    further (inr g) = inr (g.0, one_more n ∙ ap suc g.1)

pub new_row : (ts : List Qualified) (q r : Qualified) (i : ℕ) → slice_get (with_row ts q) i ≡ Some r → (slice_get ts i ≡ Some r) ⊎ ((q ≡ r) × (place_of_row ts q ≡ i))
new_row [] q r zero h = inr (same_Some q r h, refl)
new_row [] q r (suc i) h = absurd (cc h)
new_row (t ∷ ts) q r i h = new_here t q r ts (with_row ts q) (place_of_row ts q) (same_qualified t q) (new_row ts q r) i h

-- the place of a row stays
place_here : (t q r : Qualified) (ts rest : List Qualified) (x : Qualified) (b c : Bool) → ((y : Qualified) → slice_get ts (place_of_row ts r) ≡ Some y → place_of_row rest r ≡ place_of_row ts r)
    → same_qualified t r ≡ c → slice_get (t ∷ ts) (if c then 0 else 1 + place_of_row ts r) ≡ Some x → place_of_row (if b then t ∷ ts else t ∷ rest) r ≡ (if c then 0 else 1 + place_of_row ts r)
place_here t q r ts rest x true c f e h = ap (λ d. if d then 0 else 1 + place_of_row ts r) e
place_here t q r ts rest x false true f e h = ap (λ d. if d then 0 else 1 + place_of_row rest r) e
place_here t q r ts rest x false false f e h = ap (λ d. if d then 0 else 1 + place_of_row rest r) e ∙ ap (λ n. 1 + n) (f x (sym (got_next t ts (place_of_row ts r)) ∙ h))

pub place_kept : (ts : List Qualified) (q r x : Qualified) → slice_get ts (place_of_row ts r) ≡ Some x → place_of_row (with_row ts q) r ≡ place_of_row ts r
place_kept [] q r x h = absurd (cc h)
place_kept (t ∷ ts) q r x h = place_here t q r ts (with_row ts q) x (same_qualified t q) (same_qualified t r) (λ y g. place_kept ts q r y g) refl h

own_here : (t q : Qualified) (ts rest : List Qualified) (b : Bool) → same_qualified t q ≡ b → place_of_row rest q ≡ place_of_row ts q → place_of_row (if b then t ∷ ts else t ∷ rest) q ≡ (if b then 0 else 1 + place_of_row ts q)
own_here t q ts rest true e h = ap (λ d. if d then 0 else 1 + place_of_row ts q) e
own_here t q ts rest false e h = ap (λ d. if d then 0 else 1 + place_of_row rest q) e ∙ ap (λ n. 1 + n) h

pub place_itself : (ts : List Qualified) (q : Qualified) → place_of_row (with_row ts q) q ≡ place_of_row ts q
place_itself [] q = ap (λ d. if d then 0 else 1 + 0) (same_qualified_refl q)
place_itself (t ∷ ts) q = own_here t q ts (with_row ts q) (same_qualified t q) refl (place_itself ts q)

-- No two rows are equal, and so it is when one is added.
pub distinct_more : (ts : List Qualified) (q : Qualified) → ((row : ℕ) (r : Qualified) → slice_get ts row ≡ Some r → place_of_row ts r ≡ row)
    → (row : ℕ) (r : Qualified) → slice_get (with_row ts q) row ≡ Some r → place_of_row (with_row ts q) r ≡ row
distinct_more ts q distinct row r h = by_cases (new_row ts q r row h)
  where
    by_cases : (slice_get ts row ≡ Some r) ⊎ ((q ≡ r) × (place_of_row ts q ≡ row)) → place_of_row (with_row ts q) r ≡ row
    by_cases (inl g) = place_kept ts q r r (ap (slice_get ts) (distinct row r g) ∙ g) ∙ distinct row r g
    by_cases (inr g) = subst (λ z. place_of_row (with_row ts q) z ≡ row) g.0 (place_itself ts q ∙ g.1)
