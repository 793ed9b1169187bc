-- Rows of tables: a set's are those of the rules; an element that is put last, changed or taken.
use Rattle.std.proofs.Common.{◌≡◌, ℕ, zero, suc, ◌+◌, ◌<◌, ◌≤◌, Bool, true, false, not, cond, ◌||◌, if◌then◌else◌, List, [], ◌∷◌, ◌++◌, map, length, get_or, set, slice_get, option_map, refl, sym, ap, ◌∙◌, true≢false, arith, length-append}
use Rattle.std.specs.List.{list_any, position_or_len}
use Rattle.indexmap.specs.IndexSet.{insert_key}
use Rattle.c_typed.specs.Sameness.{same_qualified}
use Rattle.c_typed.specs.declared.types.Qualified.{Qualified}
use Rattle.type_rules.specs.Rows.{place_of_row, with_row, changed_at}

module _ (eq : Qualified → Qualified → Bool) (same : (a b : Qualified) → eq a b ≡ same_qualified b a) where
  place : (b c : Bool) (n m : ℕ) → b ≡ c → n ≡ m → cond (not b) (1 + n) 0 ≡ (if c then 0 else 1 + m)
  place true true n m e h = refl
  place false false n m e h = ap (λ k. 1 + k) h
  place true false n m e h = absurd (true≢false e)
  place false true n m e h = absurd (true≢false (sym e))

  pub row_place : (ts : List Qualified) (ty : Qualified) → position_or_len (eq ty) ts ≡ place_of_row ts ty
  row_place [] ty = refl
  row_place (t ∷ ts) ty = place (eq ty t) (same_qualified t ty) (position_or_len (eq ty) ts) (place_of_row ts ty) (same ty t) (row_place ts ty)

  further : (b : Bool) (t ty : Qualified) (ts rest : List Qualified) → (if b then ts else ts ++ ty ∷ []) ≡ rest → (if b then t ∷ ts else t ∷ (ts ++ ty ∷ [])) ≡ t ∷ rest
  further true t ty ts rest h = ap (λ l. t ∷ l) h
  further false t ty ts rest h = ap (λ l. t ∷ l) h

  kept_rows : (b c d : Bool) (t ty : Qualified) (ts rest : List Qualified) → b ≡ c → (if d then ts else ts ++ ty ∷ []) ≡ rest
      → (if b || d then t ∷ ts else t ∷ (ts ++ ty ∷ [])) ≡ (if c then t ∷ ts else t ∷ rest)
  kept_rows true true d t ty ts rest e h = refl
  kept_rows false false d t ty ts rest e h = further d t ty ts rest h
  kept_rows true false d t ty ts rest e h = absurd (true≢false e)
  kept_rows false true d t ty ts rest e h = absurd (true≢false (sym e))

  pub row_kept : (ts : List Qualified) (ty : Qualified) → insert_key eq ts ty ≡ with_row ts ty
  row_kept [] ty = refl
  row_kept (t ∷ ts) ty = kept_rows (eq ty t) (same_qualified t ty) (list_any (eq ty) ts) t ty ts (with_row ts ty) (same ty t) (row_kept ts ty)

-- a list with one more at its end
pub one_more : {A : Type 0} (xs ys : List A) (x : A) → ys ≡ xs ++ x ∷ [] → length ys ≡ length xs + 1
one_more xs ys x is = ap length is ∙ length-append xs (x ∷ [])

module _ {A B : Type 0} (view : A → B) where
  -- an element that is put last
  pub seen_more : (xs : List A) (x : A) → map view (xs ++ x ∷ []) ≡ map view xs ++ view x ∷ []
  seen_more [] x = refl
  seen_more (y ∷ ys) x = ap (λ l. view y ∷ l) (seen_more ys x)

  -- an element that is there is changed
  pub seen_changed : (xs : List A) (k : ℕ) (x d : A) (change : B → B) → k < length xs → view x ≡ change (view (get_or xs k d)) → map view (set xs k x) ≡ changed_at (map view xs) k change
  seen_changed [] k x d change lt is = absurd (omega arith)
  seen_changed (y ∷ ys) zero x d change lt is = ap (λ z. z ∷ map view ys) is
  seen_changed (y ∷ ys) (suc k) x d change lt is = ap (λ l. view y ∷ l) (seen_changed ys k x d change (omega arith) is)

  -- one that isn't there is not
  pub seen_unchanged : (xs : List A) (k : ℕ) (change : B → B) → length xs ≤ k → map view xs ≡ changed_at (map view xs) k change
  seen_unchanged [] k change past = refl
  seen_unchanged (y ∷ ys) zero change past = absurd (omega arith)
  seen_unchanged (y ∷ ys) (suc k) change past = ap (λ l. view y ∷ l) (seen_unchanged ys k change (omega arith))

  pub seen_at : (xs : List A) (k : ℕ) → slice_get (map view xs) k ≡ option_map view (slice_get xs k)
  seen_at [] k = refl
  seen_at (x ∷ xs) zero = refl
  seen_at (x ∷ xs) (suc k) = seen_at xs k
