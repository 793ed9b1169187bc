-- Elements of lists at their places: of a list that got one more, or one of whose elements was changed.
use Rattle.std.proofs.Common.{◌≡◌, ℕ, zero, suc, ◌<◌, List, [], ◌∷◌, ◌++◌, length, map, Option, Some, None, is_some, true, ◌⊎◌, inl, inr, refl, sym, ap, ◌∙◌, arith}
use Rattle.std.specs.Prelude.{slice_get, slice_index}
use Rattle.typed_laws.specs.Tables.{Each}
use Rattle.std.proofs.lemmas.Option.{same_Some}
use Rattle.type_rules.specs.Rows.{changed_at}

-- nothing is something
pub none_is : {A : Type 0} {x : A} → None ≡ Some x → ⊥
none_is h = cc

pub got_left : {A : Type 0} (xs ys : List A) (i : ℕ) (x : A) → slice_get xs i ≡ Some x → slice_get (xs ++ ys) i ≡ Some x
got_left [] ys i x h = absurd (cc h)
got_left (z ∷ xs) ys zero x h = h
got_left (z ∷ xs) ys (suc i) x h = got_left xs ys i x h

pub got_last : {A : Type 0} (xs : List A) (x : A) → slice_get (xs ++ x ∷ []) (length xs) ≡ Some x
got_last [] x = refl
got_last (z ∷ xs) x = got_last xs x

pub got_either : {A : Type 0} (xs : List A) (x : A) (i : ℕ) (y : A) → slice_get (xs ++ x ∷ []) i ≡ Some y → (slice_get xs i ≡ Some y) ⊎ ((i ≡ length xs) × (x ≡ y))
got_either [] x zero y h = inr (refl, same_Some x y h)
got_either [] x (suc i) y h = absurd (cc h)
got_either (z ∷ xs) x zero y h = inl h
got_either (z ∷ xs) x (suc i) y h = further (got_either xs x i y h)
  where
    further : (slice_get xs i ≡ Some y) ⊎ ((i ≡ length xs) × (x ≡ y)) → (slice_get xs i ≡ Some y) ⊎ ((suc i ≡ suc (length xs)) × (x ≡ y))
    further (inl g) = inl g
    further (inr g) = inr (ap suc g.0, g.1)

pub within : {A : Type 0} (xs : List A) (i : ℕ) (x : A) → slice_get xs i ≡ Some x → i < length xs
within [] i x h = absurd (cc h)
within (z ∷ xs) zero x h = omega arith
within (z ∷ xs) (suc i) x h = let l : i < length xs = within xs i x h in omega arith

pub beyond : {A : Type 0} (xs : List A) (x : A) → slice_get xs (length xs) ≡ Some x → ⊥
beyond xs x h = let l : length xs < length xs = within xs (length xs) x h in omega arith

pub changed_same : {A : Type 0} (xs : List A) (n : ℕ) (change : A → A) (x : A) → slice_get xs n ≡ Some x → slice_get (changed_at xs n change) n ≡ Some (change x)
changed_same [] n change x h = absurd (cc h)
changed_same (z ∷ xs) zero change x h = ap (λ y. Some (change y)) (same_Some z x h)
changed_same (z ∷ xs) (suc n) change x h = changed_same xs n change x h

pub changed_other : {A : Type 0} (xs : List A) (n m : ℕ) (change : A → A) → (n ≡ m → ⊥) → slice_get (changed_at xs n change) m ≡ slice_get xs m
changed_other [] n m change apart = refl
changed_other (z ∷ xs) zero zero change apart = absurd (apart refl)
changed_other (z ∷ xs) zero (suc m) change apart = refl
changed_other (z ∷ xs) (suc n) zero change apart = refl
changed_other (z ∷ xs) (suc n) (suc m) change apart = changed_other xs n m change (λ e. apart (ap suc e))

-- what stands at a place afterwards stood there before, or is what was changed
pub changed_from : {A : Type 0} (xs : List A) (n m : ℕ) (change : A → A) (y : A) → slice_get (changed_at xs n change) m ≡ Some y → (slice_get xs m ≡ Some y) ⊎ ((n ≡ m) × (x : A) × (slice_get xs m ≡ Some x) × (change x ≡ y))
changed_from [] n m change y h = absurd (cc h)
changed_from (z ∷ xs) zero zero change y h = inr (refl, z, refl, same_Some (change z) y h)
changed_from (z ∷ xs) zero (suc m) change y h = inl h
changed_from (z ∷ xs) (suc n) zero change y h = inl h
changed_from {A = A} (z ∷ xs) (suc n) (suc m) change y h = further (changed_from xs n m change y h)
  where
    further : (slice_get xs m ≡ Some y) ⊎ ((n ≡ m) × (x : A) × (slice_get xs m ≡ Some x) × (change x ≡ y)) → (slice_get xs m ≡ Some y) ⊎ ((suc n ≡ suc m) × (x : A) × (slice_get xs m ≡ Some x) × (change x ≡ y))
    further (inl g) = inl g
    further (inr g) = inr (ap suc g.0, g.1, g.2, g.3)

-- the last of a list is changed
pub changed_last : {A : Type 0} (xs : List A) (x : A) (change : A → A) → changed_at (xs ++ x ∷ []) (length xs) change ≡ xs ++ change x ∷ []
changed_last [] x change = refl
changed_last (z ∷ xs) x change = ap (λ l. z ∷ l) (changed_last xs x change)

-- a number of each element of a list
pub numbered_at : {A : Type 0} (number : A → ℕ) (xs : List A) (n : ℕ) (x : A) → slice_get xs n ≡ Some x → slice_index (map number xs) n ≡ number x
numbered_at number [] n x h = absurd (cc h)
numbered_at number (z ∷ xs) zero x h = ap number (same_Some z x h)
numbered_at number (z ∷ xs) (suc n) x h = numbered_at number xs n x h

pub mapped_at : {A B : Type 0} (view : A → B) (xs : List A) (n : ℕ) (x : A) → slice_get xs n ≡ Some x → slice_get (map view xs) n ≡ Some (view x)
mapped_at view [] n x h = absurd (cc h)
mapped_at view (z ∷ xs) zero x h = ap (λ y. Some (view y)) (same_Some z x h)
mapped_at view (z ∷ xs) (suc n) x h = mapped_at view xs n x h

pub is_there : {A : Type 0} (o : Option A) (x : A) → o ≡ Some x → is_some o ≡ true
is_there o x h = ap is_some h

-- two answers of one question are one
pub same_answer : {A : Type 0} (o : Option A) (x y : A) → o ≡ Some x → o ≡ Some y → x ≡ y
same_answer o x y g h = same_Some x y (sym g ∙ h)

pub all_more : {A : Type 0} {P Q : A → Type 0} (xs : List A) → ((x : A) → P x → Q x) → Each P xs → Each Q xs
all_more [] f all = all
all_more (x ∷ xs) f all = (f x all.0, all_more xs f all.1)
