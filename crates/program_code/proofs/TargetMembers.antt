-- Members of lists.
use Rattle.std.proofs.Common.{◌≡◌, ℕ, zero, suc, ◌<◌, ◌⊎◌, inl, inr, List, [], ◌∷◌, ◌++◌, map, length, Some, slice_get, refl, ap, ⊎_elim, arith}
use Rattle.std.specs.Prelude.{slice_index_or}
use Rattle.std.proofs.lemmas.Option.{same_Some}
use Rattle.std.specs.List.{Contains}

abbrev pub Has : {A : Type 0} → List A → A → Type 0
Has [] x = ⊥
Has (y ∷ ys) x = (y ≡ x) ⊎ Has ys x

pub has_of : {A : Type 0} (xs : List A) (x : A) → Contains xs x → Has xs x
has_of [] x c = let l = c.1 in absurd (omega arith)
has_of (y ∷ ys) x c = by c.0 c.1 c.2 (λ k lt is. has_of ys x (k, lt, is)) where
  by : (k : ℕ) → k < length (y ∷ ys) → slice_index_or (y ∷ ys) k x ≡ x → ((k : ℕ) → k < length ys → slice_index_or ys k x ≡ x → Has ys x) → Has (y ∷ ys) x
  by zero lt is below = inl is
  by (suc k) lt is below = inr (below k (omega arith) is)

pub of_has : {A : Type 0} (xs : List A) (x : A) → Has xs x → Contains xs x
of_has [] x h = absurd h
of_has (y ∷ ys) x (inl e) = (0, omega arith, e)
of_has (y ∷ ys) x (inr h) = let c = of_has ys x h in (suc c.0, let l = c.1 in omega arith, c.2)

pub has_left : {A : Type 0} (xs ys : List A) (x : A) → Has xs x → Has (xs ++ ys) x
has_left [] ys x h = absurd h
has_left (z ∷ xs) ys x (inl e) = inl e
has_left (z ∷ xs) ys x (inr h) = inr (has_left xs ys x h)

pub has_right : {A : Type 0} (xs ys : List A) (x : A) → Has ys x → Has (xs ++ ys) x
has_right [] ys x h = h
has_right (z ∷ xs) ys x h = inr (has_right xs ys x h)

pub has_either : {A : Type 0} (xs ys : List A) (x : A) → Has (xs ++ ys) x → Has xs x ⊎ Has ys x
has_either [] ys x h = inr h
has_either (z ∷ xs) ys x (inl e) = inl (inl e)
has_either (z ∷ xs) ys x (inr h) = ⊎_elim (λ l. inl (inr l)) (λ r. inr r) (has_either xs ys x h)

pub has_map : {A B : Type 0} (f : A → B) (xs : List A) (y : B) → Has (map f xs) y → (x : A) × Has xs x × (f x ≡ y)
has_map f [] y h = absurd h
has_map f (x ∷ xs) y (inl e) = (x, inl refl, e)
has_map f (x ∷ xs) y (inr h) = let r = has_map f xs y h in (r.0, inr r.1, r.2)

pub map_has : {A B : Type 0} (f : A → B) (xs : List A) (x : A) → Has xs x → Has (map f xs) (f x)
map_has f [] x h = absurd h
map_has f (y ∷ ys) x (inl e) = inl (ap f e)
map_has f (y ∷ ys) x (inr h) = inr (map_has f ys x h)

pub get_has : {A : Type 0} (xs : List A) (k : ℕ) (x : A) → slice_get xs k ≡ Some x → Has xs x
get_has [] k x is = absurd (cc)
get_has (y ∷ ys) zero x is = inl (same_Some y x is)
get_has (y ∷ ys) (suc k) x is = inr (get_has ys k x is)

pub has_get : {A : Type 0} (xs : List A) (x : A) → Has xs x → (k : ℕ) × (slice_get xs k ≡ Some x)
has_get [] x h = absurd h
has_get (y ∷ ys) x (inl e) = (0, ap Some e)
has_get (y ∷ ys) x (inr h) = let r = has_get ys x h in (suc r.0, r.1)
