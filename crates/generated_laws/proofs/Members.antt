-- Members of lists.
use Rattle.std.proofs.Common.{◌≡◌, ℕ, zero, suc, ◌<◌, ◌⊎◌, inl, inr, Bool, true, List, [], ◌∷◌, length, arith}
use Rattle.std.specs.Prelude.{slice_index, slice_index_or}
use Rattle.std.specs.List.{Contains, list_all}
use Rattle.std.proofs.lemmas.Bool.{and_parts}

abbrev pub Has : {A : Type 0} → List A → A → Type 0
Has [] x = ⊥
Has (y ∷ ys) x = (y ≡ x) ⊎ Has ys x

pub has_of : {A : Type 0} (xs : List A) (x : A) → Contains xs x → Has xs x
has_of [] x c = let l = c.1 in absurd (omega arith)
has_of (y ∷ ys) x c = by c.0 c.1 c.2 (λ k lt is. has_of ys x (k, lt, is)) where
  by : (k : ℕ) → k < length (y ∷ ys) → slice_index_or (y ∷ ys) k x ≡ x → ((k : ℕ) → k < length ys → slice_index_or ys k x ≡ x → Has ys x) → Has (y ∷ ys) x
  by zero lt is below = inl is
  by (suc k) lt is below = inr (below k (omega arith) is)

pub of_has : {A : Type 0} (xs : List A) (x : A) → Has xs x → Contains xs x
of_has [] x h = absurd h
of_has (y ∷ ys) x (inl e) = (0, omega arith, e)
of_has (y ∷ ys) x (inr h) = let c = of_has ys x h in (suc c.0, let l = c.1 in omega arith, c.2)

-- what all numbers of a list pass, each passes
pub passes_at : (test : ℕ → Bool) (xs : List ℕ) → list_all test xs ≡ true → (k : ℕ) → k < length xs → test (slice_index xs k) ≡ true
passes_at test [] all k lt = absurd (omega (arith, lt))
passes_at test (x ∷ xs) all zero lt = (and_parts (test x) (list_all test xs) all).0
passes_at test (x ∷ xs) all (suc k) lt = passes_at test xs (and_parts (test x) (list_all test xs) all).1 k (omega (arith, lt))
