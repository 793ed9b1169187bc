-- Runs by another count of the trace.
use Rattle.std.proofs.Common.{◌≡◌, ℕ, zero, suc, ◌≤◌, List, [], ◌∷◌, ◌++◌, length, take, refl, sym, ap, ◌∙◌, subst, ⊎_elim, arith}
use Rattle.std.proofs.lemmas.Bool.{cases_lt}
use Rattle.kept_trace.specs.Filtering.{Grows, IsMachine, run, counted_run, Filters}

nil_behind : {E : Type 0} (xs : List E) → xs ≡ xs ++ []
nil_behind [] = refl
nil_behind (x ∷ xs) = ap (λ ys. x ∷ ys) (nil_behind xs)

pub grows_none : {E : Type 0} (xs : List E) → Grows xs xs
grows_none xs = ([], nil_behind xs)

assoc : {E : Type 0} (xs ys zs : List E) → (xs ++ ys) ++ zs ≡ xs ++ (ys ++ zs)
assoc [] ys zs = refl
assoc (x ∷ xs) ys zs = ap (λ r. x ∷ r) (assoc xs ys zs)

pub grows_on : {E : Type 0} (xs ys zs : List E) → Grows xs ys → Grows ys zs → Grows xs zs
grows_on xs ys zs g h = (g.0 ++ h.0, h.1 ∙ ap (λ r. r ++ h.0) g.1 ∙ assoc xs g.0 h.0)

front : {E : Type 0} (xs ys : List E) → take (length xs) (xs ++ ys) ≡ xs
front [] ys = refl
front (x ∷ xs) ys = ap (λ r. x ∷ r) (front xs ys)

module _ (S E V : Type 0) (next : (ℕ → V) → S → S) (trace : S → List E) (m : IsMachine next trace) (count : List E → ℕ) (f : ℕ → V) (t : S) where
  abbrev at : ℕ → S
  at = counted_run next trace count f t

  later : (i j : ℕ) → i ≤ j → Grows (trace (at i)) (trace (at j))
  later i zero l = let is : i ≡ zero = omega arith in subst (λ (k : ℕ). Grows (trace (at k)) (trace t)) (sym is) (grows_none (trace t))
  later i (suc j) l =
      ⊎_elim
      (λ lt. grows_on (trace (at i)) (trace (at j)) (trace (at (suc j))) (later i j (omega arith)) (m.grows (λ k. f (count (trace (at j)))) (at j)))
      (λ ge. let is : i ≡ suc j = omega arith in subst (λ (k : ℕ). Grows (trace (at k)) (trace (at (suc j)))) (sym is) (grows_none (trace (at (suc j)))))
      (cases_lt i (suc j))

  module _ (n : ℕ) where
    -- what arrives by the length of the trace, read off the run itself
    abbrev by_length : ℕ → V
    by_length k = f (count (take k (trace (at n))))

    is_same : (i : ℕ) → i ≤ n → by_length (length (trace (at i))) ≡ f (count (trace (at i)))
    is_same i l =
        let g = later i n l in
        ap (λ (xs : List E). f (count xs)) (ap (take (length (trace (at i)))) g.1 ∙ front (trace (at i)) g.0)

    runs : (i : ℕ) → i ≤ n → run next by_length t i ≡ at i
    runs zero l = refl
    runs (suc i) l = ap (next by_length) (runs i (omega arith)) ∙ m.depends by_length (λ k. f (count (trace (at i)))) (at i) (is_same i (omega arith))

pub filters : (S E V : Type 0) → Filters S E V
filters S E V next trace m count f t n = (by_length S E V next trace m count f t n, runs S E V next trace m count f t n, is_same S E V next trace m count f t n)
