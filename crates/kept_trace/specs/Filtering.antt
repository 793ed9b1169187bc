-- Any machine: a run under a schedule by another count of its trace than the length is, up to each moment, a run under some schedule by the
-- length.
use Rattle.std.specs.Prelude.{◌≡◌, ℕ, zero, suc, ◌≤◌, List, ◌++◌, length}

-- more may have come behind xs
abbrev pub Grows : {E : Type 0} → List E → List E → Type 0
Grows {E} xs ys = (more : List E) × (ys ≡ xs ++ more)

-- next f t: the state behind t, where f says what arrives by the length of the trace; nothing else of f is asked. Traces only grow.
pub record IsMachine {S E V : Type 0} (next : (ℕ → V) → S → S) (trace : S → List E) : Type 0 where
  pub depends : (f g : ℕ → V) (t : S) → f (length (trace t)) ≡ g (length (trace t)) → next f t ≡ next g t
  pub grows : (f : ℕ → V) (t : S) → Grows (trace t) (trace (next f t))

-- by the length of the trace
abbrev pub run : {S V : Type 0} → ((ℕ → V) → S → S) → (ℕ → V) → S → ℕ → S
run next f t zero = t
run next f t (suc n) = next f (run next f t n)

-- by another count
abbrev pub counted_run : {S E V : Type 0} → ((ℕ → V) → S → S) → (S → List E) → (List E → ℕ) → (ℕ → V) → S → ℕ → S
counted_run next trace count f t zero = t
counted_run next trace count f t (suc n) = let u = counted_run next trace count f t n in next (λ k. f (count (trace u))) u

-- The schedule by the length has, at each length that comes up to there, what the other one has at the count.
abbrev pub Filters : (S E V : Type 0) → Type 0
Filters S E V =
    (next : (ℕ → V) → S → S) (trace : S → List E) → IsMachine next trace → (count : List E → ℕ) (f : ℕ → V) (t : S) (n : ℕ)
    → (g : ℕ → V) × ((i : ℕ) → i ≤ n → run next g t i ≡ counted_run next trace count f t i)
    × ((i : ℕ) → i ≤ n → g (length (trace (counted_run next trace count f t i))) ≡ f (count (trace (counted_run next trace count f t i))))
