-- A fact of all numbers of a range, computed at once.
use Rattle.std.proofs.Common.{◌≡◌, ℕ, zero, suc, ◌+◌, ◌<◌, ◌≤◌, ⊎_elim, List, [], ◌∷◌, subst, arith}
use Rattle.std.proofs.lemmas.Bool.{cases_lt}

-- what a function gives for the numbers from one on, the last one first
abbrev pub each : {A : Type 0} → (ℕ → A) → ℕ → ℕ → List A
each f from zero = []
each f from (suc n) = f (from + n) ∷ each f from n

first_is : {A : Type 0} (x y : A) (xs ys : List A) → x ∷ xs ≡ y ∷ ys → x ≡ y
first_is x y xs ys is = cc

later_is : {A : Type 0} (x y : A) (xs ys : List A) → x ∷ xs ≡ y ∷ ys → xs ≡ ys
later_is x y xs ys is = cc

pub each_is : {A : Type 0} (f g : ℕ → A) (from n : ℕ) → each f from n ≡ each g from n → (k : ℕ) → from ≤ k → k < from + n → f k ≡ g k
each_is f g from zero is k low high = absurd (omega (arith, low, high))
each_is f g from (suc n) is k low high =
    ⊎_elim
    (λ l. each_is f g from n (later_is (f (from + n)) (g (from + n)) (each f from n) (each g from n) is) k low l)
    (λ m.
    let last : from + n ≡ k = omega (arith, m, high) in
    subst (λ (i : ℕ). f i ≡ g i) last (first_is (f (from + n)) (g (from + n)) (each f from n) (each g from n) is))
    (cases_lt k (from + n))

-- two functions give the same for the numbers from one to below another
abbrev pub Agree : {A : Type 0} → (ℕ → A) → (ℕ → A) → ℕ → ℕ → Type 0
Agree f g from to = (k : ℕ) → from ≤ k → k < to → f k ≡ g k

pub joined : {A : Type 0} (f g : ℕ → A) (a b c : ℕ) → Agree f g a b → Agree f g b c → Agree f g a c
joined f g a b c first second k low high = ⊎_elim (λ l. first k low l) (λ m. second k m high) (cases_lt k b)
