-- Choices by a test on two numbers.
use Rattle.std.proofs.Common.{◌≡◌, ◌≢◌, ℕ, Bool, true, false, nat_eq, nat_lt, if◌then◌else◌, ◌<◌, ◌≤◌, refl, ap}
use Rattle.std.proofs.lemmas.Bool.{eqb-true, eqb-false, eq-eqb, ne_eqb, ltb-true, ltb-false, lt-ltb, le-ltb}

module _ {X : Type 0} (k n : ℕ) (x y : X) where
  pub eq_yes : k ≡ n → (if nat_eq k n then x else y) ≡ x
  eq_yes e = ap (λ b. if b then x else y) (eq-eqb k n e)

  pub eq_no : k ≢ n → (if nat_eq k n then x else y) ≡ y
  eq_no e = ap (λ b. if b then x else y) (ne_eqb k n e)

  pub lt_yes : k < n → (if nat_lt k n then x else y) ≡ x
  lt_yes e = ap (λ b. if b then x else y) (lt-ltb k n e)

  pub lt_no : n ≤ k → (if nat_lt k n then x else y) ≡ y
  lt_no e = ap (λ b. if b then x else y) (le-ltb k n e)

  pub by_eq : (z : X) → (k ≡ n → z ≡ x) → (k ≢ n → z ≡ y) → z ≡ if nat_eq k n then x else y
  by_eq z here there = cases (nat_eq k n) refl
    where
      cases : (b : Bool) → nat_eq k n ≡ b → z ≡ if b then x else y
      cases true e = here (eqb-true k n e)
      cases false e = there (eqb-false k n e)

  pub by_lt : (z : X) → (k < n → z ≡ x) → (n ≤ k → z ≡ y) → z ≡ if nat_lt k n then x else y
  by_lt z here there = cases (nat_lt k n) refl
    where
      cases : (b : Bool) → nat_lt k n ≡ b → z ≡ if b then x else y
      cases true e = here (ltb-true k n e)
      cases false e = there (ltb-false k n e)
