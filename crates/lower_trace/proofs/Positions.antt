-- Where the first element of a list stands that passes a test.
use Rattle.std.proofs.Common.{◌≡◌, ℕ, zero, suc, ◌+◌, ◌<◌, ◌≤◌, Bool, true, false, not, cond, nat_lt, List, [], ◌∷◌, length, Option, Some, None, slice_get, refl, sym, ap, ◌∙◌, arith}
use Rattle.std.specs.List.{position, position_or_len, Contains}
use Rattle.std.specs.Prelude.{slice_index_or, unwrap_or}
use Rattle.std.proofs.lemmas.Grind.{common_steps}
use Rattle.std.proofs.lemmas.List.Quantifiers.{position-Some}

-- an element that passes it stands at the first place or behind it
pub first_before : {A : Type 0} (test : A → Bool) (xs : List A) (i : ℕ) (d : A) → i < length xs → test (slice_index_or xs i d) ≡ true → position_or_len test xs ≤ i
first_before test [] i d lt e = absurd (omega (arith, lt))
first_before test (x ∷ xs) zero d lt e = by (test x) e where
  by : (b : Bool) → b ≡ true → cond (not b) (1 + position_or_len test xs) 0 ≤ 0
  by true e = omega arith
  by false e = absurd (cc)
first_before test (x ∷ xs) (suc i) d lt e = by (test x) (first_before test xs i d (omega (arith, lt)) e) where
  by : (b : Bool) → position_or_len test xs ≤ i → cond (not b) (1 + position_or_len test xs) 0 ≤ suc i
  by true le = omega arith
  by false le = omega (arith, le)

-- where one element passes the test, and there is a first
pub record IsFirst {A : Type 0} (test : A → Bool) (xs : List A) (i : ℕ) : Type 0 where
  pub at : ℕ
  pub is : position test xs ≡ Some at
  pub place : at ≡ position_or_len test xs
  pub early : at ≤ i

found_within : (n m : ℕ) → n < m → cond (nat_lt n m) (Some n) None ≡ Some n
found_within n m lt = let e : nat_lt n m ≡ true = grind (arith, common_steps) in rw e refl

pub is_first : {A : Type 0} (test : A → Bool) (xs : List A) (i : ℕ) (d : A) → i < length xs → test (slice_index_or xs i d) ≡ true → IsFirst test xs i
is_first test xs i d lt e = let le = first_before test xs i d lt e in record { at = position_or_len test xs; is = found_within (position_or_len test xs) (length xs) (omega (arith, le, lt)); place = refl; early = le }

pub at_index : {A : Type 0} (xs : List A) (i : ℕ) (d : A) → i < length xs → slice_get xs i ≡ Some (slice_index_or xs i d)
at_index [] i d lt = absurd (omega (arith, lt))
at_index (x ∷ xs) zero d lt = refl
at_index (x ∷ xs) (suc i) d lt = at_index xs i d (omega (arith, lt))

-- the element at the first place
pub record IsFound {A : Type 0} (test : A → Bool) (xs : List A) : Type 0 where
  pub at : ℕ
  pub element : A
  pub is : position test xs ≡ Some at
  pub place : at ≡ position_or_len test xs
  pub there : slice_get xs at ≡ Some element
  pub within : at < length xs
  pub passes : test element ≡ true

pub is_found : {A : Type 0} (test : A → Bool) (xs : List A) (x : A) → Contains xs x → test x ≡ true → IsFound test xs
is_found test xs x c e =
    let f = is_first test xs c.0 x c.1 (ap test c.2 ∙ e) in
    let s = position-Some test xs f.at x f.is in
    record { at = f.at; element = slice_index_or xs f.at x; is = f.is; place = f.place; there = at_index xs f.at x s.0; within = s.0; passes = s.1 }
