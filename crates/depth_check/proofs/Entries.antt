-- The entries of the routines that were found, and the rows: a certificate has each where the tables have it.
use Rattle.std.proofs.Common.{◌≡◌, ℕ, zero, suc, ◌+◌, ◌<◌, ◌≤◌, Bool, true, false, List, [], ◌∷◌, ◌++◌, length, Option, Some, None, inl, inr, refl, sym, ap, ◌∙◌, subst, ⊎_elim, replicate, arith}
use Rattle.std.specs.Prelude.{if◌then◌else◌, nat_eq, nat_lt, nat_le, slice_index_or, slice_set, slice_get, ◌⊎◌}
use Rattle.std.proofs.lemmas.Bool.{and_from, and_parts, eqb-true, eq-eqb, ne_eqb, ltb-true, ltb-false, lt-ltb, leb-true, le-leb, cases_lt}
use Rattle.std.proofs.lemmas.List.{length-replicate}
use Rattle.depth_check.specs.declared.Row.{Row}
use Rattle.depth_check.specs.declared.Routine.{Routine}
use Rattle.depth_check.specs.declared.tables.Spot.{Spot}
use Rattle.depth_check.specs.Valid.{row_at, routine_in, is_rising}
use Rattle.depth_check.specs.Search.{Tables, position, holds_number, number_in, IsNumbered, is_first, with_entry, entries_from, row_for, rows_from, routine_for, routines_for}
use Rattle.depth_check.proofs.Spots.{index_none, index_same, index_other, index_length}

-- ---- places in a list of numbers
pub position_most : (n : ℕ) (xs : List ℕ) → position n xs ≤ length xs
position_most n [] = omega arith
position_most n (x ∷ xs) = by (nat_eq x n) (position_most n xs) where
  by : (b : Bool) → position n xs ≤ length xs → (if b then 0 else 1 + position n xs) ≤ suc (length xs)
  by true h = omega arith
  by false h = omega arith

-- the number at its place
pub at_position : (n : ℕ) (xs : List ℕ) → position n xs < length xs → slice_index_or xs (position n xs) 0 ≡ n
at_position n [] lt = absurd (omega arith)
at_position n (x ∷ xs) lt = by (nat_eq x n) refl lt (λ l. at_position n xs l) where
  at_next : (k : ℕ) → slice_index_or xs k 0 ≡ n → slice_index_or (x ∷ xs) (1 + k) 0 ≡ n
  at_next k e = ap (λ j. slice_index_or (x ∷ xs) j 0) (one k) ∙ e where
    one : (k : ℕ) → 1 + k ≡ suc k
    one k = omega arith

  by : (b : Bool) → nat_eq x n ≡ b → (if b then 0 else 1 + position n xs) < suc (length xs) → (position n xs < length xs → slice_index_or xs (position n xs) 0 ≡ n) → slice_index_or (x ∷ xs) (if b then 0 else 1 + position n xs) 0 ≡ n
  by true e l more = eqb-true x n e
  by false e l more = at_next (position n xs) (more (omega arith))

old_position : (n x : ℕ) (xs : List ℕ) → position n xs < length xs → position n (xs ++ x ∷ []) ≡ position n xs
old_position n x [] lt = absurd (omega arith)
old_position n x (y ∷ xs) lt = by (nat_eq y n) lt (λ l. old_position n x xs l) where
  by : (b : Bool) → (if b then 0 else 1 + position n xs) < suc (length xs) → (position n xs < length xs → position n (xs ++ x ∷ []) ≡ position n xs) → (if b then 0 else 1 + position n (xs ++ x ∷ [])) ≡ (if b then 0 else 1 + position n xs)
  by true l more = refl
  by false l more = ap (λ k. 1 + k) (more (omega arith))

new_position : (x : ℕ) (xs : List ℕ) → length xs ≤ position x xs → position x (xs ++ x ∷ []) ≡ length xs
new_position x [] le = ap (λ b. if b then 0 else 1 + 0) (eq-eqb x x refl)
new_position x (y ∷ xs) le = by (nat_eq y x) le (λ l. new_position x xs l) where
  by : (b : Bool) → suc (length xs) ≤ (if b then 0 else 1 + position x xs) → (length xs ≤ position x xs → position x (xs ++ x ∷ []) ≡ length xs) → (if b then 0 else 1 + position x (xs ++ x ∷ [])) ≡ suc (length xs)
  by true l more = absurd (omega arith)
  by false l more = let h = more (omega arith) in omega arith

length_more : (xs : List ℕ) (x : ℕ) → length (xs ++ x ∷ []) ≡ length xs + 1
length_more [] x = omega arith
length_more (y ∷ xs) x = let h = length_more xs x in omega arith

old_index : (xs : List ℕ) (x n : ℕ) → n < length xs → slice_index_or (xs ++ x ∷ []) n 0 ≡ slice_index_or xs n 0
old_index [] x n lt = absurd (omega arith)
old_index (y ∷ xs) x zero lt = refl
old_index (y ∷ xs) x (suc n) lt = old_index xs x n (omega arith)

new_index : (xs : List ℕ) (x : ℕ) → slice_index_or (xs ++ x ∷ []) (length xs) 0 ≡ x
new_index [] x = refl
new_index (y ∷ xs) x = new_index xs x

-- ---- the list of entries
abbrev pub Distinct : List ℕ → Type 0
Distinct xs = (n : ℕ) → n < length xs → position (slice_index_or xs n 0) xs ≡ n

abbrev pub Holds : List ℕ → ℕ → Type 0
Holds xs n = position n xs < length xs

more_distinct : (xs : List ℕ) (x : ℕ) → length xs ≤ position x xs → Distinct xs → Distinct (xs ++ x ∷ [])
more_distinct xs x out d n lt = ⊎_elim
    (λ l. ap (λ k. position k (xs ++ x ∷ [])) (old_index xs x n l) ∙ old_position (slice_index_or xs n 0) x xs (subst (λ k. k < length xs) (sym (d n l)) l) ∙ d n l)
    (λ l. let e : n ≡ length xs = last n (length xs) l (subst (λ k. n < k) (length_more xs x) lt) in
    subst (λ k. position (slice_index_or (xs ++ x ∷ []) k 0) (xs ++ x ∷ []) ≡ k) (sym e) (ap (λ k. position k (xs ++ x ∷ [])) (new_index xs x) ∙ new_position x xs out))
    (cases_lt n (length xs)) where
      last : (n m : ℕ) → m ≤ n → n < m + 1 → n ≡ m
      last n m a b = omega arith

module _ (xs : List ℕ) (x : ℕ) where
  -- one entry more, or none
  cases : (P : List ℕ → Type 0) → (position x xs < length xs → P xs) → (length xs ≤ position x xs → P (xs ++ x ∷ [])) → P (with_entry xs x)
  cases P a b = by (holds_number x xs) refl where
    by : (t : Bool) → holds_number x xs ≡ t → P (if t then xs else xs ++ x ∷ [])
    by true e = a (ltb-true (position x xs) (length xs) e)
    by false e = b (ltb-false (position x xs) (length xs) e)

  with_distinct : Distinct xs → Distinct (with_entry xs x)
  with_distinct d = cases Distinct (λ l. d) (λ l. more_distinct xs x l d)

  with_holds : Holds (with_entry xs x) x
  with_holds = cases (λ ys. Holds ys x) (λ l. l) (λ l. let e = new_position x xs l in let m = length_more xs x in omega (arith, e, m))

  with_old : (n : ℕ) → Holds xs n → (position n (with_entry xs x) ≡ position n xs) × Holds (with_entry xs x) n
  with_old n h = cases (λ ys. (position n ys ≡ position n xs) × Holds ys n) (λ l. (refl, h)) (λ l. (old_position n x xs h, let e = old_position n x xs h in let m = length_more xs x in omega (arith, e, m, h)))

  with_each : (P : ℕ → Type 0) → P x → ((n : ℕ) → n < length xs → P (slice_index_or xs n 0)) → (n : ℕ) → n < length (with_entry xs x) → P (slice_index_or (with_entry xs x) n 0)
  with_each P p old = cases (λ ys. (n : ℕ) → n < length ys → P (slice_index_or ys n 0)) (λ l. old)
      (λ l n lt. ⊎_elim (λ k. subst P (sym (old_index xs x n k)) (old n k))
      (λ k. let e : n ≡ length xs = last n (length xs) k (subst (λ j. n < j) (length_more xs x) lt) in subst (λ j. P (slice_index_or (xs ++ x ∷ []) j 0)) (sym e) (subst P (sym (new_index xs x)) p))
      (cases_lt n (length xs))) where
        last : (n m : ℕ) → m ≤ n → n < m + 1 → n ≡ m
        last n m a b = omega arith

-- ---- the table of places
absent : (xs : List ℕ) (x n : ℕ) → nat_eq x n ≡ false → length xs ≤ position n xs → length xs + 1 ≤ position n (xs ++ x ∷ [])
absent [] x n e le = subst (λ b. 1 ≤ (if b then 0 else 1 + 0)) (sym e) (omega arith)
absent (y ∷ xs) x n e le = by (nat_eq y n) le (λ l. absent xs x n e l) where
  by : (b : Bool) → suc (length xs) ≤ (if b then 0 else 1 + position n xs) → (length xs ≤ position n xs → length xs + 1 ≤ position n (xs ++ x ∷ [])) → suc (length xs) + 1 ≤ (if b then 0 else 1 + position n (xs ++ x ∷ []))
  by true l more = absurd (omega arith)
  by false l more = let h = more (omega arith) in omega arith

held_number : (xs : List ℕ) (n : ℕ) → position n xs < length xs → number_in xs n ≡ Some (position n xs)
held_number xs n lt = ap (λ b. if b then Some (position n xs) else None) (lt-ltb (position n xs) (length xs) lt)

no_number : (xs : List ℕ) (n : ℕ) → length xs ≤ position n xs → number_in xs n ≡ None
no_number xs n le = by (holds_number n xs) refl where
  by : (b : Bool) → holds_number n xs ≡ b → (if b then Some (position n xs) else None) ≡ None
  by true e = absurd (let h = ltb-true (position n xs) (length xs) e in omega (arith, h, le))
  by false e = refl

-- the number of an address that the table has, or none
pub number_place : (xs : List ℕ) (n k : ℕ) → number_in xs n ≡ Some k → k ≡ position n xs
number_place xs n k e = by (holds_number n xs) e where
  by : (b : Bool) → (if b then Some (position n xs) else None) ≡ Some k → k ≡ position n xs
  by true e = cc
  by false e = absurd (cc)

pub number_held : (xs : List ℕ) (n k : ℕ) → number_in xs n ≡ Some k → with_entry xs n ≡ xs
number_held xs n k e = by (holds_number n xs) e where
  by : (b : Bool) → (if b then Some (position n xs) else None) ≡ Some k → (if b then xs else xs ++ n ∷ []) ≡ xs
  by true e = refl
  by false e = absurd (cc)

pub number_new : (xs : List ℕ) (n : ℕ) → number_in xs n ≡ None → (with_entry xs n ≡ xs ++ n ∷ []) × (length xs ≤ position n xs)
number_new xs n e = by (holds_number n xs) refl e where
  by : (b : Bool) → holds_number n xs ≡ b → (if b then Some (position n xs) else None) ≡ None → ((if b then xs else xs ++ n ∷ []) ≡ xs ++ n ∷ []) × (length xs ≤ position n xs)
  by true h e = absurd (cc)
  by false h e = (refl, ltb-false (position n xs) (length xs) h)

pub numbered_more : (xs : List ℕ) (numbers : List (Option ℕ)) (at : ℕ) → IsNumbered numbers xs → at < 8192 → length xs ≤ position at xs → IsNumbered (slice_set numbers at (Some (length xs))) (xs ++ at ∷ [])
numbered_more xs numbers at t lt le = (index_length numbers at (Some (length xs)) ∙ t.0, λ n l. by (nat_eq at n) n l refl) where
  here : position at (xs ++ at ∷ []) ≡ length xs
  here = new_position at xs le

  same : slice_index_or (slice_set numbers at (Some (length xs))) at None ≡ number_in (xs ++ at ∷ []) at
  same = index_same None numbers at (Some (length xs)) (let l = t.0 in omega (arith, l, lt)) ∙ ap Some (sym here)
      ∙ sym (held_number (xs ++ at ∷ []) at (let m = length_more xs at in let h = here in omega (arith, m, h)))

  other : (n : ℕ) → nat_eq at n ≡ false → number_in (xs ++ at ∷ []) n ≡ number_in xs n
  other n e = ⊎_elim
      (λ l. held_number (xs ++ at ∷ []) n (let p = old_position n at xs l in let m = length_more xs at in omega (arith, p, m, l)) ∙ ap Some (old_position n at xs l) ∙ sym (held_number xs n l))
      (λ l. no_number (xs ++ at ∷ []) n (let a = absent xs at n e l in let m = length_more xs at in omega (arith, a, m)) ∙ sym (no_number xs n l))
      (lt_or_le (position n xs) (length xs)) where
        lt_or_le : (a b : ℕ) → (a < b) ⊎ (b ≤ a)
        lt_or_le a b = by_test (nat_lt a b) refl where
          by_test : (c : Bool) → nat_lt a b ≡ c → (a < b) ⊎ (b ≤ a)
          by_test true e = inl (ltb-true a b e)
          by_test false e = inr (ltb-false a b e)

  by : (b : Bool) (n : ℕ) → n < 8192 → nat_eq at n ≡ b → slice_index_or (slice_set numbers at (Some (length xs))) n None ≡ number_in (xs ++ at ∷ []) n
  by true n l e = subst (λ k. slice_index_or (slice_set numbers at (Some (length xs))) k None ≡ number_in (xs ++ at ∷ []) k) (eqb-true at n e) same
  by false n l e = index_other None numbers at n (Some (length xs)) e ∙ t.1 n l ∙ sym (other n e)

-- an address that has no number gets the next one, and one that has keeps it
pub appended : (xs ys : List ℕ) (numbers more : List (Option ℕ)) (at : ℕ) → IsNumbered numbers xs → at < 8192 → slice_index_or numbers at None ≡ None → ys ≡ xs ++ at ∷ [] → more ≡ slice_set numbers at (Some (length xs))
    → (ys ≡ with_entry xs at) × (length ys ≤ length xs + 1) × IsNumbered more ys
appended xs ys numbers more at t lt e f g =
    let n = number_new xs at (sym (t.1 at lt) ∙ e) in (
      f ∙ sym n.0,
      (let l = length_more xs at in let k : length ys ≡ length (xs ++ at ∷ []) = ap length f in omega (arith, l, k)),
      subst (λ z. IsNumbered z ys) (sym g) (subst (λ z. IsNumbered (slice_set numbers at (Some (length xs))) z) (sym f) (numbered_more xs numbers at t lt n.1)),
    )

pub kept : (xs : List ℕ) (numbers : List (Option ℕ)) (at k : ℕ) → IsNumbered numbers xs → at < 8192 → slice_index_or numbers at None ≡ Some k → xs ≡ with_entry xs at
kept xs numbers at k t lt e = sym (number_held xs at k (sym (t.1 at lt) ∙ e))

pub its_place : (xs : List ℕ) (numbers : List (Option ℕ)) (at k : ℕ) → IsNumbered numbers xs → at < 8192 → slice_index_or numbers at None ≡ Some k → k ≡ position at xs
its_place xs numbers at k t lt e = number_place xs at k (sym (t.1 at lt) ∙ e)

pub nothing_numbered : IsNumbered (replicate 8192 None) []
nothing_numbered = (length-replicate {A = Option ℕ} 8192 None, none) where
  none : (n : ℕ) → n < 8192 → slice_index_or (replicate 8192 None) n None ≡ number_in [] n
  none n lt = index_none {X = Option ℕ} None 8192 n

-- with a row's entry or without
either_way : (P : List ℕ → Type 0) (at : ℕ) (o : Option Spot) (xs : List ℕ) → P xs → P (with_entry xs at) → P (if is_first at o then with_entry xs at else xs)
either_way P at o xs a b = by (is_first at o) where
  by : (t : Bool) → P (if t then with_entry xs at else xs)
  by true = b
  by false = a

pub all_distinct : (at : ℕ) (spots : List (Option Spot)) (xs : List ℕ) → Distinct xs → Distinct (entries_from at spots xs)
all_distinct at [] xs d = d
all_distinct at (o ∷ spots) xs d = all_distinct (at + 1) spots (if is_first at o then with_entry xs at else xs) (either_way Distinct at o xs d (with_distinct xs at d))

pub all_old : (at : ℕ) (spots : List (Option Spot)) (xs : List ℕ) (n : ℕ) → Holds xs n → (position n (entries_from at spots xs) ≡ position n xs) × Holds (entries_from at spots xs) n
all_old at [] xs n h = (refl, h)
all_old at (o ∷ spots) xs n h =
    let a = either_way (λ ys. (position n ys ≡ position n xs) × Holds ys n) at o xs (refl, h) (with_old xs at n h) in
    let b = all_old (at + 1) spots (if is_first at o then with_entry xs at else xs) n a.1 in
    (b.0 ∙ a.0, b.1)

pub all_held : (at : ℕ) (spots : List (Option Spot)) (xs : List ℕ) (k : ℕ) → is_first (at + k) (slice_index_or spots k None) ≡ true → Holds (entries_from at spots xs) (at + k)
all_held at [] xs k h = absurd (cc)
all_held at (o ∷ spots) xs zero h =
    let f : is_first at o ≡ true = subst (λ j. is_first j o ≡ true) (none at) h in
    subst (Holds (entries_from at (o ∷ spots) xs)) (sym (none at)) (all_old (at + 1) spots (if is_first at o then with_entry xs at else xs) at (subst (λ b. Holds (if b then with_entry xs at else xs) at) (sym f) (with_holds xs at))).1 where
      none : (k : ℕ) → k + 0 ≡ k
      none k = omega arith
all_held at (o ∷ spots) xs (suc k) h =
    subst (Holds (entries_from at (o ∷ spots) xs)) (moved at k) (all_held (at + 1) spots (if is_first at o then with_entry xs at else xs) k (subst (λ j. is_first j (slice_index_or spots k None) ≡ true) (sym (moved at k)) h)) where
      moved : (a k : ℕ) → a + 1 + k ≡ a + suc k
      moved a k = omega arith

pub all_each : (P : ℕ → Type 0) (at : ℕ) (spots : List (Option Spot)) (xs : List ℕ) → ((k : ℕ) → is_first (at + k) (slice_index_or spots k None) ≡ true → P (at + k)) → ((n : ℕ) → n < length xs → P (slice_index_or xs n 0))
    → (n : ℕ) → n < length (entries_from at spots xs) → P (slice_index_or (entries_from at spots xs) n 0)
all_each P at [] xs new old = old
all_each P at (o ∷ spots) xs new old = all_each P (at + 1) spots (if is_first at o then with_entry xs at else xs)
    (λ k h. subst P (sym (moved at k)) (new (suc k) (subst (λ j. is_first j (slice_index_or spots k None) ≡ true) (moved at k) h)))
    (by (is_first at o) refl) where
      moved : (a k : ℕ) → a + 1 + k ≡ a + suc k
      moved a k = omega arith

      none : (k : ℕ) → k + 0 ≡ k
      none k = omega arith

      by : (b : Bool) → is_first at o ≡ b → (n : ℕ) → n < length (if b then with_entry xs at else xs) → P (slice_index_or (if b then with_entry xs at else xs) n 0)
      by true e = with_each xs at P (subst P (none at) (new zero (subst (λ j. is_first j o ≡ true) (sym (none at)) e))) old
      by false e = old

-- ---- routines and rows
pub routine_there : (t : Tables) (xs : List ℕ) (n : ℕ) → n < length xs → routine_in (routines_for t xs) n ≡ routine_for t (slice_index_or xs n 0)
routine_there t [] n lt = absurd (omega arith)
routine_there t (x ∷ xs) zero lt = refl
routine_there t (x ∷ xs) (suc n) lt = routine_there t xs n (omega arith)

pub routines_length : (t : Tables) (xs : List ℕ) → length (routines_for t xs) ≡ length xs
routines_length t [] = refl
routines_length t (x ∷ xs) = ap suc (routines_length t xs)

pub get_there : (qs : List Routine) (n : ℕ) → n < length qs → slice_get qs n ≡ Some (routine_in qs n)
get_there [] n lt = absurd (omega arith)
get_there (q ∷ qs) zero lt = refl
get_there (q ∷ qs) (suc n) lt = get_there qs n (omega arith)

abbrev pub row_of_spot : List ℕ → ℕ → Option Spot → Option Row
row_of_spot xs at None = None
row_of_spot xs at (Some s) = Some (row_for xs at s)

none_below : (xs : List ℕ) (low : ℕ) (spots : List (Option Spot)) (at : ℕ) → at < low → row_at (rows_from xs low spots) at ≡ None
none_below xs low [] at lt = refl
none_below xs low (None ∷ spots) at lt = none_below xs (low + 1) spots at (omega arith)
none_below xs low (Some s ∷ spots) at lt = ap (λ b. if b then Some (row_for xs low s) else row_at (rows_from xs (low + 1) spots) at) (ne_eqb low at (λ e. omega arith)) ∙ none_below xs (low + 1) spots at (omega arith)

pub row_there : (xs : List ℕ) (low : ℕ) (spots : List (Option Spot)) (k : ℕ) → row_at (rows_from xs low spots) (low + k) ≡ row_of_spot xs (low + k) (slice_index_or spots k None)
row_there xs low [] k = refl
row_there xs low (None ∷ spots) zero = none_below xs (low + 1) spots (low + 0) (omega arith)
row_there xs low (None ∷ spots) (suc k) = subst (λ j. row_at (rows_from xs (low + 1) spots) j ≡ row_of_spot xs j (slice_index_or spots k None)) (moved low k) (row_there xs (low + 1) spots k) where
  moved : (a k : ℕ) → a + 1 + k ≡ a + suc k
  moved a k = omega arith
row_there xs low (Some s ∷ spots) zero = ap (λ b. if b then Some (row_for xs low s) else row_at (rows_from xs (low + 1) spots) (low + 0)) (eq-eqb low (low + 0) (none low)) ∙ ap (λ j. Some (row_for xs j s)) (none low) where
  none : (k : ℕ) → k ≡ k + 0
  none k = omega arith
row_there xs low (Some s ∷ spots) (suc k) =
    ap (λ b. if b then Some (row_for xs low s) else row_at (rows_from xs (low + 1) spots) (low + suc k)) (ne_eqb low (low + suc k) (λ e. omega arith))
    ∙ subst (λ j. row_at (rows_from xs (low + 1) spots) j ≡ row_of_spot xs j (slice_index_or spots k None)) (moved low k) (row_there xs (low + 1) spots k) where
      moved : (a k : ℕ) → a + 1 + k ≡ a + suc k
      moved a k = omega arith

from_lower : (low high : ℕ) (rows : List Row) → low ≤ high → is_rising high rows ≡ true → is_rising low rows ≡ true
from_lower low high [] le h = refl
from_lower low high (x ∷ rows) le h =
    let a = and_parts _ (is_rising (x.at + 1) rows) h in
    let b = and_parts (nat_le high x.at) (nat_lt x.at 8192) a.0 in
    and_from _ (is_rising (x.at + 1) rows) (and_from (nat_le low x.at) (nat_lt x.at 8192) (le-leb low x.at (let l = leb-true high x.at b.0 in omega arith)) b.1) a.1

pub rows_rise : (xs : List ℕ) (low : ℕ) (spots : List (Option Spot)) → low + length spots ≤ 8192 → is_rising low (rows_from xs low spots) ≡ true
rows_rise xs low [] le = refl
rows_rise xs low (None ∷ spots) le = from_lower low (low + 1) (rows_from xs (low + 1) spots) (omega arith) (rows_rise xs (low + 1) spots (omega arith))
rows_rise xs low (Some s ∷ spots) le =
    and_from _ (is_rising (low + 1) (rows_from xs (low + 1) spots)) (and_from (nat_le low low) (nat_lt low 8192) (le-leb low low (omega arith)) (lt-ltb low 8192 (omega arith))) (rows_rise xs (low + 1) spots (omega arith))
