-- Two lists of numbers that don't fall and have each number as often are one.
use Rattle.std.proofs.Common.{◌≡◌, ℕ, suc, ◌+◌, ◌<◌, ◌≤◌, Bool, true, false, List, [], ◌∷◌, ◌++◌, map, length, refl, sym, ap, ◌∙◌, arith}
use Rattle.std.specs.Prelude.{slice_index_or, nat_eq, if◌then◌else◌}
use Rattle.std.specs.List.{sum_by}
use Rattle.std.specs.List.Sorted.{IsNonDecreasing, IsNonDecreasingBy, IsPermutation}
use Rattle.std.proofs.lemmas.Bool.{eqb-true, eq-eqb}
use Rattle.std.proofs.lemmas.List.{get_or-map, length-map}
use Rattle.std.proofs.lemmas.List.Sorted.{sum_by-IsPermutation}
use Rattle.std.proofs.lemmas.List.Sums.{sum_by-cons}

-- ---- how often a number is there
abbrev pub one_if_same : Bool → ℕ
one_if_same t = if t then 1 else 0

abbrev pub counted : ℕ → List ℕ → ℕ
counted v [] = 0
counted v (x ∷ xs) = one_if_same (nat_eq x v) + counted v xs

pub counted_join : (v : ℕ) (xs ys : List ℕ) → counted v (xs ++ ys) ≡ counted v xs + counted v ys
counted_join v [] ys = omega arith
counted_join v (x ∷ xs) ys = let later = counted_join v xs ys in omega (arith, later)

own_once : (y : ℕ) (ys : List ℕ) → counted y (y ∷ ys) ≡ suc (counted y ys)
own_once y ys = let one = ap one_if_same (eq-eqb y y refl) in omega (arith, one)

found : (v : ℕ) (xs : List ℕ) → 0 < counted v xs → (j : ℕ) × (j < length xs) × (slice_index_or xs j 0 ≡ v)
found v [] lt = absurd (omega arith)
found v (x ∷ xs) lt = by (nat_eq x v) refl lt (λ later. found v xs later) where
  by : (t : Bool) → nat_eq x v ≡ t → 0 < one_if_same t + counted v xs → (0 < counted v xs → (j : ℕ) × (j < length xs) × (slice_index_or xs j 0 ≡ v))
      → (j : ℕ) × (j < length (x ∷ xs)) × (slice_index_or (x ∷ xs) j 0 ≡ v)
  by true e lt below = (0, omega arith, eqb-true x v e)
  by false e lt below = let there = below (omega (arith, lt)) in let within = there.1 in (suc there.0, omega (arith, within), there.2)

-- a permutation keeps it
counted_sum : {X : Type 0} (n : X → ℕ) (v : ℕ) (xs : List X) → counted v (map n xs) ≡ sum_by (λ x. one_if_same (nat_eq (n x) v)) xs
counted_sum n v [] = refl
counted_sum n v (x ∷ xs) = ap (λ k. one_if_same (nat_eq (n x) v) + k) (counted_sum n v xs) ∙ sym (sum_by-cons (λ x. one_if_same (nat_eq (n x) v)) x xs)

pub same_counted : {X : Type 0} (n : X → ℕ) (v : ℕ) (xs ys : List X) → IsPermutation xs ys → counted v (map n ys) ≡ counted v (map n xs)
same_counted n v xs ys same = counted_sum n v ys ∙ sum_by-IsPermutation (λ x. one_if_same (nat_eq (n x) v)) xs ys same ∙ sym (counted_sum n v xs)

-- ---- lists that don't fall
least : (x : ℕ) (xs : List ℕ) (v : ℕ) → IsNonDecreasing (x ∷ xs) → 0 < counted v (x ∷ xs) → x ≤ v
least x xs v up lt =
    let there = found v (x ∷ xs) lt in
    let within : x ≤ slice_index_or (x ∷ xs) there.0 0 = up 0 there.0 0 (omega arith) there.1 in
    let is = there.2 in
    omega (arith, within, is)

rest_up : (x : ℕ) (xs : List ℕ) → IsNonDecreasing (x ∷ xs) → IsNonDecreasing xs
rest_up x xs up i j d le lt = up (suc i) (suc j) d (omega arith) (omega arith)

pub same_numbers : (xs ys : List ℕ) → IsNonDecreasing xs → IsNonDecreasing ys → ((v : ℕ) → counted v xs ≡ counted v ys) → xs ≡ ys
same_numbers [] [] up rises same = refl
same_numbers [] (y ∷ ys) up rises same = absurd (let once = own_once y ys in let none : 0 ≡ counted y (y ∷ ys) = same y in omega (arith, once, none))
same_numbers (x ∷ xs) [] up rises same = absurd (let once = own_once x xs in let none : counted x (x ∷ xs) ≡ 0 = same x in omega (arith, once, none))
same_numbers (x ∷ xs) (y ∷ ys) up rises same =
    let here = own_once x xs in
    let there = own_once y ys in
    let also = same x in
    let again = same y in
    let low = least x xs y up (omega (arith, there, again)) in
    let high = least y ys x rises (omega (arith, here, also)) in
    let first : x ≡ y = omega (arith, low, high) in
    let later : (v : ℕ) → counted v xs ≡ counted v ys = (λ v. drop_first v first (same v)) in
    ap (λ z. z ∷ xs) first ∙ ap (λ zs. y ∷ zs) (same_numbers xs ys (rest_up x xs up) (rest_up y ys rises) later) where
      drop_first : (v : ℕ) → x ≡ y → one_if_same (nat_eq x v) + counted v xs ≡ one_if_same (nat_eq y v) + counted v ys → counted v xs ≡ counted v ys
      drop_first v first all = let one = ap (λ z. one_if_same (nat_eq z v)) first in omega (arith, one, all)

-- numbers of what doesn't fall by them
pub map_up : {X : Type 0} (n : X → ℕ) (xs : List X) → IsNonDecreasingBy n xs → IsNonDecreasing (map n xs)
map_up n [] up i j d le lt = absurd (omega arith)
map_up n (x ∷ xs) up i j d le lt =
    let size = length-map (x ∷ xs) n in
    let within : j < length (x ∷ xs) = omega (arith, lt, size) in
    let at_first : slice_index_or (map n (x ∷ xs)) i d ≡ n (slice_index_or (x ∷ xs) i x) = get_or-map n (x ∷ xs) i x d (omega (arith, le, within)) in
    let at_last : slice_index_or (map n (x ∷ xs)) j d ≡ n (slice_index_or (x ∷ xs) j x) = get_or-map n (x ∷ xs) j x d within in
    let rises : n (slice_index_or (x ∷ xs) i x) ≤ n (slice_index_or (x ∷ xs) j x) = up i j x le within in
    omega (arith, at_first, at_last, rises)
