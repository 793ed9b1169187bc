-- Arrivals in order of their times.
use Rattle.std.proofs.Common.{◌≡◌, ℕ, zero, suc, ◌+◌, ◌-◌, max, ◌<◌, ◌≤◌, Bool, true, false, ◌||◌, ◌&&◌, nat_eq, nat_lt, if◌then◌else◌, List, [], ◌∷◌, length, take, take_all, drop, refl, sym, ap, ◌∙◌, subst, arith}
use Rattle.std.specs.Prelude.{bit_or, slice_index_or}
use Rattle.std.specs.Int.{bit_at}
use Rattle.std.specs.List.{list_any}
use Rattle.std.specs.List.Sorted.{IsPermutation, IsNonDecreasingBy, IsPartitionPoint}
use Rattle.std.proofs.lemmas.Bool.{eqb-true, ltb-true, ltb-false}
use Rattle.std.proofs.lemmas.List.Sorted.{list_any-IsPermutation}
use Rattle.std.proofs.lemmas.Nat.Bits.{bit_at_or, bit_at-lt, bit_at-zero, same_from_bits}
use Rattle.pic_world.specs.declared.Arrival.{Arrival}
use Rattle.pic_world.specs.Arrivals.{IsRising}
use Rattle.pic_world.specs.Bits.{truth}
use Rattle.pic_world.specs.Arrivals.{flag_bit, arriving}
use Rattle.pic_world.proofs.Masks.{mask_step}

-- ---- order
pub rising_lower : (s t : ℕ) (xs : List Arrival) → s ≤ t → IsRising t xs → IsRising s xs
rising_lower s t [] l h = tt
rising_lower s t (a ∷ xs) l h = let first = h.0 in (omega arith, h.1)

-- each arrival comes no earlier than the first may
rising_all : (t : ℕ) (xs : List Arrival) → IsRising t xs → (j : ℕ) (d : Arrival) → j < length xs → t ≤ (slice_index_or xs j d).t
rising_all t [] h j d l = absurd (omega arith)
rising_all t (a ∷ xs) h zero d l = h.0
rising_all t (a ∷ xs) h (suc j) d l =
    let first = h.0 in
    let later = rising_all a.t xs h.1 j d (omega arith) in
    omega arith

pub rising_far : (t : ℕ) (xs : List Arrival) → IsRising t xs → IsNonDecreasingBy (λ (a : Arrival). a.t) xs
rising_far t [] h i j d l m = absurd (omega arith)
rising_far t (a ∷ xs) h zero zero d l m = omega arith
rising_far t (a ∷ xs) h zero (suc j) d l m = rising_all a.t xs h.1 j d (omega arith)
rising_far t (a ∷ xs) h (suc i) zero d l m = absurd (omega arith)
rising_far t (a ∷ xs) h (suc i) (suc j) d l m = rising_far a.t xs h.1 i j d (omega arith) (omega arith)

pub rising_from : (t : ℕ) (xs : List Arrival) → ((d : Arrival) → 0 < length xs → t ≤ (slice_index_or xs 0 d).t) → IsNonDecreasingBy (λ (a : Arrival). a.t) xs → IsRising t xs
rising_from t [] first up = tt
rising_from t (a ∷ xs) first up = (
  first a (omega arith),
  rising_from a.t xs (λ d l. up 0 1 d (omega arith) (omega arith)) (λ i j d l m. up (suc i) (suc j) d (omega arith) (omega arith)),
)

-- ---- what arrives
-- arrivals that come later don't arrive
pub later_arriving : (s t : ℕ) (xs : List Arrival) → t < s → IsRising s xs → arriving xs t ≡ 0
later_arriving s t [] l h = refl
later_arriving s t (a ∷ xs) l h =
    let first = h.0 in
    by_test (nat_eq a.t t) refl (later_arriving a.t t xs (omega arith) h.1)
  where
    by_test : (b : Bool) → nat_eq a.t t ≡ b → arriving xs t ≡ 0 → (if nat_eq a.t t then bit_or (flag_bit a.flag) (arriving xs t) else arriving xs t) ≡ 0
    by_test true e z = let same : a.t ≡ t = eqb-true a.t t e in let first = h.0 in absurd (omega arith)
    by_test false e z = ap (λ b. if b then bit_or (flag_bit a.flag) (arriving xs t) else arriving xs t) e ∙ z

-- arrivals that come earlier don't arrive
pub earlier_arriving : (k t : ℕ) (xs : List Arrival) → k ≤ length xs → ((i : ℕ) (d : Arrival) → i < k → (slice_index_or xs i d).t < t) → arriving (drop k xs) t ≡ arriving xs t
earlier_arriving zero t xs l h = refl
earlier_arriving (suc k) t [] l h = refl
earlier_arriving (suc k) t (a ∷ xs) l h =
    earlier_arriving k t xs (omega arith) (λ i d m. h (suc i) d (omega arith)) ∙ by_test (nat_eq a.t t) refl
  where
    by_test : (b : Bool) → nat_eq a.t t ≡ b → arriving xs t ≡ (if nat_eq a.t t then bit_or (flag_bit a.flag) (arriving xs t) else arriving xs t)
    by_test true e = let same : a.t ≡ t = eqb-true a.t t e in let less = h zero a (omega arith) in absurd (omega arith)
    by_test false e = sym (ap (λ b. if b then bit_or (flag_bit a.flag) (arriving xs t) else arriving xs t) e)

pub rising_drop : (k s t : ℕ) (xs : List Arrival) → IsRising s xs → ((d : Arrival) → k < length xs → t ≤ (slice_index_or xs k d).t) → IsRising t (drop k xs)
rising_drop zero s t [] h first = tt
rising_drop zero s t (a ∷ xs) h first = (first a (omega arith), h.1)
rising_drop (suc k) s t [] h first = tt
rising_drop (suc k) s t (a ∷ xs) h first = rising_drop k a.t t xs h.1 (λ d l. first d (omega arith))

-- ---- what is left of a list
-- all that are left come later
pub rest_later : (rest : List Arrival) (t : ℕ) (d : Arrival) → 1 ≤ length rest → t < (slice_index_or rest 0 d).t → IsRising t rest → arriving rest t ≡ 0
rest_later [] t d l m h = refl
rest_later (a ∷ others) t d l m h = later_arriving a.t t (a ∷ others) m (omega arith, h.1)

-- the first of those that are left goes to the mask
pub rest_step : (mask : ℕ) (rest : List Arrival) (t : ℕ) (d : Arrival) → 1 ≤ length rest → (slice_index_or rest 0 d).t ≤ t → IsRising t rest
    → (bit_or (bit_or mask (flag_bit (slice_index_or rest 0 d).flag)) (arriving (take (length rest - 1) (drop 1 rest)) t) ≡ bit_or mask (arriving rest t))
    × IsRising t (take (length rest - 1) (drop 1 rest))
rest_step mask [] t d l m h = absurd (omega arith)
rest_step mask (a ∷ others) t d l m h =
    let first = h.0 in
    let same : a.t ≡ t = omega arith in (
      mask_step mask (a ∷ others) t d l same,
      subst (IsRising t) (sym (take_all (length (a ∷ others) - 1) others (omega arith))) (subst (λ n. IsRising n others) same h.1),
    )

-- what is left behind the first ones
pub length_rest : (xs : List Arrival) (k : ℕ) → length (drop k xs) ≤ length xs - k
length_rest xs zero = omega arith
length_rest [] (suc k) = omega arith
length_rest (a ∷ xs) (suc k) = let less = length_rest xs k in omega arith

-- ---- any order
max_truth : (x : ℕ) (b : Bool) → x < 2 → max x (truth b) ≡ truth (nat_eq x 1 || b)
max_truth zero true l = refl
max_truth zero false l = refl
max_truth (suc zero) true l = refl
max_truth (suc zero) false l = refl
max_truth (suc (suc x)) b l = absurd (omega arith)

has_flag : ℕ → ℕ → Arrival → Bool
has_flag t i a = nat_eq a.t t && nat_eq (bit_at (flag_bit a.flag) i) 1

bit_arriving : (xs : List Arrival) (t i : ℕ) → bit_at (arriving xs t) i ≡ truth (list_any (has_flag t i) xs)
unfolding has_flag
bit_arriving [] t i = bit_at-zero i
bit_arriving (a ∷ xs) t i = by_test (nat_eq a.t t) (bit_arriving xs t i)
  where
    by_test : (b : Bool) → bit_at (arriving xs t) i ≡ truth (list_any (has_flag t i) xs)
        → bit_at (if b then bit_or (flag_bit a.flag) (arriving xs t) else arriving xs t) i ≡ truth ((b && nat_eq (bit_at (flag_bit a.flag) i) 1) || list_any (has_flag t i) xs)
    by_test true e =
        bit_at_or (flag_bit a.flag) (arriving xs t) i
        ∙ ap (max (bit_at (flag_bit a.flag) i)) e
        ∙ max_truth (bit_at (flag_bit a.flag) i) (list_any (has_flag t i) xs) (bit_at-lt (flag_bit a.flag) i)
    by_test false e = e

pub any_order : (given other : List Arrival) → IsPermutation given other → (t : ℕ) → arriving other t ≡ arriving given t
any_order given other h t =
    same_from_bits (arriving other t) (arriving given t) (λ i.
    bit_arriving other t i ∙ ap truth (sym (list_any-IsPermutation (has_flag t i) given other h)) ∙ sym (bit_arriving given t i))
