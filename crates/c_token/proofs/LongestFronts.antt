-- Fronts of lists: how many bytes of a class stand there, and what is the same in a front and in the
-- whole list.
use Rattle.std.proofs.Common.{ℕ, zero, suc, ◌+◌, ◌≤◌, ◌≡◌, min, Bool, true, false, ◌&&◌, cond, Option, Some, None, List, [], ◌∷◌, length, drop, take, arith, ap, ◌∙◌, refl, subst, length-take}
use Rattle.std.specs.List.{prefix_len, list_all}
use Rattle.std.proofs.lemmas.Bool.{and_parts, and_from}
use Rattle.c_token.specs.Bytes.{is_number_byte}
use Rattle.c_token.specs.Constant.{◌>>=◌}
use Rattle.c_token.specs.Longest.{number_goes_on}

-- ---- answers that may be none

-- what a step gives, another gives, if each of its two parts does
pub bind_into : {A B : Type 0} (o p : Option A) (f g : A → Option B) (y : B) → ((a : A) → o ≡ Some a → f a ≡ Some y → (p ≡ Some a) × (g a ≡ Some y)) → (o >>= f) ≡ Some y → (p >>= g) ≡ Some y
bind_into None p f g y into e = absurd cc
bind_into {B = B} (Some a) p f g y into e =
    let both = into a refl e in
    ap (λ q. q >>= g) both.0 ∙ both.1

-- what two steps gave
pub record Bound {A B : Type 0} (o : Option A) (f : A → Option B) (y : B) : Type 0 where
  pub first : A
  pub is : o ≡ Some first
  pub then : f first ≡ Some y

pub bound : {A B : Type 0} (o : Option A) (f : A → Option B) (y : B) → (o >>= f) ≡ Some y → Bound o f y
bound None f y e = absurd cc
bound (Some a) f y e = record { first = a; is = refl; then = e }

pub branch_into : {A : Type 0} (t : Bool) (a b c d : Option A) (y : A) → (a ≡ Some y → c ≡ Some y) → (b ≡ Some y → d ≡ Some y) → cond t a b ≡ Some y → cond t c d ≡ Some y
branch_into true a b c d y f g e = f e
branch_into false a b c d y f g e = g e

-- ---- how many stand at the front

front_step : (t : Bool) (a c m : ℕ) → a ≡ min m c → cond t (1 + a) 0 ≡ min (suc m) (cond t (1 + c) 0)
front_step true a c m e = omega arith
front_step false a c m e = omega arith

pub prefix_front : (p : ℕ → Bool) (m : ℕ) (xs : List ℕ) → prefix_len p (take m xs) ≡ min m (prefix_len p xs)
prefix_front p zero xs = omega arith
prefix_front p (suc m) [] = omega arith
prefix_front p (suc m) (x ∷ xs) = front_step (p x) (prefix_len p (take m xs)) (prefix_len p xs) m (prefix_front p m xs)

all_step : (t all : Bool) (c n : ℕ) → (all ≡ true → c ≡ n) → (t && all) ≡ true → cond t (1 + c) 0 ≡ suc n
all_step true all c n f e = let h = f e in omega arith
all_step false all c n f e = absurd cc

pub all_counts : (p : ℕ → Bool) (xs : List ℕ) → list_all p xs ≡ true → prefix_len p xs ≡ length xs
all_counts p [] e = refl
all_counts p (x ∷ xs) e = all_step (p x) (list_all p xs) (prefix_len p xs) (length xs) (all_counts p xs) e

none_step : (t all : Bool) (c n : ℕ) → (c ≡ n → all ≡ true) → cond t (1 + c) 0 ≡ suc n → (t && all) ≡ true
none_step true all c n f e = f (omega arith)
none_step false all c n f e = absurd (omega arith)

pub counts_all : (p : ℕ → Bool) (xs : List ℕ) → prefix_len p xs ≡ length xs → list_all p xs ≡ true
counts_all p [] e = refl
counts_all p (x ∷ xs) e = none_step (p x) (list_all p xs) (prefix_len p xs) (length xs) (counts_all p xs) e

-- a front of a class is no longer than the longest one
pub all_within : (p : ℕ → Bool) (m : ℕ) (xs : List ℕ) → m ≤ length xs → list_all p (take m xs) ≡ true → m ≤ prefix_len p xs
all_within p m xs h e =
    let c = all_counts p (take m xs) e in
    omega (arith, c, prefix_front p m xs, length-take m xs)

-- and the longest one is of the class
pub prefix_all : (p : ℕ → Bool) (m : ℕ) (xs : List ℕ) → m ≤ length xs → m ≤ prefix_len p xs → list_all p (take m xs) ≡ true
prefix_all p m xs h k = counts_all p (take m xs) (omega (arith, prefix_front p m xs, length-take m xs))

all_more_step : (a b c d : Bool) → (a ≡ true → c ≡ true) → (b ≡ true → d ≡ true) → (a && b) ≡ true → (c && d) ≡ true
all_more_step a b c d f g e = let h = and_parts a b e in and_from c d (f h.0) (g h.1)

pub all_more : (p q : ℕ → Bool) → ((b : ℕ) → p b ≡ true → q b ≡ true) → (xs : List ℕ) → list_all p xs ≡ true → list_all q xs ≡ true
all_more p q f [] e = refl
all_more p q f (x ∷ xs) e = all_more_step (p x) (list_all p xs) (q x) (list_all q xs) (f x) (all_more p q f xs) e

-- ---- where a number ends

ends_step : (t : Bool) (n : ℕ) (xs : List ℕ) (x : ℕ) → is_number_byte x ≡ t → number_goes_on (drop n xs) ≡ false → number_goes_on (drop (cond t (1 + n) 0) (x ∷ xs)) ≡ false
ends_step true n xs x e h = subst (λ k. number_goes_on (drop k (x ∷ xs)) ≡ false) (let same : suc n ≡ 1 + n = omega arith in same) h
ends_step false n xs x e h = e

pub number_ends : (xs : List ℕ) → number_goes_on (drop (prefix_len is_number_byte xs) xs) ≡ false
number_ends [] = refl
number_ends (x ∷ xs) = ends_step (is_number_byte x) (prefix_len is_number_byte xs) xs x refl (number_ends xs)

stops_step : (t : Bool) (m n : ℕ) → (m ≤ n → m ≡ n) → suc m ≤ cond t (1 + n) 0 → suc m ≡ cond t (1 + n) 0
stops_step true m n f h = let e = f (omega arith) in omega arith
stops_step false m n f h = absurd (omega arith)

stops_first : (t : Bool) (n : ℕ) → t ≡ false → 0 ≡ cond t (1 + n) 0
stops_first true n e = absurd cc
stops_first false n e = refl

-- a front of a number that doesn't go on is the whole number
pub number_whole : (m : ℕ) (xs : List ℕ) → m ≤ prefix_len is_number_byte xs → number_goes_on (drop m xs) ≡ false → m ≡ prefix_len is_number_byte xs
number_whole zero [] h e = refl
number_whole zero (x ∷ xs) h e = stops_first (is_number_byte x) (prefix_len is_number_byte xs) e
number_whole (suc m) [] h e = absurd (omega arith)
number_whole (suc m) (x ∷ xs) h e = stops_step (is_number_byte x) m (prefix_len is_number_byte xs) (λ k. number_whole m xs k e) h

-- ---- fronts of fronts

pub take_swap : (m n : ℕ) (xs : List ℕ) → take m (take n xs) ≡ take n (take m xs)
take_swap zero zero xs = refl
take_swap zero (suc n) xs = refl
take_swap (suc m) zero xs = refl
take_swap (suc m) (suc n) [] = refl
take_swap (suc m) (suc n) (x ∷ xs) = ap (λ ys. x ∷ ys) (take_swap m n xs)
