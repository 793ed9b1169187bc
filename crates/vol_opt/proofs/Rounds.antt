-- Rounds of marking: what one round more doesn't change, no later one does; so marks on so many places stand still after as many rounds.
use Rattle.std.proofs.Common.{◌≡◌, ◌⊎◌, inl, inr, ⊎_elim, ℕ, zero, suc, ◌+◌, ◌-◌, ◌<◌, ◌≤◌, Bool, true, false, refl, sym, ap, ◌∙◌, subst, arith}
use Rattle.std.proofs.lemmas.Bool.{cases_lt, false≢true}

abbrev ones : Bool → ℕ
ones true = 1
ones false = 0

-- how many of the first places are marked
marked_of : ℕ → (ℕ → Bool) → ℕ
marked_of zero mark = 0
marked_of (suc n) mark = marked_of n mark + ones (mark n)

below_or_last : (i n : ℕ) → i < suc n → (i < n) ⊎ (i ≡ n)
below_or_last i n l = ⊎_elim (λ lt. inl lt) (λ ge. inr (omega arith)) (cases_lt i n)

-- Marks a and b, of which b has all that a has: they are the same, or b has more.
module _ (a b : ℕ → Bool) (grows : (i : ℕ) → a i ≡ true → b i ≡ true) where
  one_grows : (n : ℕ) → ones (a n) ≤ ones (b n)
  one_grows n = by (a n) (b n) (grows n) where
    by : (x y : Bool) → (x ≡ true → y ≡ true) → ones x ≤ ones y
    by true true h = omega arith
    by true false h = absurd (false≢true (h refl))
    by false true h = omega arith
    by false false h = omega arith

  count_grows : (n : ℕ) → marked_of n a ≤ marked_of n b
  unfolding marked_of
  count_grows zero = omega arith
  count_grows (suc n) = let l = count_grows n in let m = one_grows n in omega (arith, l, m)

  one_same : (n : ℕ) → (b n ≡ a n) ⊎ (ones (a n) < ones (b n))
  one_same n = by (a n) (b n) (grows n) where
    by : (x y : Bool) → (x ≡ true → y ≡ true) → (y ≡ x) ⊎ (ones x < ones y)
    by true true h = inl refl
    by true false h = absurd (false≢true (h refl))
    by false true h = inr (omega arith)
    by false false h = inl refl

  same_or_more : (n : ℕ) → ((i : ℕ) → i < n → b i ≡ a i) ⊎ (marked_of n a < marked_of n b)
  unfolding marked_of
  same_or_more zero = inl (λ i l. absurd (omega arith))
  same_or_more (suc n) =
      let one = one_grows n in
      let all = count_grows n in
      ⊎_elim
      (λ same.
      ⊎_elim
      (λ here. inl (λ i l. ⊎_elim (λ lt. same i lt) (λ e. subst (λ (k : ℕ). b k ≡ a k) (sym e) here) (below_or_last i n l)))
      (λ more. inr (omega (arith, all, more)))
      (one_same n))
      (λ more. inr (omega (arith, one, more)))
      (same_or_more n)

count_below : (n : ℕ) (mark : ℕ → Bool) → marked_of n mark ≤ n
unfolding marked_of
count_below zero mark = omega arith
count_below (suc n) mark = let l = count_below n mark in let m = by (mark n) in omega (arith, l, m) where
  by : (x : Bool) → ones x ≤ 1
  by true = omega arith
  by false = omega arith

-- as many marks as places: all are marked
all_marked : (n : ℕ) (mark : ℕ → Bool) → n ≤ marked_of n mark → (i : ℕ) → i < n → mark i ≡ true
unfolding marked_of
all_marked zero mark h i l = absurd (omega arith)
all_marked (suc n) mark h i l =
    by (mark n) refl (below_or_last i n l) (λ fewer lt. all_marked n mark fewer i lt)
  where
    by : (x : Bool) → mark n ≡ x → (i < n) ⊎ (i ≡ n) → (n ≤ marked_of n mark → i < n → mark i ≡ true) → mark i ≡ true
    by true e (inl lt) rest = let m : ones (mark n) ≡ 1 = ap (λ (c : Bool). ones c) e in rest (omega (arith, h, m)) lt
    by true e (inr same) rest = subst (λ (k : ℕ). mark k ≡ true) (sym same) e
    by false e which rest = let m : ones (mark n) ≡ 0 = ap (λ (c : Bool). ones c) e in let most = count_below n mark in absurd (omega (arith, h, m, most))

-- marks by rounds on so many places
module _ (places : ℕ) (mark : ℕ → ℕ → Bool) (grows : (k i : ℕ) → mark k i ≡ true → mark (suc k) i ≡ true)
    (settles : (k : ℕ) → ((i : ℕ) → i < places → mark (suc k) i ≡ mark k i) → (i : ℕ) → i < places → mark (suc (suc k)) i ≡ mark (suc k) i) where
  abbrev Still : ℕ → Type 0
  Still k = (i : ℕ) → i < places → mark (suc k) i ≡ mark k i

  grows_by : (n k i : ℕ) → mark k i ≡ true → mark (k + n) i ≡ true
  grows_by zero k i h = subst (λ (j : ℕ). mark j i ≡ true) (omega arith) h
  grows_by (suc n) k i h = subst (λ (j : ℕ). mark j i ≡ true) (omega arith) (grows (k + n) i (grows_by n k i h))

  still_by : (n k : ℕ) → Still k → Still (k + n)
  still_by zero k h = subst (λ (j : ℕ). Still j) (omega arith) h
  still_by (suc n) k h = subst (λ (j : ℕ). Still j) (omega arith) (settles (k + n) (still_by n k h))

  same_by : (n k : ℕ) → Still k → (i : ℕ) → i < places → mark (k + n) i ≡ mark k i
  same_by zero k h i l = ap (λ (j : ℕ). mark j i) (omega arith)
  same_by (suc n) k h i l = ap (λ (j : ℕ). mark j i) (omega arith) ∙ still_by n k h i l ∙ same_by n k h i l

  -- within the first k rounds one changed nothing, or there are k marks
  progress : (k : ℕ) → ((j : ℕ) × (j ≤ k) × Still j) ⊎ (k ≤ marked_of places (mark k))
  progress zero = inr (omega arith)
  progress (suc k) =
      ⊎_elim
      (λ s. inl (s.0, (let l = s.1 in omega (arith, l)), s.2))
      (λ many. ⊎_elim (λ same. inl (k, omega arith, same)) (λ more. inr (omega (arith, many, more))) (same_or_more (mark k) (mark (suc k)) (grows k) places))
      (progress k)

  pub found_in_time : (n i : ℕ) → i < places → mark n i ≡ true → mark places i ≡ true
  found_in_time n i l h =
      ⊎_elim
      (λ s. stands s.0 s.1 s.2)
      (λ many. all_marked places (mark places) many i l)
      (progress places)
    where
      stands : (j : ℕ) → j ≤ places → Still j → mark places i ≡ true
      stands j le still =
          let late : mark (j + n) i ≡ true = subst (λ (m : ℕ). mark m i ≡ true) (omega arith) (grows_by j n i h) in
          let here : mark j i ≡ true = sym (same_by n j still i l) ∙ late in
          subst (λ (m : ℕ). mark m i ≡ true) (by le) (grows_by (places - j) j i here)
        where
          by : j ≤ places → j + (places - j) ≡ places
          by le = omega arith
