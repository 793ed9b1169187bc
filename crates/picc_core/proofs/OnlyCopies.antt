-- The copies of a program are one list: it has each of them, once, and in their order.
use Rattle.std.proofs.Common.{◌≡◌, ℕ, zero, suc, ◌<◌, ◌⊎◌, inl, inr, List, [], ◌∷◌, length, refl, sym, ap, ◌∙◌, subst, arith}
use Rattle.std.specs.Prelude.{slice_index_or}
use Rattle.std.specs.List.{AllPairs, Contains}
use Rattle.c_typed.specs.Chains.{number_of}
use Rattle.c_typed.specs.Trees.{Program}
use Rattle.call_graph.specs.Copies.{AreCopies, StandsBefore, root_place}
use Rattle.call_graph.specs.declared.types.FnCopy.{FnCopy}

-- ---- members
abbrev Has : {A : Type 0} → List A → A → Type 0
Has [] x = ⊥
Has (y ∷ ys) x = (y ≡ x) ⊎ Has ys x

has_of : {A : Type 0} (xs : List A) (x : A) → Contains xs x → Has xs x
has_of [] x c = let l = c.1 in absurd (omega arith)
has_of (y ∷ ys) x c = by c.0 c.1 c.2 (λ k lt is. has_of ys x (k, lt, is)) where
  by : (k : ℕ) → k < length (y ∷ ys) → slice_index_or (y ∷ ys) k x ≡ x → ((k : ℕ) → k < length ys → slice_index_or ys k x ≡ x → Has ys x) → Has (y ∷ ys) x
  by zero lt is below = inl is
  by (suc k) lt is below = inr (below k (omega arith) is)

of_has : {A : Type 0} (xs : List A) (x : A) → Has xs x → Contains xs x
of_has [] x h = absurd h
of_has (y ∷ ys) x (inl e) = (0, omega arith, e)
of_has (y ∷ ys) x (inr h) = let c = of_has ys x h in (suc c.0, let l = c.1 in omega arith, c.2)

-- ---- lists in an order in which no two stand before each other
module _ {A : Type 0} (Before : A → A → Type 0) (never : (x y : A) → Before x y → Before y x → ⊥) where
  -- each stands before those behind it
  abbrev Rises : List A → Type 0
  Rises [] = Unit {0}
  Rises (x ∷ xs) = ((y : A) → Has xs y → Before x y) × Rises xs

  first_rises : (x : A) (xs : List A) → AllPairs Before (x ∷ xs) → (y : A) → Contains xs y → Before x y
  first_rises x xs pairs y c = let l = c.1 in subst (Before x) c.2 (pairs 0 (suc c.0) y (omega arith) (omega (arith, l)))

  rises_of : (xs : List A) → AllPairs Before xs → Rises xs
  rises_of [] pairs = tt
  rises_of (x ∷ xs) pairs =
      (λ y h. first_rises x xs pairs y (of_has xs y h), rises_of xs (λ i j d lt within. pairs (suc i) (suc j) d (omega (arith, lt)) (omega (arith, within))))

  same_front : (x y : A) (xs ys : List A) → Rises (x ∷ xs) → Rises (y ∷ ys) → Has (y ∷ ys) x → Has (x ∷ xs) y → x ≡ y
  same_front x y xs ys up rises (inl e) there = sym e
  same_front x y xs ys up rises (inr here) (inl e) = e
  same_front x y xs ys up rises (inr here) (inr there) = absurd (never y x (rises.0 x here) (up.0 y there))

  -- what stands behind the front of one list does so in the other
  behind : (x y z : A) (ys : List A) → x ≡ y → Before x z → Has (y ∷ ys) z → Has ys z
  behind x y z ys same less (inl e) = absurd (let back = subst (Before x) (sym (same ∙ e)) less in never x x back back)
  behind x y z ys same less (inr there) = there

  one_list : (xs ys : List A) → Rises xs → Rises ys → ((z : A) → Has xs z → Has ys z) → ((z : A) → Has ys z → Has xs z) → xs ≡ ys
  one_list [] [] up rises to from = refl
  one_list [] (y ∷ ys) up rises to from = absurd (from y (inl refl))
  one_list (x ∷ xs) [] up rises to from = absurd (to x (inl refl))
  one_list (x ∷ xs) (y ∷ ys) up rises to from =
      let same = same_front x y xs ys up rises (to x (inl refl)) (from y (inl refl)) in
      let later = one_list xs ys up.1 rises.1 (λ z h. behind x y z ys same (up.0 z h) (to z (inr h))) (λ z h. behind y x z xs (sym same) (rises.0 z h) (from z (inr h))) in
      ap (λ z. z ∷ xs) same ∙ ap (λ zs. y ∷ zs) later

-- ---- copies
never_within : (n : ℕ) (a b : FnCopy) → (a.level < b.level) ⊎ ((a.level ≡ b.level) × (number_of n a.function < number_of n b.function))
    → (b.level < a.level) ⊎ ((b.level ≡ a.level) × (number_of n b.function < number_of n a.function)) → ⊥
never_within n a b (inl l) (inl m) = omega (arith, l, m)
never_within n a b (inl l) (inr m) = let e = m.0 in omega (arith, l, e)
never_within n a b (inr l) (inl m) = let e = l.0 in omega (arith, m, e)
never_within n a b (inr l) (inr m) = let less = l.1 in let more = m.1 in omega (arith, less, more)

never_both : (n : ℕ) (a b : FnCopy) → StandsBefore n a b → StandsBefore n b a → ⊥
never_both n a b (inl l) (inl m) = omega (arith, l, m)
never_both n a b (inl l) (inr m) = let e = ap root_place m.0 in omega (arith, l, e)
never_both n a b (inr l) (inl m) = let e = ap root_place l.0 in omega (arith, m, e)
never_both n a b (inr l) (inr m) = never_within n a b l.1 m.1

pub one_copies : (p : Program) (xs ys : List FnCopy) → AreCopies p xs → AreCopies p ys → xs ≡ ys
one_copies p xs ys here there =
    one_list (StandsBefore (length p.functions)) (never_both (length p.functions)) xs ys
    (rises_of (StandsBefore (length p.functions)) (never_both (length p.functions)) xs here.ordered)
    (rises_of (StandsBefore (length p.functions)) (never_both (length p.functions)) ys there.ordered)
    (λ c h. has_of ys c ((there.exact c).1 ((here.exact c).0 (of_has xs c h)))) (λ c h. has_of xs c ((here.exact c).1 ((there.exact c).0 (of_has ys c h))))
