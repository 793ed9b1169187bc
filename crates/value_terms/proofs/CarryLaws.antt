-- Carries have the values of carries.
use Rattle.std.proofs.Common.{◌≡◌, ℕ, ◌+◌, ◌-◌, ◌*◌, ◌/◌, ◌%◌, ◌<◌, ◌⊎◌, inl, inr, Bool, true, false, refl, sym, ap, ◌∙◌, arith}
use Rattle.std.specs.Prelude.{◌&&◌, nat_eq, nat_le, nat_lt, bit_and, bit_or}
use Rattle.std.specs.Int.Bits.{and_zero_l}
use Rattle.std.proofs.lemmas.Bool.{eqb-true, leb-true, leb-false}
use Rattle.std.proofs.Math.Nat.{eq-zero-or-pos}
use Rattle.pic_world.specs.Bits.{truth}
use Rattle.value_terms.specs.declared.term.Ternary.TheVariants.{Carry}
use Rattle.value_terms.specs.Terms.{Term, Num, Triple, Environment, value}
use Rattle.value_terms.specs.Equality.{rank, is_number, amount, is_bit}
use Rattle.value_terms.specs.Sums.{opposite, negated}
use Rattle.value_terms.specs.Bits.{bit, same}
use Rattle.value_terms.specs.Masks.{mask, union}
use Rattle.value_terms.specs.Carries.{exceeds, carry_number, carry_ordered, leads_negative, carry_any, carry}
use Rattle.value_terms.proofs.Equal.{and_left, and_right}
use Rattle.value_terms.proofs.Numbers.{truth_true, truth_false, truth_mod, positive, not_eq, above_by}
use Rattle.value_terms.proofs.SumLaws.{small, number_is, choose, negated_law, bit_small, opposite_law}
use Rattle.value_terms.proofs.BitLaws.{bit_law, same_law}
use Rattle.value_terms.proofs.MaskLaws.{mask_law, union_law}

-- ---- numbers
-- a test, by what it says
pub tested : (b : Bool) (P : ℕ → Type 0) → (b ≡ true → P 1) → (b ≡ false → P 0) → P (truth b)
tested true P f g = f refl
tested false P f g = g refl

-- where the number isn't 0
above_none : (v : ℕ) → v < 256 → (255 * truth (nat_eq v 0) + 1) % 256 ≡ truth (nat_le 256 (v + 255 + 0))
above_none v l = tested (nat_eq v 0) (λ n. (255 * n + 1) % 256 ≡ truth (nat_le 256 (v + 255 + 0)))
    (λ h. above_by (v + 255 + 0) ((255 * 1 + 1) % 256) (λ p. let z = eqb-true v 0 h in absurd (omega arith)) (λ p. refl))
    (λ h. above_by (v + 255 + 0) ((255 * 0 + 1) % 256) (λ p. refl) (λ p. let z = positive v h in absurd (omega arith)))

above_full : (v : ℕ) → v < 256 → truth (nat_eq v 255) ≡ truth (nat_le 256 (v + 1 + 0))
above_full v l = above_by (v + 1 + 0) (truth (nat_eq v 255)) (λ p. sym (truth_true v 255 (omega arith))) (λ p. sym (truth_false v 255 (λ q. omega arith)))

above_half : (v : ℕ) → v < 256 → v / 128 % 2 ≡ truth (nat_le 256 (v + 128 + 0))
above_half v l = above_by (v + 128 + 0) (v / 128 % 2) (λ p. omega arith) (λ p. omega arith)

above_bit : (v n : ℕ) → v < 2 → n < 255 → 0 ≡ truth (nat_le 256 (v + n + 0))
above_bit v n l k = above_by (v + n + 0) 0 (λ p. absurd (omega arith)) (λ p. refl)

below_full : (n : ℕ) → nat_eq n 255 ≡ false → n < 256 → n < 255
below_full n h l = by (eq-zero-or-pos (255 - n))
  where
    by : (255 - n ≡ 0) ⊎ (0 < 255 - n) → n < 255
    by (inl z) = absurd (not_eq n 255 h (omega arith))
    by (inr p) = omega arith

-- a bit c, and a byte that is full
and_bits : (c v : ℕ) → c < 2 → v < 256 → bit_and c (truth (nat_eq v 255)) % 256 ≡ truth (nat_le 256 (v + 0 + c))
and_bits c v h l = by (eq-zero-or-pos c)
  where
    by : (c ≡ 0) ⊎ (0 < c) → bit_and c (truth (nat_eq v 255)) % 256 ≡ truth (nat_le 256 (v + 0 + c))
    by (inl z) = ap (λ (n : ℕ). bit_and n (truth (nat_eq v 255)) % 256) z ∙ ap (λ (n : ℕ). n % 256) (and_zero_l (truth (nat_eq v 255))) ∙ above_by (v + 0 + c) 0 (λ p. absurd (omega arith)) (λ p. refl)
    by (inr o) =
        let i : c ≡ 1 = omega arith in
        ap (λ (n : ℕ). bit_and n (truth (nat_eq v 255)) % 256) i
        ∙ tested (nat_eq v 255) (λ n. bit_and 1 n % 256 ≡ truth (nat_le 256 (v + 0 + c)))
        (λ q. let w = eqb-true v 255 q in above_by (v + 0 + c) 1 (λ p. refl) (λ p. absurd (omega arith)))
        (λ q. above_by (v + 0 + c) 0 (λ p. absurd (not_eq v 255 q (omega arith))) (λ p. refl))

or_bits : (c v : ℕ) → c < 2 → v < 256 → bit_or c ((255 * truth (nat_eq v 0) + 1) % 256) % 256 ≡ truth (nat_le 256 (v + 255 + c))
or_bits c v h l = by (eq-zero-or-pos c)
  where
    by : (c ≡ 0) ⊎ (0 < c) → bit_or c ((255 * truth (nat_eq v 0) + 1) % 256) % 256 ≡ truth (nat_le 256 (v + 255 + c))
    by (inl z) =
        ap (λ (n : ℕ). bit_or n ((255 * truth (nat_eq v 0) + 1) % 256) % 256) z
        ∙ tested (nat_eq v 0) (λ n. bit_or 0 ((255 * n + 1) % 256) % 256 ≡ truth (nat_le 256 (v + 255 + c)))
        (λ q. let w = eqb-true v 0 q in above_by (v + 255 + c) 0 (λ p. absurd (omega arith)) (λ p. refl))
        (λ q. let w = positive v q in above_by (v + 255 + c) 1 (λ p. refl) (λ p. absurd (omega arith)))
    by (inr o) =
        let i : c ≡ 1 = omega arith in
        ap (λ (n : ℕ). bit_or n ((255 * truth (nat_eq v 0) + 1) % 256) % 256) i
        ∙ tested (nat_eq v 0) (λ n. bit_or 1 ((255 * n + 1) % 256) % 256 ≡ truth (nat_le 256 (v + 255 + c)))
        (λ q. above_by (v + 255 + c) 1 (λ p. refl) (λ p. absurd (omega arith)))
        (λ q. above_by (v + 255 + c) 1 (λ p. refl) (λ p. absurd (omega arith)))

-- the complements of all three
turned : (a b c x y z : ℕ) → a < 256 → b < 256 → c < 2 → x ≡ 255 - a → y ≡ 255 - b → z ≡ (255 * c + 1) % 256 → (255 * truth (nat_le 256 (x + y + z)) + 1) % 256 ≡ truth (nat_le 256 (a + b + c))
turned a b c x y z la lb lc hx hy hz =
    tested (nat_le 256 (x + y + z)) (λ n. (255 * n + 1) % 256 ≡ truth (nat_le 256 (a + b + c)))
    (λ h. let p = leb-true 256 (x + y + z) h in above_by (a + b + c) 0 (λ q. absurd (omega arith)) (λ q. refl))
    (λ h. let p = leb-false 256 (x + y + z) h in above_by (a + b + c) 1 (λ q. refl) (λ q. absurd (omega arith)))

module _ (e : Environment) where
  exceeds_law : (a : Term) (n : ℕ) → value e (exceeds a n) ≡ truth (nat_le 256 (value e a + n + 0))
  unfolding exceeds
  exceeds_law a n =
      let s = small e a in
      choose e (nat_eq n 0) (Num 0) _ (truth (nat_le 256 (value e a + n + 0)))
      (λ h. let z = eqb-true n 0 h in above_by (value e a + n + 0) 0 (λ p. absurd (omega arith)) (λ p. refl))
      (λ h0. choose e (nat_le 256 n) (Num 1) _ (truth (nat_le 256 (value e a + n + 0)))
      (λ h. let z = leb-true 256 n h in above_by (value e a + n + 0) 1 (λ p. refl) (λ p. absurd (omega arith)))
      (λ h1. let m = leb-false 256 n h1 in choose e (nat_eq n 255) (negated (same a (Num 0))) _ (truth (nat_le 256 (value e a + n + 0)))
      (λ h. negated_law e (same a (Num 0)) ∙ ap (λ (z : ℕ). (255 * z + 1) % 256) (same_law e a (Num 0)) ∙ above_none (value e a) s ∙ ap (λ (z : ℕ). truth (nat_le 256 (value e a + z + 0))) (sym (eqb-true n 255 h)))
      (λ h2. choose e (nat_eq n 1) (same a (Num 255)) _ (truth (nat_le 256 (value e a + n + 0)))
      (λ h. same_law e a (Num 255) ∙ above_full (value e a) s ∙ ap (λ (z : ℕ). truth (nat_le 256 (value e a + z + 0))) (sym (eqb-true n 1 h)))
      (λ h3. choose e (nat_eq n 128) (bit 128 a) _ (truth (nat_le 256 (value e a + n + 0)))
      (λ h. bit_law e 128 a ∙ above_half (value e a) s ∙ ap (λ (z : ℕ). truth (nat_le 256 (value e a + z + 0))) (sym (eqb-true n 128 h)))
      (λ h4. choose e (is_bit a) (Num 0) (Triple Carry a (Num n) (Num 0)) (truth (nat_le 256 (value e a + n + 0)))
      (λ h. above_bit (value e a) n (bit_small e a h) (below_full n h2 m))
      (λ h. ap (λ (z : ℕ). truth (nat_le 256 (value e a + z + 0))) (let x : n % 256 ≡ n = omega arith in x)))))))

  sum_numbers : (a b c : Term) → is_number b ≡ true → is_number c ≡ true → truth (nat_le 256 (value e a + (amount b + amount c) + 0)) ≡ truth (nat_le 256 (value e a + value e b + value e c))
  sum_numbers a b c h k = let p = number_is e b h in let q = number_is e c k in ap (λ (z : ℕ). truth (nat_le 256 z)) (let x : value e a + (amount b + amount c) + 0 ≡ value e a + value e b + value e c = omega arith in x)

  carry_number_law : (a b c : Term) → is_number b ≡ true → value e (carry_number a b c) ≡ truth (nat_le 256 (value e a + value e b + value e c))
  unfolding carry_number
  carry_number_law a b c n =
      let p = number_is e b n in
      choose e (is_number c) (exceeds a (amount b + amount c)) _ (truth (nat_le 256 (value e a + value e b + value e c)))
      (λ h. exceeds_law a (amount b + amount c) ∙ sum_numbers a b c n h)
      (λ h0. choose e (is_bit c && nat_eq (amount b) 0) (mask c (same a (Num 255))) _ (truth (nat_le 256 (value e a + value e b + value e c)))
      (λ h. mask_law e c (same a (Num 255)) ∙ ap (λ (z : ℕ). bit_and (value e c) z % 256) (same_law e a (Num 255))
      ∙ and_bits (value e c) (value e a) (bit_small e c (and_left (is_bit c) (nat_eq (amount b) 0) h)) (small e a)
      ∙ ap (λ (z : ℕ). truth (nat_le 256 (value e a + z + value e c))) (sym (p ∙ eqb-true (amount b) 0 (and_right (is_bit c) (nat_eq (amount b) 0) h))))
      (λ h1. choose e (is_bit c && nat_eq (amount b) 255) (union c (negated (same a (Num 0)))) (Triple Carry a b c) (truth (nat_le 256 (value e a + value e b + value e c)))
      (λ h. union_law e c (negated (same a (Num 0))) ∙ ap (λ (z : ℕ). bit_or (value e c) z % 256) (negated_law e (same a (Num 0)) ∙ ap (λ (z : ℕ). (255 * z + 1) % 256) (same_law e a (Num 0)))
      ∙ or_bits (value e c) (value e a) (bit_small e c (and_left (is_bit c) (nat_eq (amount b) 255) h)) (small e a)
      ∙ ap (λ (z : ℕ). truth (nat_le 256 (value e a + z + value e c))) (sym (p ∙ eqb-true (amount b) 255 (and_right (is_bit c) (nat_eq (amount b) 255) h))))
      (λ h. refl)))

  swapped : (a b c : Term) → truth (nat_le 256 (value e b + value e a + value e c)) ≡ truth (nat_le 256 (value e a + value e b + value e c))
  swapped a b c = ap (λ (z : ℕ). truth (nat_le 256 z)) (let x : value e b + value e a + value e c ≡ value e a + value e b + value e c = omega arith in x)

  carry_ordered_law : (a b c : Term) → value e (carry_ordered a b c) ≡ truth (nat_le 256 (value e a + value e b + value e c))
  unfolding carry_ordered
  carry_ordered_law a b c = choose e (nat_lt (rank a) (rank b)) (Triple Carry b a c) (Triple Carry a b c) (truth (nat_le 256 (value e a + value e b + value e c))) (λ h. swapped a b c) (λ h. refl)

  carry_any_law : (a b c : Term) → value e (carry_any a b c) ≡ truth (nat_le 256 (value e a + value e b + value e c))
  unfolding carry_any
  carry_any_law a b c =
      choose e (is_bit c && leads_negative a b) (negated (carry_ordered (opposite a) (opposite b) (negated c))) (carry_ordered a b c) (truth (nat_le 256 (value e a + value e b + value e c)))
      (λ h. negated_law e (carry_ordered (opposite a) (opposite b) (negated c))
      ∙ ap (λ (z : ℕ). (255 * z + 1) % 256) (carry_ordered_law (opposite a) (opposite b) (negated c))
      ∙ turned (value e a) (value e b) (value e c) (value e (opposite a)) (value e (opposite b)) (value e (negated c)) (small e a) (small e b) (bit_small e c (and_left (is_bit c) (leads_negative a b) h)) (opposite_law e a) (opposite_law e b) (negated_law e c))
      (λ h. carry_ordered_law a b c)

  three_numbers : (a b c : Term) → (is_number a && (is_number b && is_number c)) ≡ true → truth (nat_le 256 (amount a + amount b + amount c)) % 256 ≡ truth (nat_le 256 (value e a + value e b + value e c))
  three_numbers a b c h =
      let h1 = and_right (is_number a) (is_number b && is_number c) h in
      let x = number_is e a (and_left (is_number a) (is_number b && is_number c) h) in let y = number_is e b (and_left (is_number b) (is_number c) h1) in let z = number_is e c (and_right (is_number b) (is_number c) h1) in
      truth_mod (nat_le 256 (amount a + amount b + amount c)) ∙ ap (λ (w : ℕ). truth (nat_le 256 w)) (let q : amount a + amount b + amount c ≡ value e a + value e b + value e c = omega arith in q)

  pub carry_law : (a b c : Term) → value e (carry a b c) ≡ truth (nat_le 256 (value e a + value e b + value e c))
  unfolding carry
  carry_law a b c =
      choose e (is_number a && (is_number b && is_number c)) (Num (truth (nat_le 256 (amount a + amount b + amount c)))) _ (truth (nat_le 256 (value e a + value e b + value e c)))
      (λ h. three_numbers a b c h)
      (λ h0. choose e (is_number b) (carry_number a b c) _ (truth (nat_le 256 (value e a + value e b + value e c)))
      (λ h. carry_number_law a b c h)
      (λ h1. choose e (is_number a) (carry_number b a c) (carry_any a b c) (truth (nat_le 256 (value e a + value e b + value e c)))
      (λ h. carry_number_law b a c h ∙ swapped a b c)
      (λ h2. carry_any_law a b c)))
