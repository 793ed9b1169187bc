-- Bits, quotients, comparisons and choices have the values that they are to have.
use Rattle.std.proofs.Common.{◌≡◌, ℕ, ◌+◌, ◌-◌, ◌*◌, ◌/◌, ◌%◌, ◌<◌, ◌≤◌, ◌⊎◌, inl, inr, Bool, true, false, refl, sym, ap, ◌∙◌, min, max, arith}
use Rattle.std.specs.Prelude.{◌&&◌, ◌||◌, nat_eq, nat_lt, if◌then◌else◌, bit_and, bit_or, bit_xor}
use Rattle.std.specs.Int.Bits.{xor_assoc, xor_self, xor_zero_r, xor_zero_l}
use Rattle.std.proofs.lemmas.Bool.{eqb-true, eq-eqb, ltb-true, ltb-false}
use Rattle.std.proofs.lemmas.Nat.{xor_lt, xor_comm}
use Rattle.std.proofs.Math.Nat.{eq-zero-or-pos, div-zero, div-eq_of_lt, div-div-eq-div-mul}
use Rattle.pic_world.specs.Bits.{truth}
use Rattle.value_terms.specs.declared.term.Unary.{Unary}
use Rattle.value_terms.specs.declared.term.Unary.TheVariants.{Bit, Quotient}
use Rattle.value_terms.specs.declared.term.Binary.{Binary}
use Rattle.value_terms.specs.declared.term.Binary.TheVariants.{Same, Mask, Union, Exclusive, Table}
use Rattle.value_terms.specs.declared.term.Ternary.TheVariants.{Choice}
use Rattle.value_terms.specs.Terms.{Term, Num, Atom, Plus, Apply, Join, Triple, Environment, chosen, unary_value, binary_value, value}
use Rattle.value_terms.specs.Equality.{same_term, rank, is_number, amount, is_amount, is_bit}
use Rattle.value_terms.specs.Sums.{sum_of, negated, offset, base}
use Rattle.value_terms.specs.Bits.{bit_plain, bit_of_part, is_power, bit_joined, bit_in, bit, quotient_of_part, quotient_in, quotient, same_simple, same_two, same_joined, same_single, same_flag, same_scaled, opposed, same_difference, same_number, same, choice}
use Rattle.value_terms.proofs.Equal.{and_left, and_right, same_term_law}
use Rattle.value_terms.proofs.Numbers.{truth_true, truth_false, truth_mod, positive, not_one, not_eq, same_eq, flag_zero, flag_one}
use Rattle.value_terms.proofs.Powers.{opposite_bit, high_bit, low_bit, first_of, second_of, shifted_bit, and_bit, or_bit, xor_bit}
use Rattle.value_terms.proofs.SumLaws.{amount_small, small, number_is, amount_is, choose, sum_law, negated_law, base_law, bit_small}

pub not_both : (b c : Bool) → (b && c) ≡ false → b ≡ true → c ≡ false
not_both true c h k = h
not_both false c h k = absurd (cc)

module _ (e : Environment) where
  -- ---- bits
  far : (v w : ℕ) → v < 256 → 256 ≤ w → v / w ≡ 0
  far v w h k = div-eq_of_lt (let l : v < w = omega arith in l)

  -- a bit has no other one
  bit_whole : (v : ℕ) → v < 2 → v / 1 % 2 ≡ v
  bit_whole v h = omega arith

  bit_none : (v p : ℕ) → v < 2 → 1 < p → v / p ≡ 0
  bit_none v p h k = div-eq_of_lt (let l : v < p = omega arith in l)

  bit_plain_law : (p : ℕ) (t : Term) → value e (bit_plain p t) ≡ value e t / p % 2
  unfolding bit_plain
  bit_plain_law p t =
      choose e (is_bit t && nat_eq p 1) t _ (value e t / p % 2)
      (λ h. sym (ap (λ (z : ℕ). value e t / z % 2) (eqb-true p 1 (and_right (is_bit t) (nat_eq p 1) h)) ∙ bit_whole (value e t) (bit_small e t (and_left (is_bit t) (nat_eq p 1) h))))
      (λ h2. choose e (is_bit t && nat_lt 1 p) (Num 0) (Apply (Bit p) t) (value e t / p % 2)
      (λ h. ap (λ (z : ℕ). z % 2) (sym (bit_none (value e t) p (bit_small e t (and_left (is_bit t) (nat_lt 1 p) h)) (ltb-true 1 p (and_right (is_bit t) (nat_lt 1 p) h)))))
      (λ h3. refl))

  bit_of_part_law : (p : ℕ) (op : Unary) (t : Term) → value e (bit_of_part p op t) ≡ unary_value op (value e t) / p % 2
  bit_of_part_law p (Bit q) t = bit_plain_law p (Apply (Bit q) t)
  bit_of_part_law p (Quotient q) t =
      let d = div-div-eq-div-mul (value e t) q p in
      choose e (nat_lt (q * p) 256) (Apply (Bit (q * p)) t) (Num 0) (value e t / q / p % 2)
      (λ h. ap (λ (z : ℕ). z % 2) (sym d))
      (λ h. ap (λ (z : ℕ). z % 2) (sym (d ∙ far (value e t) (q * p) (small e t) (ltb-false (q * p) 256 h))))

  -- the bit of a number
  set_bit_is : (n : ℕ) → nat_eq (n % 2) 0 ≡ false → n % 2 ≡ 1
  set_bit_is n h = let p = positive (n % 2) h in omega arith

  bit_joined_law : (p : ℕ) (op : Binary) (t a : Term) (b : Term) → is_power p ≡ true → is_number b ≡ true → value e t ≡ value e a / p % 2
      → value e (bit_joined p op t (amount b) (Join op a b)) ≡ binary_value e op (value e a) (value e b) / p % 2
  bit_joined_law p Mask t a b h n is =
      let k = number_is e b n in
      choose e (nat_eq (amount b / p % 2) 0) (Num 0) t (bit_and (value e a) (value e b) % 256 / p % 2)
      (λ q. let z = eqb-true (amount b / p % 2) 0 q in
      (let s : 0 ≡ min (value e a / p % 2) (amount b / p % 2) = omega arith in s) ∙ sym (and_bit (value e a) (amount b) p (small e a) (amount_small b) h) ∙ ap (λ (y : ℕ). bit_and (value e a) y % 256 / p % 2) (sym k))
      (λ q. let z = set_bit_is (amount b / p) q in
      is ∙ (let s : value e a / p % 2 ≡ min (value e a / p % 2) (amount b / p % 2) = omega arith in s) ∙ sym (and_bit (value e a) (amount b) p (small e a) (amount_small b) h) ∙ ap (λ (y : ℕ). bit_and (value e a) y % 256 / p % 2) (sym k))
  bit_joined_law p Union t a b h n is =
      let k = number_is e b n in
      choose e (nat_eq (amount b / p % 2) 0) t (Num 1) (bit_or (value e a) (value e b) % 256 / p % 2)
      (λ q. let z = eqb-true (amount b / p % 2) 0 q in
      is ∙ (let s : value e a / p % 2 ≡ max (value e a / p % 2) (amount b / p % 2) = omega arith in s) ∙ sym (or_bit (value e a) (amount b) p (small e a) (amount_small b) h) ∙ ap (λ (y : ℕ). bit_or (value e a) y % 256 / p % 2) (sym k))
      (λ q. let z = set_bit_is (amount b / p) q in
      (let s : 1 ≡ max (value e a / p % 2) (amount b / p % 2) = omega arith in s) ∙ sym (or_bit (value e a) (amount b) p (small e a) (amount_small b) h) ∙ ap (λ (y : ℕ). bit_or (value e a) y % 256 / p % 2) (sym k))
  bit_joined_law p Exclusive t a b h n is =
      let k = number_is e b n in
      choose e (nat_eq (amount b / p % 2) 0) t (negated t) (bit_xor (value e a) (value e b) % 256 / p % 2)
      (λ q. let z = eqb-true (amount b / p % 2) 0 q in
      is ∙ (let s : value e a / p % 2 ≡ (value e a / p % 2 + amount b / p % 2) % 2 = omega arith in s) ∙ sym (xor_bit (value e a) (amount b) p (small e a) (amount_small b) h) ∙ ap (λ (y : ℕ). bit_xor (value e a) y % 256 / p % 2) (sym k))
      (λ q. let z = set_bit_is (amount b / p) q in
      negated_law e t ∙ ap (λ (y : ℕ). (255 * y + 1) % 256) is ∙ (let s : (255 * (value e a / p % 2) + 1) % 256 ≡ (value e a / p % 2 + amount b / p % 2) % 2 = omega arith in s)
      ∙ sym (xor_bit (value e a) (amount b) p (small e a) (amount_small b) h) ∙ ap (λ (y : ℕ). bit_xor (value e a) y % 256 / p % 2) (sym k))
  bit_joined_law p Same t a b h n is = bit_plain_law p (Join Same a b)
  bit_joined_law p (Table m) t a b h n is = bit_plain_law p (Join (Table m) a b)

  bit_in_law : (p : ℕ) (t : Term) → value e (bit_in p t) ≡ value e t / p % 2
  bit_in_law p (Apply op t) = bit_of_part_law p op t
  bit_in_law p (Num k) = bit_plain_law p (Num k)
  bit_in_law p (Atom j k) = bit_plain_law p (Atom j k)
  bit_in_law p (Triple op a b c) = bit_plain_law p (Triple op a b c)
  bit_in_law p (Join op a b) =
      choose e (is_power p && is_number b) (bit_joined p op (bit_in p a) (amount b) (Join op a b)) (bit_plain p (Join op a b)) (binary_value e op (value e a) (value e b) / p % 2)
      (λ h. bit_joined_law p op (bit_in p a) a b (and_left (is_power p) (is_number b) h) (and_right (is_power p) (is_number b) h) (bit_in_law p a))
      (λ h. bit_plain_law p (Join op a b))
  bit_in_law p (Plus f t r) =
      choose e (is_power p && (nat_eq f 255 && is_amount r 255)) (negated (bit_in p t)) _ ((f * value e t + value e r) % 256 / p % 2)
      (λ h. let c = and_right (is_power p) (nat_eq f 255 && is_amount r 255) h in
      negated_law e (bit_in p t) ∙ ap (λ (z : ℕ). (255 * z + 1) % 256) (bit_in_law p t) ∙ opposite_bit (value e t) p (small e t) (and_left (is_power p) (nat_eq f 255 && is_amount r 255) h)
      ∙ ap (λ (z : ℕ). (z * value e t + 255) % 256 / p % 2) (sym (eqb-true f 255 (and_left (nat_eq f 255) (is_amount r 255) c)))
      ∙ ap (λ (z : ℕ). (f * value e t + z) % 256 / p % 2) (sym (amount_is e r 255 (and_right (nat_eq f 255) (is_amount r 255) c))))
      (λ h0. choose e (is_power p && (nat_eq f 1 && is_amount r 128)) (if nat_eq p 128 then negated (bit_in p t) else bit_in p t) _ ((f * value e t + value e r) % 256 / p % 2)
      (λ h. let c = and_right (is_power p) (nat_eq f 1 && is_amount r 128) h in
      choose e (nat_eq p 128) (negated (bit_in p t)) (bit_in p t) ((1 * value e t + 128) % 256 / p % 2)
      (λ q. negated_law e (bit_in p t) ∙ ap (λ (z : ℕ). (255 * z + 1) % 256) (bit_in_law p t) ∙ ap (λ (z : ℕ). (255 * (value e t / z % 2) + 1) % 256) (eqb-true p 128 q) ∙ high_bit (value e t) (small e t) ∙ ap (λ (z : ℕ). (1 * value e t + 128) % 256 / z % 2) (sym (eqb-true p 128 q)))
      (λ q. bit_in_law p t ∙ low_bit (value e t) p (small e t) (and_left (is_power p) (nat_eq f 1 && is_amount r 128) h) q)
      ∙ ap (λ (z : ℕ). (z * value e t + 128) % 256 / p % 2) (sym (eqb-true f 1 (and_left (nat_eq f 1) (is_amount r 128) c)))
      ∙ ap (λ (z : ℕ). (f * value e t + z) % 256 / p % 2) (sym (amount_is e r 128 (and_right (nat_eq f 1) (is_amount r 128) c))))
      (λ h1. choose e (is_power p && (is_power f && is_amount r 0)) (if nat_lt p f then Num 0 else bit_in (p / f) t) (bit_plain p (Plus f t r)) ((f * value e t + value e r) % 256 / p % 2)
      (λ h. let c = and_right (is_power p) (is_power f && is_amount r 0) h in
      let s = shifted_bit (value e t) p f (small e t) (and_left (is_power p) (is_power f && is_amount r 0) h) (and_left (is_power f) (is_amount r 0) c) in
      choose e (nat_lt p f) (Num 0) (bit_in (p / f) t) ((f * value e t + 0) % 256 / p % 2)
      (λ q. first_of (nat_lt p f) 0 (value e t / (p / f) % 2) ((f * value e t + 0) % 256 / p % 2) q s)
      (λ q. bit_in_law (p / f) t ∙ second_of (nat_lt p f) 0 (value e t / (p / f) % 2) ((f * value e t + 0) % 256 / p % 2) q s)
      ∙ ap (λ (z : ℕ). (f * value e t + z) % 256 / p % 2) (sym (amount_is e r 0 (and_right (is_power f) (is_amount r 0) c))))
      (λ h. bit_plain_law p (Plus f t r))))

  by_zero : (v p : ℕ) → p ≡ 0 → v / p ≡ 0
  by_zero v p h = ap (λ (z : ℕ). v / z) h ∙ div-zero v

  pub bit_law : (p : ℕ) (a : Term) → value e (bit p a) ≡ value e a / p % 2
  unfolding bit
  bit_law p a =
      choose e (nat_eq p 0) (Num 0) _ (value e a / p % 2)
      (λ h. ap (λ (z : ℕ). z % 2) (sym (by_zero (value e a) p (eqb-true p 0 h))))
      (λ h0. choose e (is_number a) (Num (amount a / p % 2)) (bit_in p a) (value e a / p % 2)
      (λ h. let b : amount a / p % 2 % 256 ≡ amount a / p % 2 = omega arith in b ∙ ap (λ (z : ℕ). z / p % 2) (sym (number_is e a h)))
      (λ h1. bit_in_law p a))

  -- ---- quotients
  quotient_of_part_law : (p : ℕ) (op : Unary) (t : Term) → value e (quotient_of_part p op t) ≡ unary_value op (value e t) / p
  quotient_of_part_law p (Bit q) t = refl
  quotient_of_part_law p (Quotient q) t =
      let d = div-div-eq-div-mul (value e t) q p in
      choose e (nat_lt (q * p) 256) (Apply (Quotient (q * p)) t) (Num 0) (value e t / q / p)
      (λ h. sym d)
      (λ h. sym (d ∙ far (value e t) (q * p) (small e t) (ltb-false (q * p) 256 h)))

  quotient_in_law : (p : ℕ) (t : Term) → value e (quotient_in p t) ≡ value e t / p
  quotient_in_law p (Apply op t) = quotient_of_part_law p op t
  quotient_in_law p (Num k) = refl
  quotient_in_law p (Atom j k) = refl
  quotient_in_law p (Plus f t r) = refl
  quotient_in_law p (Join op a b) = refl
  quotient_in_law p (Triple op a b c) = refl

  pub quotient_law : (p : ℕ) (a : Term) → value e (quotient p a) ≡ value e a / p
  unfolding quotient
  quotient_law p a =
      choose e (nat_eq p 0) (Num 0) _ (value e a / p)
      (λ h. sym (by_zero (value e a) p (eqb-true p 0 h)))
      (λ h0. choose e (is_number a) (Num (amount a / p)) _ (value e a / p)
      (λ h. let n = number_is e a h in let q : amount a / p ≡ value e a / p = ap (λ (z : ℕ). z / p) (sym n) in let s = small e (Apply (Quotient p) a) in (let b : amount a / p % 256 ≡ amount a / p = omega arith in b) ∙ q)
      (λ h1. choose e (is_bit a && nat_lt 1 p) (Num 0) (quotient_in p a) (value e a / p)
      (λ h. sym (bit_none (value e a) p (bit_small e a (and_left (is_bit a) (nat_lt 1 p) h)) (ltb-true 1 p (and_right (is_bit a) (nat_lt 1 p) h))))
      (λ h3. quotient_in_law p a)))

  -- ---- equality
  flag_none : (t : Term) (k : ℕ) → is_bit t ≡ true → (is_bit t && nat_eq k 0) ≡ false → (is_bit t && nat_eq k 1) ≡ false → 0 ≡ truth (nat_eq (value e t) k)
  flag_none t k h h0 h1 =
      let a = bit_small e t h in
      let b = not_one k (positive k (not_both (is_bit t) (nat_eq k 0) h0 h)) (not_both (is_bit t) (nat_eq k 1) h1 h) in
      truth_false (value e t) k (λ q. omega arith)

  same_simple_law : (t : Term) (k : ℕ) → k < 256 → value e (same_simple t k) ≡ truth (nat_eq (value e t) k)
  unfolding same_simple
  same_simple_law t k l =
      choose e (is_bit t && nat_eq k 0) (negated t) _ (truth (nat_eq (value e t) k))
      (λ h. negated_law e t ∙ flag_zero (value e t) (bit_small e t (and_left (is_bit t) (nat_eq k 0) h)) ∙ ap (λ (z : ℕ). truth (nat_eq (value e t) z)) (sym (eqb-true k 0 (and_right (is_bit t) (nat_eq k 0) h))))
      (λ h0. choose e (is_bit t && nat_eq k 1) t _ (truth (nat_eq (value e t) k))
      (λ h. flag_one (value e t) (bit_small e t (and_left (is_bit t) (nat_eq k 1) h)) ∙ ap (λ (z : ℕ). truth (nat_eq (value e t) z)) (sym (eqb-true k 1 (and_right (is_bit t) (nat_eq k 1) h))))
      (λ h1. choose e (is_bit t) (Num 0) (Join Same t (Num k)) (truth (nat_eq (value e t) k))
      (λ h. flag_none t k h h0 h1)
      (λ h. ap (λ (z : ℕ). truth (nat_eq (value e t) z)) (let m : k % 256 ≡ k = omega arith in m))))

  same_swap : (v w : ℕ) → truth (nat_eq v w) ≡ truth (nat_eq w v)
  same_swap v w = same_eq v w w v (λ h. sym h) (λ h. sym h)

  same_two_law : (a b : Term) → value e (same_two a b) ≡ truth (nat_eq (value e a) (value e b))
  unfolding same_two
  same_two_law a b =
      choose e (same_term a b) (Num 1) _ (truth (nat_eq (value e a) (value e b)))
      (λ h. truth_true (value e a) (value e b) (same_term_law e a b h))
      (λ h. choose e (nat_lt (rank a) (rank b)) (Join Same a b) (Join Same b a) (truth (nat_eq (value e a) (value e b))) (λ k. refl) (λ k. same_swap (value e b) (value e a)))

  -- exclusive or with the same again
  xor_back : (v w : ℕ) → bit_xor (bit_xor v w) w ≡ v
  xor_back v w = xor_assoc v w w ∙ ap (bit_xor v) (xor_self w) ∙ xor_zero_r v

  xor_number : (v j k : ℕ) → v < 256 → j < 256 → truth (nat_eq v (bit_xor j k)) ≡ truth (nat_eq (bit_xor v j % 256) k)
  xor_number v j k h i =
      let l = xor_lt 8 v j h i in
      let m : bit_xor v j % 256 ≡ bit_xor v j = omega arith in
      same_eq v (bit_xor j k) (bit_xor v j % 256) k
      (λ q. m ∙ ap (λ (z : ℕ). bit_xor z j) (q ∙ xor_comm j k) ∙ xor_back k j)
      (λ q. sym (xor_back v j) ∙ ap (λ (z : ℕ). bit_xor z j) (sym m ∙ q) ∙ xor_comm k j)

  xor_none : (v w : ℕ) → v < 256 → w < 256 → truth (nat_eq v w) ≡ truth (nat_eq (bit_xor v w % 256) 0)
  xor_none v w h i =
      let l = xor_lt 8 v w h i in
      let m : bit_xor v w % 256 ≡ bit_xor v w = omega arith in
      same_eq v w (bit_xor v w % 256) 0
      (λ q. m ∙ ap (λ (z : ℕ). bit_xor z w) q ∙ xor_self w)
      (λ q. sym (xor_back v w) ∙ ap (λ (z : ℕ). bit_xor z w) (sym m ∙ q) ∙ xor_zero_l w)

  same_joined_law : (op : Binary) (a b : Term) (k : ℕ) → k < 256 → value e (same_joined op a b k) ≡ truth (nat_eq (binary_value e op (value e a) (value e b)) k)
  same_joined_law Exclusive a b k l =
      choose e (is_number b) (same_simple a (bit_xor (amount b) k)) (if nat_eq k 0 then same_two a b else same_simple (Join Exclusive a b) k) (truth (nat_eq (binary_value e Exclusive (value e a) (value e b)) k))
      (λ h. same_simple_law a (bit_xor (amount b) k) (xor_lt 8 (amount b) k (amount_small b) l) ∙ xor_number (value e a) (amount b) k (small e a) (amount_small b) ∙ ap (λ (z : ℕ). truth (nat_eq (bit_xor (value e a) z % 256) k)) (sym (number_is e b h)))
      (λ h. choose e (nat_eq k 0) (same_two a b) (same_simple (Join Exclusive a b) k) (truth (nat_eq (binary_value e Exclusive (value e a) (value e b)) k))
      (λ q. same_two_law a b ∙ xor_none (value e a) (value e b) (small e a) (small e b) ∙ ap (λ (z : ℕ). truth (nat_eq (bit_xor (value e a) (value e b) % 256) z)) (sym (eqb-true k 0 q)))
      (λ q. same_simple_law (Join Exclusive a b) k l))
  same_joined_law Same a b k l = same_simple_law (Join Same a b) k l
  same_joined_law Mask a b k l = same_simple_law (Join Mask a b) k l
  same_joined_law Union a b k l = same_simple_law (Join Union a b) k l
  same_joined_law (Table n) a b k l = same_simple_law (Join (Table n) a b) k l

  same_single_law : (t : Term) (k : ℕ) → k < 256 → value e (same_single t k) ≡ truth (nat_eq (value e t) k)
  same_single_law (Join op a b) k l = same_joined_law op a b k l
  same_single_law (Num j) k l = same_simple_law (Num j) k l
  same_single_law (Atom i j) k l = same_simple_law (Atom i j) k l
  same_single_law (Plus f t r) k l = same_simple_law (Plus f t r) k l
  same_single_law (Apply op t) k l = same_simple_law (Apply op t) k l
  same_single_law (Triple op a b c) k l = same_simple_law (Triple op a b c) k l

  -- a bit v times f, and j
  flag_both : (f v j k : ℕ) → v < 2 → (f + j) % 256 ≡ k → j ≡ k → j < 256 → 1 ≡ truth (nat_eq ((f * v + j) % 256) k)
  flag_both f v j k b p q l = truth_true ((f * v + j) % 256) k (by (eq-zero-or-pos v))
    where
      by : (v ≡ 0) ⊎ (0 < v) → (f * v + j) % 256 ≡ k
      by (inl z) = let m = ap (λ (y : ℕ). f * y) z in omega arith
      by (inr o) = let w : v ≡ 1 = omega arith in let m = ap (λ (y : ℕ). f * y) w in omega arith

  flag_set : (f v j k : ℕ) → v < 2 → (f + j) % 256 ≡ k → (j ≡ k → ⊥) → j < 256 → v ≡ truth (nat_eq ((f * v + j) % 256) k)
  flag_set f v j k b p q l = by (eq-zero-or-pos v)
    where
      by : (v ≡ 0) ⊎ (0 < v) → v ≡ truth (nat_eq ((f * v + j) % 256) k)
      by (inl z) = let m = ap (λ (y : ℕ). f * y) z in z ∙ truth_false ((f * v + j) % 256) k (λ r. q (omega arith))
      by (inr o) = let w : v ≡ 1 = omega arith in let m = ap (λ (y : ℕ). f * y) w in w ∙ truth_true ((f * v + j) % 256) k (omega arith)

  flag_clear : (f v j k : ℕ) → v < 2 → ((f + j) % 256 ≡ k → ⊥) → j ≡ k → j < 256 → (255 * v + 1) % 256 ≡ truth (nat_eq ((f * v + j) % 256) k)
  flag_clear f v j k b p q l = by (eq-zero-or-pos v)
    where
      by : (v ≡ 0) ⊎ (0 < v) → (255 * v + 1) % 256 ≡ truth (nat_eq ((f * v + j) % 256) k)
      by (inl z) = let m = ap (λ (y : ℕ). f * y) z in (let a : (255 * v + 1) % 256 ≡ 1 = omega arith in a) ∙ truth_true ((f * v + j) % 256) k (omega arith)
      by (inr o) = let w : v ≡ 1 = omega arith in let m = ap (λ (y : ℕ). f * y) w in (let a : (255 * v + 1) % 256 ≡ 0 = omega arith in a) ∙ truth_false ((f * v + j) % 256) k (λ r. p (omega arith))

  flag_never : (f v j k : ℕ) → v < 2 → ((f + j) % 256 ≡ k → ⊥) → (j ≡ k → ⊥) → j < 256 → 0 ≡ truth (nat_eq ((f * v + j) % 256) k)
  flag_never f v j k b p q l = by (eq-zero-or-pos v)
    where
      by : (v ≡ 0) ⊎ (0 < v) → 0 ≡ truth (nat_eq ((f * v + j) % 256) k)
      by (inl z) = let m = ap (λ (y : ℕ). f * y) z in truth_false ((f * v + j) % 256) k (λ r. q (omega arith))
      by (inr o) = let w : v ≡ 1 = omega arith in let m = ap (λ (y : ℕ). f * y) w in truth_false ((f * v + j) % 256) k (λ r. p (omega arith))

  same_flag_law : (f : ℕ) (t : Term) (j k : ℕ) → is_bit t ≡ true → j < 256 → value e (same_flag f t j k) ≡ truth (nat_eq ((f * value e t + j) % 256) k)
  unfolding same_flag
  same_flag_law f t j k h l =
      let s = bit_small e t h in
      choose e (nat_eq ((f + j) % 256) k && nat_eq j k) (Num 1) _ (truth (nat_eq ((f * value e t + j) % 256) k))
      (λ q. flag_both f (value e t) j k s (eqb-true ((f + j) % 256) k (and_left (nat_eq ((f + j) % 256) k) (nat_eq j k) q)) (eqb-true j k (and_right (nat_eq ((f + j) % 256) k) (nat_eq j k) q)) l)
      (λ q0. choose e (nat_eq ((f + j) % 256) k) t _ (truth (nat_eq ((f * value e t + j) % 256) k))
      (λ q. flag_set f (value e t) j k s (eqb-true ((f + j) % 256) k q) (not_eq j k (not_both (nat_eq ((f + j) % 256) k) (nat_eq j k) q0 q)) l)
      (λ q1. choose e (nat_eq j k) (negated t) (Num 0) (truth (nat_eq ((f * value e t + j) % 256) k))
      (λ q. negated_law e t ∙ flag_clear f (value e t) j k s (not_eq ((f + j) % 256) k q1) (eqb-true j k q) l)
      (λ q. flag_never f (value e t) j k s (not_eq ((f + j) % 256) k q1) (not_eq j k q) l)))

  same_scaled_law : (f : ℕ) (t : Term) (j k : ℕ) → j < 256 → k < 256 → value e (same_scaled f t j k) ≡ truth (nat_eq ((f * value e t + j) % 256) k)
  unfolding same_scaled
  same_scaled_law f t j k l m =
      let s = small e t in
      choose e (nat_eq f 1) (same_single t ((k + (256 - j)) % 256)) _ (truth (nat_eq ((f * value e t + j) % 256) k))
      (λ h. let o = ap (λ z. z * value e t) (eqb-true f 1 h) in
      same_single_law t ((k + (256 - j)) % 256) (omega arith) ∙ same_eq (value e t) ((k + (256 - j)) % 256) ((f * value e t + j) % 256) k (λ x. omega arith) (λ x. omega arith))
      (λ h0. choose e (nat_eq f 255) (same_single t ((j + (256 - k)) % 256)) _ (truth (nat_eq ((f * value e t + j) % 256) k))
      (λ h. let o = ap (λ z. z * value e t) (eqb-true f 255 h) in
      same_single_law t ((j + (256 - k)) % 256) (omega arith) ∙ same_eq (value e t) ((j + (256 - k)) % 256) ((f * value e t + j) % 256) k (λ x. omega arith) (λ x. omega arith))
      (λ h1. choose e (is_bit t) (same_flag f t j k) (Join Same (Plus f t (Num j)) (Num k)) (truth (nat_eq ((f * value e t + j) % 256) k))
      (λ h. same_flag_law f t j k h l)
      (λ h. let a : j % 256 ≡ j = omega arith in let b : k % 256 ≡ k = omega arith in ap (λ (z : ℕ). truth (nat_eq ((f * value e t + z) % 256) (k % 256))) a ∙ ap (λ (z : ℕ). truth (nat_eq ((f * value e t + j) % 256) z)) b)))

  plain_number : (t : Term) (k : ℕ) → k < 256 → value e (Join Same t (Num k)) ≡ truth (nat_eq (value e t) k)
  plain_number t k l = ap (λ (z : ℕ). truth (nat_eq (value e t) z)) (let m : k % 256 ≡ k = omega arith in m)

  difference : (f g v w k : ℕ) → opposed f g ≡ true → v < 256 → w < 256 → k < 256 → truth (nat_eq v w) ≡ truth (nat_eq ((f * v + (g * w + k) % 256) % 256) k)
  difference f g v w k h a b c =
      by (nat_eq f 1 && nat_eq g 255) (nat_eq f 255 && nat_eq g 1) refl refl h
    where
      by : (x y : Bool) → (nat_eq f 1 && nat_eq g 255) ≡ x → (nat_eq f 255 && nat_eq g 1) ≡ y → (x || y) ≡ true → truth (nat_eq v w) ≡ truth (nat_eq ((f * v + (g * w + k) % 256) % 256) k)
      by true y p q o =
          let m = ap (λ z. z * v) (eqb-true f 1 (and_left (nat_eq f 1) (nat_eq g 255) p)) in let n = ap (λ z. z * w) (eqb-true g 255 (and_right (nat_eq f 1) (nat_eq g 255) p)) in
          same_eq v w ((f * v + (g * w + k) % 256) % 256) k (λ x. omega arith) (λ x. omega arith)
      by false true p q o =
          let m = ap (λ z. z * v) (eqb-true f 255 (and_left (nat_eq f 255) (nat_eq g 1) q)) in let n = ap (λ z. z * w) (eqb-true g 1 (and_right (nat_eq f 255) (nat_eq g 1) q)) in
          same_eq v w ((f * v + (g * w + k) % 256) % 256) k (λ x. omega arith) (λ x. omega arith)
      by false false p q o = absurd (cc)

  same_difference_law : (f : ℕ) (t r : Term) (k : ℕ) → k < 256 → value e (same_difference f t r k) ≡ truth (nat_eq ((f * value e t + value e r) % 256) k)
  same_difference_law f t (Plus g u s) k l =
      choose e (opposed f g && is_amount s k) (same_two t u) (Join Same (Plus f t (Plus g u s)) (Num k)) (truth (nat_eq ((f * value e t + (g * value e u + value e s) % 256) % 256) k))
      (λ h. same_two_law t u ∙ difference f g (value e t) (value e u) k (and_left (opposed f g) (is_amount s k) h) (small e t) (small e u) l
      ∙ ap (λ (z : ℕ). truth (nat_eq ((f * value e t + (g * value e u + z) % 256) % 256) k)) (sym (amount_is e s k (and_right (opposed f g) (is_amount s k) h))))
      (λ h. plain_number (Plus f t (Plus g u s)) k l)
  same_difference_law f t (Num j) k l = plain_number (Plus f t (Num j)) k l
  same_difference_law f t (Atom i j) k l = plain_number (Plus f t (Atom i j)) k l
  same_difference_law f t (Apply op a) k l = plain_number (Plus f t (Apply op a)) k l
  same_difference_law f t (Join op a b) k l = plain_number (Plus f t (Join op a b)) k l
  same_difference_law f t (Triple op a b c) k l = plain_number (Plus f t (Triple op a b c)) k l

  same_number_law : (t : Term) (k : ℕ) → k < 256 → value e (same_number t k) ≡ truth (nat_eq (value e t) k)
  same_number_law (Plus f t r) k l =
      choose e (is_number r) (same_scaled f t (amount r) k) (same_difference f t r k) (truth (nat_eq ((f * value e t + value e r) % 256) k))
      (λ h. same_scaled_law f t (amount r) k (amount_small r) l ∙ ap (λ (z : ℕ). truth (nat_eq ((f * value e t + z) % 256) k)) (sym (number_is e r h)))
      (λ h. same_difference_law f t r k l)
  same_number_law (Num j) k l = same_single_law (Num j) k l
  same_number_law (Atom i j) k l = same_single_law (Atom i j) k l
  same_number_law (Apply op t) k l = same_single_law (Apply op t) k l
  same_number_law (Join op a b) k l = same_single_law (Join op a b) k l
  same_number_law (Triple op a b c) k l = same_single_law (Triple op a b c) k l

  pub same_law : (a b : Term) → value e (same a b) ≡ truth (nat_eq (value e a) (value e b))
  unfolding same
  same_law a b =
      choose e (is_number a && is_number b) (Num (truth (nat_eq (amount a) (amount b)))) _ (truth (nat_eq (value e a) (value e b)))
      (λ h. truth_mod (nat_eq (amount a) (amount b)) ∙ ap (λ (z : ℕ). truth (nat_eq z (amount b))) (sym (number_is e a (and_left (is_number a) (is_number b) h))) ∙ ap (λ (z : ℕ). truth (nat_eq (value e a) z)) (sym (number_is e b (and_right (is_number a) (is_number b) h))))
      (λ h0. choose e (is_number b) (same_number a (amount b)) _ (truth (nat_eq (value e a) (value e b)))
      (λ h. same_number_law a (amount b) (amount_small b) ∙ ap (λ (z : ℕ). truth (nat_eq (value e a) z)) (sym (number_is e b h)))
      (λ h1. choose e (is_number a) (same_number b (amount a)) (same_two a b) (truth (nat_eq (value e a) (value e b)))
      (λ h. same_number_law b (amount a) (amount_small a) ∙ ap (λ (z : ℕ). truth (nat_eq (value e b) z)) (sym (number_is e a h)) ∙ same_swap (value e b) (value e a))
      (λ h. same_two_law a b)))

  -- ---- choices
  chosen_zero : (c x y : ℕ) → c ≡ 0 → y ≡ chosen c x y
  chosen_zero c x y h = ap (λ (b : Bool). if b then y else x) (sym (eq-eqb c 0 h))

  chosen_other : (c x y : ℕ) → nat_eq c 0 ≡ false → x ≡ chosen c x y
  chosen_other c x y h = ap (λ (b : Bool). if b then y else x) (sym h)

  chosen_alike : (c x y : ℕ) → x ≡ y → x ≡ chosen c x y
  chosen_alike c x y h = by (nat_eq c 0)
    where
      by : (b : Bool) → x ≡ (if b then y else x)
      by true = h
      by false = refl

  -- c is a bit
  chosen_shift : (c x y u v w : ℕ) → c < 2 → x < 256 → y < 256 → v < 256 → w < 256 → x ≡ (u + v) % 256 → y ≡ (u + w) % 256 → ((v + (256 - w)) % 256 * c + y) % 256 ≡ chosen c x y
  chosen_shift c x y u v w h hx hy hv hw p q = by (eq-zero-or-pos c)
    where
      by : (c ≡ 0) ⊎ (0 < c) → ((v + (256 - w)) % 256 * c + y) % 256 ≡ chosen c x y
      by (inl z) = let m = ap (λ (k : ℕ). (v + (256 - w)) % 256 * k) z in (let a : ((v + (256 - w)) % 256 * c + y) % 256 ≡ y = omega arith in a) ∙ chosen_zero c x y z
      by (inr o) =
          let i : c ≡ 1 = omega arith in let m = ap (λ (k : ℕ). (v + (256 - w)) % 256 * k) i in
          (let a : ((v + (256 - w)) % 256 * c + y) % 256 ≡ x = omega arith in a) ∙ (ap (λ (k : ℕ). chosen k x y) (sym i))

  offset_small : (t : Term) → offset t < 256
  offset_small (Num k) = omega arith
  offset_small (Plus f t r) = offset_small r
  offset_small (Atom j k) = omega arith
  offset_small (Apply op a) = omega arith
  offset_small (Join op a b) = omega arith
  offset_small (Triple op a b c) = omega arith

  amount_other : (c : Term) → is_number c ≡ true → is_amount c 0 ≡ false → nat_eq (value e c) 0 ≡ false
  amount_other c h k = ap (λ (z : ℕ). nat_eq z 0) (number_is e c h) ∙ not_both (is_number c) (nat_eq (amount c) 0) k h

  pub choice_law : (c a b : Term) → value e (choice c a b) ≡ chosen (value e c) (value e a) (value e b)
  unfolding choice
  choice_law c a b =
      choose e (is_amount c 0) b _ (chosen (value e c) (value e a) (value e b))
      (λ h. chosen_zero (value e c) (value e a) (value e b) (amount_is e c 0 h))
      (λ h0. choose e (is_number c) a _ (chosen (value e c) (value e a) (value e b))
      (λ h. chosen_other (value e c) (value e a) (value e b) (amount_other c h h0))
      (λ h1. choose e (same_term a b) a _ (chosen (value e c) (value e a) (value e b))
      (λ h. chosen_alike (value e c) (value e a) (value e b) (same_term_law e a b h))
      (λ h2. choose e (is_bit c && same_term (base a) (base b)) (sum_of ((offset a + (256 - offset b)) % 256) c b) (Triple Choice c a b) (chosen (value e c) (value e a) (value e b))
      (λ h. sum_law e ((offset a + (256 - offset b)) % 256) c b
      ∙ chosen_shift (value e c) (value e a) (value e b) (value e (base b)) (offset a) (offset b) (bit_small e c (and_left (is_bit c) (same_term (base a) (base b)) h)) (small e a) (small e b) (offset_small a) (offset_small b)
      (base_law e a ∙ ap (λ (z : ℕ). (z + offset a) % 256) (same_term_law e (base a) (base b) (and_right (is_bit c) (same_term (base a) (base b)) h)))
      (base_law e b))
      (λ h. refl))))
