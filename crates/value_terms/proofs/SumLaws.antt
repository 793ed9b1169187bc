-- Sums have the values of sums.
use Rattle.std.proofs.Common.{◌≡◌, ℕ, ◌+◌, ◌-◌, ◌*◌, ◌%◌, ◌<◌, Bool, true, false, refl, ap, ◌∙◌, arith}
use Rattle.std.specs.Prelude.{◌&&◌, ◌||◌, nat_eq, nat_le, nat_lt, if◌then◌else◌}
use Rattle.std.proofs.lemmas.Bool.{eqb-true, ltb-true}
use Rattle.std.proofs.lemmas.Nat.{mul-mod_first, mul-mod_second, and_le_l, or_lt, xor_lt}
use Rattle.std.proofs.Math.Nat.{add-mul, mul-add, mul_assoc, div-le_self}
use Rattle.value_terms.specs.declared.term.Unary.{Unary}
use Rattle.value_terms.specs.declared.term.Unary.TheVariants.{Bit, Quotient}
use Rattle.value_terms.specs.declared.term.Binary.{Binary}
use Rattle.value_terms.specs.declared.term.Binary.TheVariants.{Same, Mask, Union, Exclusive, Table}
use Rattle.value_terms.specs.declared.term.Ternary.{Ternary}
use Rattle.value_terms.specs.declared.term.Ternary.TheVariants.{Carry, Choice}
use Rattle.value_terms.specs.Terms.{Term, Num, Atom, Plus, Apply, Join, Triple, Environment, unary_value, binary_value, ternary_value, value}
use Rattle.value_terms.specs.Equality.{same_term, rank, is_number, amount, is_amount, makes_bit, joins_bits, compares, carries, is_bit}
use Rattle.value_terms.specs.Sums.{simple, insert, add_number, as_sum, plus, tidy, sum_of, opposite, negated, offset, base}
use Rattle.value_terms.proofs.Equal.{and_left, and_right, same_term_law}
use Rattle.value_terms.proofs.Numbers.{one_small, truth_small}

pub amount_small : (t : Term) → amount t < 256
amount_small (Num k) = omega arith
amount_small (Atom j k) = omega arith
amount_small (Plus f t r) = omega arith
amount_small (Apply op t) = omega arith
amount_small (Join op a b) = omega arith
amount_small (Triple op a b c) = omega arith

unary_small : (op : Unary) (v : ℕ) → v < 256 → unary_value op v < 256
unary_small (Bit p) v h = omega arith
unary_small (Quotient p) v h = let a = div-le_self v p in omega arith

binary_small : (e : Environment) (op : Binary) (v w : ℕ) → binary_value e op v w < 256
binary_small e Same v w = truth_small (nat_eq v w)
binary_small e Mask v w = omega arith
binary_small e Union v w = omega arith
binary_small e Exclusive v w = omega arith
binary_small e (Table n) v w = omega arith

chosen_small : (b : Bool) (n x y : ℕ) → x < n → y < n → (if b then y else x) < n
chosen_small true n x y h k = k
chosen_small false n x y h k = h

ternary_small : (op : Ternary) (u v w : ℕ) → v < 256 → w < 256 → ternary_value op u v w < 256
ternary_small Carry u v w h k = truth_small (nat_le 256 (u + v + w))
ternary_small Choice u v w h k = chosen_small (nat_eq u 0) 256 v w h k

module _ (e : Environment) where
  pub small : (t : Term) → value e t < 256
  small (Num k) = omega arith
  small (Atom j k) = omega arith
  small (Plus f t r) = omega arith
  small (Apply op t) = unary_small op (value e t) (small t)
  small (Join op a b) = binary_small e op (value e a) (value e b)
  small (Triple op a b c) = ternary_small op (value e a) (value e b) (value e c) (small b) (small c)

  -- ---- what is read off
  pub number_is : (t : Term) → is_number t ≡ true → value e t ≡ amount t
  number_is (Num k) h = refl
  number_is (Atom j k) h = absurd (cc)
  number_is (Plus f t r) h = absurd (cc)
  number_is (Apply op t) h = absurd (cc)
  number_is (Join op a b) h = absurd (cc)
  number_is (Triple op a b c) h = absurd (cc)

  pub amount_is : (t : Term) (k : ℕ) → is_amount t k ≡ true → value e t ≡ k
  amount_is t k h = number_is t (and_left (is_number t) (nat_eq (amount t) k) h) ∙ eqb-true (amount t) k (and_right (is_number t) (nat_eq (amount t) k) h)

  -- by a test
  pub choose : (b : Bool) (x y : Term) (v : ℕ) → (b ≡ true → value e x ≡ v) → (b ≡ false → value e y ≡ v) → value e (if b then x else y) ≡ v
  choose true x y v h k = h refl
  choose false x y v h k = k refl

  -- ---- sums
  times_mod : (f v x : ℕ) → (f % 256 * v + x) % 256 ≡ (f * v + x) % 256
  times_mod f v x = let a = mul-mod_first f v 256 in omega arith

  simple_law : (f : ℕ) (t r : Term) → value e (simple f t r) ≡ (f * value e t + value e r) % 256
  unfolding simple
  simple_law f t r = choose (nat_eq f 0) r (Plus f t r) ((f * value e t + value e r) % 256) (λ h. let a = eqb-true f 0 h in let b = ap (λ z. z * value e t) a in let c = small r in omega arith) (λ h. refl)

  insert_law : (f : ℕ) (t r : Term) → value e (insert f t r) ≡ (f * value e t + value e r) % 256
  insert_law f t (Plus g u s) =
      choose (same_term t u) (simple ((f + g) % 256) t s) (if nat_lt (rank t) (rank u) then Plus f t (Plus g u s) else Plus g u (insert f t s)) ((f * value e t + (g * value e u + value e s) % 256) % 256)
      (λ h. let a = simple_law ((f + g) % 256) t s in let m = times_mod (f + g) (value e t) (value e s) in let b = add-mul f g (value e t) in let d = ap (λ z. g * z) (same_term_law e t u h) in omega arith)
      (λ h. choose (nat_lt (rank t) (rank u)) (Plus f t (Plus g u s)) (Plus g u (insert f t s)) ((f * value e t + (g * value e u + value e s) % 256) % 256) (λ k. refl) (λ k. let a = insert_law f t s in omega arith))
  insert_law f t (Num k) = simple_law f t (Num k)
  insert_law f t (Atom j k) = simple_law f t (Atom j k)
  insert_law f t (Apply op a) = simple_law f t (Apply op a)
  insert_law f t (Join op a b) = simple_law f t (Join op a b)
  insert_law f t (Triple op a b c) = simple_law f t (Triple op a b c)

  add_number_law : (k : ℕ) (r : Term) → value e (add_number k r) ≡ (k + value e r) % 256
  add_number_law k (Num j) = omega arith
  add_number_law k (Plus f t r) = let a = add_number_law k r in omega arith
  add_number_law k (Atom i j) = omega arith
  add_number_law k (Apply op a) = omega arith
  add_number_law k (Join op a b) = omega arith
  add_number_law k (Triple op a b c) = omega arith

  once : (t : Term) → (1 * value e t + 0 % 256) % 256 ≡ value e t
  once t = let h = small t in omega arith

  as_sum_law : (t : Term) → value e (as_sum t) ≡ value e t
  as_sum_law (Num k) = refl
  as_sum_law (Plus f t r) = refl
  as_sum_law (Atom j k) = once (Atom j k)
  as_sum_law (Apply op a) = once (Apply op a)
  as_sum_law (Join op a b) = once (Join op a b)
  as_sum_law (Triple op a b c) = once (Triple op a b c)

  plus_plus : (f g t s r : ℕ) → (f * g % 256 * t + (f * s + r) % 256) % 256 ≡ (f * ((g * t + s) % 256) + r) % 256
  plus_plus f g t s r = let a = mul-mod_second f (g * t + s) 256 in let b = mul_assoc f g t in let c = mul-add f (g * t) s in let d = mul-mod_first (f * g) t 256 in omega arith

  plus_law : (f : ℕ) (t r : Term) → value e (plus f t r) ≡ (f * value e t + value e r) % 256
  plus_law f (Num k) r = let a = add_number_law (f * k % 256) r in let b = mul-mod_second f k 256 in omega arith
  plus_law f (Plus g t s) r =
      let a = plus_law (f * g % 256) t (plus f s r) in let b = plus_law f s r in let c = plus_plus f g (value e t) (value e s) (value e r) in a ∙ ap (λ (z : ℕ). (f * g % 256 * value e t + z) % 256) b ∙ c
  plus_law f (Atom j k) r = insert_law f (Atom j k) r
  plus_law f (Apply op a) r = insert_law f (Apply op a) r
  plus_law f (Join op a b) r = insert_law f (Join op a b) r
  plus_law f (Triple op a b c) r = insert_law f (Triple op a b c) r

  tidy_law : (t : Term) → value e (tidy t) ≡ value e t
  tidy_law (Plus f t r) =
      choose (nat_eq f 1 && is_amount r 0) t (Plus f t r) ((f * value e t + value e r) % 256)
      (λ h. let a = eqb-true f 1 (and_left (nat_eq f 1) (is_amount r 0) h) in let b = amount_is r 0 (and_right (nat_eq f 1) (is_amount r 0) h) in let c = ap (λ z. z * value e t) a in let d = small t in omega arith)
      (λ h. refl)
  tidy_law (Num k) = refl
  tidy_law (Atom j k) = refl
  tidy_law (Apply op a) = refl
  tidy_law (Join op a b) = refl
  tidy_law (Triple op a b c) = refl

  pub sum_law : (f : ℕ) (a b : Term) → value e (sum_of f a b) ≡ (f * value e a + value e b) % 256
  unfolding sum_of
  sum_law f a b = tidy_law (plus f a (as_sum b)) ∙ plus_law f a (as_sum b) ∙ ap (λ z. (f * value e a + z) % 256) (as_sum_law b)

  pub opposite_law : (a : Term) → value e (opposite a) ≡ 255 - value e a
  unfolding opposite
  opposite_law a = let h = sum_law 255 a (Num 255) in let b = small a in omega arith

  pub negated_law : (a : Term) → value e (negated a) ≡ (255 * value e a + 1) % 256
  unfolding negated
  negated_law a = sum_law 255 a (Num 1)

  -- ---- sums that differ by a number
  pub base_law : (t : Term) → value e t ≡ (value e (base t) + offset t) % 256
  base_law (Num k) = omega arith
  base_law (Plus f t r) = let a = base_law r in omega arith
  base_law (Atom j k) = let h = small (Atom j k) in omega arith
  base_law (Apply op a) = let h = small (Apply op a) in omega arith
  base_law (Join op a b) = let h = small (Join op a b) in omega arith
  base_law (Triple op a b c) = let h = small (Triple op a b c) in omega arith

-- ---- bits
unary_bit : (op : Unary) (v : ℕ) → makes_bit op ≡ true → unary_value op v < 2
unary_bit (Bit p) v h = omega arith
unary_bit (Quotient p) v h = absurd (cc)

compared_bit : (e : Environment) (op : Binary) (v w : ℕ) → compares op ≡ true → binary_value e op v w < 2
compared_bit e Same v w h = one_small (nat_eq v w)
compared_bit e Mask v w h = absurd (cc)
compared_bit e Union v w h = absurd (cc)
compared_bit e Exclusive v w h = absurd (cc)
compared_bit e (Table n) v w h = absurd (cc)

joined_bit : (e : Environment) (op : Binary) (v w : ℕ) → joins_bits op ≡ true → v < 2 → w < 2 → binary_value e op v w < 2
joined_bit e Same v w h i j = absurd (cc)
joined_bit e Mask v w h i j = let a = and_le_l v w in omega arith
joined_bit e Union v w h i j = let a = or_lt 1 v w i j in omega arith
joined_bit e Exclusive v w h i j = let a = xor_lt 1 v w i j in omega arith
joined_bit e (Table n) v w h i j = absurd (cc)

carried_bit : (op : Ternary) (u v w : ℕ) → carries op ≡ true → ternary_value op u v w < 2
carried_bit Carry u v w h = one_small (nat_le 256 (u + v + w))
carried_bit Choice u v w h = absurd (cc)

-- one of two
pub either : (a b : Bool) (n v : ℕ) → (a || b) ≡ true → (a ≡ true → v < n) → (b ≡ true → v < n) → v < n
either true b n v h f g = f refl
either false b n v h f g = g h

chosen_bit : (op : Ternary) (u v w : ℕ) → v < 2 → w < 2 → ternary_value op u v w < 2
chosen_bit Carry u v w h k = one_small (nat_le 256 (u + v + w))
chosen_bit Choice u v w h k = chosen_small (nat_eq u 0) 2 v w h k

module _ (e : Environment) where
  pub bit_small : (t : Term) → is_bit t ≡ true → value e t < 2
  bit_small (Num k) h = ltb-true (k % 256) 2 h
  bit_small (Atom j k) h = absurd (cc)
  bit_small (Plus f t r) h =
      let h1 = and_right (nat_eq f 255) (is_amount r 1 && is_bit t) h in
      let a = eqb-true f 255 (and_left (nat_eq f 255) (is_amount r 1 && is_bit t) h) in
      let b = amount_is e r 1 (and_left (is_amount r 1) (is_bit t) h1) in
      let c = bit_small t (and_right (is_amount r 1) (is_bit t) h1) in
      let d = ap (λ z. z * value e t) a in omega arith
  bit_small (Apply op t) h = unary_bit op (value e t) h
  bit_small (Join op a b) h =
      either (compares op) (joins_bits op && (is_bit a && is_bit b)) 2 (binary_value e op (value e a) (value e b)) h (compared_bit e op (value e a) (value e b))
      (λ k. let k1 = and_right (joins_bits op) (is_bit a && is_bit b) k in
      joined_bit e op (value e a) (value e b) (and_left (joins_bits op) (is_bit a && is_bit b) k) (bit_small a (and_left (is_bit a) (is_bit b) k1)) (bit_small b (and_right (is_bit a) (is_bit b) k1)))
  bit_small (Triple op a b c) h =
      either (carries op) (is_bit b && is_bit c) 2 (ternary_value op (value e a) (value e b) (value e c)) h (carried_bit op (value e a) (value e b) (value e c))
      (λ k. chosen_bit op (value e a) (value e b) (value e c) (bit_small b (and_left (is_bit b) (is_bit c) k)) (bit_small c (and_right (is_bit b) (is_bit c) k)))
