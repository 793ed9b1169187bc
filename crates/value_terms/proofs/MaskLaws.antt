-- And, or, exclusive or and carries have the values that they are to have.
use Rattle.std.proofs.Common.{◌≡◌, ℕ, ◌+◌, ◌-◌, ◌*◌, ◌%◌, ◌<◌, ◌⊎◌, inl, inr, true, false, refl, sym, ap, ◌∙◌, arith}
use Rattle.std.specs.Prelude.{◌&&◌, nat_eq, nat_lt, if◌then◌else◌, bit_and, bit_or, bit_xor}
use Rattle.std.specs.Int.Bits.{and_lt, and_self, xor_self, xor_zero_r, or_zero_r, or_self, and_zero_l}
use Rattle.std.proofs.lemmas.Bool.{eqb-true}
use Rattle.std.proofs.lemmas.Nat.{and_comm, or_comm, xor_comm, and_assoc}
use Rattle.std.proofs.Math.Nat.{eq-zero-or-pos}
use Rattle.value_terms.specs.declared.term.Binary.{Binary}
use Rattle.value_terms.specs.declared.term.Binary.TheVariants.{Same, Mask, Union, Exclusive, Table}
use Rattle.value_terms.specs.Terms.{Term, Num, Atom, Plus, Apply, Join, Triple, Environment, binary_value, value}
use Rattle.value_terms.specs.Equality.{same_term, rank, is_number, amount, is_bit}
use Rattle.value_terms.specs.Sums.{sum_of, opposite, negated}
use Rattle.value_terms.specs.Bits.{is_power, bit}
use Rattle.value_terms.specs.Masks.{ordered, mask_plain, mask_joined, mask_in, mask_number, mask, union_number, union, exclusive_number, exclusive}
use Rattle.value_terms.proofs.Equal.{and_left, and_right, same_term_law}
use Rattle.value_terms.proofs.Numbers.{not_eq}
use Rattle.value_terms.proofs.Powers.{at_bytes, single}
use Rattle.value_terms.proofs.SumLaws.{amount_small, small, number_is, choose, sum_law, opposite_law, negated_law, bit_small}
use Rattle.value_terms.proofs.BitLaws.{bit_law}

-- ---- numbers
and_zero : (v : ℕ) → bit_and 0 v ≡ 0
and_zero v = and_zero_l v

and_full : (v : ℕ) → v < 256 → bit_and v 255 % 256 ≡ v
and_full = at_bytes (λ v. bit_and v 255 % 256) (λ v. v) refl

or_full : (v : ℕ) → v < 256 → bit_or v 255 % 256 ≡ 255
or_full = at_bytes (λ v. bit_or v 255 % 256) (λ v. 255) refl

xor_full : (v : ℕ) → v < 256 → bit_xor v 255 % 256 ≡ 255 - v
xor_full = at_bytes (λ v. bit_xor v 255 % 256) (λ v. 255 - v) refl

xor_high : (v : ℕ) → v < 256 → bit_xor v 128 % 256 ≡ (1 * v + 128 % 256) % 256
xor_high = at_bytes (λ v. bit_xor v 128 % 256) (λ v. (1 * v + 128 % 256) % 256) refl

xor_low : (v : ℕ) → v < 2 → bit_xor v 1 % 256 ≡ (255 * v + 1) % 256
xor_low v h = by (eq-zero-or-pos v)
  where
    by : (v ≡ 0) ⊎ (0 < v) → bit_xor v 1 % 256 ≡ (255 * v + 1) % 256
    by (inl z) = ap (λ (n : ℕ). bit_xor n 1 % 256) z ∙ ap (λ (n : ℕ). (255 * n + 1) % 256) (sym z)
    by (inr p) = let o : v ≡ 1 = omega arith in ap (λ (n : ℕ). bit_xor n 1 % 256) o ∙ ap (λ (n : ℕ). (255 * n + 1) % 256) (sym o)

-- a bit and a byte
and_of_bit : (v k : ℕ) → v < 2 → k < 256 → bit_and v k % 256 ≡ v * (k % 2)
and_of_bit v k h l = by (eq-zero-or-pos v)
  where
    by : (v ≡ 0) ⊎ (0 < v) → bit_and v k % 256 ≡ v * (k % 2)
    by (inl z) = ap (λ (n : ℕ). bit_and n k % 256) z ∙ ap (λ (n : ℕ). n % 256) (and_zero_l k) ∙ (let a : 0 % 256 ≡ 0 * (k % 2) = omega arith in a) ∙ ap (λ (n : ℕ). n * (k % 2)) (sym z)
    by (inr p) = let o : v ≡ 1 = omega arith in ap (λ (n : ℕ). bit_and n k % 256) o ∙ at_bytes (λ x. bit_and 1 x % 256) (λ x. 1 * (x % 2)) refl k l ∙ ap (λ (n : ℕ). n * (k % 2)) (sym o)

mul_one : (v : ℕ) → v * 1 ≡ v
mul_one v = omega arith

mul_zero : (v : ℕ) → v * 0 ≡ 0
mul_zero v = omega arith

even : (k : ℕ) → nat_eq (k % 2) 1 ≡ false → k % 2 ≡ 0
even k h = let l : k % 2 < 2 = omega arith in by (eq-zero-or-pos (k % 2))
  where
    by : (k % 2 ≡ 0) ⊎ (0 < k % 2) → k % 2 ≡ 0
    by (inl z) = z
    by (inr p) = absurd (not_eq (k % 2) 1 h (omega arith))

module _ (e : Environment) where
  -- ---- operands in order
  ordered_law : (op : Binary) (a b : Term) → binary_value e op (value e b) (value e a) ≡ binary_value e op (value e a) (value e b) → value e (ordered op a b) ≡ binary_value e op (value e a) (value e b)
  unfolding ordered
  ordered_law op a b h = choose e (nat_lt (rank a) (rank b)) (Join op a b) (Join op b a) (binary_value e op (value e a) (value e b)) (λ k. refl) (λ k. h)

  number_second : (b : Term) (op : Binary) (v : ℕ) → is_number b ≡ true → binary_value e op v (amount b) ≡ binary_value e op v (value e b)
  number_second b op v h = ap (λ (z : ℕ). binary_value e op v z) (sym (number_is e b h))

  both_numbers : (a b : Term) (op : Binary) → (is_number a && is_number b) ≡ true → binary_value e op (amount a) (amount b) ≡ binary_value e op (value e a) (value e b)
  both_numbers a b op h =
      ap (λ (z : ℕ). binary_value e op z (amount b)) (sym (number_is e a (and_left (is_number a) (is_number b) h)))
      ∙ number_second b op (value e a) (and_right (is_number a) (is_number b) h)

  -- ---- and
  small_number : (k : ℕ) → k < 256 → k % 256 ≡ k
  small_number k l = omega arith

  mask_plain_law : (a : Term) (k : ℕ) → k < 256 → value e (mask_plain a k) ≡ bit_and (value e a) k % 256
  unfolding mask_plain
  mask_plain_law a k l =
      choose e (nat_eq k 0) (Num 0) _ (bit_and (value e a) k % 256)
      (λ h. ap (λ (z : ℕ). z % 256) (sym (ap (bit_and (value e a)) (eqb-true k 0 h) ∙ and_comm (value e a) 0 ∙ and_zero (value e a))))
      (λ h0. choose e (is_power k) (sum_of k (bit k a) (Num 0)) (Join Mask a (Num k)) (bit_and (value e a) k % 256)
      (λ h. sum_law e k (bit k a) (Num 0) ∙ ap (λ (z : ℕ). (k * z + 0 % 256) % 256) (bit_law e k a) ∙ single (value e a) k (small e a) h)
      (λ h. ap (λ (z : ℕ). bit_and (value e a) z % 256) (small_number k l)))

  and_twice : (v j k : ℕ) → v < 256 → j < 256 → bit_and v (bit_and j k) % 256 ≡ bit_and (bit_and v j % 256) k % 256
  and_twice v j k h i = ap (λ (z : ℕ). z % 256) (sym (and_assoc k v j)) ∙ ap (λ (z : ℕ). bit_and z k % 256) (sym (small_number (bit_and v j) (and_lt 8 v j h i)))

  mask_joined_law : (op : Binary) (x y : Term) (k : ℕ) → k < 256 → value e (mask_joined op x y k) ≡ bit_and (binary_value e op (value e x) (value e y)) k % 256
  mask_joined_law Mask x y k l =
      choose e (is_number y) (mask_plain x (bit_and (amount y) k)) (mask_plain (Join Mask x y) k) (bit_and (bit_and (value e x) (value e y) % 256) k % 256)
      (λ h. mask_plain_law x (bit_and (amount y) k) (and_lt 8 (amount y) k (amount_small y) l) ∙ and_twice (value e x) (amount y) k (small e x) (amount_small y) ∙ ap (λ (z : ℕ). bit_and (bit_and (value e x) z % 256) k % 256) (sym (number_is e y h)))
      (λ h. mask_plain_law (Join Mask x y) k l)
  mask_joined_law Same x y k l = mask_plain_law (Join Same x y) k l
  mask_joined_law Union x y k l = mask_plain_law (Join Union x y) k l
  mask_joined_law Exclusive x y k l = mask_plain_law (Join Exclusive x y) k l
  mask_joined_law (Table n) x y k l = mask_plain_law (Join (Table n) x y) k l

  mask_in_law : (t : Term) (k : ℕ) → k < 256 → value e (mask_in t k) ≡ bit_and (value e t) k % 256
  mask_in_law (Join op x y) k l = mask_joined_law op x y k l
  mask_in_law (Num j) k l = mask_plain_law (Num j) k l
  mask_in_law (Atom i j) k l = mask_plain_law (Atom i j) k l
  mask_in_law (Plus f t r) k l = mask_plain_law (Plus f t r) k l
  mask_in_law (Apply op t) k l = mask_plain_law (Apply op t) k l
  mask_in_law (Triple op a b c) k l = mask_plain_law (Triple op a b c) k l

  mask_number_law : (a : Term) (k : ℕ) → k < 256 → value e (mask_number a k) ≡ bit_and (value e a) k % 256
  unfolding mask_number
  mask_number_law a k l =
      choose e (nat_eq k 255) a _ (bit_and (value e a) k % 256)
      (λ h. sym (ap (λ (z : ℕ). bit_and (value e a) z % 256) (eqb-true k 255 h) ∙ and_full (value e a) (small e a)))
      (λ h0. choose e (is_bit a) (if nat_eq (k % 2) 1 then a else Num 0) (mask_in a k) (bit_and (value e a) k % 256)
      (λ h. let s = bit_small e a h in choose e (nat_eq (k % 2) 1) a (Num 0) (bit_and (value e a) k % 256)
      (λ q. sym (and_of_bit (value e a) k s l ∙ ap (λ (z : ℕ). value e a * z) (eqb-true (k % 2) 1 q) ∙ mul_one (value e a)))
      (λ q. sym (and_of_bit (value e a) k s l ∙ ap (λ (z : ℕ). value e a * z) (even k q) ∙ mul_zero (value e a))))
      (λ h. mask_in_law a k l))

  pub mask_law : (a b : Term) → value e (mask a b) ≡ bit_and (value e a) (value e b) % 256
  unfolding mask
  mask_law a b =
      choose e (is_number a && is_number b) (Num (bit_and (amount a) (amount b))) _ (bit_and (value e a) (value e b) % 256)
      (λ h. both_numbers a b Mask h)
      (λ h0. choose e (is_number b) (mask_number a (amount b)) _ (bit_and (value e a) (value e b) % 256)
      (λ h. mask_number_law a (amount b) (amount_small b) ∙ number_second b Mask (value e a) h)
      (λ h1. choose e (is_number a) (mask_number b (amount a)) _ (bit_and (value e a) (value e b) % 256)
      (λ h. mask_number_law b (amount a) (amount_small a) ∙ number_second a Mask (value e b) h ∙ ap (λ (z : ℕ). z % 256) (and_comm (value e b) (value e a)))
      (λ h2. choose e (same_term a b) a (ordered Mask a b) (bit_and (value e a) (value e b) % 256)
      (λ h. sym (ap (λ (z : ℕ). bit_and (value e a) z % 256) (sym (same_term_law e a b h)) ∙ ap (λ (z : ℕ). z % 256) (and_self (value e a)) ∙ small_number (value e a) (small e a)))
      (λ h. ordered_law Mask a b (ap (λ (z : ℕ). z % 256) (and_comm (value e b) (value e a)))))))

  -- ---- or
  union_number_law : (a : Term) (k : ℕ) → k < 256 → value e (union_number a k) ≡ bit_or (value e a) k % 256
  unfolding union_number
  union_number_law a k l =
      choose e (nat_eq k 0) a _ (bit_or (value e a) k % 256)
      (λ h. sym (ap (λ (z : ℕ). bit_or (value e a) z % 256) (eqb-true k 0 h) ∙ ap (λ (z : ℕ). z % 256) (or_zero_r (value e a)) ∙ small_number (value e a) (small e a)))
      (λ h0. choose e (nat_eq k 255) (Num 255) (Join Union a (Num k)) (bit_or (value e a) k % 256)
      (λ h. sym (ap (λ (z : ℕ). bit_or (value e a) z % 256) (eqb-true k 255 h) ∙ or_full (value e a) (small e a)))
      (λ h. ap (λ (z : ℕ). bit_or (value e a) z % 256) (small_number k l)))

  pub union_law : (a b : Term) → value e (union a b) ≡ bit_or (value e a) (value e b) % 256
  unfolding union
  union_law a b =
      choose e (is_number a && is_number b) (Num (bit_or (amount a) (amount b))) _ (bit_or (value e a) (value e b) % 256)
      (λ h. both_numbers a b Union h)
      (λ h0. choose e (is_number b) (union_number a (amount b)) _ (bit_or (value e a) (value e b) % 256)
      (λ h. union_number_law a (amount b) (amount_small b) ∙ number_second b Union (value e a) h)
      (λ h1. choose e (is_number a) (union_number b (amount a)) _ (bit_or (value e a) (value e b) % 256)
      (λ h. union_number_law b (amount a) (amount_small a) ∙ number_second a Union (value e b) h ∙ ap (λ (z : ℕ). z % 256) (or_comm (value e b) (value e a)))
      (λ h2. choose e (same_term a b) a (ordered Union a b) (bit_or (value e a) (value e b) % 256)
      (λ h. sym (ap (λ (z : ℕ). bit_or (value e a) z % 256) (sym (same_term_law e a b h)) ∙ ap (λ (z : ℕ). z % 256) (or_self (value e a)) ∙ small_number (value e a) (small e a)))
      (λ h. ordered_law Union a b (ap (λ (z : ℕ). z % 256) (or_comm (value e b) (value e a)))))))

  -- ---- exclusive or
  exclusive_number_law : (a : Term) (k : ℕ) → k < 256 → value e (exclusive_number a k) ≡ bit_xor (value e a) k % 256
  unfolding exclusive_number
  exclusive_number_law a k l =
      choose e (nat_eq k 0) a _ (bit_xor (value e a) k % 256)
      (λ h. sym (ap (λ (z : ℕ). bit_xor (value e a) z % 256) (eqb-true k 0 h) ∙ ap (λ (z : ℕ). z % 256) (xor_zero_r (value e a)) ∙ small_number (value e a) (small e a)))
      (λ h0. choose e (nat_eq k 255) (opposite a) _ (bit_xor (value e a) k % 256)
      (λ h. opposite_law e a ∙ sym (ap (λ (z : ℕ). bit_xor (value e a) z % 256) (eqb-true k 255 h) ∙ xor_full (value e a) (small e a)))
      (λ h1. choose e (nat_eq k 128) (sum_of 1 a (Num 128)) _ (bit_xor (value e a) k % 256)
      (λ h. sum_law e 1 a (Num 128) ∙ sym (ap (λ (z : ℕ). bit_xor (value e a) z % 256) (eqb-true k 128 h) ∙ xor_high (value e a) (small e a)))
      (λ h2. choose e (is_bit a && nat_eq k 1) (negated a) (Join Exclusive a (Num k)) (bit_xor (value e a) k % 256)
      (λ h. negated_law e a ∙ sym (ap (λ (z : ℕ). bit_xor (value e a) z % 256) (eqb-true k 1 (and_right (is_bit a) (nat_eq k 1) h)) ∙ xor_low (value e a) (bit_small e a (and_left (is_bit a) (nat_eq k 1) h))))
      (λ h. ap (λ (z : ℕ). bit_xor (value e a) z % 256) (small_number k l)))))

  pub exclusive_law : (a b : Term) → value e (exclusive a b) ≡ bit_xor (value e a) (value e b) % 256
  unfolding exclusive
  exclusive_law a b =
      choose e (is_number a && is_number b) (Num (bit_xor (amount a) (amount b))) _ (bit_xor (value e a) (value e b) % 256)
      (λ h. both_numbers a b Exclusive h)
      (λ h0. choose e (is_number b) (exclusive_number a (amount b)) _ (bit_xor (value e a) (value e b) % 256)
      (λ h. exclusive_number_law a (amount b) (amount_small b) ∙ number_second b Exclusive (value e a) h)
      (λ h1. choose e (is_number a) (exclusive_number b (amount a)) _ (bit_xor (value e a) (value e b) % 256)
      (λ h. exclusive_number_law b (amount a) (amount_small a) ∙ number_second a Exclusive (value e b) h ∙ ap (λ (z : ℕ). z % 256) (xor_comm (value e b) (value e a)))
      (λ h2. choose e (same_term a b) (Num 0) (ordered Exclusive a b) (bit_xor (value e a) (value e b) % 256)
      (λ h. sym (ap (λ (z : ℕ). bit_xor (value e a) z % 256) (sym (same_term_law e a b h)) ∙ ap (λ (z : ℕ). z % 256) (xor_self (value e a))))
      (λ h. ordered_law Exclusive a b (ap (λ (z : ℕ). z % 256) (xor_comm (value e b) (value e a)))))))
