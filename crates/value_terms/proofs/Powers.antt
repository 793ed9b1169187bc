-- Powers of two below 256, and single bits of bytes.
use Rattle.std.proofs.Common.{◌≡◌, ℕ, ◌+◌, ◌-◌, ◌*◌, ◌/◌, ◌%◌, ◌^◌, ◌<◌, Bool, true, false, refl, sym, ap, subst, ◌∙◌, min, max, arith}
use Rattle.std.specs.Prelude.{not, ◌&&◌, nat_eq, nat_lt, if◌then◌else◌, bit_and, bit_or, bit_xor}
use Rattle.std.specs.Int.Bits.{and_lt}
use Rattle.std.proofs.lemmas.Bool.{eqb-true, ltb-true, ltb-false, agree_below, agree_below_at}
use Rattle.std.proofs.lemmas.Nat.{or_lt, xor_lt}
use Rattle.std.proofs.lemmas.Nat.Bits.{bit_at_and, bit_at_or, bit_at_xor}
use Rattle.std.proofs.Math.Nat.{mod-eq_of_lt}
use Rattle.value_terms.specs.Bits.{is_power}
use Rattle.value_terms.proofs.Numbers.{at_each}

-- what is computed of each byte
pub at_bytes : (g h : ℕ → ℕ) → agree_below (λ n. nat_eq (g n) (h n)) (λ n. true) 256 ≡ true → (v : ℕ) → v < 256 → g v ≡ h v
at_bytes g h all v l = eqb-true (g v) (h v) (agree_below_at (λ n. nat_eq (g n) (h n)) (λ n. true) 256 v all l)

-- ---- exponents
abbrev behind_seven : ℕ → ℕ
behind_seven k = if nat_eq k 1 then 7 else if nat_eq k 2 then 6 else if nat_eq k 4 then 5 else if nat_eq k 8 then 4 else if nat_eq k 16 then 3 else if nat_eq k 32 then 2 else if nat_eq k 64 then 1 else 0

abbrev exponent : ℕ → ℕ
exponent k = 7 - behind_seven k

seven_less : (n : ℕ) → 7 - n < 8
seven_less n = omega arith

power_small : (k : ℕ) → is_power k ≡ true → k < 256
power_small k h = by (nat_lt k 256) refl
  where
    by : (b : Bool) → nat_lt k 256 ≡ b → k < 256
    by true q = ltb-true k 256 q
    by false q =
        let l = ltb-false k 256 q in
        let m : 128 % k ≡ 128 = mod-eq_of_lt (let s : 128 < k = omega arith in s) in
        let z = eqb-true (128 % k) 0 h in absurd (omega arith)

only_those : (b c : Bool) → b ≡ true → (b && not c) ≡ false → c ≡ true
only_those true true h k = refl
only_those true false h k = absurd (cc)
only_those false c h k = absurd (cc)

power_of : (k : ℕ) → is_power k ≡ true → k ≡ 2 ^ exponent k
power_of k h =
    eqb-true k (2 ^ exponent k)
    (only_those (is_power k) (nat_eq k (2 ^ exponent k)) h (agree_below_at (λ n. is_power n && not (nat_eq n (2 ^ exponent n))) (λ n. false) 256 k refl (power_small k h)))

-- what holds of 1, 2, 4 .. 128 holds of each power
pub at_power : (P : ℕ → Type 0) → ((b : ℕ) → b < 8 → P (2 ^ b)) → (k : ℕ) → is_power k ≡ true → P k
at_power P f k h = subst P (sym (power_of k h)) (f (exponent k) (seven_less (behind_seven k)))

-- ---- bits of bytes
pub single : (v k : ℕ) → v < 256 → is_power k ≡ true → (k * (v / k % 2) + 0 % 256) % 256 ≡ bit_and v k % 256
single v k l h = at_power (λ n. (n * (v / n % 2) + 0 % 256) % 256 ≡ bit_and v n % 256) (λ b m. at_each (λ c x. (2 ^ c * (x / 2 ^ c % 2) + 0 % 256) % 256) (λ c x. bit_and x (2 ^ c) % 256) refl b v m l) k h

pub opposite_bit : (v p : ℕ) → v < 256 → is_power p ≡ true → (255 * (v / p % 2) + 1) % 256 ≡ (255 * v + 255) % 256 / p % 2
opposite_bit v p l h = at_power (λ n. (255 * (v / n % 2) + 1) % 256 ≡ (255 * v + 255) % 256 / n % 2) (λ b m. at_each (λ c x. (255 * (x / 2 ^ c % 2) + 1) % 256) (λ c x. (255 * x + 255) % 256 / 2 ^ c % 2) refl b v m l) p h

pub high_bit : (v : ℕ) → v < 256 → (255 * (v / 128 % 2) + 1) % 256 ≡ (1 * v + 128) % 256 / 128 % 2
high_bit = at_bytes (λ v. (255 * (v / 128 % 2) + 1) % 256) (λ v. (1 * v + 128) % 256 / 128 % 2) refl

pub first_of : (c : Bool) (x y z : ℕ) → c ≡ true → (if c then x else y) ≡ z → x ≡ z
first_of true x y z h k = k
first_of false x y z h k = absurd (cc)

pub second_of : (c : Bool) (x y z : ℕ) → c ≡ false → (if c then x else y) ≡ z → y ≡ z
second_of true x y z h k = absurd (cc)
second_of false x y z h k = k

-- where it is no power that counts, both are the same
both_of : (c : Bool) (x y z : ℕ) → c ≡ false → (if c then z else x) ≡ (if c then z else y) → x ≡ y
both_of true x y z h k = absurd (cc)
both_of false x y z h k = k

pub low_bit : (v p : ℕ) → v < 256 → is_power p ≡ true → nat_eq p 128 ≡ false → v / p % 2 ≡ (1 * v + 128) % 256 / p % 2
low_bit v p l h = at_power (λ n. nat_eq n 128 ≡ false → v / n % 2 ≡ (1 * v + 128) % 256 / n % 2)
    (λ b m q. both_of (nat_eq (2 ^ b) 128) (v / 2 ^ b % 2) ((1 * v + 128) % 256 / 2 ^ b % 2) 0 q (at_each (λ c x. if nat_eq (2 ^ c) 128 then 0 else x / 2 ^ c % 2) (λ c x. if nat_eq (2 ^ c) 128 then 0 else (1 * x + 128) % 256 / 2 ^ c % 2) refl b v m l)) p h

-- two powers and a byte
at_pairs : (g h : ℕ → ℕ → ℕ → ℕ) → agree_below (λ n. nat_eq (g (n / 2048) (n / 256 % 8) (n % 256)) (h (n / 2048) (n / 256 % 8) (n % 256))) (λ n. true) 16384 ≡ true → (i b x : ℕ) → i < 8 → b < 8 → x < 256 → g i b x ≡ h i b x
at_pairs g h all i b x hi hb hx =
    let d : (i * 2048 + b * 256 + x) / 2048 ≡ i = omega arith in
    let m : (i * 2048 + b * 256 + x) / 256 % 8 ≡ b = omega arith in
    let r : (i * 2048 + b * 256 + x) % 256 ≡ x = omega arith in
    let here = agree_below_at (λ n. nat_eq (g (n / 2048) (n / 256 % 8) (n % 256)) (h (n / 2048) (n / 256 % 8) (n % 256))) (λ n. true) 16384 (i * 2048 + b * 256 + x) all (omega arith) in
    eqb-true (g i b x) (h i b x)
    (ap (λ q. nat_eq (g q b x) (h q b x)) (sym d) ∙ ap (λ q. nat_eq (g ((i * 2048 + b * 256 + x) / 2048) q x) (h ((i * 2048 + b * 256 + x) / 2048) q x)) (sym m)
    ∙ ap (λ q. nat_eq (g ((i * 2048 + b * 256 + x) / 2048) ((i * 2048 + b * 256 + x) / 256 % 8) q) (h ((i * 2048 + b * 256 + x) / 2048) ((i * 2048 + b * 256 + x) / 256 % 8) q)) (sym r) ∙ here)

pub shifted_bit : (v p f : ℕ) → v < 256 → is_power p ≡ true → is_power f ≡ true → (if nat_lt p f then 0 else v / (p / f) % 2) ≡ (f * v + 0) % 256 / p % 2
shifted_bit v p f l hp hf =
    at_power (λ n. (if nat_lt p n then 0 else v / (p / n) % 2) ≡ (n * v + 0) % 256 / p % 2)
    (λ i k. at_power (λ m. (if nat_lt m (2 ^ i) then 0 else v / (m / 2 ^ i) % 2) ≡ (2 ^ i * v + 0) % 256 / m % 2)
    (λ b m. at_pairs (λ j c x. if nat_lt (2 ^ c) (2 ^ j) then 0 else x / (2 ^ c / 2 ^ j) % 2) (λ j c x. (2 ^ j * x + 0) % 256 / 2 ^ c % 2) refl i b v k m l) p hp) f hf

pub and_bit : (v k p : ℕ) → v < 256 → k < 256 → is_power p ≡ true → bit_and v k % 256 / p % 2 ≡ min (v / p % 2) (k / p % 2)
and_bit v k p l m h =
    ap (λ (n : ℕ). n / p % 2) (let s = and_lt 8 v k l m in let q : bit_and v k % 256 ≡ bit_and v k = omega arith in q)
    ∙ at_power (λ n. bit_and v k / n % 2 ≡ min (v / n % 2) (k / n % 2)) (λ b q. bit_at_and v k b) p h

pub or_bit : (v k p : ℕ) → v < 256 → k < 256 → is_power p ≡ true → bit_or v k % 256 / p % 2 ≡ max (v / p % 2) (k / p % 2)
or_bit v k p l m h =
    ap (λ (n : ℕ). n / p % 2) (let s = or_lt 8 v k l m in let q : bit_or v k % 256 ≡ bit_or v k = omega arith in q)
    ∙ at_power (λ n. bit_or v k / n % 2 ≡ max (v / n % 2) (k / n % 2)) (λ b q. bit_at_or v k b) p h

pub xor_bit : (v k p : ℕ) → v < 256 → k < 256 → is_power p ≡ true → bit_xor v k % 256 / p % 2 ≡ (v / p % 2 + k / p % 2) % 2
xor_bit v k p l m h =
    ap (λ (n : ℕ). n / p % 2) (let s = xor_lt 8 v k l m in let q : bit_xor v k % 256 ≡ bit_xor v k = omega arith in q)
    ∙ at_power (λ n. bit_xor v k / n % 2 ≡ (v / n % 2 + k / n % 2) % 2) (λ b q. bit_at_xor v k b) p h
