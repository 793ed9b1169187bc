-- Numbers and their bytes.
use Rattle.std.proofs.Common.{◌≡◌, ℕ, zero, suc, ◌+◌, ◌-◌, ◌*◌, ◌/◌, ◌%◌, ◌^◌, ◌<◌, ap, sym, ◌∙◌, subst, arith}
use Rattle.std.proofs.Math.Nat.{pow-suc, div-div-eq-div-mul, div-add-mod, div-eq_of_lt}
use Rattle.std.proofs.lemmas.Nat.{mod-mul-add, div-mul-add}
use Rattle.math_helpers.specs.Wanted.{byte_at}
use Rattle.select_trace.specs.Values.{val}
use Rattle.select_trace.proofs.Fills.{val_split}
use Rattle.select_trace.proofs.ShiftRight.{val_front}
use Rattle.select_trace.proofs.Vals.{val_same, val_below}

-- byte k of a number is the byte that it is made of
pub byte_back : (f : ℕ → ℕ) (w k : ℕ) → k < w → ((j : ℕ) → j < w → f j < 256) → byte_at (val f w) k ≡ f k
byte_back f w k lt b = at (w - k - 1) (omega arith)
  where
    at : (n : ℕ) → w ≡ k + suc n → byte_at (val f w) k ≡ f k
    at n e =
        let s : val f (k + suc n) ≡ val f k + 256 ^ k * val (λ j. f (k + j)) (suc n) = val_split f k (suc n) in
        let r : val (λ j. f (k + j)) (suc n) ≡ f (k + 0) + 256 * val (λ j. f (k + suc j)) n = val_front (λ j. f (k + j)) n in
        let z : f (k + 0) ≡ f k = ap f (let h : k + 0 ≡ k = omega arith in h) in
        let small : val f k < 256 ^ k = val_below f k (λ j l. b j (omega arith)) in
        let q : val f w / 256 ^ k ≡ val (λ j. f (k + j)) (suc n) = ap (λ x. x / 256 ^ k) (ap (val f) e ∙ s ∙ turned (val f k) (256 ^ k) (val (λ j. f (k + j)) (suc n))) ∙ div-mul-add (val (λ j. f (k + j)) (suc n)) (256 ^ k) (val f k) small in
        ap (λ x. x % 256) (q ∙ r ∙ turned2 (f (k + 0)) (val (λ j. f (k + suc j)) n)) ∙ mod-mul-add (val (λ j. f (k + suc j)) n) 256 (f (k + 0)) (subst (λ x. x < 256) (sym z) (b k lt)) ∙ z
      where
        turned : (v p q : ℕ) → v + p * q ≡ q * p + v
        turned v p q = omega arith

        turned2 : (a v : ℕ) → a + 256 * v ≡ v * 256 + a
        turned2 a v = omega arith

-- the bytes of a number, and what is above them
split_off : (n k : ℕ) → n ≡ val (byte_at n) k + 256 ^ k * (n / 256 ^ k)
split_off n zero = omega arith
split_off n (suc k) =
    let h : n ≡ val (byte_at n) k + 256 ^ k * (n / 256 ^ k) = split_off n k in
    let d : 256 * (n / 256 ^ k / 256) + n / 256 ^ k % 256 ≡ n / 256 ^ k = div-add-mod (n / 256 ^ k) 256 in
    let q : n / 256 ^ k / 256 ≡ n / 256 ^ suc k = div-div-eq-div-mul n (256 ^ k) 256 ∙ ap (λ x. n / x) (sym (pow-suc 256 k)) in
    put n (val (byte_at n) k) (256 ^ k) (256 ^ suc k) (n / 256 ^ k) (n / 256 ^ k / 256) (n / 256 ^ k % 256) (n / 256 ^ suc k) h d q (pow-suc 256 k)
  where
    put : (n v p r a b c e : ℕ) → n ≡ v + p * a → 256 * b + c ≡ a → b ≡ e → r ≡ p * 256 → n ≡ v + p * c + r * e
    put n v p r a b c e h d q s =
        let x : p * a ≡ p * (256 * b + c) = ap (λ z. p * z) (sym d) in
        let y : r * e ≡ p * 256 * b = ap (λ z. z * e) s ∙ ap (λ z. p * 256 * z) (sym q) in
        omega arith

-- bytes that are those of a number make that number
pub from_bytes : (f : ℕ → ℕ) (n w : ℕ) → n < 256 ^ w → ((j : ℕ) → j < w → f j ≡ byte_at n j) → val f w ≡ n
from_bytes f n w lt h =
    let e : n ≡ val (byte_at n) w + 256 ^ w * (n / 256 ^ w) = split_off n w in
    let z : n / 256 ^ w ≡ 0 = div-eq_of_lt lt in
    let x : 256 ^ w * (n / 256 ^ w) ≡ 256 ^ w * 0 = ap (λ y. 256 ^ w * y) z in
    val_same f (byte_at n) w h ∙ (omega arith)
