-- Bytes beyond the highest one.
use Rattle.std.proofs.Common.{◌≡◌, ℕ, ◌-◌, ◌*◌, ◌/◌, ◌%◌, ◌^◌, ◌<◌, ◌≤◌, sym, ap, ◌∙◌, arith}
use Rattle.std.proofs.Math.Nat.{one-le-pow, div-eq_of_lt}
use Rattle.std.proofs.lemmas.Nat.{pow-add}

-- a number of 32 bits has four bytes
pub no_byte : (bits k : ℕ) → bits < 2 ^ 32 → 4 ≤ k → 0 ≡ bits / 256 ^ k % 256
no_byte bits k small far =
    let e : 256 ^ k ≡ 256 ^ 4 * 256 ^ (k - 4) = ap (λ n. 256 ^ n) (omega arith) ∙ pow-add 256 4 (k - 4) in
    let one = one-le-pow (k - 4) 256 (omega arith) in
    let large : 2 ^ 32 ≤ 256 ^ k = omega (arith, e, one) in
    let none : bits / 256 ^ k ≡ 0 = div-eq_of_lt (omega (arith, small, large)) in
    sym (ap (λ n. n % 256) none)
