use Rattle.std.proofs.Common.{◌≡◌, ℕ, ◌<◌, ◌≤◌, ◌^◌, ◌/◌, ◌%◌, arith, sym, ap}
use Rattle.std.proofs.Math.Nat.{div-eq_of_lt, pow-le-pow_right}
use Rattle.src_memory.proofs.accesses.bit_of.Goals as goal

no_bit : (x b : ℕ) → x < 256 → 8 ≤ b → 0 ≡ x / 2 ^ b % 2
no_bit x b h l =
    let p : 2 ^ 8 ≤ 2 ^ b = pow-le-pow_right {n = 2} (omega arith) l in
    let q : x < 2 ^ b = omega (arith, p) in
    ap (λ n. n % 2) (sym (div-eq_of_lt q))

pub returns-else-bit-lt8 : goal.returns-else-bit-lt8
returns-else-bit-lt8 c = no_bit c.args.value c.args.bit (omega arith) (omega arith)
