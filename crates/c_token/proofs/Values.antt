-- The number that digits spell, read from the left.
use Rattle.std.proofs.Common.{ℕ, ◌+◌, ◌*◌, ◌<◌, ◌≤◌, ◌≡◌, ◌^◌, List, [], ◌∷◌, length, drop, get_or, arith, ap, drop-cons, sym, ◌∙◌, add-one}
use Rattle.std.specs.List.{fold}
use Rattle.std.proofs.Math.Nat.{mul-le-mul_left}
use Rattle.c_token.specs.Bytes.{digit_value}
use Rattle.c_token.specs.Constant.{value_in}

-- the number that digits spell behind those that spelled `value`
abbrev pub value_after : ℕ → ℕ → List ℕ → ℕ
value_after base value digits = fold (λ n d. n * base + digit_value d) value digits

pub value_more : (base value : ℕ) (digits : List ℕ) (i : ℕ) → i < length digits → value_after base value (drop i digits) ≡ value_after base (value * base + digit_value (get_or digits i 0)) (drop (i + 1) digits)
value_more base value digits i h = ap (value_after base value) (drop-cons digits i 0 h) ∙ ap (λ k. value_after base (value * base + digit_value (get_or digits i 0)) (drop k digits)) (sym (add-one i))

pub grows : (base value d : ℕ) → 1 ≤ base → value ≤ value * base + d
grows base value d h = omega (arith, mul-le-mul_left value h)

pub value_grows : (base value : ℕ) (digits : List ℕ) → 1 ≤ base → value ≤ value_after base value digits
value_grows base value [] h = omega arith
value_grows base value (d ∷ digits) h = omega (arith, grows base value (digit_value d) h, value_grows base (value * base + digit_value d) digits h)

pub value_too_large : (base value : ℕ) (digits : List ℕ) (i : ℕ) → 1 ≤ base → i < length digits → value_in base digits ≡ value_after base value (drop i digits) → 2 ^ 32 ≤ value * base + digit_value (get_or digits i 0) → 2 ^ 32 ≤ value_in base digits
value_too_large base value digits i h r e large =
    let m = value_more base value digits i r in
    omega (arith, m, e, value_grows base (value * base + digit_value (get_or digits i 0)) (drop (i + 1) digits) h)
