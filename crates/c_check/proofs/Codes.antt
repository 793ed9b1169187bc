-- A numeric escape whose number is too large at a digit is too large as a whole.
use Rattle.std.proofs.Common.{ℕ, ◌+◌, ◌*◌, ◌<◌, ◌≤◌, ◌≡◌, List, length, drop, get_or, arith}
use Rattle.c_token.specs.Bytes.{digit_value}
use Rattle.c_token.specs.Constant.{value_in}
use Rattle.c_token.proofs.Values.{value_after, value_more, value_grows}

pub code_too_large : (base value : ℕ) (digits : List ℕ) (i : ℕ) → 1 ≤ base → i < length digits → value_in base digits ≡ value_after base value (drop i digits) → 256 ≤ value * base + digit_value (get_or digits i 0) → 256 ≤ value_in base digits
code_too_large base value digits i h r e large =
    let m = value_more base value digits i r in
    omega (arith, m, e, value_grows base (value * base + digit_value (get_or digits i 0)) (drop (i + 1) digits) h)
