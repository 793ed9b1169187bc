-- Digits: what is written as pairs reads back.
use Rattle.std.proofs.Common.{◌≡◌, ℕ, ◌+◌, ◌*◌, ◌/◌, ◌%◌, ◌<◌, true, Option, Some, None, unwrap_or, List, [], ◌∷◌, ◌++◌, refl, ap, arith, nat_eq}
use Rattle.std.proofs.lemmas.Bool.{agree_below_at, eqb-true}
use Rattle.text_lines.specs.Text.{hex_digit, hex_pairs, digit_value, bytes_of}

pub pairs_append : (xs ys : List ℕ) → hex_pairs (xs ++ ys) ≡ hex_pairs xs ++ hex_pairs ys
unfolding hex_pairs
pairs_append [] ys = refl
pairs_append (b ∷ xs) ys = ap (λ t. hex_digit (b / 16) ∷ hex_digit (b % 16) ∷ t) (pairs_append xs ys)

some_of : (o : Option ℕ) (n : ℕ) → nat_eq (unwrap_or o 99) n ≡ true → n < 16 → o ≡ Some n
some_of (Some m) n e h = ap Some (eqb-true m n e)
some_of None n e h = let l : 99 ≡ n = eqb-true 99 n e in absurd (omega arith)

-- a digit that is written is read as its number
pub digit_back : (n : ℕ) → n < 16 → digit_value (hex_digit n) ≡ Some n
digit_back n h = some_of (digit_value (hex_digit n)) n (agree_below_at (λ n. nat_eq (unwrap_or (digit_value (hex_digit n)) 99) n) (λ n. true) 16 n refl h) h

-- each number of a list is a byte
abbrev pub AreBytes : List ℕ → Type 0
AreBytes [] = Unit {0}
AreBytes (b ∷ bytes) = (b < 256) × AreBytes bytes

-- bytes that are written as pairs are read as they were
pub pairs_back : (bytes : List ℕ) → AreBytes bytes → bytes_of (hex_pairs bytes) ≡ Some bytes
unfolding hex_pairs bytes_of
pairs_back [] h = refl
pairs_back (b ∷ bytes) h =
    let small = h.0 in
    let high = digit_back (b / 16) (omega arith) in
    let low = digit_back (b % 16) (omega arith) in
    let whole : 16 * (b / 16) + b % 16 ≡ b = omega arith in
    rw (high, low, pairs_back bytes h.1) (ap (λ n. Some (n ∷ bytes)) whole)
