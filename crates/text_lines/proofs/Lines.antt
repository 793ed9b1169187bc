-- Lines: a line that is written with its LF is the first line that is read.
use Rattle.std.proofs.Common.{◌≡◌, ℕ, zero, suc, ◌/◌, ◌%◌, Bool, true, false, ◌&&◌, not, List, [], ◌∷◌, ◌++◌, map, refl, sym, ap, ◌∙◌, slice_index, nat_eq, codes}
use Rattle.std.proofs.lemmas.Bool.{and_parts}
use Rattle.std.specs.List.{list_all}
use Rattle.text_lines.specs.Text.{hex_digit, hex_pairs, split_lines, without_cr, lines_of, onto_first}

-- a character that ends no line
abbrev pub is_plain : ℕ → Bool
is_plain c = not (nat_eq c 10) && not (nat_eq c 13)

not_true : (b : Bool) → not b ≡ true → b ≡ false
not_true true e = sym e
not_true false e = refl

pub split_line : (line rest : List ℕ) → list_all is_plain line ≡ true → split_lines (line ++ 10 ∷ rest) ≡ line ∷ split_lines rest
unfolding split_lines
split_line [] rest h = refl
split_line (c ∷ line) rest h =
    let parts = and_parts (is_plain c) (list_all is_plain line) h in
    let no_end = not_true (nat_eq c 10) (and_parts (not (nat_eq c 10)) (not (nat_eq c 13)) parts.0).0 in
    rw no_end (ap (onto_first c) (split_line line rest parts.1))

pub keeps_line : (line : List ℕ) → list_all is_plain line ≡ true → without_cr line ≡ line
unfolding without_cr
keeps_line [] h = refl
keeps_line (c ∷ []) h =
    let no_cr = not_true (nat_eq c 13) (and_parts (not (nat_eq c 10)) (not (nat_eq c 13)) (and_parts (is_plain c) true h).0).1 in
    rw no_cr refl
keeps_line (c ∷ d ∷ line) h = ap (λ l. c ∷ l) (keeps_line (d ∷ line) (and_parts (is_plain c) (list_all is_plain (d ∷ line)) h).1)

-- a line that is written with its LF is the first line that is read
pub first_line : (line rest : List ℕ) → list_all is_plain line ≡ true → lines_of (line ++ 10 ∷ rest) ≡ line ∷ lines_of rest
first_line line rest h = ap (map without_cr) (split_line line rest h) ∙ ap (λ l. l ∷ lines_of rest) (keeps_line line h)

-- what a test says of each number of a list, and of 0, it says at each index
at_index : (test : ℕ → Bool) (xs : List ℕ) → list_all test xs ≡ true → test 0 ≡ true → (n : ℕ) → test (slice_index xs n) ≡ true
at_index test [] h z n = z
at_index test (x ∷ xs) h z zero = (and_parts (test x) (list_all test xs) h).0
at_index test (x ∷ xs) h z (suc n) = at_index test xs (and_parts (test x) (list_all test xs) h).1 z n

pub plain_digit : (n : ℕ) → is_plain (hex_digit n) ≡ true
plain_digit n = at_index is_plain (codes "0123456789ABCDEF") refl refl n

-- pairs of digits stand within a line
pub plain_pairs : (bytes : List ℕ) → list_all is_plain (hex_pairs bytes) ≡ true
unfolding hex_pairs
plain_pairs [] = refl
plain_pairs (b ∷ bytes) = rw (plain_digit (b / 16), plain_digit (b % 16), plain_pairs bytes) refl
