-- Where the first line of a text ends.
use Rattle.std.proofs.Common.{◌≡◌, ℕ, suc, ◌+◌, ◌-◌, ◌<◌, ◌&&◌, Bool, true, false, List, [], ◌∷◌, length, take, drop, map, refl, sym, ap, ◌∙◌, arith, nat_eq, add-one}
use Rattle.std.specs.Prelude.{if◌then◌else◌}
use Rattle.std.specs.Cmp.Lexicographic.{pointwise}
use Rattle.std.proofs.Math.Seq.{take-length}
use Rattle.text_lines.specs.Text.{lines_of, split_lines, without_cr, onto_first}
use Rattle.text_lines.specs.Front.{line_length}

split_first : (c : ℕ) (text : List ℕ) → split_lines (c ∷ text) ≡ take (line_length (c ∷ text)) (c ∷ text) ∷ split_lines (drop 1 (drop (line_length (c ∷ text)) (c ∷ text)))
unfolding split_lines line_length
split_first c [] = by_test (nat_eq c 10)
  where
    by_test : (b : Bool) → (if b then [] ∷ [] else (c ∷ []) ∷ []) ≡ take (if b then 0 else 1) (c ∷ []) ∷ split_lines (drop 1 (drop (if b then 0 else 1) (c ∷ [])))
    by_test true = refl
    by_test false = refl
split_first c (d ∷ text) = by_test (split_first d text) (nat_eq c 10)
  where
    n : ℕ
    n = line_length (d ∷ text)

    by_test : split_lines (d ∷ text) ≡ take n (d ∷ text) ∷ split_lines (drop 1 (drop n (d ∷ text))) → (b : Bool)
        → (if b then [] ∷ split_lines (d ∷ text) else onto_first c (split_lines (d ∷ text)))
        ≡ take (if b then 0 else n + 1) (c ∷ d ∷ text) ∷ split_lines (drop 1 (drop (if b then 0 else n + 1) (c ∷ d ∷ text)))
    by_test later true = refl
    by_test later false = ap (onto_first c) later ∙ ap (λ k. take k (c ∷ d ∷ text) ∷ split_lines (drop 1 (drop k (c ∷ d ∷ text)))) (sym (add-one n))

pub cr_at_end : (line : List ℕ) → without_cr line ≡ (if pointwise nat_eq (drop (length line - 1) line) (13 ∷ []) then take (length line - 1) line else line)
unfolding without_cr
cr_at_end [] = refl
cr_at_end (c ∷ []) = by_test (nat_eq c 13)
  where
    by_test : (b : Bool) → (if b then [] else c ∷ []) ≡ (if b && true then [] else c ∷ [])
    by_test true = refl
    by_test false = refl
cr_at_end (c ∷ d ∷ line) =
    let one : length (d ∷ line) - 1 ≡ length line = omega arith in
    let two : length (c ∷ d ∷ line) - 1 ≡ suc (length line) = omega arith in
    ap (λ l. c ∷ l) (cr_at_end (d ∷ line))
    ∙ ap (λ n. c ∷ (if pointwise nat_eq (drop n (d ∷ line)) (13 ∷ []) then take n (d ∷ line) else d ∷ line)) one
    ∙ by_test (pointwise nat_eq (drop (length line) (d ∷ line)) (13 ∷ []))
    ∙ ap (λ n. if pointwise nat_eq (drop n (c ∷ d ∷ line)) (13 ∷ []) then take n (c ∷ d ∷ line) else c ∷ d ∷ line) (sym two)
  where
    by_test : (b : Bool) → c ∷ (if b then take (length line) (d ∷ line) else d ∷ line) ≡ (if b then c ∷ take (length line) (d ∷ line) else c ∷ d ∷ line)
    by_test true = refl
    by_test false = refl

pub rest_whole : (tail : List ℕ) → take (length tail - 1) (drop 1 tail) ≡ drop 1 tail
rest_whole [] = refl
rest_whole (c ∷ tail) =
    let one : length (c ∷ tail) - 1 ≡ length tail = omega arith in
    ap (λ n. take n tail) one ∙ take-length tail

pub first_of : (bytes : List ℕ) → 0 < length bytes → lines_of bytes ≡ without_cr (take (line_length bytes) bytes) ∷ lines_of (drop 1 (drop (line_length bytes) bytes))
first_of [] h = absurd (omega arith)
first_of (c ∷ text) h = ap (map without_cr) (split_first c text)
