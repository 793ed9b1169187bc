-- The characters of a string, read on from a place inside it.
use Rattle.std.proofs.Common.{ℕ, zero, suc, ◌+◌, ◌-◌, ◌<◌, ◌≤◌, ◌≡◌, List, [], ◌∷◌, ◌++◌, length, drop, take, get_or, arith, ap, sym, ◌∙◌, refl, eq-eqb, ne_eqb, cond, length-drop, append-nil, append_assoc, add-zero}
use Rattle.std.proofs.lemmas.List.{get_or-drop, drop_all, drop-drop, take_all}
use Rattle.c_token.specs.Constant.{element_at}
use Rattle.type_rules.specs.Slots.{characters, or_nothing}

-- `read` is what the first bytes give.
abbrev pub Reads : List ℕ → List ℕ → ℕ → Type 0
Reads text read passed = read ++ characters 0 (drop passed text) ≡ characters 0 text

passed_over : (n : ℕ) (xs : List ℕ) → characters n xs ≡ characters 0 (drop n xs)
unfolding characters
passed_over zero xs = refl
passed_over (suc n) [] = refl
passed_over (suc n) (x ∷ xs) = passed_over n xs

closes : (b : ℕ) (xs : List ℕ) → b ≡ 34 → characters 0 (b ∷ xs) ≡ []
unfolding characters
closes b xs e = ap (λ t. cond t [] ((or_nothing (element_at 34 (b ∷ xs))).0 ∷ characters ((or_nothing (element_at 34 (b ∷ xs))).1 - 1) xs)) (eq-eqb b 34 e)

goes_on : (b : ℕ) (xs : List ℕ) → (b ≡ 34 → ⊥) → characters 0 (b ∷ xs) ≡ (or_nothing (element_at 34 (b ∷ xs))).0 ∷ characters ((or_nothing (element_at 34 (b ∷ xs))).1 - 1) xs
unfolding characters
goes_on b xs e = ap (λ t. cond t [] ((or_nothing (element_at 34 (b ∷ xs))).0 ∷ characters ((or_nothing (element_at 34 (b ∷ xs))).1 - 1) xs)) (ne_eqb b 34 e)

behind : (n b : ℕ) (xs : List ℕ) → 1 ≤ n → characters (n - 1) xs ≡ characters 0 (drop n (b ∷ xs))
behind zero b xs h = absurd (omega arith)
behind (suc n) b xs h = ap (λ k. characters k xs) (let e : suc n - 1 ≡ n = omega arith in e) ∙ passed_over n xs

first_left : (text : List ℕ) (passed : ℕ) → get_or (drop passed text) 0 0 ≡ get_or text passed 0
first_left text passed = get_or-drop passed text 0 0 ∙ ap (λ k. get_or text k 0) (add-zero passed)

-- the bytes from a place on, as a slice has them
tail_whole : (n : ℕ) (xs : List ℕ) → take (length xs - n) (drop n xs) ≡ drop n xs
tail_whole n xs = take_all (length xs - n) (drop n xs) (omega (arith, length-drop n xs))

closes_in : (rest : List ℕ) → 1 ≤ length rest → get_or rest 0 0 ≡ 34 → characters 0 rest ≡ []
closes_in [] h q = absurd (omega arith)
closes_in (b ∷ xs) h q = closes b xs q

element_in : (rest : List ℕ) (x : ℕ × ℕ) → 1 ≤ length rest → (get_or rest 0 0 ≡ 34 → ⊥) → x ≡ or_nothing (element_at 34 rest) → 1 ≤ x.1 → characters 0 rest ≡ x.0 ∷ characters 0 (drop x.1 rest)
element_in [] x h q e r = absurd (omega arith)
element_in (b ∷ xs) x h q e r = goes_on b xs q ∙ ap (λ y. y.0 ∷ characters (y.1 - 1) xs) (sym e) ∙ ap (λ cs. x.0 ∷ cs) (behind x.1 b xs r)

pub ends_at_quote : (text read : List ℕ) (passed : ℕ) → Reads text read passed → passed < length text → get_or text passed 0 ≡ 34 → read ≡ characters 0 text
ends_at_quote text read passed e h q =
    sym (ap (λ cs. read ++ cs) (closes_in (drop passed text) (omega (arith, length-drop passed text)) (first_left text passed ∙ q)) ∙ append-nil read) ∙ e

pub ends_at_end : (text read : List ℕ) (passed : ℕ) → Reads text read passed → length text ≤ passed → read ≡ characters 0 text
unfolding characters
ends_at_end text read passed e h = sym (ap (λ cs. read ++ characters 0 cs) (drop_all passed text h) ∙ append-nil read) ∙ e

pub one_more : (text read : List ℕ) (passed : ℕ) (x : ℕ × ℕ) → Reads text read passed → passed < length text → (get_or text passed 0 ≡ 34 → ⊥) → x ≡ or_nothing (element_at 34 (take (length text - passed) (drop passed text))) → 1 ≤ x.1 → Reads text (read ++ x.0 ∷ []) (passed + x.1)
one_more text read passed x e h q some r =
    append_assoc read (x.0 ∷ []) (characters 0 (drop (passed + x.1) text))
    ∙ ap (λ xs. read ++ x.0 ∷ characters 0 xs) (sym (drop-drop x.1 passed text))
    ∙ ap (λ cs. read ++ cs) (sym (element_in (drop passed text) x (omega (arith, length-drop passed text)) (λ z. q (sym (first_left text passed) ∙ z)) (some ∙ ap (λ xs. or_nothing (element_at 34 xs)) (tail_whole passed text)) r))
    ∙ e
