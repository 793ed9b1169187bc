-- Reading a string on from a place inside it.
use Rattle.std.proofs.Common.{ℕ, zero, suc, ◌+◌, ◌-◌, ◌<◌, ◌≤◌, ◌≡◌, Option, Some, None, List, [], ◌∷◌, length, drop, arith, ap, sym, ◌∙◌, refl, add-one, eq-eqb, cond}
use Rattle.std.proofs.Common.{ne_eqb, get_or, take, length-drop, add-zero}
use Rattle.std.proofs.lemmas.List.{get_or-drop, drop_all, drop-drop, take_all}
use Rattle.c_token.specs.Constant.{string_end, element_at, ◌>>=◌}

-- what is left gives the rest of the length
abbrev pub further : ℕ → Option ℕ → Option ℕ
further n None = None
further n (Some m) = Some (m + n)

pub further_further : (m n : ℕ) (x : Option ℕ) → further m (further n x) ≡ further (n + m) x
further_further m n None = refl
further_further m n (Some k) = ap Some (omega arith)

pub further_none : (x : Option ℕ) → further 0 x ≡ x
further_none None = refl
further_none (Some k) = ap Some (omega arith)

pub one_more : (n : ℕ) (x : Option ℕ) → (further n x >>= λ m. Some (m + 1)) ≡ further (n + 1) x
one_more n None = refl
one_more n (Some m) = ap Some (omega arith)

-- bytes that were read already only count
pub passed_over : (n : ℕ) (xs : List ℕ) → string_end n xs ≡ further n (string_end 0 (drop n xs))
unfolding string_end
passed_over zero xs = sym (further_none (string_end 0 xs))
passed_over (suc n) [] = refl
passed_over (suc n) (x ∷ xs) = ap (λ e. e >>= λ m. Some (m + 1)) (passed_over n xs) ∙ one_more n (string_end 0 (drop n xs)) ∙ ap (λ k. further k (string_end 0 (drop n xs))) (add-one n)

pub string_closes : (b : ℕ) (xs : List ℕ) → b ≡ 34 → string_end 0 (b ∷ xs) ≡ Some 1
unfolding string_end
string_closes b xs e = ap (λ t. cond t (Some 1) (element_at 34 (b ∷ xs) >>= λ x. string_end (x.1 - 1) xs >>= λ n. Some (n + 1))) (eq-eqb b 34 e)

pub string_goes_on : (b : ℕ) (xs : List ℕ) → (b ≡ 34 → ⊥) → string_end 0 (b ∷ xs) ≡ (element_at 34 (b ∷ xs) >>= λ x. string_end (x.1 - 1) xs >>= λ n. Some (n + 1))
unfolding string_end
string_goes_on b xs e = ap (λ t. cond t (Some 1) (element_at 34 (b ∷ xs) >>= λ x. string_end (x.1 - 1) xs >>= λ n. Some (n + 1))) (ne_eqb b 34 e)

pub after_element : (n : ℕ) (b : ℕ) (xs : List ℕ) → 1 ≤ n → (string_end (n - 1) xs >>= λ m. Some (m + 1)) ≡ further n (string_end 0 (drop n (b ∷ xs)))
after_element zero b xs h = absurd (omega arith)
after_element (suc n) b xs h =
    ap (λ k. string_end k xs >>= λ m. Some (m + 1)) (let e : suc n - 1 ≡ n = omega arith in e)
    ∙ ap (λ e. e >>= λ m. Some (m + 1)) (passed_over n xs) ∙ one_more n (string_end 0 (drop n xs)) ∙ ap (λ k. further k (string_end 0 (drop n xs))) (add-one n)

pub element_missing : (b : ℕ) (xs : List ℕ) → (b ≡ 34 → ⊥) → element_at 34 (b ∷ xs) ≡ None → string_end 0 (b ∷ xs) ≡ None
element_missing b xs e none = string_goes_on b xs e ∙ ap (λ x. x >>= λ y. string_end (y.1 - 1) xs >>= λ n. Some (n + 1)) none

pub element_read : (b : ℕ) (xs : List ℕ) (v n : ℕ) → (b ≡ 34 → ⊥) → element_at 34 (b ∷ xs) ≡ Some (v, n) → 1 ≤ n → string_end 0 (b ∷ xs) ≡ further n (string_end 0 (drop n (b ∷ xs)))
element_read b xs v n e some h = string_goes_on b xs e ∙ ap (λ x. x >>= λ y. string_end (y.1 - 1) xs >>= λ m. Some (m + 1)) some ∙ after_element n b xs h

-- The loop's steps, where `passed` bytes of the text were read.

abbrev pub Reads : List ℕ → ℕ → Type 0
Reads text passed = string_end 0 text ≡ further passed (string_end 0 (drop passed text))

pub ends_in : (text rest : List ℕ) (passed : ℕ) → string_end 0 text ≡ further passed (string_end 0 rest) → 1 ≤ length rest → get_or rest 0 0 ≡ 34 → Some (passed + 1) ≡ string_end 0 text
ends_in text [] passed e h q = absurd (omega arith)
ends_in text (b ∷ xs) passed e h q = sym (e ∙ ap (further passed) (string_closes b xs q) ∙ ap Some (omega arith))

pub breaks_in : (text rest : List ℕ) (passed : ℕ) → string_end 0 text ≡ further passed (string_end 0 rest) → 1 ≤ length rest → (get_or rest 0 0 ≡ 34 → ⊥) → element_at 34 rest ≡ None → None ≡ string_end 0 text
breaks_in text [] passed e h q none = absurd (omega arith)
breaks_in text (b ∷ xs) passed e h q none = sym (e ∙ ap (further passed) (element_missing b xs q none))

pub goes_on_in : (text rest : List ℕ) (passed : ℕ) (x : ℕ × ℕ) → string_end 0 text ≡ further passed (string_end 0 rest) → 1 ≤ length rest → (get_or rest 0 0 ≡ 34 → ⊥) → element_at 34 rest ≡ Some x → 1 ≤ x.1 → string_end 0 text ≡ further (passed + x.1) (string_end 0 (drop x.1 rest))
goes_on_in text [] passed x e h q some r = absurd (omega arith)
goes_on_in text (b ∷ xs) passed x e h q some r =
    e ∙ ap (further passed) (element_read b xs x.0 x.1 q some r) ∙ further_further passed x.1 (string_end 0 (drop x.1 (b ∷ xs))) ∙ ap (λ k. further k (string_end 0 (drop x.1 (b ∷ xs)))) (omega arith)

first_left : (text : List ℕ) (passed : ℕ) → get_or (drop passed text) 0 0 ≡ get_or text passed 0
first_left text passed = get_or-drop passed text 0 0 ∙ ap (λ k. get_or text k 0) (add-zero passed)

pub ends_here : (text : List ℕ) (passed : ℕ) → Reads text passed → passed < length text → get_or text passed 0 ≡ 34 → Some (passed + 1) ≡ string_end 0 text
ends_here text passed e h q = ends_in text (drop passed text) passed e (omega (arith, length-drop passed text)) (first_left text passed ∙ q)

pub ends_nowhere : (text : List ℕ) (passed : ℕ) → Reads text passed → length text ≤ passed → None ≡ string_end 0 text
unfolding string_end
ends_nowhere text passed e h = sym (e ∙ ap (λ xs. further passed (string_end 0 xs)) (drop_all passed text h))

-- the bytes from a place on, as a slice has them
pub tail_whole : (n : ℕ) (xs : List ℕ) → take (length xs - n) (drop n xs) ≡ drop n xs
tail_whole n xs = take_all (length xs - n) (drop n xs) (omega (arith, length-drop n xs))

pub breaks_here : (text : List ℕ) (passed : ℕ) → Reads text passed → passed < length text → (get_or text passed 0 ≡ 34 → ⊥) → None ≡ element_at 34 (take (length text - passed) (drop passed text)) → None ≡ string_end 0 text
breaks_here text passed e h q none = breaks_in text (drop passed text) passed e (omega (arith, length-drop passed text)) (λ z. q (sym (first_left text passed) ∙ z)) (ap (element_at 34) (sym (tail_whole passed text)) ∙ sym none)

pub goes_on : (text : List ℕ) (passed : ℕ) (x : ℕ × ℕ) → Reads text passed → passed < length text → (get_or text passed 0 ≡ 34 → ⊥) → Some x ≡ element_at 34 (take (length text - passed) (drop passed text)) → 1 ≤ x.1 → Reads text (passed + x.1)
goes_on text passed x e h q some r = goes_on_in text (drop passed text) passed x e (omega (arith, length-drop passed text)) (λ z. q (sym (first_left text passed) ∙ z)) (ap (element_at 34) (sym (tail_whole passed text)) ∙ sym some) r ∙ ap (λ xs. further (passed + x.1) (string_end 0 xs)) (drop-drop x.1 passed text)
