-- Loops that put what each element of a list gives behind what is there. `F` is what a whole list gives.
use Rattle.std.proofs.Common.{◌≡◌, ℕ, ◌+◌, ◌<◌, ◌≤◌, List, [], ◌∷◌, ◌++◌, length, get_or, take, drop, refl, sym, ap, ◌∙◌, append_assoc, arith}
use Rattle.std.proofs.lemmas.List.{at_drop_more, drop_all, length-append, take_all}

-- what one element gives is put behind the rest
pub puts : {A B : Type 0} (f : A → List B) (F : List A → List B) → ((x : A) (xs : List A) → F (x ∷ xs) ≡ f x ++ F xs) → (xs : List A) (i : ℕ) (x : A) (now so_far whole : List B) → i < length xs → x ≡ get_or xs i x → now ≡ so_far ++ f x → so_far ++ F (drop i xs) ≡ whole → now ++ F (drop (i + 1) xs) ≡ whole
puts f F step xs i x now so_far whole lt is put all =
    let rest = drop (i + 1) xs in
    ap (λ l. l ++ F rest) put ∙ (append_assoc so_far (f x) (F rest) ∙ (ap (λ l. so_far ++ l) (sym (at_drop_more F xs i x lt ∙ (ap (λ y. F (y ∷ rest)) (sym is) ∙ step x rest))) ∙ all))

pub append_none : {B : Type 0} (xs : List B) → xs ++ [] ≡ xs
append_none [] = refl
append_none (x ∷ xs) = ap (λ l. x ∷ l) (append_none xs)

pub all_put : {A B : Type 0} (F : List A → List B) → F [] ≡ [] → (xs : List A) (i : ℕ) (so_far whole : List B) → length xs ≤ i → so_far ++ F (drop i xs) ≡ whole → so_far ≡ whole
all_put F none xs i so_far whole past all = sym (append_none so_far) ∙ (ap (λ l. so_far ++ l) (sym (ap F (drop_all i xs past) ∙ none)) ∙ all)

-- what a slice of all of a list is written back to
pub written_back : {A : Type 0} (items new : List A) (count : ℕ) → count ≡ length items → length new ≡ length items → take count (new ++ drop (length new) items) ≡ new
written_back {A} items new count is size =
    let none : List A = [] in
    let e : drop (length new) items ≡ none = drop_all (length new) items (omega (arith, size)) in
    let n : length (new ++ none) ≤ count = omega (arith, size, is, length-append new none) in
    ap (λ (l : List A). take count (new ++ l)) e ∙ (take_all count (new ++ none) n ∙ append_none new)
