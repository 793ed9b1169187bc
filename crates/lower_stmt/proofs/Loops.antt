-- Loops that add what each element of a list gives. `F` is what a whole list gives.
use Rattle.std.proofs.Common.{◌≡◌, ℕ, zero, suc, ◌+◌, ◌<◌, ◌≤◌, List, [], ◌∷◌, ◌++◌, length, get_or, slice_index, drop, map, sym, ap, ◌∙◌, append_assoc, arith}
use Rattle.std.proofs.lemmas.List.{at_drop_more, drop_all, append-nil}

-- what is left of a list gives what its first element gives, and the rest
pub next_of : {A : Type 0} {B : Type 0} (f : A → List B) (F : List A → List B) → ((x : A) (xs : List A) → F (x ∷ xs) ≡ f x ++ F xs) → (xs : List A) (i : ℕ) (x : A) → i < length xs → x ≡ get_or xs i x → F (drop i xs) ≡ f x ++ F (drop (i + 1) xs)
next_of f F step xs i x lt is = at_drop_more F xs i x lt ∙ (ap (λ y. F (y ∷ drop (i + 1) xs)) (sym is) ∙ step x (drop (i + 1) xs))

pub appended : {A : Type 0} {B : Type 0} (f : A → List B) (F : List A → List B) → ((x : A) (xs : List A) → F (x ∷ xs) ≡ f x ++ F xs) → (xs : List A) (i : ℕ) (x : A) (before now whole : List B) → i < length xs → x ≡ get_or xs i x → now ≡ before ++ f x → before ++ F (drop i xs) ≡ whole → now ++ F (drop (i + 1) xs) ≡ whole
appended f F step xs i x before now whole lt is put so_far =
    ap (λ t. t ++ F (drop (i + 1) xs)) put ∙ (append_assoc before (f x) (F (drop (i + 1) xs)) ∙ (ap (λ t. before ++ t) (sym (next_of f F step xs i x lt is)) ∙ so_far))

pub all_appended : {A : Type 0} {B : Type 0} (F : List A → List B) → F [] ≡ [] → (xs : List A) (i : ℕ) (now whole : List B) → length xs ≤ i → now ++ F (drop i xs) ≡ whole → now ≡ whole
all_appended F none xs i now whole past so_far = sym (append-nil now) ∙ (ap (λ t. now ++ t) (sym (ap F (drop_all i xs past) ∙ none)) ∙ so_far)

-- what stands at an index of a list that was made from another one
pub made_at : {A B : Type 0} (f : B → ℕ) (g : A → B) (xs : List A) (i : ℕ) (x : A) → i < length xs → x ≡ get_or xs i x → slice_index (map f (map g xs)) i ≡ f (g x)
made_at f g [] i x lt is = omega (arith, lt)
made_at f g (y ∷ ys) zero x lt is = ap (λ z. f (g z)) (sym is)
made_at f g (y ∷ ys) (suc i) x lt is = made_at f g ys i x (omega (arith, lt)) is
