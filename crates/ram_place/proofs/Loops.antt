-- Loops that add up, or take the greatest of, what each element of a list gives. `F` is what a whole list gives.
use Rattle.std.proofs.Common.{◌≡◌, ℕ, zero, suc, ◌+◌, ◌<◌, ◌≤◌, ◌^◌, max, List, [], ◌∷◌, length, get_or, slice_index, map, drop, sym, ap, ◌∙◌, arith}
use Rattle.std.proofs.lemmas.List.{at_drop_more, drop_all}
use Rattle.c_typed.specs.Nodes.{capped}

-- what is left of a list gives what its first element gives, and the rest
pub next_of : {A : Type 0} (f : A → ℕ) (join : ℕ → ℕ → ℕ) (F : List A → ℕ) → ((x : A) (xs : List A) → F (x ∷ xs) ≡ join (f x) (F xs)) → (xs : List A) (i : ℕ) (x : A) → i < length xs → x ≡ get_or xs i x → F (drop i xs) ≡ join (f x) (F (drop (i + 1) xs))
next_of f join F step xs i x lt is = at_drop_more F xs i x lt ∙ (ap (λ y. F (y ∷ drop (i + 1) xs)) (sym is) ∙ step x (drop (i + 1) xs))

added : (now count r x left rest whole : ℕ) → left ≡ x + rest → r ≡ capped x → now ≡ capped (count + r) → capped (count + left) ≡ capped whole → capped (now + rest) ≡ capped whole
added now count r x left rest whole more made put so_far = omega (arith, more, made, put, so_far)

pub adds : {A : Type 0} (f : A → ℕ) (F : List A → ℕ) → ((x : A) (xs : List A) → F (x ∷ xs) ≡ f x + F xs) → (xs : List A) (i : ℕ) (x : A) (now count r whole : ℕ) → i < length xs → x ≡ get_or xs i x → r ≡ capped (f x) → now ≡ capped (count + r) → now < 2 ^ 64 → (count < 2 ^ 64) × (capped (count + F (drop i xs)) ≡ capped whole) → (now < 2 ^ 64) × (capped (now + F (drop (i + 1) xs)) ≡ capped whole)
adds f F step xs i x now count r whole lt is made put fits so_far = (fits, added now count r (f x) (F (drop i xs)) (F (drop (i + 1) xs)) whole (next_of f (λ a b. a + b) F step xs i x lt is) made put so_far.1)

ended : (count rest whole : ℕ) → rest ≡ 0 → count < 2 ^ 64 → capped (count + rest) ≡ capped whole → count ≡ capped whole
ended count rest whole none fits so_far = omega (arith, none, fits, so_far)

pub all_added : {A : Type 0} (F : List A → ℕ) → F [] ≡ 0 → (xs : List A) (i : ℕ) (count whole : ℕ) → length xs ≤ i → (count < 2 ^ 64) × (capped (count + F (drop i xs)) ≡ capped whole) → count ≡ capped whole
all_added F none xs i count whole past so_far = ended count (F (drop i xs)) whole (ap F (drop_all i xs past) ∙ none) so_far.0 so_far.1

greater : (now count r x left rest whole : ℕ) → left ≡ max x rest → r ≡ capped x → now ≡ max count r → capped (max count left) ≡ capped whole → capped (max now rest) ≡ capped whole
greater now count r x left rest whole more made put so_far = omega (arith, more, made, put, so_far)

pub grows : {A : Type 0} (f : A → ℕ) (F : List A → ℕ) → ((x : A) (xs : List A) → F (x ∷ xs) ≡ max (f x) (F xs)) → (xs : List A) (i : ℕ) (x : A) (now count r whole : ℕ) → i < length xs → x ≡ get_or xs i x → r ≡ capped (f x) → now ≡ max count r → now < 2 ^ 64 → (count < 2 ^ 64) × (capped (max count (F (drop i xs))) ≡ capped whole) → (now < 2 ^ 64) × (capped (max now (F (drop (i + 1) xs))) ≡ capped whole)
grows f F step xs i x now count r whole lt is made put fits so_far = (fits, greater now count r (f x) (F (drop i xs)) (F (drop (i + 1) xs)) whole (next_of f (λ a b. max a b) F step xs i x lt is) made put so_far.1)

greatest : (count rest whole : ℕ) → rest ≡ 0 → count < 2 ^ 64 → capped (max count rest) ≡ capped whole → count ≡ capped whole
greatest count rest whole none fits so_far = omega (arith, none, fits, so_far)

pub all_grown : {A : Type 0} (F : List A → ℕ) → F [] ≡ 0 → (xs : List A) (i : ℕ) (count whole : ℕ) → length xs ≤ i → (count < 2 ^ 64) × (capped (max count (F (drop i xs))) ≡ capped whole) → count ≡ capped whole
all_grown F none xs i count whole past so_far = greatest count (F (drop i xs)) whole (ap F (drop_all i xs past) ∙ none) so_far.0 so_far.1

-- what stands at an index of a list that was made from another one
pub made_at : {A B : Type 0} (f : B → ℕ) (g : A → B) (xs : List A) (i : ℕ) (x : A) → i < length xs → x ≡ get_or xs i x → slice_index (map f (map g xs)) i ≡ f (g x)
made_at f g [] i x lt is = omega (arith, lt)
made_at f g (y ∷ ys) zero x lt is = ap (λ z. f (g z)) (sym is)
made_at f g (y ∷ ys) (suc i) x lt is = made_at f g ys i x (omega (arith, lt)) is
