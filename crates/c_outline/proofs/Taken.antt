-- A list whose last one is taken.
use Rattle.std.proofs.Common.{◌≡◌, ℕ, ◌<◌, false, List, [], ◌∷◌, ◌++◌, length, map, refl, sym, ap, ◌∙◌, zero, suc, arith}
use Rattle.std.specs.Prelude.{◌==◌}
use Rattle.std.proofs.lemmas.Bool.{eqb-false}

map_push : {A B : Type 0} (f : A → B) (ys : List A) (x : A) → map f (ys ++ x ∷ []) ≡ map f ys ++ f x ∷ []
map_push f [] x = refl
map_push f (y ∷ ys) x = ap (λ l. f y ∷ l) (map_push f ys x)

pub popped : {A B : Type 0} (f : A → B) (xs ys : List A) (x : A) → xs ≡ ys ++ x ∷ [] → map f xs ≡ map f ys ++ f x ∷ []
popped f xs ys x e = ap (map f) e ∙ map_push f ys x

pub none_left : {A B : Type 0} (f : A → B) (xs : List A) → length xs ≡ 0 → map f xs ≡ []
none_left f [] e = refl
none_left f (x ∷ xs) e = absurd (omega (arith, e))

pub some_left : {A B : Type 0} (f : A → B) (xs : List A) → 0 < length xs → 0 < length (map f xs)
some_left f [] lt = lt
some_left f (x ∷ xs) lt = omega arith

pub positive : (n : ℕ) → false ≡ (n == 0) → 0 < n
positive zero e = absurd (eqb-false 0 0 (sym e) refl)
positive (suc n) e = omega arith

pub length_mapped : {A B : Type 0} (f : A → B) (xs : List A) → length (map f xs) ≡ length xs
length_mapped f [] = refl
length_mapped f (x ∷ xs) = ap suc (length_mapped f xs)
