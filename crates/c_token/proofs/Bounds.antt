-- How long the pieces of a text are.
use Rattle.std.proofs.Common.{ℕ, ◌+◌, ◌<◌, ◌≤◌, ◌≡◌, Bool, true, false, Some, List, [], ◌∷◌, length, get_or, arith, ap, subst, refl, cond, take, length-take}
use Rattle.std.specs.Prelude.{nat_eq, find, ◌&&◌}
use Rattle.std.specs.Cmp.Lexicographic.{pointwise}
use Rattle.std.specs.List.{prefix_len, starts_with}
use Rattle.c_token.specs.declared.token.Punct.{Punct}
use Rattle.c_token.specs.Spelling.{punct_spelling, punctuators}

pub front_counts : (p : ℕ → Bool) (xs : List ℕ) → 0 < length xs → p (get_or xs 0 0) ≡ true → 0 < prefix_len p xs
front_counts p [] h e = absurd (omega arith)
front_counts p (x ∷ xs) h e = let c : prefix_len p (x ∷ xs) ≡ 1 + prefix_len p xs = ap (λ t. cond t (1 + prefix_len p xs) 0) e in omega arith

find_step : {X : Type 0} (p : X → Bool) (y : X) (ys : List X) (x : X) → (b : Bool) → p y ≡ b → (find p ys ≡ Some x → p x ≡ true) → cond b (Some y) (find p ys) ≡ Some x → p x ≡ true
find_step p y ys x true e again found = let same : y ≡ x = cc in subst (λ z. p z ≡ true) same e
find_step p y ys x false e again found = again found

-- what is found passes
pub find_passes : {X : Type 0} (p : X → Bool) (xs : List X) (x : X) → find p xs ≡ Some x → p x ≡ true
find_passes p [] x e = cc
find_passes p (y ∷ ys) x e = find_step p y ys x (p y) refl (find_passes p ys x) e

and_right : (a b : Bool) → (a && b) ≡ true → b ≡ true
and_right true b e = e
and_right false b e = cc

-- a list that passes element by element is no longer
pub pointwise_fits : (xs ys : List ℕ) → pointwise nat_eq xs ys ≡ true → length xs ≤ length ys
pointwise_fits [] ys e = omega arith
pointwise_fits (x ∷ xs) [] e = cc
pointwise_fits (x ∷ xs) (y ∷ ys) e = let h = pointwise_fits xs ys (and_right (nat_eq x y) (pointwise nat_eq xs ys) e) in omega arith

pub starts_fits : (xs front : List ℕ) → starts_with nat_eq xs front ≡ true → length front ≤ length xs
starts_fits xs front e = let h = pointwise_fits front (take (length front) xs) e in omega (arith, length-take (length front) xs)

pub punct_fits : (text : List ℕ) (p : Punct) → find (λ p. starts_with nat_eq text (punct_spelling p)) punctuators ≡ Some p → length (punct_spelling p) ≤ length text
punct_fits text p e = starts_fits text (punct_spelling p) (find_passes (λ q. starts_with nat_eq text (punct_spelling q)) punctuators p e)
