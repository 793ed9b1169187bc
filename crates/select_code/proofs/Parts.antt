-- Lists of operations, one more at a time, and from the back.
use Rattle.std.proofs.Common.{◌≡◌, ℕ, zero, suc, ◌+◌, ◌-◌, ◌<◌, ◌≤◌, List, [], ◌∷◌, ◌++◌, ◌&&◌, true, false, cond, ◌==◌, Some, None, option_map, length, get_or, take, reverse, slice_get, refl, sym, ap, ◌∙◌, arith}
use Rattle.std.proofs.lemmas.List.{take_more, get_or-reverse, length-reverse, reverse-append}
use Rattle.std.proofs.lemmas.Option.{slice_get-get_or, slice_get_past}
use Rattle.std.proofs.lemmas.Bool.{ne_eqb}
use Rattle.core_code.specs.declared.code.Core.{Core}
use Rattle.core_code.specs.Tree.{Many, trees_of}
use Rattle.core_code.specs.View.{tree_of, trees_in}
use Rattle.select_code.specs.Sized.{is_byte_sized, are_byte_sized}
use Rattle.select_code.specs.Selected.{is_none, is_exit, jump_target, only_of, short_list}

both_left : (a b c : _) → (a && (b && c)) ≡ ((a && b) && c)
both_left true b c = refl
both_left false b c = refl

both_true : (a : _) → (a && true) ≡ (true && a)
both_true true = refl
both_true false = refl

sized_more : (n : ℕ) (xs : List Core) (x : Core) → are_byte_sized n (trees_of (trees_in (xs ++ x ∷ []))) ≡ (are_byte_sized n (trees_of (trees_in xs)) && is_byte_sized n (tree_of x))
sized_more n [] x = both_true (is_byte_sized n (tree_of x))
sized_more n (y ∷ xs) x = ap (λ b. is_byte_sized n (tree_of y) && b) (sized_more n xs x) ∙ both_left (is_byte_sized n (tree_of y)) (are_byte_sized n (trees_of (trees_in xs))) (is_byte_sized n (tree_of x))

-- one part more
pub sized_taken : (n : ℕ) (xs : List Core) (i : ℕ) (x : Core) → i < length xs → x ≡ get_or xs i x → are_byte_sized n (trees_of (trees_in (take (i + 1) xs))) ≡ (are_byte_sized n (trees_of (trees_in (take i xs))) && is_byte_sized n (tree_of x))
sized_taken n xs i x lt is = ap (λ l. are_byte_sized n (trees_of (trees_in l))) (take_more xs i x lt ∙ ap (λ y. take i xs ++ y ∷ []) (sym is)) ∙ sized_more n (take i xs) x

-- no parts
pub none_of : (xs : List Core) (n : ℕ) → n ≡ length xs → (n == 0) ≡ is_none (trees_of (trees_in xs))
none_of [] n e = rw e refl
none_of (x ∷ xs) n e = ne_eqb n 0 (λ z. omega (arith, e, z))

-- one part, and any other number of parts
pub one_of : (xs : List Core) (x : Core) → length xs ≡ 1 → x ≡ get_or xs 0 x → tree_of x ≡ only_of (Many (trees_of (trees_in xs)))
one_of [] x e is = absurd (omega (arith, e))
one_of (y ∷ []) x e is = ap tree_of is
one_of (y ∷ z ∷ xs) x e is = absurd (omega (arith, e))

pub not_one : (loops : List ℕ) (xs : List Core) → (length xs ≡ 1 → ⊥) → None ≡ jump_target loops (only_of (Many (trees_of (trees_in xs))))
not_one loops [] h = refl
not_one loops (y ∷ []) h = absurd (h refl)
not_one loops (y ∷ z ∷ xs) h = refl

-- counted from the back
pub from_back : (xs : List ℕ) (k x : ℕ) → k < length xs → x ≡ get_or xs (length xs - 1 - k) x → Some x ≡ slice_get (reverse xs) k
from_back xs k x lt is = ap (λ v. Some v) (is ∙ sym (get_or-reverse xs k x lt)) ∙ sym (slice_get-get_or (reverse xs) k x (omega (arith, lt, length-reverse xs)))

pub past_back : (xs : List ℕ) (k : ℕ) → length xs ≤ k → None ≡ slice_get (reverse xs) k
past_back xs k le = sym (slice_get_past (reverse xs) k (omega (arith, le, length-reverse xs)))

-- the loop that was entered last is the first one
pub one_inside : (xs : List ℕ) (x : ℕ) → reverse (xs ++ x ∷ []) ≡ x ∷ reverse xs
one_inside xs x = reverse-append xs (x ∷ [])

one_longer : (b : _) (n : ℕ) → option_map (λ count. suc count) (cond b (Some n) None) ≡ cond b (Some (suc n)) None
one_longer true n = refl
one_longer false n = refl

pub short_none : (xs : List Core) → length xs ≡ 0 → None ≡ short_list (trees_in xs)
short_none [] e = refl
short_none (x ∷ xs) e = absurd (omega (arith, e))

-- by the last of some operations
pub short_by_last : (xs : List Core) (n : ℕ) (x : Core) → length xs ≡ suc n → x ≡ get_or xs n x → short_list (trees_in xs) ≡ cond (is_exit (tree_of x)) (Some n) None
short_by_last [] n x e is = absurd (omega (arith, e))
short_by_last (y ∷ []) zero x e is = ap (λ v. cond (is_exit (tree_of v)) (Some 0) None) (sym is)
short_by_last (y ∷ []) (suc n) x e is = absurd (omega (arith, e))
short_by_last (y ∷ z ∷ xs) zero x e is = absurd (omega (arith, e))
short_by_last (y ∷ z ∷ xs) (suc n) x e is =
    ap (λ s. option_map (λ count. suc count) s) (short_by_last (z ∷ xs) n x (omega (arith, e)) is) ∙ one_longer (is_exit (tree_of x)) n
