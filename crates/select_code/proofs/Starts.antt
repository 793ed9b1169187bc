-- Where loops begin: below half of all numbers, whichever of them are open.
use Rattle.std.proofs.Common.{◌≡◌, ℕ, ◌<◌, ◌^◌, List, [], ◌∷◌, ◌++◌, Bool, true, false, if◌then◌else◌, Option, option_to_list, All, sym, subst}
use Rattle.std.proofs.lemmas.List.Elements.{All-push, All-pop}

abbrev IsSmall : ℕ → Type 0
IsSmall at = at < 2 ^ 63

pub one_entered : (xs ys : List ℕ) (x : ℕ) (done : Bool) → ys ≡ (if done then xs ++ x ∷ [] else xs) → All IsSmall xs → x < 2 ^ 63 → All IsSmall ys
one_entered xs ys x true is held small = subst (All IsSmall) (sym is) (All-push IsSmall xs x held small)
one_entered xs ys x false is held small = subst (All IsSmall) (sym is) held

pub one_left : (xs ys : List ℕ) (gone : Option ℕ) → xs ≡ ys ++ option_to_list gone → All IsSmall xs → All IsSmall ys
one_left xs ys gone is held = (All-pop IsSmall xs ys gone is held).0
