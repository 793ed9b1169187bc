-- What a run of `Set`s leaves in a byte.
use Rattle.std.proofs.Common.{◌≡◌, ℕ, ◌+◌, ◌<◌, List, [], ◌∷◌, ◌++◌, length, get_or, take, refl, sym, ap, ◌∙◌, Option, None}
use Rattle.std.proofs.lemmas.List.{take_more}
use Rattle.core_code.specs.View.{tree_of, trees_in}
use Rattle.core_code.specs.declared.code.Byte.{Byte}
use Rattle.core_code.specs.declared.code.Core.{Core}
use Rattle.core_code.specs.Operands.{number_behind, number_from, number_left}

number_more : (byte : Byte) (left : Option ℕ) (cs : List Core) (c : Core) → number_from byte left (trees_in (cs ++ c ∷ [])) ≡ number_behind byte (number_from byte left (trees_in cs)) (tree_of c)
number_more byte left [] c = refl
number_more byte left (d ∷ cs) c = number_more byte (number_behind byte left (tree_of d)) cs c

-- one operation more
pub number_taken : (byte : Byte) (xs : List Core) (i : ℕ) (x : Core) → i < length xs → x ≡ get_or xs i x → number_left (trees_in (take (i + 1) xs)) byte ≡ number_behind byte (number_left (trees_in (take i xs)) byte) (tree_of x)
number_taken byte xs i x lt is = ap (λ l. number_left (trees_in l) byte) (take_more xs i x lt ∙ ap (λ y. take i xs ++ y ∷ []) (sym is)) ∙ number_more byte None (take i xs) x
