-- The kinds of symbols that stand one behind the other.
use Rattle.std.proofs.Common.{◌≡◌, ℕ, ◌+◌, ◌<◌, List, [], ◌∷◌, ◌++◌, length, drop, map, refl, sym, ap, ◌∙◌, append_assoc}
use Rattle.std.proofs.Math.ListN.{get_or}
use Rattle.std.proofs.lemmas.List.{drop_more}
use Rattle.c_token.specs.declared.token.TokKind.{TokKind}
use Rattle.c_nodes.specs.Words.{Symbols, kinds_of, flat}

pub kinds_append : (a b : Symbols) → kinds_of (a ++ b) ≡ kinds_of a ++ kinds_of b
kinds_append [] b = refl
kinds_append (s ∷ a) b = ap (λ (l : List TokKind). s.kind ∷ l) (kinds_append a b)

-- what is put goes from what is still to be put
pub behind : (out now total : List TokKind) (whole a b : Symbols) → whole ≡ a ++ b → now ≡ out ++ kinds_of a → out ++ kinds_of whole ≡ total → now ++ kinds_of b ≡ total
behind out now total whole a b split put so_far =
    ap (λ (l : List TokKind). l ++ kinds_of b) put ∙ append_assoc out (kinds_of a) (kinds_of b) ∙ ap (λ (l : List TokKind). out ++ l) (sym (kinds_append a b) ∙ ap kinds_of (sym split)) ∙ so_far

one_apart : {A : Type 0} (f : A → Symbols) (xs : List A) (i : ℕ) (x : A) → i < length xs → x ≡ get_or xs i x → flat (map f (drop i xs)) ≡ f x ++ flat (map f (drop (i + 1) xs))
one_apart f xs i x lt is = ap (λ l. flat (map f l)) (drop_more xs i x lt) ∙ ap (λ y. f y ++ flat (map f (drop (i + 1) xs))) (sym is)

-- one part of a list more is put
pub one_more : {A : Type 0} (f : A → Symbols) (xs : List A) (i : ℕ) (x : A) (out now total : List TokKind) → i < length xs → x ≡ get_or xs i x → now ≡ out ++ kinds_of (f x) → out ++ kinds_of (flat (map f (drop i xs))) ≡ total → now ++ kinds_of (flat (map f (drop (i + 1) xs))) ≡ total
one_more f xs i x out now total lt is put so_far = behind out now total (flat (map f (drop i xs))) (f x) (flat (map f (drop (i + 1) xs))) (one_apart f xs i x lt is) put so_far

-- the same with a tail behind the list
pub one_more_before : {A : Type 0} (f : A → Symbols) (xs : List A) (i : ℕ) (x : A) (tail : Symbols) (out now total : List TokKind) → i < length xs → x ≡ get_or xs i x → now ≡ out ++ kinds_of (f x) → out ++ kinds_of (flat (map f (drop i xs)) ++ tail) ≡ total → now ++ kinds_of (flat (map f (drop (i + 1) xs)) ++ tail) ≡ total
one_more_before f xs i x tail out now total lt is put so_far =
    let rest = flat (map f (drop (i + 1) xs)) in
    behind out now total (flat (map f (drop i xs)) ++ tail) (f x) (rest ++ tail) (ap (λ (l : Symbols). l ++ tail) (one_apart f xs i x lt is) ∙ append_assoc (f x) rest tail) put so_far
