-- Different numbers below a bound are at most so many; so a chain of calls is no longer than its graph, where nothing
-- reaches itself.
use Rattle.std.proofs.Common.{◌≡◌, ℕ, ◌+◌, ◌*◌, ◌<◌, ◌≤◌, ◌⊎◌, inl, inr, Bool, true, false, not, cond, List, [], ◌∷◌, length, get_or, set, replicate, suc, refl, sym, ap, ◌∙◌, subst, arith}
use Rattle.std.specs.List.{Contains}
use Rattle.std.proofs.lemmas.Bool.{cases_eq, cases_Bool}
use Rattle.std.proofs.lemmas.List.{get_or-set_other, length-set, length-replicate}
use Rattle.std.proofs.lemmas.List.Elements.{Contains-append_left, Contains-append_right, Contains-append_cases, Contains-push}
use Rattle.std.proofs.lemmas.List.Folds.{sum_by-replicate}
use Rattle.c_typed.specs.Chains.{IsChain, Reaches}
use Rattle.call_graph.specs.Levels.{IsAcyclic}
use Rattle.call_graph.specs.Search.{unmarked}
use Rattle.call_graph.proofs.Marking.{in_none, one_is, one_less}
use Rattle.call_graph.proofs.Reaching.{not_yet}
use Rattle.call_graph.proofs.Ways.{caller_within, reaches_on}

-- no element stands in the rest
Apart : List ℕ → Type 0
Apart [] = Unit {0}
Apart (x ∷ xs) = (Contains xs x → ⊥) × Apart xs

-- marks at these numbers
marks_at : ℕ → List ℕ → List Bool
marks_at n [] = replicate n false
marks_at n (x ∷ xs) = set (marks_at n xs) x true

length-marks : (n : ℕ) (xs : List ℕ) → length (marks_at n xs) ≡ n
unfolding marks_at
length-marks n [] = length-replicate n false
length-marks n (x ∷ xs) = length-set (marks_at n xs) x true ∙ length-marks n xs

pub first_or_rest : (x y : ℕ) (xs : List ℕ) → Contains (x ∷ xs) y → (x ≡ y) ⊎ Contains xs y
first_or_rest x y xs c = elim (Contains-append_cases (x ∷ []) xs y c) [ inl o ↦ inl (one_is x y o) | inr r ↦ inr r ]

is_among : (n g : ℕ) (xs : List ℕ) → get_or (marks_at n xs) g false ≡ true → Contains xs g
unfolding marks_at
is_among n g [] h = absurd (not_yet n g h)
is_among n g (x ∷ xs) h = elim (cases_eq g x) [
  | inl e ↦ Contains-append_left (x ∷ []) xs g (subst (λ (k : ℕ). Contains (x ∷ []) k) (sym e) (Contains-push [] x))
  | inr ne ↦ Contains-append_right (x ∷ []) xs g (is_among n g xs (sym (get_or-set_other (marks_at n xs) x g true false ne) ∙ h))
]

all_unmarked : (n : ℕ) → unmarked (replicate n false) ≡ n
all_unmarked n = let e : unmarked (replicate n false) ≡ n * 1 = sum_by-replicate (λ (b : Bool). cond (not b) 1 0) n false in omega (arith, e)

counted : (n : ℕ) (xs : List ℕ) → Apart xs → ((x : ℕ) → Contains xs x → x < n) → unmarked (marks_at n xs) + length xs ≡ n
unfolding marks_at Apart
counted n [] a below = let e = all_unmarked n in omega (arith, e)
counted n (x ∷ xs) a below =
    let here : x < n = below x (Contains-append_left (x ∷ []) xs x (Contains-push [] x)) in
    let rest : unmarked (marks_at n xs) + length xs ≡ n = counted n xs a.1 (λ y c. below y (Contains-append_right (x ∷ []) xs y c)) in
    let size : length (marks_at n xs) ≡ n = length-marks n xs in
    let free : get_or (marks_at n xs) x false ≡ false = elim (cases_Bool (get_or (marks_at n xs) x false)) [ inl is ↦ absurd (a.0 (is_among n x xs is)) | inr not_is ↦ not_is ] in
    let less = one_less (marks_at n xs) x (omega arith) free in
    omega (arith, less, rest)

at_most : (n : ℕ) (xs : List ℕ) → Apart xs → ((x : ℕ) → Contains xs x → x < n) → length xs ≤ n
at_most n xs a below = let e = counted n xs a below in omega (arith, e)

-- those that call in a chain
callers : ℕ → List ℕ → List ℕ
callers f [] = []
callers f (h ∷ hs) = f ∷ callers h hs

length-callers : (f : ℕ) (hs : List ℕ) → length (callers f hs) ≡ length hs
unfolding callers
length-callers f [] = refl
length-callers f (h ∷ hs) = ap suc (length-callers h hs)

callers_reached : (graph : List (List ℕ)) (f g x : ℕ) (hs : List ℕ) → IsChain graph f hs g → Contains (callers f hs) x → Reaches graph f x
unfolding callers
callers_reached graph f g x [] e c = absurd (in_none x c)
callers_reached graph f g x (h ∷ hs) w c = elim (first_or_rest f x (callers h hs) c) [ inl e ↦ ([], e) | inr r ↦ reaches_on graph f h x w.0 (callers_reached graph h g x hs w.1 r) ]

callers_within : (graph : List (List ℕ)) (f g x : ℕ) (hs : List ℕ) → IsChain graph f hs g → Contains (callers f hs) x → x < length graph
unfolding callers
callers_within graph f g x [] e c = absurd (in_none x c)
callers_within graph f g x (h ∷ hs) w c = elim (first_or_rest f x (callers h hs) c) [ inl e ↦ (let lt = caller_within graph f h w.0 in omega (arith, lt, e)) | inr r ↦ callers_within graph h g x hs w.1 r ]

callers_apart : (graph : List (List ℕ)) → IsAcyclic graph → (f g : ℕ) (hs : List ℕ) → IsChain graph f hs g → Apart (callers f hs)
unfolding callers Apart
callers_apart graph acyclic f g [] e = tt
callers_apart graph acyclic f g (h ∷ hs) w = (λ c. (let r = callers_reached graph h g f hs w.1 c in acyclic f (h, r.0, (w.0, r.1))), callers_apart graph acyclic h g hs w.1)

-- A chain has no more calls than the graph has functions and helpers.
pub chain_bound : (graph : List (List ℕ)) → IsAcyclic graph → (f g : ℕ) (hs : List ℕ) → IsChain graph f hs g → length hs ≤ length graph
chain_bound graph acyclic f g hs c =
    let le : length (callers f hs) ≤ length graph = at_most (length graph) (callers f hs) (callers_apart graph acyclic f g hs c) (λ x in'. callers_within graph f g x hs c in') in
    let e = length-callers f hs in
    omega (arith, le, e)
