-- Each function that a copy's function calls has a copy under the same root: a chain of calls leads to it, and a longest one, since all of
-- them are bounded.
use Rattle.std.proofs.Common.{◌≡◌, ℕ, zero, suc, ◌+◌, ◌<◌, ◌≤◌, inl, inr, Bool, true, false, ◌||◌, nat_eq, get_or, List, [], ◌∷◌, ◌++◌, length, replicate, Option, Some, None, slice_get, slice_set, refl, sym, ap, ◌∙◌, subst, arith}
use Rattle.std.specs.List.{Contains, list_any}
use Rattle.std.specs.Prelude.{slice_index_or}
use Rattle.std.proofs.lemmas.Bool.{eqb-true, eq-eqb, cases_lt, false≢true}
use Rattle.std.proofs.lemmas.List.{length-replicate}
use Rattle.std.proofs.lemmas.Option.{same_Some}
use Rattle.c_typed.proofs.Facts.{body_of_sound}
use Rattle.c_typed.specs.Calls.{statements_calls}
use Rattle.c_typed.specs.Chains.{number_of, row_of, graph_of, Calls, IsChain, IsLevel}
use Rattle.c_typed.specs.Trees.{FunctionTree, Program}
use Rattle.c_typed.specs.declared.calls.FnId.{FnId}
use Rattle.c_typed.specs.declared.calls.FnId.TheVariants as callee
use Rattle.call_graph.proofs.Results.{graph_size}
use Rattle.call_graph.specs.Copies.{AreCopies, IsCopy, IsDepth, HasDepth, root_of}
use Rattle.call_graph.specs.Levels.{IsLongest}
use Rattle.call_graph.specs.declared.types.FnCopy.{FnCopy}
use Rattle.lower_stmt.specs.Frames.{under_root, function_under, marked_at, marked, layout_for}
use Rattle.pic_world.specs.declared.Root.{Root}
use Rattle.pic_world.specs.declared.Root.TheVariants.{Main, Isr}
use Rattle.program_code.specs.Bounds.{CalledHaveCopies}
use Rattle.program_code.specs.Naming.{HaveCopies}
use Rattle.program_code.proofs.Callees.{AreBelow, statements_below}
use Rattle.program_code.proofs.Others.{Member, member_contained, member_there, member_mapped, chain_more, row_there}

-- ---- elements
contained_member : {A : Type 0} (x : A) (xs : List A) → Contains xs x → Member x xs
contained_member x [] c = let l = c.1 in absurd (omega (arith, l))
contained_member x (y ∷ ys) c = by c.0 c.1 c.2 (λ k lt is. contained_member x ys (k, lt, is)) where
  by : (k : ℕ) → k < length (y ∷ ys) → slice_index_or (y ∷ ys) k x ≡ x → ((k : ℕ) → k < length ys → slice_index_or ys k x ≡ x → Member x ys) → Member x (y ∷ ys)
  by zero lt is below = inl is
  by (suc k) lt is below = inr (below k (omega (arith, lt)) is)

or_right : (a b : Bool) → b ≡ true → (a || b) ≡ true
or_right true b e = refl
or_right false b e = e

any_in : {A : Type 0} (test : A → Bool) (xs : List A) → list_any test xs ≡ true → (x : A) × Member x xs × (test x ≡ true)
any_in test [] e = absurd (false≢true e)
any_in {A} test (x ∷ xs) e = by (test x) refl e (any_in test xs) where
  by : (t : Bool) → test x ≡ t → (t || list_any test xs) ≡ true → (list_any test xs ≡ true → (y : A) × Member y xs × (test y ≡ true)) → (y : A) × Member y (x ∷ xs) × (test y ≡ true)
  by true is h below = (x, inl refl, is)
  by false is h below = let r = below h in (r.0, inr r.1, r.2)

in_any : {A : Type 0} (test : A → Bool) (xs : List A) (x : A) → Member x xs → test x ≡ true → list_any test xs ≡ true
in_any test [] x m e = absurd m
in_any test (y ∷ ys) x (inl same) e = ap (λ (t : Bool). t || list_any test ys) (ap test same ∙ e)
in_any test (y ∷ ys) x (inr m) e = or_right (test y) (list_any test ys) (in_any test ys x m e)

-- ---- chains of exactly so many calls
unfoldable exactly : List (List ℕ) → ℕ → ℕ → ℕ → Bool
exactly graph zero f g = nat_eq f g
exactly graph (suc n) f g = list_any (λ h. exactly graph n h g) (get_or graph f [])

exactly_sound : (graph : List (List ℕ)) (n f g : ℕ) → exactly graph n f g ≡ true → (hs : List ℕ) × IsChain graph f hs g × (length hs ≡ n)
unfolding exactly
exactly_sound graph zero f g e = ([], eqb-true f g e, refl)
exactly_sound graph (suc n) f g e =
    let x = any_in (λ h. exactly graph n h g) (get_or graph f []) e in
    let r = exactly_sound graph n x.0 g x.2 in
    (x.0 ∷ r.0, (member_contained x.0 (get_or graph f []) x.1, r.1), ap suc r.2)

exactly_complete : (graph : List (List ℕ)) (f g : ℕ) (hs : List ℕ) → IsChain graph f hs g → exactly graph (length hs) f g ≡ true
unfolding exactly
exactly_complete graph f g [] c = eq-eqb f g c
exactly_complete graph f g (h ∷ hs) c = in_any (λ k. exactly graph (length hs) k g) (get_or graph f []) h (contained_member h (get_or graph f []) c.0) (exactly_complete graph h g hs c.1)

-- ---- the longest of bounded chains
record HasLevelUnder (graph : List (List ℕ)) (r g : ℕ) : Type 0 where
  level : ℕ
  is : IsLevel graph r g level

one_less : (m n : ℕ) → m ≤ suc n → (m ≡ suc n → ⊥) → m ≤ n
one_less m n l other = elim (cases_lt n m) [ inl lt ↦ absurd (let e : m ≡ suc n = omega (arith, l, lt) in other e) | inr le ↦ le ]

level_under : (graph : List (List ℕ)) (r g most : ℕ) → ((hs : List ℕ) → IsChain graph r hs g → length hs ≤ most) → (hs : List ℕ) → IsChain graph r hs g → HasLevelUnder graph r g
level_under graph r g zero all hs c = let l = all hs c in record { level = 0; is = ((hs, c, omega (arith, l)), all) }
level_under graph r g (suc n) all hs c = by (exactly graph (suc n) r g) refl (λ less. level_under graph r g n less hs c) where
  by : (b : Bool) → exactly graph (suc n) r g ≡ b → (((ks : List ℕ) → IsChain graph r ks g → length ks ≤ n) → HasLevelUnder graph r g) → HasLevelUnder graph r g
  by true e below = record { level = suc n; is = (exactly_sound graph (suc n) r g e, all) }
  by false e below = below (λ ks k. one_less (length ks) n (all ks k) (λ same. false≢true (sym e ∙ subst (λ (m : ℕ). exactly graph m r g ≡ true) same (exactly_complete graph r g ks k))))

-- ---- marks
abbrev Marked : List (Option ℕ) → ℕ → Type 0
Marked marks g = (k : ℕ) × (slice_get marks g ≡ Some (Some k))

set_there : (marks : List (Option ℕ)) (g n : ℕ) → g < length marks → Marked (slice_set marks g (Some n)) g
set_there [] g n lt = absurd (omega (arith, lt))
set_there (x ∷ xs) zero n lt = (n, refl)
set_there (x ∷ xs) (suc g) n lt = set_there xs g n (omega (arith, lt))

set_keeps : (marks : List (Option ℕ)) (h n g : ℕ) → Marked marks g → Marked (slice_set marks h (Some n)) g
set_keeps [] h n g m = m
set_keeps (x ∷ xs) zero n zero m = (n, refl)
set_keeps (x ∷ xs) zero n (suc g) m = m
set_keeps (x ∷ xs) (suc h) n zero m = m
set_keeps (x ∷ xs) (suc h) n (suc g) m = set_keeps xs h n g m

set_size : (marks : List (Option ℕ)) (h n : ℕ) → length (slice_set marks h (Some n)) ≡ length marks
set_size [] h n = refl
set_size (x ∷ xs) zero n = refl
set_size (x ∷ xs) (suc h) n = let e = set_size xs h n in omega (arith, e)

mark_keeps : (o : Option ℕ) (n g : ℕ) (marks : List (Option ℕ)) → Marked marks g → Marked (marked_at o n marks) g
mark_keeps None n g marks m = m
mark_keeps (Some h) n g marks m = set_keeps marks h n g m

mark_size : (o : Option ℕ) (n : ℕ) (marks : List (Option ℕ)) → length (marked_at o n marks) ≡ length marks
mark_size None n marks = refl
mark_size (Some h) n marks = set_size marks h n

marks_keep : (root : Root) (copies : List FnCopy) (n g : ℕ) (marks : List (Option ℕ)) → Marked marks g → Marked (marked root n copies marks) g
marks_keep root [] n g marks m = m
marks_keep root (c ∷ copies) n g marks m = marks_keep root copies (n + 1) g (marked_at (function_under root c) n marks) (mark_keeps (function_under root c) n g marks m)

-- a function of a copy under the root has a mark
marks_have : (root : Root) (copies : List FnCopy) (n g : ℕ) (marks : List (Option ℕ)) (c : FnCopy) → Member c copies → function_under root c ≡ Some g → g < length marks → Marked (marked root n copies marks) g
marks_have root [] n g marks c m e lt = absurd m
marks_have root (x ∷ copies) n g marks c (inl same) e lt =
    marks_keep root copies (n + 1) g (marked_at (function_under root x) n marks)
    (subst (λ (o : Option ℕ). Marked (marked_at o n marks) g) (sym e ∙ ap (function_under root) (sym same)) (set_there marks g n lt))
marks_have root (x ∷ copies) n g marks c (inr m) e lt =
    let size = mark_size (function_under root x) n marks in
    marks_have root copies (n + 1) g (marked_at (function_under root x) n marks) c m e (omega (arith, lt, size))

own_root : (root : Root) (g : ℕ) → under_root root root (Some g) ≡ Some g
own_root Main g = refl
own_root Isr g = refl

-- ---- chains from a root are bounded
record IsBounded (graph : List (List ℕ)) (n : ℕ) : Type 0 where
  most : ℕ
  longest : IsLongest graph n most

main_bounded : (graph : List (List ℕ)) (depth : ℕ) (a b : Option ℕ) → IsDepth graph a b depth → (n : ℕ) → a ≡ Some n → IsBounded graph n
main_bounded graph depth None b d n e = absurd d
main_bounded graph depth (Some x) None d n e = record { most = depth; longest = subst (λ (k : ℕ). IsLongest graph k depth) (same_Some x n e) d }
main_bounded graph depth (Some x) (Some y) (m, k, l, r, is) n e = record { most = m; longest = subst (λ (i : ℕ). IsLongest graph i m) (same_Some x n e) l }

isr_bounded : (graph : List (List ℕ)) (depth : ℕ) (a b : Option ℕ) → IsDepth graph a b depth → (n : ℕ) → b ≡ Some n → IsBounded graph n
isr_bounded graph depth None b d n e = absurd d
isr_bounded graph depth (Some x) None d n e = absurd (cc)
isr_bounded graph depth (Some x) (Some y) (m, k, l, r, is) n e = record { most = k; longest = subst (λ (i : ℕ). IsLongest graph i k) (same_Some y n e) r }

root_bounded : (p : Program) (depth : ℕ) → HasDepth p depth → (root : Root) (n : ℕ) → root_of p root ≡ Some n → IsBounded (graph_of p) n
root_bounded p depth deep Main n e = main_bounded (graph_of p) depth (root_of p Main) (root_of p Isr) deep n e
root_bounded p depth deep Isr n e = isr_bounded (graph_of p) depth (root_of p Main) (root_of p Isr) deep n e

-- ---- copies of what is called
module _ (p : Program) (copies : List FnCopy) (depth number function : ℕ) (copy : FnCopy) (f : FunctionTree) (known : AreCopies p copies) (deep : HasDepth p depth) (there : slice_get copies number ≡ Some copy) (is : copy.function ≡ callee.User function) (found : slice_get p.functions function ≡ Some f) where
  own : IsCopy p copy
  own = (known.exact copy).0 (member_contained copy copies (member_there copies number copy there))

  called_level : (g : ℕ) → Member (callee.User g) (statements_calls f.body) → g < length p.functions → HasLevelUnder (graph_of p) own.number g
  called_level g m lt =
      let n = length p.functions in
      let row = member_contained g (row_of n f) (member_mapped (number_of n) (callee.User g) (statements_calls f.body) m) in
      let calls : Calls (graph_of p) function g = subst (λ (r : List ℕ). Contains r g) (sym (row_there n p.functions (replicate 16 []) function f found)) row in
      let level = subst (λ (id : FnId). IsLevel (graph_of p) own.number (number_of n id) copy.level) is own.level in
      let longest = level.0 in
      let bound = root_bounded p depth deep copy.root own.number own.entered in
      let size = graph_size p in
      level_under (graph_of p) own.number g bound.most (λ hs c. bound.longest.most g hs (omega (arith, lt, size)) c) (longest.0 ++ g ∷ []) (chain_more (graph_of p) own.number longest.0 function g longest.1 calls)

  called_marked : (g : ℕ) → Member (callee.User g) (statements_calls f.body) → g < length p.functions → Marked (layout_for p copies copy.root f).copies g
  called_marked g m lt =
      let level = called_level g m lt in
      let c : FnCopy = record { function = callee.User g; root = copy.root; level = level.level } in
      let is_copy : IsCopy p c = record { number = own.number; entered = own.entered; one = lt; level = level.is } in
      let among = contained_member c copies ((known.exact c).1 is_copy) in
      let none : Option ℕ = None in
      let size = length-replicate (length p.functions) none in
      marks_have copy.root copies 0 g (replicate (length p.functions) none) c among (own_root copy.root g) (omega (arith, lt, size))

  all_have : (ids : List FnId) → ((g : ℕ) → Member (callee.User g) ids → Member (callee.User g) (statements_calls f.body)) → AreBelow (length p.functions) ids → HaveCopies (layout_for p copies copy.root f).copies ids
  all_have [] inside h = tt
  all_have (callee.User g ∷ ids) inside h = (called_marked g (inside g (inl refl)) h.0, all_have ids (λ k m. inside k (inr m)) h.1)
  all_have (callee.Helper helper ∷ ids) inside h = all_have ids (λ k m. inside k (inr m)) h

pub called_have_copies : CalledHaveCopies
called_have_copies p copies depth number function copy f sound known deep there is found =
    all_have p copies depth number function copy f known deep there is found (statements_calls f.body) (λ g m. m)
    (statements_below p f true false false f.body (body_of_sound p function f sound found))
