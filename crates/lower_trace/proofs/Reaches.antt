-- A function that a root reaches has a copy under it: a chain of calls leads to the function, and a longest one, since all of them are
-- bounded.
use Rattle.std.proofs.Common.{◌≡◌, ℕ, zero, suc, ◌<◌, ◌≤◌, ◌⊎◌, inl, inr, Bool, true, false, ◌||◌, nat_eq, get_or, List, [], ◌∷◌, length, Option, Some, None, refl, sym, ap, ◌∙◌, subst, arith}
use Rattle.std.specs.List.{Contains, list_any}
use Rattle.std.specs.Prelude.{slice_index_or}
use Rattle.std.proofs.lemmas.Bool.{eqb-true, eq-eqb, cases_lt, false≢true}
use Rattle.c_typed.specs.Chains.{graph_of, number_of, Calls, IsChain, IsLevel}
use Rattle.c_typed.specs.Trees.{Program}
use Rattle.c_typed.specs.declared.calls.FnId.{FnId}
use Rattle.c_typed.specs.declared.calls.FnId.TheVariants as callee
use Rattle.call_graph.proofs.Pigeons.{chain_bound}
use Rattle.call_graph.specs.Copies.{AreCopies, IsCopy, root_of}
use Rattle.call_graph.specs.Levels.{IsAcyclic}
use Rattle.call_graph.specs.declared.types.FnCopy.{FnCopy}
use Rattle.pic_world.specs.declared.Root.{Root}

-- ---- elements
abbrev pub Member : {A : Type 0} → A → List A → Type 0
Member x [] = ⊥
Member x (y ∷ ys) = (y ≡ x) ⊎ Member x ys

pub member_contained : {A : Type 0} (x : A) (xs : List A) → Member x xs → Contains xs x
member_contained x [] m = absurd m
member_contained x (y ∷ ys) (inl e) = (0, omega arith, e)
member_contained x (y ∷ ys) (inr m) = let c = member_contained x ys m in let l = c.1 in (suc c.0, omega (arith, l), c.2)

pub contained_member : {A : Type 0} (x : A) (xs : List A) → Contains xs x → Member x xs
contained_member x [] c = let l = c.1 in absurd (omega (arith, l))
contained_member x (y ∷ ys) c = by c.0 c.1 c.2 (λ k lt is. contained_member x ys (k, lt, is)) where
  by : (k : ℕ) → k < length (y ∷ ys) → slice_index_or (y ∷ ys) k x ≡ x → ((k : ℕ) → k < length ys → slice_index_or ys k x ≡ x → Member x ys) → Member x (y ∷ ys)
  by zero lt is below = inl is
  by (suc k) lt is below = inr (below k (omega (arith, lt)) is)

or_right : (a b : Bool) → b ≡ true → (a || b) ≡ true
or_right true b e = refl
or_right false b e = e

pub any_in : {A : Type 0} (test : A → Bool) (xs : List A) → list_any test xs ≡ true → (x : A) × Member x xs × (test x ≡ true)
any_in test [] e = absurd (false≢true e)
any_in {A} test (x ∷ xs) e = by (test x) refl e (any_in test xs) where
  by : (t : Bool) → test x ≡ t → (t || list_any test xs) ≡ true → (list_any test xs ≡ true → (y : A) × Member y xs × (test y ≡ true)) → (y : A) × Member y (x ∷ xs) × (test y ≡ true)
  by true is h below = (x, inl refl, is)
  by false is h below = let r = below h in (r.0, inr r.1, r.2)

pub in_any : {A : Type 0} (test : A → Bool) (xs : List A) (x : A) → Member x xs → test x ≡ true → list_any test xs ≡ true
in_any test [] x m e = absurd m
in_any test (y ∷ ys) x (inl same) e = ap (λ (t : Bool). t || list_any test ys) (ap test same ∙ e)
in_any test (y ∷ ys) x (inr m) e = or_right (test y) (list_any test ys) (in_any test ys x m e)

-- ---- chains of exactly so many calls
unfoldable exactly : List (List ℕ) → ℕ → ℕ → ℕ → Bool
exactly graph zero f g = nat_eq f g
exactly graph (suc n) f g = list_any (λ h. exactly graph n h g) (get_or graph f [])

exactly_sound : (graph : List (List ℕ)) (n f g : ℕ) → exactly graph n f g ≡ true → (hs : List ℕ) × IsChain graph f hs g × (length hs ≡ n)
unfolding exactly
exactly_sound graph zero f g e = ([], eqb-true f g e, refl)
exactly_sound graph (suc n) f g e =
    let x = any_in (λ h. exactly graph n h g) (get_or graph f []) e in
    let r = exactly_sound graph n x.0 g x.2 in
    (x.0 ∷ r.0, (member_contained x.0 (get_or graph f []) x.1, r.1), ap suc r.2)

exactly_complete : (graph : List (List ℕ)) (f g : ℕ) (hs : List ℕ) → IsChain graph f hs g → exactly graph (length hs) f g ≡ true
unfolding exactly
exactly_complete graph f g [] c = eq-eqb f g c
exactly_complete graph f g (h ∷ hs) c = in_any (λ k. exactly graph (length hs) k g) (get_or graph f []) h (contained_member h (get_or graph f []) c.0) (exactly_complete graph h g hs c.1)

-- ---- the longest of bounded chains
pub record HasLevelUnder (graph : List (List ℕ)) (r g : ℕ) : Type 0 where
  pub level : ℕ
  pub is : IsLevel graph r g level

one_less : (m n : ℕ) → m ≤ suc n → (m ≡ suc n → ⊥) → m ≤ n
one_less m n l other = elim (cases_lt n m) [ inl lt ↦ absurd (let e : m ≡ suc n = omega (arith, l, lt) in other e) | inr le ↦ le ]

pub level_under : (graph : List (List ℕ)) (r g most : ℕ) → ((hs : List ℕ) → IsChain graph r hs g → length hs ≤ most) → (hs : List ℕ) → IsChain graph r hs g → HasLevelUnder graph r g
level_under graph r g zero all hs c = let l = all hs c in record { level = 0; is = ((hs, c, omega (arith, l)), all) }
level_under graph r g (suc n) all hs c = by (exactly graph (suc n) r g) refl (λ less. level_under graph r g n less hs c) where
  by : (b : Bool) → exactly graph (suc n) r g ≡ b → (((ks : List ℕ) → IsChain graph r ks g → length ks ≤ n) → HasLevelUnder graph r g) → HasLevelUnder graph r g
  by true e below = record { level = suc n; is = (exactly_sound graph (suc n) r g e, all) }
  by false e below = below (λ ks k. one_less (length ks) n (all ks k) (λ same. false≢true (sym e ∙ subst (λ (m : ℕ). exactly graph m r g ≡ true) same (exactly_complete graph r g ks k))))

-- ---- copies
-- the copy of a function or helper that a chain of calls leads to
pub record IsCopied (p : Program) (copies : List FnCopy) (root : Root) (function : FnId) : Type 0 where
  pub copy : FnCopy
  pub among : Contains copies copy
  pub under : copy.root ≡ root
  pub is : copy.function ≡ function

pub reached_copied : (p : Program) (copies : List FnCopy) → AreCopies p copies → IsAcyclic (graph_of p) → (root : Root) (entry g : ℕ) → root_of p root ≡ Some entry → g < length p.functions → (hs : List ℕ) → IsChain (graph_of p) entry hs g
    → IsCopied p copies root (callee.User g)
reached_copied p copies known acyclic root entry g entered lt hs chain =
    let level = level_under (graph_of p) entry g (length (graph_of p)) (λ ks k. chain_bound (graph_of p) acyclic entry g ks k) hs chain in
    let c : FnCopy = record { function = callee.User g; root = root; level = level.level } in
    record { copy = c; among = (known.exact c).1 (record { number = entry; entered = entered; one = lt; level = level.is }); under = refl; is = refl }

-- of a helper
pub helper_copied : (p : Program) (copies : List FnCopy) → AreCopies p copies → IsAcyclic (graph_of p) → (root : Root) (entry : ℕ) (h : _) → root_of p root ≡ Some entry → (hs : List ℕ) → IsChain (graph_of p) entry hs (number_of (length p.functions) (callee.Helper h))
    → IsCopied p copies root (callee.Helper h)
helper_copied p copies known acyclic root entry h entered hs chain =
    let g = number_of (length p.functions) (callee.Helper h) in
    let level = level_under (graph_of p) entry g (length (graph_of p)) (λ ks k. chain_bound (graph_of p) acyclic entry g ks k) hs chain in
    let c : FnCopy = record { function = callee.Helper h; root = root; level = level.level } in
    record { copy = c; among = (known.exact c).1 (record { number = entry; entered = entered; one = tt; level = level.is }); under = refl; is = refl }

-- ---- two copies under one root
-- equal roots and functions have equal levels, so they are one
pub same_level : (graph : List (List ℕ)) (root g m n : ℕ) → IsLevel graph root g m → IsLevel graph root g n → m ≡ n
same_level graph root g m n a b =
    let x = a.1 b.0.0 b.0.1 in
    let y = b.1 a.0.0 a.0.1 in
    let s = a.0.2 in
    let t = b.0.2 in
    omega (arith, x, y, s, t)

some_same : (a b : ℕ) → Some a ≡ Some b → a ≡ b
some_same a b e = cc

pub copy_once : (p : Program) (a b : FnCopy) → IsCopy p a → IsCopy p b → a.root ≡ b.root → a.function ≡ b.function → a.level ≡ b.level
copy_once p a b x y root function =
    let number : x.number ≡ y.number = some_same x.number y.number (sym x.entered ∙ ap (root_of p) root ∙ y.entered) in
    let n = length p.functions in
    let ya : IsLevel (graph_of p) x.number (number_of n b.function) b.level = subst (λ (i : ℕ). IsLevel (graph_of p) i (number_of n b.function) b.level) (sym number) y.level in
    let yb : IsLevel (graph_of p) x.number (number_of n a.function) b.level = subst (λ (f : FnId). IsLevel (graph_of p) x.number (number_of n f) b.level) (sym function) ya in
    same_level (graph_of p) x.number (number_of n a.function) a.level b.level x.level yb
