-- A search for chains of calls finds those that there are, and no other.
use Rattle.std.proofs.Common.{◌≡◌, ℕ, zero, suc, ◌+◌, ◌≤◌, inl, inr, Bool, true, false, ◌||◌, nat_eq, List, [], ◌∷◌, ◌++◌, length, map, Option, Some, None, refl, sym, ap, ◌∙◌, subst, arith}
use Rattle.std.specs.Prelude.{slice_get, get_or, replicate}
use Rattle.std.specs.List.{Contains, list_any}
use Rattle.std.proofs.lemmas.Bool.{eqb-true, eq-eqb}
use Rattle.c_typed.specs.Calls.{statements_calls}
use Rattle.c_typed.specs.Chains.{graph_of, row_of, number_of, helper_number, Calls, IsChain, Reaches}
use Rattle.c_typed.specs.Trees.{FunctionTree, Program}
use Rattle.c_typed.specs.declared.calls.FnId.{FnId}
use Rattle.c_typed.specs.declared.calls.FnId.TheVariants as callees
use Rattle.c_typed.specs.declared.calls.Helper.{Helper}
use Rattle.call_graph.specs.Numbers.{is_helper}
use Rattle.lower_stmt.specs.Programs.{function_at, is_function, calls_function, calls_helper}
use Rattle.headline_trace.specs.Selection.{leads}
use Rattle.headline_trace.proofs.Members.{Has, has_of, of_has, map_has}
use Rattle.headline_trace.proofs.Laid.{get_map}
use Rattle.headline_trace.proofs.Statics.{some_is}

-- ---- lists
or_right : (a b : Bool) → b ≡ true → (a || b) ≡ true
or_right true b e = refl
or_right false b e = e

pub any_in : {A : Type 0} (test : A → Bool) (xs : List A) → list_any test xs ≡ true → (x : A) × Has xs x × (test x ≡ true)
any_in test [] e = absurd (cc)
any_in {A} test (x ∷ xs) e = by (test x) refl e (any_in test xs) where
  by : (t : Bool) → test x ≡ t → (t || list_any test xs) ≡ true → (list_any test xs ≡ true → (y : A) × Has xs y × (test y ≡ true)) → (y : A) × Has (x ∷ xs) y × (test y ≡ true)
  by true is h below = (x, inl refl, is)
  by false is h below = let r = below h in (r.0, inr r.1, r.2)

pub in_any : {A : Type 0} (test : A → Bool) (xs : List A) (x : A) → Has xs x → test x ≡ true → list_any test xs ≡ true
in_any test [] x h e = absurd h
in_any test (y ∷ ys) x (inl same) e = ap (λ (t : Bool). t || list_any test ys) (ap test same ∙ e)
in_any test (y ∷ ys) x (inr h) e = or_right (test y) (list_any test ys) (in_any test ys x h e)

front_get : {A : Type 0} (xs ys : List A) (n : ℕ) (d x : A) → slice_get xs n ≡ Some x → get_or (xs ++ ys) n d ≡ x
front_get [] ys n d x is = absurd (cc)
front_get (y ∷ xs) ys zero d x is = some_is y x is
front_get (y ∷ xs) ys (suc n) d x is = front_get xs ys n d x is

-- ---- the search
pub leads_sound : (graph : List (List ℕ)) (n f g : ℕ) → leads graph n f g ≡ true → Reaches graph f g
unfolding leads
leads_sound graph zero f g e = ([], eqb-true f g e)
leads_sound graph (suc n) f g e = by (nat_eq f g) refl e (λ k. leads_sound graph n k g) where
  by : (t : Bool) → nat_eq f g ≡ t → (t || list_any (λ h. leads graph n h g) (get_or graph f [])) ≡ true → ((k : ℕ) → leads graph n k g ≡ true → Reaches graph k g) → Reaches graph f g
  by true is h below = ([], eqb-true f g is)
  by false is h below =
      let x = any_in (λ h. leads graph n h g) (get_or graph f []) h in
      let r = below x.0 x.2 in
      (x.0 ∷ r.0, (of_has (get_or graph f []) x.0 x.1, r.1))

pub leads_complete : (graph : List (List ℕ)) (n f g : ℕ) (hs : List ℕ) → length hs ≤ n → IsChain graph f hs g → leads graph n f g ≡ true
unfolding leads
leads_complete graph zero f g [] le chain = eq-eqb f g chain
leads_complete graph zero f g (h ∷ hs) le chain = absurd (omega arith)
leads_complete graph (suc n) f g [] le chain = ap (λ (t : Bool). t || list_any (λ h. leads graph n h g) (get_or graph f [])) (eq-eqb f g chain)
leads_complete graph (suc n) f g (h ∷ hs) le chain =
    or_right (nat_eq f g) (list_any (λ k. leads graph n k g) (get_or graph f []))
    (in_any (λ k. leads graph n k g) (get_or graph f []) h (has_of (get_or graph f []) h chain.0) (leads_complete graph n h g hs (omega arith) chain.1))

-- ---- calls of the program
same_function : (n : ℕ) (a b : FnId) → is_function a b ≡ true → number_of n b ≡ number_of n a
same_function n (callees.User f) (callees.User g) e = sym (eqb-true f g e)
same_function n (callees.User f) (callees.Helper h) e = absurd (cc)
same_function n (callees.Helper h) b e = absurd (cc)

pub same_helper : (n : ℕ) (h : Helper) (f : FnId) → is_helper h f ≡ true → number_of n f ≡ n + helper_number h
same_helper n h (callees.User f) e = absurd (cc)
same_helper n h (callees.Helper other) e = ap (λ k. n + k) (eqb-true (helper_number other) (helper_number h) e)

row_calls : (p : Program) (f : ℕ) (function : FunctionTree) (call : FnId) → slice_get p.functions f ≡ Some function → Has (statements_calls function.body) call
    → Calls (graph_of p) f (number_of (length p.functions) call)
row_calls p f function call is has =
    let n = length p.functions in
    let row : get_or (graph_of p) f [] ≡ row_of n function = front_get (map (row_of n) p.functions) (replicate 16 []) f [] (row_of n function) (get_map (row_of n) p.functions f function is) in
    subst (λ (r : List ℕ). Contains r (number_of n call)) (sym row) (of_has (row_of n function) (number_of n call) (map_has (number_of n) (statements_calls function.body) call has))

pub called_at : (p : Program) (f g : FnId) → calls_function (function_at p f) g ≡ true → Calls (graph_of p) (number_of (length p.functions) f) (number_of (length p.functions) g)
called_at p (callees.Helper h) g e = absurd (cc)
called_at p (callees.User f) g e = by (slice_get p.functions f) refl e where
  by : (o : Option FunctionTree) → slice_get p.functions f ≡ o → calls_function o g ≡ true → Calls (graph_of p) f (number_of (length p.functions) g)
  by None is h = absurd (cc)
  by (Some function) is h =
      let x = any_in (is_function g) (statements_calls function.body) h in
      subst (λ k. Calls (graph_of p) f k) (same_function (length p.functions) g x.0 x.2) (row_calls p f function x.0 is x.1)

pub helped_at : (p : Program) (f : FnId) (h : Helper) → calls_helper (function_at p f) h ≡ true → Calls (graph_of p) (number_of (length p.functions) f) (length p.functions + helper_number h)
helped_at p (callees.Helper g) h e = absurd (cc)
helped_at p (callees.User f) h e = by (slice_get p.functions f) refl e where
  by : (o : Option FunctionTree) → slice_get p.functions f ≡ o → calls_helper o h ≡ true → Calls (graph_of p) f (length p.functions + helper_number h)
  by None is e = absurd (cc)
  by (Some function) is e =
      let x = any_in (is_helper h) (statements_calls function.body) e in
      subst (λ k. Calls (graph_of p) f k) (same_helper (length p.functions) h x.0 x.2) (row_calls p f function x.0 is x.1)
