-- How the list of copies is made: one copy, one level and one root after the other.
use Rattle.std.proofs.Common.{◌≡◌, ℕ, ◌+◌, ◌<◌, ◌≤◌, ◌⊎◌, inl, inr, List, [], ◌∷◌, ◌++◌, Option, Some, None, length, get_or, refl, sym, ap, ◌∙◌, subst, arith}
use Rattle.std.specs.List.{Contains}
use Rattle.std.proofs.lemmas.Bool.{cases_eq, cases_lt}
use Rattle.std.proofs.lemmas.List.{get_or_past}
use Rattle.std.proofs.lemmas.List.Elements.{Contains-append_left, Contains-get_or, Contains-push, Contains-push_cases}
use Rattle.std.proofs.lemmas.List.Quantifiers.{all_pairs_push}
use Rattle.c_typed.specs.Chains.{number_of, helper_number}
use Rattle.c_typed.specs.declared.calls.FnId.{FnId}
use Rattle.c_typed.specs.declared.calls.FnId.TheVariants as callee
use Rattle.c_typed.specs.declared.calls.Helper.{Helper}
use Rattle.c_typed.specs.declared.calls.Helper.TheVariants.{Mul2, Mul4, Divu2, Divs2, Remu2, Rems2, Divu4, Divs4, Remu4, Rems4, Shl2, Shru2, Shrs2, Shl4, Shru4, Shrs4}
use Rattle.call_graph.specs.Adding.{Adds, UnderRoot, AtLevel, UnderHandler, UnderRoots}
use Rattle.call_graph.specs.Copies.{IsOne, StandsBefore, root_place}
use Rattle.call_graph.specs.declared.levels.Levels.{Levels}
use Rattle.call_graph.specs.declared.types.FnCopy.{FnCopy}
use Rattle.pic_world.specs.declared.Root.{Root}
use Rattle.pic_world.specs.declared.Root.TheVariants as root

helpers : List Helper
helpers = Mul2 ∷ Mul4 ∷ Divu2 ∷ Divs2 ∷ Remu2 ∷ Rems2 ∷ Divu4 ∷ Divs4 ∷ Remu4 ∷ Rems4 ∷ Shl2 ∷ Shru2 ∷ Shrs2 ∷ Shl4 ∷ Shru4 ∷ Shrs4 ∷ []

helper_there : (h : Helper) → get_or helpers (helper_number h) Mul2 ≡ h
unfolding helpers
helper_there Mul2 = refl
helper_there Mul4 = refl
helper_there Divu2 = refl
helper_there Divs2 = refl
helper_there Remu2 = refl
helper_there Rems2 = refl
helper_there Divu4 = refl
helper_there Divs4 = refl
helper_there Remu4 = refl
helper_there Rems4 = refl
helper_there Shl2 = refl
helper_there Shru2 = refl
helper_there Shrs2 = refl
helper_there Shl4 = refl
helper_there Shru4 = refl
helper_there Shrs4 = refl

-- Each function and helper has a number of its own.
pub number_once : (functions : ℕ) (a b : FnId) → IsOne functions a → IsOne functions b → number_of functions a ≡ number_of functions b → a ≡ b
number_once functions (callee.User m) (callee.User n) a b e = ap callee.User e
number_once functions (callee.User m) (callee.Helper h) a b e = absurd (let lt : m < functions = a in let same : m ≡ functions + helper_number h = e in omega arith)
number_once functions (callee.Helper h) (callee.User n) a b e = absurd (let lt : n < functions = b in let same : functions + helper_number h ≡ n = e in omega arith)
number_once functions (callee.Helper h) (callee.Helper k) a b e =
    let same : functions + helper_number h ≡ functions + helper_number k = e in
    let also : helper_number h ≡ helper_number k = omega arith in
    ap callee.Helper (sym (helper_there h) ∙ (ap (λ (n : ℕ). get_or helpers n Mul2) also ∙ helper_there k))

pub same_copy : (a b : FnCopy) → a.root ≡ b.root → a.function ≡ b.function → a.level ≡ b.level → a ≡ b
same_copy a b r f l =
    let by_root : (x : Root) → FnCopy = λ (x : Root). record { root = x; function = a.function; level = a.level } in
    let by_function : (x : FnId) → FnCopy = λ (x : FnId). record { root = b.root; function = x; level = a.level } in
    let by_level : (x : ℕ) → FnCopy = λ (x : ℕ). record { root = b.root; function = b.function; level = x } in
    ap by_root r ∙ (ap by_function f ∙ ap by_level l)

-- nothing is added
pub adds_none : (functions : ℕ) (P : FnCopy → Type 0) (list : List FnCopy) → ((c : FnCopy) → P c → ⊥) → Adds functions P list list
adds_none functions P list none = record {
  exact = λ c. (λ h. inl h, λ h. elim h [ inl o ↦ o | inr p ↦ absurd (none c p) ]);
  ordered = λ o before. o;
}

-- the same copies, told otherwise
pub adds_same : (functions : ℕ) (P Q : FnCopy → Type 0) (old new : List FnCopy) → Adds functions P old new → ((c : FnCopy) → P c → Q c) → ((c : FnCopy) → Q c → P c) → Adds functions Q old new
adds_same functions P Q old new a to from = record {
  exact = λ c. (λ h. elim ((a.exact c).0 h) [ inl o ↦ inl o | inr p ↦ inr (to c p) ], λ h. elim h [ inl o ↦ (a.exact c).1 (inl o) | inr q ↦ (a.exact c).1 (inr (from c q)) ]);
  ordered = λ o before. a.ordered o (λ x y there p. before x y there (to y p));
}

-- one copy more
pub adds_one : (functions : ℕ) (P Q : FnCopy → Type 0) (old list : List FnCopy) (x : FnCopy) → Adds functions P old list → ((c : FnCopy) → Q c → P c ⊎ (x ≡ c)) → ((c : FnCopy) → P c → Q c) → Q x → ((c : FnCopy) → P c → StandsBefore functions c x) → Adds functions Q old (list ++ x ∷ [])
adds_one functions P Q old list x a from to here before = record {
  exact = λ c. (
    λ h. elim (Contains-push_cases list x c h) [ inl o ↦ (elim ((a.exact c).0 o) [ inl p ↦ inl p | inr q ↦ inr (to c q) ]) | inr e ↦ inr (subst Q e here) ],
    λ h. elim h [
      | inl o ↦ Contains-append_left list (x ∷ []) c ((a.exact c).1 (inl o))
      | inr q ↦ (elim (from c q) [ inl p ↦ Contains-append_left list (x ∷ []) c ((a.exact c).1 (inr p)) | inr e ↦ subst (λ (y : FnCopy). Contains (list ++ x ∷ []) y) e (Contains-push list x) ])
    ],
  );
  ordered = λ o first. all_pairs_push (StandsBefore functions) list x (a.ordered o (λ y z there p. first y z there (to z p))) (λ k d lt. elim ((a.exact (get_or list k d)).0 (Contains-get_or list k d lt)) [ inl p ↦ first (get_or list k d) x p here | inr q ↦ before (get_or list k d) q ]);
}

-- some behind others
pub adds_more : (functions : ℕ) (P Q : FnCopy → Type 0) (a b c : List FnCopy) → Adds functions P a b → Adds functions Q b c → ((x y : FnCopy) → P x → Q y → StandsBefore functions x y) → Adds functions (λ x. P x ⊎ Q x) a c
adds_more functions P Q a b c f g before = record {
  exact = λ x. (
    λ h. elim ((g.exact x).0 h) [ inl o ↦ (elim ((f.exact x).0 o) [ inl p ↦ inl p | inr q ↦ inr (inl q) ]) | inr q ↦ inr (inr q) ],
    λ h. elim h [
      | inl o ↦ (g.exact x).1 (inl ((f.exact x).1 (inl o)))
      | inr e ↦ (elim e [ inl p ↦ (g.exact x).1 (inl ((f.exact x).1 (inr p))) | inr q ↦ (g.exact x).1 (inr q) ])
    ],
  );
  ordered = λ o first. g.ordered (f.ordered o (λ x y there p. first x y there (inl p))) (λ x y there q. elim ((f.exact x).0 there) [ inl p ↦ first x y p (inr q) | inr p ↦ before x y p q ]);
}

-- the copies at a level among the numbers below i
abbrev pub AtLevelBelow : ℕ → Root → List (Option ℕ) → ℕ → ℕ → FnCopy → Type 0
AtLevelBelow functions entry levels level i c = (number_of functions c.function < i) × AtLevel functions entry levels level c

pub level_none : (functions : ℕ) (entry : Root) (levels : List (Option ℕ)) (level : ℕ) (list : List FnCopy) → Adds functions (AtLevelBelow functions entry levels level 0) list list
level_none functions entry levels level list = adds_none functions (AtLevelBelow functions entry levels level 0) list (λ c h. let lt : number_of functions c.function < 0 = h.0 in omega arith)

pub level_push : (functions : ℕ) (entry : Root) (levels : List (Option ℕ)) (level i : ℕ) (old list new : List FnCopy) (function : FnId) → Adds functions (AtLevelBelow functions entry levels level i) old list → get_or levels i None ≡ Some level → IsOne functions function → number_of functions function ≡ i → new ≡ list ++ record { root = entry; function = function; level = level } ∷ [] → Adds functions (AtLevelBelow functions entry levels level (i + 1)) old new
level_push functions entry levels level i old list new function a here one number is =
    let x : FnCopy = record { root = entry; function = function; level = level } in
    let under : UnderRoot functions entry levels x = record { same = refl; one = one; level = subst (λ (n : ℕ). get_or levels n None ≡ Some level) (sym number) here } in
    subst (λ (l : List FnCopy). Adds functions (AtLevelBelow functions entry levels level (i + 1)) old l) (sym is) (adds_one functions (AtLevelBelow functions entry levels level i) (AtLevelBelow functions entry levels level (i + 1)) old list x a
    (λ c q. elim (cases_eq (number_of functions c.function) i) [
      | inl e ↦ inr (same_copy x c (sym q.1.1.same) (number_once functions function c.function one q.1.1.one (number ∙ sym e)) (sym q.1.0))
      | inr ne ↦ inl ((let lt : number_of functions c.function < i + 1 = q.0 in omega (arith, ne)), q.1)
    ])
    (λ c p. ((let lt : number_of functions c.function < i = p.0 in omega arith), p.1))
    ((omega (arith, number)), (refl, under))
    (λ c p. inr (p.1.1.same, inr (p.1.0, (let lt : number_of functions c.function < i = p.0 in omega (arith, number))))))

pub level_skip : (functions : ℕ) (entry : Root) (levels : List (Option ℕ)) (level i : ℕ) (old list new : List FnCopy) → Adds functions (AtLevelBelow functions entry levels level i) old list → (get_or levels i None ≡ Some level → ⊥) → new ≡ list → Adds functions (AtLevelBelow functions entry levels level (i + 1)) old new
level_skip functions entry levels level i old list new a here is =
    subst (λ (l : List FnCopy). Adds functions (AtLevelBelow functions entry levels level (i + 1)) old l) (sym is) (adds_same functions (AtLevelBelow functions entry levels level i) (AtLevelBelow functions entry levels level (i + 1)) old list a
    (λ c p. ((let lt : number_of functions c.function < i = p.0 in omega arith), p.1))
    (λ c q. (
      (elim (cases_eq (number_of functions c.function) i) [
        | inl e ↦ absurd (here (subst (λ (n : ℕ). get_or levels n None ≡ Some level) e (q.1.1.level ∙ ap Some q.1.0)))
        | inr ne ↦ (let lt : number_of functions c.function < i + 1 = q.0 in omega (arith, ne))
      ]),
      q.1,
    )))

-- what has a level has a number of the graph
pub numbered : (levels : List (Option ℕ)) (n level : ℕ) → get_or levels n None ≡ Some level → n < length levels
numbered levels n level is = elim (cases_lt n (length levels)) [ inl lt ↦ lt | inr past ↦ absurd (let none : get_or levels n None ≡ None = get_or_past levels n None past in cc) ]

pub level_all : (functions : ℕ) (entry : Root) (levels : List (Option ℕ)) (level i : ℕ) (old new : List FnCopy) → length levels ≤ i → Adds functions (AtLevelBelow functions entry levels level i) old new → Adds functions (AtLevel functions entry levels level) old new
level_all functions entry levels level i old new all a = adds_same functions (AtLevelBelow functions entry levels level i) (AtLevel functions entry levels level) old new a (λ c p. p.1) (λ c q. ((let lt = numbered levels (number_of functions c.function) c.level q.1.level in omega (arith, lt)), q))

-- the copies of a root whose levels are below a bound
abbrev pub UnderBelow : ℕ → Root → List (Option ℕ) → ℕ → FnCopy → Type 0
UnderBelow functions entry levels bound c = (c.level < bound) × UnderRoot functions entry levels c

pub root_none : (functions : ℕ) (entry : Root) (levels : List (Option ℕ)) (list : List FnCopy) → Adds functions (UnderBelow functions entry levels 0) list list
root_none functions entry levels list = adds_none functions (UnderBelow functions entry levels 0) list (λ c h. let lt : c.level < 0 = h.0 in omega arith)

pub root_more : (functions : ℕ) (entry : Root) (levels seen : List (Option ℕ)) (level : ℕ) (old list new : List FnCopy) → seen ≡ levels → Adds functions (UnderBelow functions entry levels level) old list → Adds functions (AtLevel functions entry seen level) list new → Adds functions (UnderBelow functions entry levels (level + 1)) old new
root_more functions entry levels seen level old list new same a given =
    let b : Adds functions (AtLevel functions entry levels level) list new = subst (λ (l : List (Option ℕ)). Adds functions (AtLevel functions entry l level) list new) same given in
    let both = adds_more functions (UnderBelow functions entry levels level) (AtLevel functions entry levels level) old list new a b (λ x y p q. inr (p.1.same ∙ sym q.1.same, inl (let lt : x.level < level = p.0 in let is : y.level ≡ level = q.0 in omega arith))) in
    adds_same functions (λ x. UnderBelow functions entry levels level x ⊎ AtLevel functions entry levels level x) (UnderBelow functions entry levels (level + 1)) old new both
    (λ c h. elim h [ inl p ↦ ((let lt : c.level < level = p.0 in omega arith), p.1) | inr q ↦ ((let is : c.level ≡ level = q.0 in omega arith), q.1) ])
    (λ c h. elim (cases_eq c.level level) [ inl e ↦ inr (e, h.1) | inr ne ↦ inl ((let lt : c.level < level + 1 = h.0 in omega (arith, ne)), h.1) ])

pub root_all : (functions : ℕ) (entry : Root) (levels : List (Option ℕ)) (longest bound : ℕ) (old new : List FnCopy) → ((g level : ℕ) → get_or levels g None ≡ Some level → level ≤ longest) → longest < bound → Adds functions (UnderBelow functions entry levels bound) old new → Adds functions (UnderRoot functions entry levels) old new
root_all functions entry levels longest bound old new most above a = adds_same functions (UnderBelow functions entry levels bound) (UnderRoot functions entry levels) old new a (λ c p. p.1) (λ c q. ((let le = most (number_of functions c.function) c.level q.level in omega (arith, le)), q))

under_handler : (functions : ℕ) (handler : Option Levels) (c : FnCopy) → UnderHandler functions handler c → c.root ≡ root.Isr
under_handler functions None c u = absurd u
under_handler functions (Some found) c u = u.same

-- main's copies stand before those of the handler
pub both_roots : (functions : ℕ) (main : Levels) (handler : Option Levels) (old list new : List FnCopy) → old ≡ [] → Adds functions (UnderRoot functions root.Main main.levels.items) old list → Adds functions (UnderHandler functions handler) list new → Adds functions (UnderRoots functions main handler) [] new
both_roots functions main handler old list new none a b =
    let both = adds_more functions (UnderRoot functions root.Main main.levels.items) (UnderHandler functions handler) old list new a b (λ x y p q. inl (
    let first : root_place x.root ≡ 0 = ap root_place p.same in
    let second : root_place y.root ≡ 1 = ap root_place (under_handler functions handler y q) in
    omega arith)) in
    subst (λ (l : List FnCopy). Adds functions (UnderRoots functions main handler) l new) none both

pub handler_some : (functions : ℕ) (handler : Option Levels) (found : Levels) (old new : List FnCopy) → handler ≡ Some found → Adds functions (UnderRoot functions root.Isr found.levels.items) old new → Adds functions (UnderHandler functions handler) old new
handler_some functions handler found old new is a = subst (λ (h : Option Levels). Adds functions (UnderHandler functions h) old new) (sym is) a

pub handler_none : (functions : ℕ) (handler : Option Levels) (list : List FnCopy) → handler ≡ None → Adds functions (UnderHandler functions handler) list list
handler_none functions handler list is = subst (λ (h : Option Levels). Adds functions (UnderHandler functions h) list list) (sym is) (adds_none functions (UnderHandler functions None) list (λ c u. u))
