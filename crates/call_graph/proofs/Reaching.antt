-- A search marks what chains of calls lead to.
use Rattle.std.proofs.Common.{◌≡◌, ℕ, ◌<◌, ◌⊎◌, inl, inr, Bool, true, false, List, [], ◌∷◌, ◌++◌, length, get_or, replicate, take, drop, sym, ap, ◌∙◌, subst, arith}
use Rattle.std.specs.Global.{Global}
use Rattle.std.specs.List.{Contains}
use Rattle.std.specs.declared.vec.Vec.{Vec}
use Rattle.std.proofs.lemmas.Bool.{false≢true, cases_lt}
use Rattle.std.proofs.lemmas.List.{get_or-replicate, get_or_past, length-map, length-replicate, nil_from_length}
use Rattle.std.proofs.lemmas.List.Elements.{Contains-push, Contains-push_cases, Contains-append_left}
use Rattle.c_typed.specs.Chains.{Calls, IsChain}
use Rattle.call_graph.specs.Reach.{Leads, AreReached}
use Rattle.call_graph.specs.Rows.{rows_of}
use Rattle.call_graph.specs.Search.{Found}
use Rattle.call_graph.proofs.Appends.{written_back}
use Rattle.call_graph.proofs.Marking.{in_none}
use Rattle.call_graph.proofs.Ways.{chain_within, leads_at_once, leads_then}

-- What is marked is reached. What the start calls is marked, and what a marked one calls, unless it waits.
pub record Seeks (graph : List (List ℕ)) (from : ℕ) (marks : List Bool) (stack : List ℕ) : Type 0 where
  pub size : length marks ≡ length graph
  pub sound : (g : ℕ) → get_or marks g false ≡ true → Leads graph from g
  pub first : (g : ℕ) → g < length graph → Calls graph from g → get_or marks g false ≡ true
  pub closed : (m : ℕ) → get_or marks m false ≡ true → Contains stack m ⊎ ((g : ℕ) → g < length graph → Calls graph m g → get_or marks g false ≡ true)
  pub waiting : (m : ℕ) → Contains stack m → get_or marks m false ≡ true

none_marked : (count g : ℕ) → get_or (replicate count false) g false ≡ false
none_marked count g = elim (cases_lt g count) [ inl lt ↦ get_or-replicate count g false false lt | inr past ↦ get_or_past (replicate count false) g false (let e = length-replicate count false in omega arith) ]

pub not_yet : (count g : ℕ) → get_or (replicate count false) g false ≡ true → ⊥
not_yet count g h = false≢true (sym (none_marked count g) ∙ h)

pub seeks_first : (graph : List (List ℕ)) (from : ℕ) (start marks : List Bool) (stack : List ℕ) → start ≡ replicate (length graph) false → Found (get_or graph from []) start [] marks stack → Seeks graph from marks stack
seeks_first graph from start marks stack is f =
    let all : length start ≡ length graph = ap length is ∙ length-replicate (length graph) false in
    let none : (g : ℕ) → get_or start g false ≡ true → ⊥ = λ (g : ℕ) (h : get_or start g false ≡ true). not_yet (length graph) g (ap (λ (l : List Bool). get_or l g false) (sym is) ∙ h) in
    record {
      size = f.size ∙ all;
      sound = λ g h. elim (f.only g h) [ inl o ↦ absurd (none g o) | inr q ↦ leads_at_once graph from g q.0 ];
      first = λ g lt c. f.found g (omega (arith, all)) c;
      closed = λ m h. elim (f.only m h) [ inl o ↦ absurd (none m o) | inr q ↦ inl q.1 ];
      waiting = λ m w. elim (f.marked m w) [ inl o ↦ absurd (in_none m o) | inr q ↦ q.1 ];
    }

-- a number is taken from the stack, and what it calls is marked
pub seeks_on : (graph : List (List ℕ)) (from n : ℕ) (old marks : List Bool) (below stack : List ℕ) → Seeks graph from old (below ++ n ∷ []) → Found (get_or graph n []) old below marks stack → Seeks graph from marks stack
seeks_on graph from n old marks below stack s f =
    let here : get_or old n false ≡ true = s.waiting n (Contains-push below n) in
    let all : (g : ℕ) → g < length graph → Calls graph n g → get_or marks g false ≡ true = λ (g : ℕ) (lt : g < length graph) (c : Calls graph n g). f.found g (let z = s.size in omega arith) c in
    record {
      size = f.size ∙ s.size;
      sound = λ g h. elim (f.only g h) [ inl o ↦ s.sound g o | inr q ↦ leads_then graph from n g (s.sound n here) q.0 ];
      first = λ g lt c. f.kept g (s.first g lt c);
      closed = λ m h. elim (f.only m h) [
        | inl o ↦ (elim (s.closed m o) [
          | inl w ↦ (elim (Contains-push_cases below n m w) [ inl b ↦ inl (f.waits m b) | inr e ↦ inr (subst (λ (k : ℕ). (g : ℕ) → g < length graph → Calls graph k g → get_or marks g false ≡ true) e all) ])
          | inr every ↦ inr (λ g lt c. f.kept g (every g lt c))
        ])
        | inr q ↦ inl q.1
      ];
      waiting = λ m w. elim (f.marked m w) [ inl o ↦ f.kept m (s.waiting m (Contains-append_left below (n ∷ []) m o)) | inr q ↦ q.1 ];
    }

-- where marks are closed under calls, a chain from a marked one ends at a marked one
spread : (graph : List (List ℕ)) (marks : List Bool) → ((m : ℕ) → get_or marks m false ≡ true → (g : ℕ) → g < length graph → Calls graph m g → get_or marks g false ≡ true) → (f g : ℕ) (hs : List ℕ) → get_or marks f false ≡ true → g < length graph → IsChain graph f hs g → get_or marks g false ≡ true
spread graph marks closed f g [] is lt e = subst (λ (k : ℕ). get_or marks k false ≡ true) e is
spread graph marks closed f g (h ∷ hs) is lt c = spread graph marks closed h g hs (closed f is h (chain_within graph h g hs c.1 lt) c.0) lt c.1

pub seeks_all : (graph : List (List ℕ)) (from : ℕ) (marks : List Bool) → Seeks graph from marks [] → AreReached graph from marks
seeks_all graph from marks s =
    let closed : (m : ℕ) → get_or marks m false ≡ true → (g : ℕ) → g < length graph → Calls graph m g → get_or marks g false ≡ true = λ (m : ℕ) (h : get_or marks m false ≡ true). elim (s.closed m h) [ inl w ↦ absurd (in_none m w) | inr every ↦ every ] in
    λ g lt. (λ h. s.sound g h, λ w. spread graph marks closed w.0 g w.1 (s.first w.0 (chain_within graph w.0 g w.1 w.2.1 lt) w.2.0) lt w.2.1)

pub begun : (rows : List (Vec ℕ Global)) (from count : ℕ) (items given new : List Bool) (waited row stack : List ℕ) → items ≡ replicate (length rows) false → given ≡ items → count ≡ length items → waited ≡ [] → row ≡ get_or (rows_of rows) from [] → Found row given waited new stack → Seeks (rows_of rows) from (take count (new ++ drop (length new) items)) stack
begun rows from count items given new waited row stack is same counted none called f =
    let whole : take count (new ++ drop (length new) items) ≡ new = written_back items new count counted (f.size ∙ ap length same) in
    let start : items ≡ replicate (length (rows_of rows)) false = is ∙ ap (λ (n : ℕ). replicate n false) (sym (length-map rows (λ (r : Vec ℕ Global). r.items))) in
    let g : Found (get_or (rows_of rows) from []) items [] new stack = subst (λ (w : List ℕ). Found (get_or (rows_of rows) from []) items w new stack) none (subst (λ (m : List Bool). Found (get_or (rows_of rows) from []) m waited new stack) same (subst (λ (r : List ℕ). Found r given waited new stack) called f)) in
    subst (λ (m : List Bool). Seeks (rows_of rows) from m stack) (sym whole) (seeks_first (rows_of rows) from items new stack start g)

pub gone_on : (rows : List (Vec ℕ Global)) (from n count : ℕ) (items given new : List Bool) (whole below row stack : List ℕ) → whole ≡ below ++ n ∷ [] → given ≡ items → count ≡ length items → row ≡ get_or (rows_of rows) n [] → Seeks (rows_of rows) from items whole → Found row given below new stack → Seeks (rows_of rows) from (take count (new ++ drop (length new) items)) stack
gone_on rows from n count items given new whole below row stack taken same counted called s f =
    let back : take count (new ++ drop (length new) items) ≡ new = written_back items new count counted (f.size ∙ ap length same) in
    let t : Seeks (rows_of rows) from items (below ++ n ∷ []) = subst (λ (w : List ℕ). Seeks (rows_of rows) from items w) taken s in
    let g : Found (get_or (rows_of rows) n []) items below new stack = subst (λ (m : List Bool). Found (get_or (rows_of rows) n []) m below new stack) same (subst (λ (r : List ℕ). Found r given below new stack) called f) in
    subst (λ (m : List Bool). Seeks (rows_of rows) from m stack) (sym back) (seeks_on (rows_of rows) from n items new below stack t g)

pub ended : (graph : List (List ℕ)) (from : ℕ) (marks : List Bool) (stack : List ℕ) → length stack ≡ 0 → Seeks graph from marks stack → AreReached graph from marks
ended graph from marks stack none s = seeks_all graph from marks (subst (λ (w : List ℕ). Seeks graph from marks w) (nil_from_length stack none) s)
