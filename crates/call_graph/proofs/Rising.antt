-- What one number, and one row after the other, change in the levels; and that wave by wave they come to be those of the
-- longest chains.
use Rattle.std.proofs.Common.{◌≡◌, ℕ, ◌+◌, ◌<◌, ◌≤◌, inl, inr, List, [], ◌∷◌, ◌++◌, Option, Some, None, length, get_or, set, take, replicate, suc, refl, sym, ap, ◌∙◌, subst, append_assoc, arith}
use Rattle.std.specs.List.{Contains}
use Rattle.std.proofs.lemmas.Bool.{cases_eq, cases_lt}
use Rattle.std.proofs.lemmas.List.{get_or-replicate, get_or-set_same, get_or-set_other, length-replicate, length-set, length_push, take_more}
use Rattle.std.proofs.lemmas.List.Elements.{Contains-append_left, Contains-append_right, Contains-append_cases, Contains-get_or, Contains-push}
use Rattle.c_typed.specs.Chains.{Calls, IsChain}
use Rattle.call_graph.specs.Levels.{IsAcyclic, HasLevel, AreLevels, IsLongest}
use Rattle.call_graph.specs.Waves.{HasLevelWithin, AreAtLevel, Raised, callees}
use Rattle.call_graph.proofs.Appends.{append_none}
use Rattle.call_graph.proofs.Marking.{in_none, one_is}
use Rattle.call_graph.proofs.Pigeons.{chain_bound, first_or_rest}
use Rattle.call_graph.proofs.Ways.{caller_within, chain_then, last_call, first_calls}

pub raised_none : (level : ℕ) (levels : List (Option ℕ)) → Raised level [] levels levels
raised_none level levels = record {
  size = refl;
  raised = λ g lt c. absurd (in_none g c);
  others = λ g. inl refl;
}

pub raised_more : (level : ℕ) (r1 r2 : List ℕ) (a b c : List (Option ℕ)) → Raised level r1 a b → Raised level r2 b c → Raised level (r1 ++ r2) a c
raised_more level r1 r2 a b c f1 f2 = record {
  size = f2.size ∙ f1.size;
  raised = λ g lt con. elim (Contains-append_cases r1 r2 g con) [
    | inl l ↦ (elim (f2.others g) [ inl same ↦ same ∙ f1.raised g lt l | inr q ↦ q.0 ])
    | inr r ↦ f2.raised g (let z = f1.size in omega arith) r
  ];
  others = λ g. elim (f2.others g) [
    | inl same ↦ (elim (f1.others g) [ inl also ↦ inl (same ∙ also) | inr q ↦ inr (same ∙ q.0, Contains-append_left r1 r2 g q.1) ])
    | inr q ↦ inr (q.0, Contains-append_right r1 r2 g q.1)
  ];
}

pub raised_outside : (level n : ℕ) (levels : List (Option ℕ)) → length levels ≤ n → Raised level (n ∷ []) levels levels
raised_outside level n levels past = record {
  size = refl;
  raised = λ g lt c. absurd (let e = one_is n g c in omega arith);
  others = λ g. inl refl;
}

pub raised_once : (level n : ℕ) (levels : List (Option ℕ)) → n < length levels → Raised level (n ∷ []) levels (set levels n (Some level))
raised_once level n levels lt =
    let new : List (Option ℕ) = set levels n (Some level) in
    let here : get_or new n None ≡ Some level = get_or-set_same levels n (Some level) None lt in
    record {
      size = length-set levels n (Some level);
      raised = λ g l c. subst (λ (k : ℕ). get_or new k None ≡ Some level) (one_is n g c) here;
      others = λ g. elim (cases_eq g n) [
        | inl e ↦ inr (subst (λ (k : ℕ). (get_or new k None ≡ Some level) × Contains (n ∷ []) k) (sym e) (here, Contains-push [] n))
        | inr ne ↦ inl (get_or-set_other levels n g (Some level) None ne)
      ];
    }

pub row_raised : (level : ℕ) (row : List ℕ) (i : ℕ) (a b c : List (Option ℕ)) → i < length row → Raised level (take i row) a b → Raised level (get_or row i 0 ∷ []) b c → Raised level (take (i + 1) row) a c
row_raised level row i a b c lt f1 f2 = subst (λ (r : List ℕ). Raised level r a c) (sym (take_more row i 0 lt)) (raised_more level (take i row) (get_or row i 0 ∷ []) a b c f1 f2)

-- what one number more calls
callees_push : (graph : List (List ℕ)) (numbers : List ℕ) (n : ℕ) → callees graph (numbers ++ n ∷ []) ≡ callees graph numbers ++ get_or graph n []
callees_push graph [] n = append_none (get_or graph n [])
callees_push graph (m ∷ ms) n = ap (λ (l : List ℕ). get_or graph m [] ++ l) (callees_push graph ms n) ∙ sym (append_assoc (get_or graph m []) (callees graph ms) (get_or graph n []))

pub callees_raised : (graph : List (List ℕ)) (level : ℕ) (numbers : List ℕ) (i : ℕ) (row : List ℕ) (a b c : List (Option ℕ)) → i < length numbers → row ≡ get_or graph (get_or numbers i 0) [] → Raised level (callees graph (take i numbers)) a b → Raised level row b c → Raised level (callees graph (take (i + 1) numbers)) a c
callees_raised graph level numbers i row a b c lt is f1 f2 =
    let e : callees graph (take (i + 1) numbers) ≡ callees graph (take i numbers) ++ row = ap (callees graph) (take_more numbers i 0 lt) ∙ (callees_push graph (take i numbers) (get_or numbers i 0) ∙ ap (λ (l : List ℕ). callees graph (take i numbers) ++ l) (sym is)) in
    subst (λ (r : List ℕ). Raised level r a c) (sym e) (raised_more level (callees graph (take i numbers)) row a b c f1 f2)

-- who calls what stands among the callees
pub called_by : (graph : List (List ℕ)) (numbers : List ℕ) (g : ℕ) → Contains (callees graph numbers) g → (n : ℕ) × Contains numbers n × Calls graph n g
called_by graph [] g c = absurd (in_none g c)
called_by graph (m ∷ ms) g c = elim (Contains-append_cases (get_or graph m []) (callees graph ms) g c) [
  | inl l ↦ (m, Contains-append_left (m ∷ []) ms m (Contains-push [] m), l)
  | inr r ↦ (let w = called_by graph ms g r in (w.0, Contains-append_right (m ∷ []) ms w.0 w.1, w.2))
]

pub among_callees : (graph : List (List ℕ)) (numbers : List ℕ) (n g : ℕ) → Contains numbers n → Calls graph n g → Contains (callees graph numbers) g
among_callees graph [] n g c w = absurd (in_none n c)
among_callees graph (m ∷ ms) n g c w = elim (first_or_rest m n ms c) [
  | inl e ↦ Contains-append_left (get_or graph m []) (callees graph ms) g (subst (λ (k : ℕ). Calls graph k g) (sym e) w)
  | inr r ↦ Contains-append_right (get_or graph m []) (callees graph ms) g (among_callees graph ms n g r w)
]

-- The levels are those of the longest chains of at most k calls, and the wave those of exactly so many.
pub record Knows (graph : List (List ℕ)) (root k : ℕ) (levels : List (Option ℕ)) (wave : List ℕ) : Type 0 where
  pub size : length levels ≡ length graph
  pub within : (g : ℕ) → g < length graph → HasLevelWithin graph root k g (get_or levels g None)
  pub at : AreAtLevel levels k wave
  pub some : (g : ℕ) × (hs : List ℕ) × (g < length graph) × IsChain graph root hs g × (length hs ≡ k)

exactly : (graph : List (List ℕ)) (root k g : ℕ) (hs : List ℕ) (o : Option ℕ) → HasLevelWithin graph root k g o → IsChain graph root hs g → length hs ≡ k → o ≡ Some k
exactly graph root k g hs None w c e = absurd (w hs c (omega (arith, e)))
exactly graph root k g hs (Some l) w c e = let most : length hs ≤ l = w.2 hs c (omega (arith, e)) in let least : l ≤ k = w.0 in let same : l ≡ k = omega arith in ap Some same

not_above : (graph : List (List ℕ)) (root k g : ℕ) (o : Option ℕ) → HasLevelWithin graph root k g o → o ≡ Some (k + 1) → ⊥
not_above graph root k g None w e = cc
not_above graph root k g (Some l) w e = let least : l ≤ k = w.0 in let same : l ≡ k + 1 = cc in omega arith

shown : (graph : List (List ℕ)) (root k g : ℕ) (o : Option ℕ) → HasLevelWithin graph root k g o → o ≡ Some k → (hs : List ℕ) × IsChain graph root hs g × (length hs ≡ k)
shown graph root k g None w e = absurd cc
shown graph root k g (Some l) w e = let same : l ≡ k = cc in (w.1.0, w.1.1, w.1.2 ∙ same)

kept : (graph : List (List ℕ)) (root k g : ℕ) (o : Option ℕ) → HasLevelWithin graph root k g o → ((hs : List ℕ) → IsChain graph root hs g → length hs ≡ k + 1 → ⊥) → HasLevelWithin graph root (k + 1) g o
kept graph root k g None w none = λ hs c le. elim (cases_eq (length hs) (k + 1)) [ inl e ↦ none hs c e | inr ne ↦ w hs c (omega (arith, ne)) ]
kept graph root k g (Some l) w none = ((let least : l ≤ k = w.0 in omega arith), w.1, λ hs c le. elim (cases_eq (length hs) (k + 1)) [ inl e ↦ absurd (none hs c e) | inr ne ↦ w.2 hs c (omega (arith, ne)) ])

taken_on : (graph : List (List ℕ)) (root k n g : ℕ) (hs : List ℕ) → IsChain graph root hs n → length hs ≡ k → Calls graph n g → HasLevelWithin graph root (k + 1) g (Some (k + 1))
taken_on graph root k n g hs c e w = ((omega arith), (hs ++ g ∷ [], chain_then graph root n g hs c w, length_push hs g ∙ ap (λ (m : ℕ). m + 1) e), λ ks d le. le)

-- one call more
pub risen : (graph : List (List ℕ)) (root k : ℕ) (levels new : List (Option ℕ)) (wave : List ℕ) → Knows graph root k levels wave → Raised (k + 1) (callees graph wave) levels new → (g : ℕ) → g < length graph → HasLevelWithin graph root (k + 1) g (get_or new g None)
risen graph root k levels new wave known r g lt =
    let size : length levels ≡ length graph = known.size in
    let mine = known.within g lt in
    elim (r.others g) [
      | inl same ↦ (let none : (hs : List ℕ) → IsChain graph root hs g → length hs ≡ k + 1 → ⊥ = λ (hs : List ℕ) (c : IsChain graph root hs g) (e : length hs ≡ k + 1). not_above graph root k g (get_or levels g None) mine (sym same ∙ r.raised g (omega arith) (risen_by graph root k levels wave known g hs c e)) in
          subst (λ (o : Option ℕ). HasLevelWithin graph root (k + 1) g o) (sym same) (kept graph root k g (get_or levels g None) mine none))
      | inr q ↦ (let w = called_by graph wave g q.1 in
          let n : ℕ = w.0 in
          let at = (known.at n).0 w.1 in
          let here : n < length graph = caller_within graph n g w.2 in
          let s = shown graph root k n (get_or levels n None) (known.within n here) at.1 in
          subst (λ (o : Option ℕ). HasLevelWithin graph root (k + 1) g o) (sym q.0) (taken_on graph root k n g s.0 s.1 s.2 w.2))
    ]
  where
    risen_by : (graph : List (List ℕ)) (root k : ℕ) (levels : List (Option ℕ)) (wave : List ℕ) → Knows graph root k levels wave → (g : ℕ) (hs : List ℕ) → IsChain graph root hs g → length hs ≡ k + 1 → Contains (callees graph wave) g
    risen_by graph root k levels wave known g [] c e = absurd (omega (arith, e))
    risen_by graph root k levels wave known g (h ∷ hs) c e =
        let l = last_call graph root g h hs c in
        let m : ℕ = l.0 in
        let here : m < length graph = caller_within graph m g l.4 in
        let size : length levels ≡ length graph = known.size in
        let many : length l.1 ≡ k = let a : length l.1 ≡ length hs = l.3 in let b : suc (length hs) ≡ k + 1 = e in omega arith in
        among_callees graph wave m g ((known.at m).1 (omega arith, exactly graph root k m l.1 (get_or levels m None) (known.within m here) l.2 many)) l.4

pub knows_first : (graph : List (List ℕ)) (root : ℕ) (start new : List (Option ℕ)) (wave : List ℕ) → start ≡ replicate (length graph) None → root < length graph → Raised 0 (root ∷ []) start new → AreAtLevel new 0 wave → Knows graph root 0 new wave
knows_first graph root start new wave is lt r at =
    let all : length start ≡ length graph = ap length is ∙ length-replicate (length graph) None in
    record {
      size = r.size ∙ all;
      within = λ g l. elim (r.others g) [
        | inl same ↦ (let none : get_or new g None ≡ None = same ∙ (ap (λ (s : List (Option ℕ)). get_or s g None) is ∙ get_or-replicate (length graph) g None None l) in
            subst (λ (o : Option ℕ). HasLevelWithin graph root 0 g o) (sym none) (nothing_yet graph root g new none (λ e. r.raised g (omega (arith, all)) (subst (λ (k : ℕ). Contains (root ∷ []) k) e (Contains-push [] root)))))
        | inr q ↦ subst (λ (o : Option ℕ). HasLevelWithin graph root 0 g o) (sym q.0) ((omega arith), ([], one_is root g q.1, refl), λ hs c le. le)
      ];
      at = at;
      some = (root, [], lt, refl, refl);
    }
  where
    nothing_yet : (graph : List (List ℕ)) (root g : ℕ) (new : List (Option ℕ)) → get_or new g None ≡ None → (root ≡ g → get_or new g None ≡ Some 0) → (hs : List ℕ) → IsChain graph root hs g → length hs ≤ 0 → ⊥
    nothing_yet graph root g new none at [] e le = let h : get_or new g None ≡ Some 0 = at e in cc
    nothing_yet graph root g new none at (h ∷ hs) c le = omega arith

at_next : (graph : List (List ℕ)) (root k : ℕ) (levels new : List (Option ℕ)) (wave next : List ℕ) → Knows graph root k levels wave → Raised (k + 1) (callees graph wave) levels new → AreAtLevel new (k + 1) next → (g : ℕ) (hs : List ℕ) → g < length graph → IsChain graph root hs g → length hs ≡ k + 1 → Contains next g
at_next graph root k levels new wave next known r at g hs lt c e =
    let size : length levels ≡ length graph = known.size in
    let also : length new ≡ length levels = r.size in
    (at g).1 (omega arith, exactly graph root (k + 1) g hs (get_or new g None) (risen graph root k levels new wave known r g lt) c e)

pub knows_next : (graph : List (List ℕ)) (root k : ℕ) (levels new : List (Option ℕ)) (wave next : List ℕ) → Knows graph root k levels wave → Raised (k + 1) (callees graph wave) levels new → AreAtLevel new (k + 1) next → 0 < length next → Knows graph root (k + 1) new next
knows_next graph root k levels new wave next known r at many =
    let n : ℕ = get_or next 0 0 in
    let here = (at n).0 (Contains-get_or next 0 0 many) in
    let size : length new ≡ length graph = r.size ∙ known.size in
    let lt : n < length new = here.0 in
    let within : n < length graph = omega arith in
    let s = shown graph root (k + 1) n (get_or new n None) (risen graph root k levels new wave known r n within) here.1 in
    record {
      size = size;
      within = risen graph root k levels new wave known r;
      at = at;
      some = (n, s.0, within, s.1, s.2);
    }

-- where no chain has one call more, none is longer
none_longer : (graph : List (List ℕ)) (root k : ℕ) (levels new : List (Option ℕ)) (wave next : List ℕ) → Knows graph root k levels wave → Raised (k + 1) (callees graph wave) levels new → AreAtLevel new (k + 1) next → length next ≡ 0 → (g : ℕ) (hs : List ℕ) → g < length graph → IsChain graph root hs g → length hs ≤ k
none_longer graph root k levels new wave next known r at none g hs lt c = elim (cases_lt k (length hs)) [
  | inl longer ↦ absurd (
      let f = first_calls graph (k + 1) root g hs c (omega arith) lt in
      let w = at_next graph root k levels new wave next known r at f.0 f.1 f.2 f.3 f.4 in
      let here : w.0 < length next = w.1 in omega arith)
  | inr le ↦ le
]

settled : (graph : List (List ℕ)) (root k g : ℕ) (o : Option ℕ) → HasLevelWithin graph root (k + 1) g o → ((hs : List ℕ) → IsChain graph root hs g → length hs ≤ k) → HasLevel graph root g o
settled graph root k g None w most = λ way. w way.0 way.1 (let le = most way.0 way.1 in omega (arith, le))
settled graph root k g (Some l) w most = (w.1, λ hs c. w.2 hs c (let le = most hs c in omega (arith, le)))

pub knows_levels : (graph : List (List ℕ)) (root k : ℕ) (levels new : List (Option ℕ)) (wave next : List ℕ) → Knows graph root k levels wave → Raised (k + 1) (callees graph wave) levels new → AreAtLevel new (k + 1) next → length next ≡ 0 → AreLevels graph root new
knows_levels graph root k levels new wave next known r at none = λ g lt. settled graph root k g (get_or new g None) (risen graph root k levels new wave known r g lt) (λ hs c. none_longer graph root k levels new wave next known r at none g hs lt c)

pub knows_longest : (graph : List (List ℕ)) (root k : ℕ) (levels new : List (Option ℕ)) (wave next : List ℕ) → Knows graph root k levels wave → Raised (k + 1) (callees graph wave) levels new → AreAtLevel new (k + 1) next → length next ≡ 0 → IsLongest graph root k
knows_longest graph root k levels new wave next known r at none = record { some = known.some; most = none_longer graph root k levels new wave next known r at none }

pub knows_bound : (graph : List (List ℕ)) (root k : ℕ) (levels : List (Option ℕ)) (wave : List ℕ) → IsAcyclic graph → Knows graph root k levels wave → k ≤ length graph
knows_bound graph root k levels wave acyclic known = let s = known.some in let le = chain_bound graph acyclic root s.0 s.1 s.3 in let e : length s.1 ≡ k = s.4 in omega (arith, le, e)
