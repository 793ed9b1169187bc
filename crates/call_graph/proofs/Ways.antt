-- Chains of calls: one call more at the end, two chains in one, and whose calls they are.
use Rattle.std.proofs.Common.{◌≡◌, ℕ, ◌<◌, ◌≤◌, ◌⊎◌, inl, inr, List, [], ◌∷◌, ◌++◌, length, get_or, zero, suc, refl, sym, ap, subst, arith}
use Rattle.std.proofs.lemmas.Bool.{cases_lt}
use Rattle.std.proofs.lemmas.List.{get_or_past}
use Rattle.c_typed.specs.Chains.{Calls, IsChain, Reaches}
use Rattle.call_graph.specs.Reach.{Leads}

-- who calls is one of the graph
pub caller_within : (graph : List (List ℕ)) (f g : ℕ) → Calls graph f g → f < length graph
caller_within graph f g c = elim (cases_lt f (length graph)) [ inl lt ↦ lt | inr past ↦ absurd (let e = get_or_past graph f [] past in let n : length (get_or graph f []) ≡ 0 = ap length e in let lt : c.0 < length (get_or graph f []) = c.1 in omega arith) ]

-- the first of a chain to one of the graph is one of the graph
pub chain_within : (graph : List (List ℕ)) (f g : ℕ) (hs : List ℕ) → IsChain graph f hs g → g < length graph → f < length graph
chain_within graph f g [] e lt = omega (arith, e)
chain_within graph f g (h ∷ hs) c lt = caller_within graph f h c.0

pub chain_then : (graph : List (List ℕ)) (f g h : ℕ) (hs : List ℕ) → IsChain graph f hs g → Calls graph g h → IsChain graph f (hs ++ h ∷ []) h
chain_then graph f g h [] e c = (subst (λ (k : ℕ). Calls graph k h) (sym e) c, refl)
chain_then graph f g h (i ∷ is) w c = (w.0, chain_then graph i g h is w.1 c)

pub chain_joined : (graph : List (List ℕ)) (f g h : ℕ) (hs is : List ℕ) → IsChain graph f hs g → IsChain graph g is h → IsChain graph f (hs ++ is) h
chain_joined graph f g h [] is e c = subst (λ (k : ℕ). IsChain graph k is h) (sym e) c
chain_joined graph f g h (i ∷ hs) is w c = (w.0, chain_joined graph i g h hs is w.1 c)

pub leads_at_once : (graph : List (List ℕ)) (f g : ℕ) → Calls graph f g → Leads graph f g
leads_at_once graph f g c = (g, [], (c, refl))

pub leads_then : (graph : List (List ℕ)) (f g h : ℕ) → Leads graph f g → Calls graph g h → Leads graph f h
leads_then graph f g h w c = (w.0, w.1 ++ h ∷ [], (w.2.0, chain_then graph w.0 g h w.1 w.2.1 c))

pub leads_on : (graph : List (List ℕ)) (f g h : ℕ) → Leads graph f g → Leads graph g h → Leads graph f h
leads_on graph f g h w v = (w.0, w.1 ++ v.0 ∷ v.1, (w.2.0, chain_joined graph w.0 g h w.1 (v.0 ∷ v.1) w.2.1 v.2))

-- a chain of any length is none, or one of one call or more
pub reaches_cases : (graph : List (List ℕ)) (f g : ℕ) → Reaches graph f g → (f ≡ g) ⊎ Leads graph f g
reaches_cases graph f g w = cases w.0 w.1 where
  cases : (hs : List ℕ) → IsChain graph f hs g → (f ≡ g) ⊎ Leads graph f g
  cases [] e = inl e
  cases (h ∷ hs) c = inr (h, hs, c)

pub reaches_by : (graph : List (List ℕ)) (f g : ℕ) → Leads graph f g → Reaches graph f g
reaches_by graph f g w = (w.0 ∷ w.1, w.2)

pub reaches_on : (graph : List (List ℕ)) (f h g : ℕ) → Calls graph f h → Reaches graph h g → Reaches graph f g
reaches_on graph f h g c w = (h ∷ w.0, (c, w.1))

-- the last call of a chain
pub last_call : (graph : List (List ℕ)) (f g h : ℕ) (hs : List ℕ) → IsChain graph f (h ∷ hs) g → (m : ℕ) × (ks : List ℕ) × IsChain graph f ks m × (length ks ≡ length hs) × Calls graph m g
last_call graph f g h [] c = (f, [], refl, refl, subst (λ (k : ℕ). Calls graph f k) c.1 c.0)
last_call graph f g h (i ∷ is) c = let r = last_call graph h g i is c.1 in (r.0, h ∷ r.1, (c.0, r.2), ap suc r.3, r.4)

-- the first calls of a chain
pub first_calls : (graph : List (List ℕ)) (k f g : ℕ) (hs : List ℕ) → IsChain graph f hs g → k ≤ length hs → g < length graph → (m : ℕ) × (ks : List ℕ) × (m < length graph) × IsChain graph f ks m × (length ks ≡ k)
first_calls graph zero f g hs c le lt = (f, [], chain_within graph f g hs c lt, refl, refl)
first_calls graph (suc k) f g [] c le lt = absurd (omega arith)
first_calls graph (suc k) f g (h ∷ hs) c le lt = let r = first_calls graph k h g hs c.1 (omega arith) lt in (r.0, h ∷ r.1, r.2, (c.0, r.3), ap suc r.4)
