-- Which functions and helpers chains of calls lead to, over a call graph by numbers.
use Rattle.std.specs.Prelude.{◌≡◌, ℕ, ◌<◌, ◌↔◌, Bool, true, false, List, ◌∷◌, length, get_or}
use Rattle.c_typed.specs.Chains.{Calls, IsChain}

-- a chain of one call or more leads from f to g
abbrev pub Leads : List (List ℕ) → ℕ → ℕ → Type 0
Leads graph f g = (h : ℕ) × (hs : List ℕ) × IsChain graph f (h ∷ hs) g

-- The numbers of a graph that are marked are those that a chain of one call or more from f leads to.
abbrev pub AreReached : List (List ℕ) → ℕ → List Bool → Type 0
AreReached graph f marks = (g : ℕ) → g < length graph → (get_or marks g false ≡ true) ↔ Leads graph f g

-- Each number of a graph calls in the other what calls it in the one.
abbrev pub AreCallers : List (List ℕ) → List (List ℕ) → Type 0
AreCallers graph callers = (f g : ℕ) → g < length graph → Calls callers g f ↔ Calls graph f g
