-- Recursion, and how deep chains of calls go, over a call graph by numbers.
use Rattle.std.specs.Prelude.{◌≡◌, ℕ, ◌+◌, ◌<◌, ◌≤◌, nat_eq, if◌then◌else◌, List, [], ◌∷◌, Option, Some, None, length, get_or}
use Rattle.c_typed.specs.Chains.{IsChain, Reaches, ReachesItself, IsLevel}

-- no chain of one call or more leads back to where it began
abbrev pub IsAcyclic : List (List ℕ) → Type 0
IsAcyclic graph = (f : ℕ) → ReachesItself graph f → ⊥

-- the first that reaches itself
pub record IsFirstRecursive (graph : List (List ℕ)) (f : ℕ) : Type 0 where
  pub reaches_itself : ReachesItself graph f
  pub none_before : (g : ℕ) → g < f → ReachesItself graph g → ⊥

-- The level of g under a root is told, or that no chain leads from the root to it.
abbrev pub HasLevel : List (List ℕ) → ℕ → ℕ → Option ℕ → Type 0
HasLevel graph root g None = Reaches graph root g → ⊥
HasLevel graph root g (Some level) = IsLevel graph root g level

abbrev pub AreLevels : List (List ℕ) → ℕ → List (Option ℕ) → Type 0
AreLevels graph root levels = (g : ℕ) → g < length graph → HasLevel graph root g (get_or levels g None)

-- The longest chains from a root to functions and helpers of the graph have so many calls.
pub record IsLongest (graph : List (List ℕ)) (root count : ℕ) : Type 0 where
  pub some : (g : ℕ) × (hs : List ℕ) × (g < length graph) × IsChain graph root hs g × (length hs ≡ count)
  pub most : (g : ℕ) (hs : List ℕ) → g < length graph → IsChain graph root hs g → length hs ≤ count

-- The calls that a chain to g goes on by, where each of these functions calls one more leaf. The leaf is none of the graph's.
abbrev pub leaf_calls : List ℕ → ℕ → ℕ
leaf_calls [] g = 0
leaf_calls (f ∷ fs) g = if nat_eq f g then 1 else leaf_calls fs g

-- The longest chains from a root have so many calls, where each of these functions calls one more leaf.
pub record IsLongestBy (deeper : List ℕ) (graph : List (List ℕ)) (root count : ℕ) : Type 0 where
  pub some : (g : ℕ) × (hs : List ℕ) × (g < length graph) × IsChain graph root hs g × (length hs + leaf_calls deeper g ≡ count)
  pub most : (g : ℕ) (hs : List ℕ) → g < length graph → IsChain graph root hs g → length hs + leaf_calls deeper g ≤ count
