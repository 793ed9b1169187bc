-- Levels wave by wave: what chains of so many calls lead to.
use Rattle.std.specs.Prelude.{◌≡◌, ℕ, ◌<◌, ◌≤◌, ◌⊎◌, ◌↔◌, List, [], Option, Some, None, length, get_or}
use Rattle.std.specs.List.{Contains, flat_map}
use Rattle.c_typed.specs.Chains.{IsChain}

-- The longest chain of at most k calls from a root to g is told, or that there is none.
abbrev pub HasLevelWithin : List (List ℕ) → ℕ → ℕ → ℕ → Option ℕ → Type 0
HasLevelWithin graph root k g None = (hs : List ℕ) → IsChain graph root hs g → length hs ≤ k → ⊥
HasLevelWithin graph root k g (Some level) = (level ≤ k) × ((hs : List ℕ) × IsChain graph root hs g × (length hs ≡ level)) × ((hs : List ℕ) → IsChain graph root hs g → length hs ≤ k → length hs ≤ level)

-- The numbers of a list are those whose level this is.
abbrev pub AreAtLevel : List (Option ℕ) → ℕ → List ℕ → Type 0
AreAtLevel levels level numbers = (n : ℕ) → Contains numbers n ↔ ((n < length levels) × (get_or levels n None ≡ Some level))

-- What a row names has this level now, and the rest keeps its own.
pub record Raised (level : ℕ) (row : List ℕ) (old new : List (Option ℕ)) : Type 0 where
  pub size : length new ≡ length old
  pub raised : (g : ℕ) → g < length old → Contains row g → get_or new g None ≡ Some level
  pub others : (g : ℕ) → (get_or new g None ≡ get_or old g None) ⊎ ((get_or new g None ≡ Some level) × Contains row g)

-- what the numbers of a list call
abbrev pub callees : List (List ℕ) → List ℕ → List ℕ
callees graph numbers = flat_map (λ n. get_or graph n []) numbers
