-- Steps through a call graph: what is marked, and what waits on a stack to be gone on from; and who calls whom.
use Rattle.std.specs.Prelude.{◌≡◌, ℕ, ◌+◌, ◌<◌, ◌⊎◌, Bool, true, false, not, List, length, get_or, count_by}
use Rattle.std.specs.List.{Contains}
use Rattle.c_typed.specs.Chains.{Calls}

-- how many are not marked
abbrev pub unmarked : List Bool → ℕ
unmarked marks = count_by not marks

-- What a row names is marked, and what was not marked yet waits.
pub record Found (row : List ℕ) (old : List Bool) (waited : List ℕ) (new : List Bool) (waiting : List ℕ) : Type 0 where
  pub size : length new ≡ length old
  pub kept : (g : ℕ) → get_or old g false ≡ true → get_or new g false ≡ true
  pub found : (g : ℕ) → g < length old → Contains row g → get_or new g false ≡ true
  pub only : (g : ℕ) → get_or new g false ≡ true → (get_or old g false ≡ true) ⊎ (Contains row g × Contains waiting g)
  pub waits : (g : ℕ) → Contains waited g → Contains waiting g
  pub marked : (g : ℕ) → Contains waiting g → Contains waited g ⊎ (Contains row g × (get_or new g false ≡ true))
  pub measure : unmarked new + length waiting ≡ unmarked old + length waited

-- A number stands in the rows of those that its own row names.
pub record CalledBy (number : ℕ) (row : List ℕ) (old new : List (List ℕ)) : Type 0 where
  pub size : length new ≡ length old
  pub kept : (f g : ℕ) → Calls old g f → Calls new g f
  pub put : (g : ℕ) → g < length old → Contains row g → Calls new g number
  pub only : (f g : ℕ) → Calls new g f → Calls old g f ⊎ ((f ≡ number) × Contains row g)
