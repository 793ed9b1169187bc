-- Lists of copies, as they are made: what is put behind a list, under a root and a level.
use Rattle.std.specs.Prelude.{◌≡◌, ℕ, ◌+◌, ◌≤◌, ◌⊎◌, ◌↔◌, Bool, false, ◌||◌, nat_eq, if◌then◌else◌, List, [], ◌∷◌, Option, Some, None, length, get_or}
use Rattle.std.specs.List.{Contains, AllPairs}
use Rattle.c_typed.specs.Chains.{number_of}
use Rattle.call_graph.specs.Copies.{IsOne, StandsBefore}
use Rattle.call_graph.specs.Levels.{AreLevels, IsLongest}
use Rattle.call_graph.specs.declared.levels.Levels.{Levels}
use Rattle.call_graph.specs.declared.types.FnCopy.{FnCopy}
use Rattle.pic_world.specs.declared.Root.{Root}
use Rattle.pic_world.specs.declared.Root.TheVariants as root

-- The copies that pass a test are added to a list, in order.
pub record Adds (functions : ℕ) (P : FnCopy → Type 0) (old new : List FnCopy) : Type 0 where
  pub exact : (c : FnCopy) → Contains new c ↔ (Contains old c ⊎ P c)
  pub ordered : AllPairs (StandsBefore functions) old → ((a b : FnCopy) → Contains old a → P b → StandsBefore functions a b) → AllPairs (StandsBefore functions) new

-- a copy of a root, by the levels under it
pub record UnderRoot (functions : ℕ) (entry : Root) (levels : List (Option ℕ)) (c : FnCopy) : Type 0 where
  pub same : c.root ≡ entry
  pub one : IsOne functions c.function
  pub level : get_or levels (number_of functions c.function) None ≡ Some c.level

abbrev pub AtLevel : ℕ → Root → List (Option ℕ) → ℕ → FnCopy → Type 0
AtLevel functions entry levels level c = (c.level ≡ level) × UnderRoot functions entry levels c

abbrev pub UnderHandler : ℕ → Option Levels → FnCopy → Type 0
UnderHandler functions None c = ⊥
UnderHandler functions (Some found) c = UnderRoot functions root.Isr found.levels.items c

-- the copies of both roots
abbrev pub UnderRoots : ℕ → Levels → Option Levels → FnCopy → Type 0
UnderRoots functions main handler c = UnderRoot functions root.Main main.levels.items c ⊎ UnderHandler functions handler c

-- The levels of a graph under a root, and the calls of its longest chain.
pub record Measures (graph : List (List ℕ)) (entry : ℕ) (found : Levels) : Type 0 where
  pub size : length found.levels.items ≡ length graph
  pub levels : AreLevels graph entry found.levels.items
  pub longest : IsLongest graph entry found.longest
  pub bound : found.longest ≤ length graph

abbrev pub MeasuresHandler : List (List ℕ) → Option ℕ → Option Levels → Type 0
MeasuresHandler graph None None = Unit {0}
MeasuresHandler graph None (Some found) = ⊥
MeasuresHandler graph (Some entry) None = ⊥
MeasuresHandler graph (Some entry) (Some found) = Measures graph entry found

-- one of these functions has that level
abbrev pub has_level : Option ℕ → ℕ → Bool
has_level None level = false
has_level (Some found) level = nat_eq found level

abbrev pub is_at_level : List ℕ → List (Option ℕ) → ℕ → Bool
is_at_level [] levels level = false
is_at_level (f ∷ fs) levels level = has_level (get_or levels f None) level || is_at_level fs levels level

-- the calls of the longest chain, where each of these functions calls one more leaf
abbrev pub longest_by : List ℕ → Levels → ℕ
longest_by deeper found = if is_at_level deeper found.levels.items found.longest then found.longest + 1 else found.longest
