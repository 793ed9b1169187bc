-- The copies of a program's functions and helpers, and how many words of the return stack its calls take. The roots are
-- main and the interrupt handler (HI-TECH PICC manual, interrupt functions); the return stack is that of the data sheet
-- DS39582.
use Rattle.std.specs.Prelude.{◌≡◌, ℕ, ◌+◌, ◌<◌, ◌⊎◌, ◌↔◌, List, [], Option, Some, None, length, map, get_or}
use Rattle.std.specs.List.{Contains, AllPairs}
use Rattle.c_typed.specs.Chains.{graph_of, number_of, IsLevel}
use Rattle.c_typed.specs.Roots.{is_main, is_handler, first_from}
use Rattle.c_typed.specs.Trees.{Program}
use Rattle.c_typed.specs.declared.calls.FnId.{FnId}
use Rattle.c_typed.specs.declared.calls.FnId.TheVariants as callee
use Rattle.call_graph.specs.Levels.{IsLongest, IsLongestBy}
use Rattle.call_graph.specs.declared.types.FnCopy.{FnCopy}
use Rattle.pic_world.specs.declared.Root.{Root}
use Rattle.pic_world.specs.declared.Root.TheVariants as root

-- the number of main, and that of the handler, where there is one
abbrev pub root_of : Program → Root → Option ℕ
root_of p root.Main = first_from is_main p.functions 0
root_of p root.Isr = first_from is_handler p.functions 0

-- the name of a function
abbrev pub name_at : Program → ℕ → List ℕ
name_at p number = get_or (map (λ f. f.name) p.functions) number []

-- one of so many functions, or a helper
abbrev pub IsOne : ℕ → FnId → Type 0
IsOne functions (callee.User number) = number < functions
IsOne functions (callee.Helper helper) = Unit {0}

-- A copy is one of a function or helper that a root reaches, with its level under that root.
pub record IsCopy (p : Program) (c : FnCopy) : Type 0 where
  pub number : ℕ
  pub entered : root_of p c.root ≡ Some number
  pub one : IsOne (length p.functions) c.function
  pub level : IsLevel (graph_of p) number (number_of (length p.functions) c.function) c.level

abbrev pub root_place : Root → ℕ
root_place root.Main = 0
root_place root.Isr = 1

-- The order in which frames are placed: main's root first, within a root by level, within a level in order of definition,
-- and the helpers behind the functions of their level.
abbrev pub StandsBefore : ℕ → FnCopy → FnCopy → Type 0
StandsBefore functions a b = (root_place a.root < root_place b.root) ⊎ ((a.root ≡ b.root) × ((a.level < b.level) ⊎ ((a.level ≡ b.level) × (number_of functions a.function < number_of functions b.function))))

-- The list has exactly the copies, in their order, each once.
pub record AreCopies (p : Program) (list : List FnCopy) : Type 0 where
  pub exact : (c : FnCopy) → Contains list c ↔ IsCopy p c
  pub ordered : AllPairs (StandsBefore (length p.functions)) list

-- The longest chain from main, and where there is a handler, 1 and the longest chain from it.
abbrev pub IsDepth : List (List ℕ) → Option ℕ → Option ℕ → ℕ → Type 0
IsDepth graph None handler depth = ⊥
IsDepth graph (Some main) None depth = IsLongest graph main depth
IsDepth graph (Some main) (Some handler) depth = (m : ℕ) × (n : ℕ) × IsLongest graph main m × IsLongest graph handler n × (depth ≡ m + 1 + n)

-- how many words of the return stack the calls of a program take
abbrev pub HasDepth : Program → ℕ → Type 0
HasDepth p depth = IsDepth (graph_of p) (root_of p root.Main) (root_of p root.Isr) depth

-- the same where each of these functions calls one more leaf
abbrev pub IsDepthBy : List ℕ → List (List ℕ) → Option ℕ → Option ℕ → ℕ → Type 0
IsDepthBy deeper graph None handler depth = ⊥
IsDepthBy deeper graph (Some main) None depth = IsLongestBy deeper graph main depth
IsDepthBy deeper graph (Some main) (Some handler) depth = (m : ℕ) × (n : ℕ) × IsLongestBy deeper graph main m × IsLongestBy deeper graph handler n × (depth ≡ m + 1 + n)

-- How many words the calls of a program take where each of these functions calls one more leaf.
abbrev pub HasDepthBy : Program → List ℕ → ℕ → Type 0
HasDepthBy p deeper depth = IsDepthBy deeper (graph_of p) (root_of p root.Main) (root_of p root.Isr) depth
