-- What the code keeps of a call graph, to see which copies may be live together.
use Rattle.std.specs.Prelude.{◌≡◌, ℕ, ◌+◌, ◌<◌, ◌≤◌, ◌^◌, ◌↔◌, ◌⊎◌, Bool, true, false, List, length, get_or}
use Rattle.c_typed.specs.Chains.{number_of, graph_of}
use Rattle.c_typed.specs.Trees.{Program}
use Rattle.call_graph.specs.Reach.{Leads, AreCallers}
use Rattle.call_graph.specs.Rows.{rows_of}
use Rattle.call_graph.specs.declared.types.FnCopy.{FnCopy}
use Rattle.live_frames.specs.Memory.{is_taken, covers}
use Rattle.live_frames.specs.declared.live.Graph.{Graph}
use Rattle.live_frames.specs.declared.live.Reach.{Reach}

-- its rows are those of the program's call graph
abbrev pub IsGraphOf : Program → Graph → Type 0
IsGraphOf p graph = (graph.functions ≡ length p.functions) × (rows_of graph.rows.items ≡ graph_of p)

-- the number of the copy's function is one of the graph
abbrev pub IsIn : Graph → FnCopy → Type 0
IsIn graph copy = number_of graph.functions copy.function < length graph.rows.items

-- it is told who calls whom
pub record IsSound (graph : Graph) : Type 0 where
  pub few : graph.functions ≤ 2 ^ 28
  pub size : length graph.callers.items ≡ length graph.rows.items
  pub callers : AreCallers (rows_of graph.rows.items) (rows_of graph.callers.items)

-- The numbers that a chain of one call or more from f leads to are marked, and those from which one leads to f.
pub record IsReach (graph : Graph) (f : ℕ) (reach : Reach) : Type 0 where
  pub forward : (g : ℕ) → g < length graph.rows.items → (is_taken reach.forward.items g ≡ true) ↔ Leads (rows_of graph.rows.items) f g
  pub backward : (g : ℕ) → g < length graph.rows.items → (is_taken reach.backward.items g ≡ true) ↔ Leads (rows_of graph.rows.items) g f

-- The bytes of a frame are taken besides, if it may be live.
abbrev pub IsTakenWith : Type 0 → List Bool → ℕ → ℕ → List Bool → Type 0
IsTakenWith live old address size new = (x : ℕ) → x < 512 → (is_taken new x ≡ true) ↔ ((is_taken old x ≡ true) ⊎ (live × (covers address size x ≡ true)))
