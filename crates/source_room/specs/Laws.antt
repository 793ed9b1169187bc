-- How much of a stack a run needs.
use Rattle.std.specs.Prelude.{ℕ, ◌≡◌, ◌+◌, ◌*◌, ◌<◌, ◌≤◌, Option, Some, None, length}
use Rattle.call_graph.specs.Copies.{HasDepth}
use Rattle.call_graph.specs.Levels.{IsAcyclic}
use Rattle.c_typed.specs.Chains.{graph_of, Calls}
use Rattle.c_typed.specs.Trees.{Program}
use Rattle.source_room.specs.Depth.{function_depth, deepest_function, most_entries}
use Rattle.src_rules.specs.Laws.{IsProper, IsOfBytes, entries}
use Rattle.src_rules.specs.Runs.{moment}
use Rattle.src_values.specs.Memory.{Setting}
use Rattle.src_values.specs.Objects.{function_at, handler_in, main_of}

-- At each moment of a program in which no function reaches itself the stack has at most so many entries.
abbrev pub StackIsShallow : Type 0
StackIsShallow =
    (s : Setting) → IsProper s.program → IsOfBytes s.outside → IsAcyclic (graph_of s.program) → (n : ℕ)
    → entries (moment s n).stack ≤ most_entries s.program

-- So many entries suffice for each run of a program in which no function reaches itself.
abbrev pub Suffices : Program → ℕ → Type 0
Suffices p room =
    (s : Setting) → s.program ≡ p → IsProper s.program → IsOfBytes s.outside → IsAcyclic (graph_of s.program) → (n : ℕ)
    → entries (moment s n).stack ≤ room

-- ---- by the longest way along calls
-- Numbers of entries for functions, each at least what the function needs by itself, and with it what any function needs that it calls.
-- The longest ways along calls are such numbers.
pub record AreWays (p : Program) (way : ℕ → ℕ) : Type 0 where
  pub own : (f : ℕ) → f < length p.functions → function_depth (function_at p f) ≤ way f
  pub called : (f g : ℕ) → f < length p.functions → g < length p.functions → Calls (graph_of p) f g → function_depth (function_at p f) + way g ≤ way f

abbrev pub handlers_way : (ℕ → ℕ) → Option ℕ → ℕ
handlers_way way None = 0
handlers_way way (Some h) = way h

-- At each moment the stack has at most as many entries as main's way and the handler's have.
abbrev pub StackIsWithinWays : Type 0
StackIsWithinWays =
    (s : Setting) → IsProper s.program → IsOfBytes s.outside → (way : ℕ → ℕ) → AreWays s.program way → (n : ℕ)
    → entries (moment s n).stack ≤ way (main_of s.program) + handlers_way way (handler_in s.program)

-- ---- by the longest chains of calls
-- No more functions are active at a time than the return stack has addresses, and one more: so at each moment the stack has at most so
-- many times the entries that the deepest function needs.
abbrev pub StackIsWithinDepth : Type 0
StackIsWithinDepth =
    (s : Setting) → IsProper s.program → IsOfBytes s.outside → (depth : ℕ) → HasDepth s.program depth → (n : ℕ)
    → entries (moment s n).stack ≤ (depth + 1) * deepest_function s.program
