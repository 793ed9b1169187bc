-- Between two marks of byte code few steps of the source are counted: so many for each node of the program.
use Rattle.std.specs.Prelude.{ℕ, ◌*◌, ◌<◌, ◌≤◌, List}
use Rattle.std.specs.List.{All}
use Rattle.pic_world.specs.World.{Outside, event_as}
use Rattle.run_links.specs.Runs.{Goes, Follows, IsWithin}
use Rattle.c_typed.specs.TreeNodes.{nodes_of}
use Rattle.c_typed.specs.Trees.{Program}
use Rattle.call_graph.specs.declared.types.FnCopy.{FnCopy}
use Rattle.src_rules.specs.Runs.{steps_by}
use Rattle.core_code.specs.Machine.{Setting}
use Rattle.core_code.specs.Runs.{least_by, run_of}
use Rattle.lower_stmt.specs.Programs.{core_of}
use Rattle.lower_trace.specs.Lowering.{IsLowerable, source_run, held_as}
use Rattle.lag_trace.specs.Marks.{marks_by, marked_run, uncounted_in}

-- how many steps of the language a node of the tree may stand for between two marks, those for each byte that it reads and writes among them
abbrev pub node_steps : ℕ
node_steps = 200

-- Byte code follows the first n micro-steps, at the costs that lowering promises; and fewer steps are counted by then than its marks so far
-- and one allow, or byte code rests there.
pub record IsPaced (p : Program) (copies : List FnCopy) (o : Outside) (n : ℕ) : Type 0 where
  pub link : Follows (event_as (held_as p copies)) (source_run (record { program = p; outside = o })) (marked_run (record { program = core_of p copies; outside = o })) n
  pub lag : IsWithin (marked_run (record { program = core_of p copies; outside = o })) (node_steps * nodes_of p) (steps_by (record { program = p; outside = o }) n) (link.at n)

-- under every schedule, as long as no step of the source is undefined
abbrev pub KeepsPace : Type 0
KeepsPace =
    (p : Program) (copies : List FnCopy) → IsLowerable p copies → (o : Outside) → All (λ byte. byte < 256) o.input
    → (n : ℕ) → Goes (source_run (record { program = p; outside = o })) n → IsPaced p copies o n

-- Each mark is sure to take an instruction.
abbrev pub MarksCost : Type 0
MarksCost = (g : Setting) (n : ℕ) → marks_by g n ≤ least_by g n

-- The run of the same code without sure accesses to variables follows the marked run step by step, and costs no less at least. So a pass that
-- keeps its steps to such code keeps them to marks.
abbrev pub MarksServe : Type 0
MarksServe =
    (g : Setting) (n : ℕ) → Goes (marked_run g) n
    → (link : Follows (λ event. event) (marked_run g) (run_of (uncounted_in g)) n) × ((i : ℕ) → i ≤ n → (marked_run g).least i ≤ (run_of (uncounted_in g)).least (link.at i))
