-- The start of a run, and what the law of one step gives: the theorem of lowering.
use Rattle.std.proofs.Common.{◌≡◌, ℕ, ◌+◌, ◌≤◌, [], ◌∷◌, refl, sym, ap, ◌∙◌}
use Rattle.run_links.specs.Runs.{Goes}
use Rattle.c_typed.specs.TreeNodes.{nodes_of}
use Rattle.core_code.specs.Machine as core
use Rattle.core_code.specs.Machine.{Machine, core_moment, core_run}
use Rattle.core_code.specs.Tree as code
use Rattle.lower_stmt.specs.Jumps.{outside}
use Rattle.lower_stmt.specs.Statements.{stmts_code}
use Rattle.pic_world.specs.World.{world_as, event_as, world_at_start}
use Rattle.pic_world.specs.declared.Root.TheVariants.{Main}
use Rattle.pic_world.proofs.WorldLaws.{arrived_as}
use Rattle.src_rules.specs.Standing.{IsReached}
use Rattle.src_rules.specs.State.{State}
use Rattle.src_rules.specs.Step.{copy_of, start, body_of}
use Rattle.src_values.specs.Control.{Past, active}
use Rattle.src_values.specs.Memory.{first_memory}
use Rattle.src_values.specs.Objects.{function_at, main_of}
use Rattle.lower_trace.specs.Lowering.{IsLowered, source_run, step_price}
use Rattle.lower_trace.proofs.CodeLeft.{Scene, held, number, ground_in, core_in, source_in, todo}
use Rattle.lower_trace.proofs.Kept.{SceneLaws}
use Rattle.lower_trace.proofs.Mirrors.{Mirrors, Agrees}
use Rattle.lower_trace.proofs.Placed.{plain_tasks, todo_join}
use Rattle.lower_trace.proofs.Stepping.{Keeps, following}

-- The relation holds at the start, where main's copy has the number 0 and static objects have their first bytes.
pub start_mirrors : (z : Scene) (laws : SceneLaws z) → IsReached z.program (copy_of Main (main_of z.program)) → number z (copy_of Main (main_of z.program)) ≡ 0
    → Agrees z (active (copy_of Main (main_of z.program)) Past (body_of z.program (main_of z.program) [])) (first_memory z.program) (core.first_memory (core_in z).program)
    → Mirrors z (start (source_in z)) (core_moment (core_in z) 0)
unfolding start core_run world_as
start_mirrors z laws reached zero_is agrees =
    let c = copy_of Main (main_of z.program) in
    let body = (function_at z.program (main_of z.program)).body in
    record {
      copy = sym zero_is;
      passing = refl;
      code = plain_tasks [] ((core_in z).program.body 0) [] ∙ ap (λ i. todo ((core_in z).program.body i) []) (sym zero_is) ∙ ap (λ y. todo y []) (laws.bodies c reached) ∙ todo_join (stmts_code (ground_in z c) outside body) (code.Leave ∷ []) [];
      stack = refl;
      agrees = agrees;
      holds = tt;
      value = tt;
      world = arrived_as (held z) z.outside world_at_start;
    }

-- The theorem of lowering, from a relation that every step keeps at the costs that are bought.
pub lowered_by : (z : Scene) (Stands : State → Machine → Type 0) (words left : State → ℕ) (reserve room : ℕ) → reserve + room ≤ step_price → Keeps (event_as (held z)) (source_in z) (core_in z) Stands words left reserve room (nodes_of z.program)
    → (n : ℕ) → Goes (source_run (source_in z)) n → IsLowered z.program z.copies z.outside n
lowered_by z Stands words left reserve room enough keeps n goes =
    let f = following (event_as (held z)) (source_in z) (core_in z) Stands words left reserve room step_price (nodes_of z.program) enough keeps n goes in
    record { link = f.0; lag = f.1 }
