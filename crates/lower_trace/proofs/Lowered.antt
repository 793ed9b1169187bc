-- The theorem of lowering.
use Rattle.std.proofs.Common.{◌≡◌, ℕ, ◌+◌, ◌*◌, ◌<◌, ◌≤◌, ◌⊎◌, true, List, Option, arith}
use Rattle.std.specs.List.{All}
use Rattle.c_typed.specs.TreeNodes.{nodes_of}
use Rattle.c_typed.specs.Trees.{Program}
use Rattle.call_graph.specs.declared.types.FnCopy.{FnCopy}
use Rattle.pic_world.specs.World.{Happening, Outside}
use Rattle.run_links.specs.Runs.{Goes}
use Rattle.src_rules.specs.Runs.{is_idle, one_if}
use Rattle.src_rules.specs.State.{State, Went}
use Rattle.src_rules.specs.Step.{counts, step}
use Rattle.src_values.specs.declared.objects.Byte.{Byte}
use Rattle.lower_trace.specs.Lowering.{IsLowerable, IsLowered, Lowers, source_run}
use Rattle.lower_trace.proofs.BoundLowers.{lowered}
use Rattle.lower_trace.proofs.CodeLeft.{Scene, source_in}
use Rattle.lower_trace.proofs.Known.{Known}
use Rattle.lower_trace.proofs.LagPriced.{few_steps, steps_left, steps_pace}
use Rattle.lower_trace.proofs.LedSteps.{step_at_least}
use Rattle.lower_trace.proofs.AllLaws.{node_laws}
use Rattle.lower_trace.proofs.PricedSteps.{Paces, priced}

module _ (z : Scene) (given : IsLowerable z.program z.copies) (input : All (λ byte. byte < 256) z.outside.input) where
  step_paces : (t u : State) (event : Option (Happening Byte)) → Known z t → step (source_in z) t ≡ Went u event
      → (steps_left z given input u + one_if (counts (source_in z) t) ≤ steps_left z given input t + step_at_least z t * nodes_of z.program) ⊎ (is_idle (step (source_in z) u) ≡ true)
  step_paces t u event known e = steps_pace z given input t u event (step_at_least z t) known e (omega arith)

  paces : Paces z (steps_left z given input)
  paces = record { steps = step_paces; few = few_steps z given input }

  pub lowered_by : (n : ℕ) → Goes (source_run (source_in z)) n → IsLowered z.program z.copies z.outside n
  lowered_by n goes = lowered z given input (steps_left z given input) (priced z given input (node_laws z given input) (steps_left z given input) paces) n goes

abbrev pub scene : Program → List FnCopy → Outside → Scene
scene p copies o = record { program = p; copies = copies; outside = o }

-- Lowering keeps what it promises.
pub lowers : Lowers
lowers p copies given o input n goes = lowered_by (scene p copies o) given input n goes
