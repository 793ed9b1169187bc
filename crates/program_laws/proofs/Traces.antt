-- Each event of a run has a name.
use Rattle.std.proofs.Common.{◌≡◌, ℕ, zero, suc, List, [], ◌∷◌, ◌++◌, Option, Some, None, refl, sym, subst}
use Rattle.c_typed.specs.Trees.{Program}
use Rattle.program_laws.proofs.EventSteps.{step_named}
use Rattle.program_laws.specs.EventNames.{AllNamed, IsNamed, IsNamedIfAny, MakesNamed, TakenAreNamed, TracesAreNamed}
use Rattle.pic_world.specs.World.{Happening}
use Rattle.src_rules.proofs.Changes.{trace_grows}
use Rattle.src_rules.proofs.Moments.{moments}
use Rattle.src_rules.proofs.Readies.{are_moments, comes}
use Rattle.src_rules.specs.Laws.{Adds, IsOfBytes, IsProper}
use Rattle.src_rules.specs.Runs.{after, gone, moment, run, take}
use Rattle.src_rules.specs.State.{State, Outcome, Went, Undefined, Idle, Lost}
use Rattle.src_rules.specs.Step.{start, step}
use Rattle.src_values.specs.Memory.{Setting}
use Rattle.src_values.specs.declared.objects.Byte.{Byte}

-- ---- steps
pub taken_named : TakenAreNamed
unfolding take
taken_named s proper input n = step_named s _ (comes s proper input (after s n) (are_moments s proper input n).1).1

-- ---- traces
one_more : (p : Program) (events : List (Happening Byte)) (event : Happening Byte) → AllNamed p events → IsNamed p event → AllNamed p (events ++ event ∷ [])
one_more p [] event h e = (e, tt)
one_more p (x ∷ xs) event h e = (h.0, one_more p xs event h.1 e)

adds_named : (p : Program) (before later : List (Happening Byte)) (event : Option (Happening Byte)) → Adds before event later → AllNamed p before → IsNamedIfAny p event → AllNamed p later
adds_named p before later None e h named = subst (AllNamed p) (sym e) h
adds_named p before later (Some event) e h named = subst (AllNamed p) (sym e) (one_more p before event h named)

gone_named : (s : Setting) (t : State) (out : Outcome) → step s t ≡ out → AllNamed s.program t.world.trace → MakesNamed s.program out → AllNamed s.program (gone t out).world.trace
gone_named s t (Went u event) e h named = adds_named s.program t.world.trace u.world.trace event (trace_grows s t u event e) h named
gone_named s t (Undefined kind line) e h named = h
gone_named s t Idle e h named = h
gone_named s t Lost e h named = h

moment_named : (s : Setting) → IsProper s.program → IsOfBytes s.outside → (n : ℕ) → AllNamed s.program (moment s n).world.trace
unfolding run start
moment_named s proper input zero = tt
moment_named s proper input (suc n) = gone_named s (moment s n) (step s (moment s n)) refl (moment_named s proper input n) (step_named s (moment s n) (moments s proper input n).0)

pub traces_named : TracesAreNamed
traces_named s proper input n =
    let m = (are_moments s proper input n).0 in
    subst (λ (t : State). AllNamed s.program t.world.trace) (sym m.1) (moment_named s proper input m.0)
