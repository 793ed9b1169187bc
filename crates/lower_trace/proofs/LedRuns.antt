-- Each state of a run is followed: from the laws of each focus, by induction. What byte code has cost by then is within the sums of the prices.
use Rattle.std.proofs.Common.{◌≡◌, ℕ, zero, suc, ◌+◌, ◌<◌, ◌≤◌, inl, map, refl, arith}
use Rattle.std.specs.List.{All}
use Rattle.core_code.specs.Machine.{Machine, core_moment}
use Rattle.pic_world.specs.World.{event_as}
use Rattle.src_rules.specs.Runs.{gone, moment, run}
use Rattle.src_rules.specs.State.{State, Outcome, Went, Undefined, Idle, Lost}
use Rattle.src_rules.specs.Step.{step}
use Rattle.lower_trace.specs.Lowering.{IsLowerable}
use Rattle.lower_trace.proofs.FirstMemory.{first_mirrors}
use Rattle.lower_trace.proofs.CodeLeft.{Scene, core_in, held, source_in}
use Rattle.lower_trace.proofs.Known.{Known, known_first, known_next}
use Rattle.lower_trace.proofs.LedSteps.{NodeLaws, Relates, step_at_most, step_at_least, relates_trace, step_led}
use Rattle.lower_trace.proofs.Walks.{Walk, stay, walk_on}

-- ---- the prices of the first micro-steps together
abbrev pub if_went : Outcome → ℕ → ℕ
if_went (Went u event) cost = cost
if_went _ cost = 0

unfoldable pub most_to : Scene → ℕ → ℕ
most_to z zero = 0
most_to z (suc n) = most_to z n + if_went (step (source_in z) (moment (source_in z) n)) (step_at_most z (moment (source_in z) n))

unfoldable pub least_to : Scene → ℕ → ℕ
least_to z zero = 0
least_to z (suc n) = least_to z n + if_went (step (source_in z) (moment (source_in z) n)) (step_at_least z (moment (source_in z) n))

-- Byte code comes from its start to a machine that stands for a state of the source, at costs between these.
pub record Followed (z : Scene) (t : State) (high low : ℕ) : Type 0 where
  pub count : ℕ
  pub most : ℕ
  pub least : ℕ
  pub place : Machine
  pub walk : Walk (core_in z) count (core_moment (core_in z) 0) place most least
  pub is : Relates z t place
  pub within : most ≤ high
  pub beyond : low ≤ least

module _ (z : Scene) (given : IsLowerable z.program z.copies) (input : All (λ byte. byte < 256) z.outside.input) where
  known_on : (t : State) (o : Outcome) → step (source_in z) t ≡ o → Known z t → Known z (gone t o)
  known_on t (Went u event) e k = known_next z given input t u event k e
  known_on t (Undefined kind line) e k = k
  known_on t Idle e k = k
  known_on t Lost e k = k

  -- what is known of each state
  pub known_at : (n : ℕ) → Known z (moment (source_in z) n)
  unfolding run
  known_at zero = known_first z given input
  known_at (suc n) = known_on (moment (source_in z) n) (step (source_in z) (moment (source_in z) n)) refl (known_at n)

  module _ (nodes : NodeLaws z) where
    goes_with : (t u : State) (high low : ℕ) (event : _) → Known z t → step (source_in z) t ≡ Went u event → Followed z t high low → Followed z u (high + step_at_most z t) (low + step_at_least z t)
    goes_with t u high low event known e f =
        let s = step_led z given input nodes t f.place u event known f.is e in
        let within = f.within in
        let beyond = f.beyond in
        let s_within = s.low in
        let s_beyond = s.high in
        record {
          count = f.count + s.comes.count;
          most = f.most + s.most;
          least = f.least + s.least;
          place = s.comes.place;
          walk = walk_on (core_in z) f.count s.comes.count (core_moment (core_in z) 0) f.place s.comes.place f.most f.least s.most s.least f.walk s.comes.walk;
          is = s.comes.is;
          within = omega arith;
          beyond = omega arith;
        }

    stays_with : (t : State) (high low : ℕ) → Followed z t high low → Followed z t (high + 0) (low + 0)
    stays_with t high low f =
        let within = f.within in
        let beyond = f.beyond in
        record { count = f.count; most = f.most; least = f.least; place = f.place; walk = f.walk; is = f.is; within = omega arith; beyond = omega arith }

    goes_on_with : (t : State) (o : Outcome) (high low : ℕ) → step (source_in z) t ≡ o → Known z t → Followed z t high low → Followed z (gone t o) (high + if_went o (step_at_most z t)) (low + if_went o (step_at_least z t))
    goes_on_with t (Went u event) high low e k f = goes_with t u high low event k e f
    goes_on_with t (Undefined kind line) high low e k f = stays_with t high low f
    goes_on_with t Idle high low e k f = stays_with t high low f
    goes_on_with t Lost high low e k f = stays_with t high low f

    -- Byte code follows each state of a run ..
    pub followed : (n : ℕ) → Followed z (moment (source_in z) n) (most_to z n) (least_to z n)
    unfolding run most_to least_to
    followed zero = record { count = 0; most = 0; least = 0; place = core_moment (core_in z) 0; walk = stay (core_in z) (core_moment (core_in z) 0); is = inl (inl (first_mirrors z given)); within = omega arith; beyond = omega arith }
    followed (suc n) = goes_on_with (moment (source_in z) n) (step (source_in z) (moment (source_in z) n)) (most_to z n) (least_to z n) refl (known_at n) (followed n)

    -- .. and has told as much.
    pub told : (n : ℕ) → (followed n).place.world.trace ≡ map (event_as (held z)) (moment (source_in z) n).world.trace
    told n = relates_trace z (moment (source_in z) n) (followed n).place (followed n).is
