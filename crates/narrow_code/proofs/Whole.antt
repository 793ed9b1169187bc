-- The program that is made follows the given one.
use Rattle.std.proofs.Common.{◌≡◌, ℕ, zero, suc, ◌+◌, ◌<◌, ◌≤◌, Bool, true, false, if◌then◌else◌, List, [], None, map, map-id, refl, sym, ap, ◌∙◌, subst, ⊎_elim, arith}
use Rattle.std.proofs.lemmas.Bool.{cases_lt}
use Rattle.pic_world.specs.World.{Outside, Happening, world_at_start}
use Rattle.run_links.specs.Runs.{Run, Goes, Follows, IsSlow}
use Rattle.core_code.specs.Bytes.{Held}
use Rattle.core_code.specs.Cost.{step_most, step_least}
use Rattle.core_code.specs.Machine as next
use Rattle.core_code.specs.Machine.{Task, Machine, Next, Setting, Stuck, Still, core_step, goes_on, is_still, gone, core_run, first_memory, core_start, core_moment}
use Rattle.core_code.specs.Runs.{most_by, least_by, run_of}
use Rattle.core_code.specs.declared.code.Byte.TheVariants.{Static, Frame, Result, Device}
use Rattle.narrow_code.specs.Marks.{Same, Holds}
use Rattle.narrow_code.specs.Plans.{Narrowing, given_program, made_program, given_setting, made_setting}
use Rattle.narrow_code.specs.Right.{IsSound}
use Rattle.narrow_code.specs.InStep.{transfer_of, InStep, NarrowingGoesInStep}
use Rattle.narrow_code.specs.Links.{is_lent, reaches_lent, IsOpen, NarrowingKeeps}
use Rattle.narrow_code.proofs.Memory.{never, Alike}
use Rattle.narrow_code.proofs.Relation.{jobs, jobs_first, jobs_second, State, first_machine, second_machine, Stays, Outcome, Halts, Rests, Moves}
use Rattle.narrow_code.proofs.Control.{body_runs}
use Rattle.narrow_code.proofs.Costs.{most_less, least_is}
use Rattle.narrow_code.proofs.Machines.{both_step}
use Rattle.narrow_code.proofs.Transfers.{transfers_same}

-- a relation of moments that holds of one and itself and goes on with each step holds of any two
chain : (R : ℕ → ℕ → Type 0) (n : ℕ) → ((i : ℕ) → R i i) → ((i j : ℕ) → i ≤ j → j < n → R i j → R i (suc j)) → (i j : ℕ) → i ≤ j → j ≤ n → R i j
chain R n same step i zero l m = let is : i ≡ zero = omega arith in subst (λ k. R i k) is (same i)
chain R n same step i (suc j) l m =
    ⊎_elim
    (λ lt. step i j (omega arith) (omega arith) (chain R n same step i j (omega arith) (omega arith)))
    (λ ge. let is : i ≡ suc j = omega arith in subst (λ k. R i k) is (same i))
    (cases_lt i (suc j))

-- ---- one moment later
module _ (g : Setting) where
  moment_none : core_moment g 0 ≡ core_start g
  unfolding core_run
  moment_none = refl

  moment_next : (n : ℕ) → core_moment g (suc n) ≡ gone (core_moment g n) (core_step g (core_moment g n))
  unfolding core_run
  moment_next n = refl

  most_next : (n : ℕ) → most_by g (suc n) ≡ most_by g n + step_most g (core_moment g n)
  unfolding most_by
  most_next n = refl

  least_next : (n : ℕ) → least_by g (suc n) ≡ least_by g n + step_least g (core_moment g n)
  unfolding least_by
  least_next n = refl

module _ (x : Narrowing) (sound : IsSound x) (o : Outside) where
  abbrev g : Setting
  g = given_setting x o

  abbrev h : Setting
  h = made_setting x o

  abbrev a : Run (Happening Held)
  a = run_of (given_setting x o)

  abbrev b : Run (Happening Held)
  b = run_of (made_setting x o)

  -- the machines at one moment
  record Sim (i : ℕ) : Type 0 where
    state : State x
    stays : Stays x state
    one : core_moment g i ≡ first_machine x state
    other : core_moment h i ≡ second_machine x state

  start_alike : Alike x.lent (λ byte. Same) (first_memory (given_program x)) (first_memory (made_program x))
  start_alike (Static n i) = refl
  start_alike (Frame c i) = by_lent (x.lent c)
    where
      by_lent : (t : Bool) → Holds (if t then Same else Same) (first_memory (given_program x) (Frame c i)) (first_memory (made_program x) (Frame c i))
      by_lent true = refl
      by_lent false = refl
  start_alike (Result r k) = refl
  start_alike (Device d) = refl

  begins : Sim 0
  begins =
      let runs = body_runs x sound 0 in
      record {
        state = record { copy = 0; passing = None; jobs = jobs [] [] (x.plan 0) []; holds = []; memory = first_memory (given_program x); second = first_memory (made_program x); world = world_at_start; here = runs.0; known = λ byte. Same };
        stays = record { alike = start_alike; link = runs.1; stands = tt; passes = tt; runs = runs.2 };
        one = moment_none g ∙ ap (λ (c : List Task). record { copy = 0; passing = None; code = c; stack = []; memory = first_memory (given_program x); world = world_at_start }) (jobs_first [] [] (x.plan 0) []);
        other = moment_none h ∙ ap (λ (c : List Task). record { copy = 0; passing = None; code = c; stack = []; memory = first_memory (made_program x); world = world_at_start }) (jobs_second [] [] (x.plan 0) []);
      }

  -- ---- a step
  record Hop (i : ℕ) : Type 0 where
    sim : Sim (suc i)
    goes : b.goes i ≡ true
    most : b.most (suc i) + a.most i ≤ b.most i + a.most (suc i)
    least : b.least i + a.least (suc i) ≤ b.least (suc i) + a.least i

  module _ (i : ℕ) (sim : Sim i) where
    step_one : core_step g (core_moment g i) ≡ core_step g (first_machine x sim.state)
    step_one = ap (core_step g) sim.one

    step_other : core_step h (core_moment h i) ≡ core_step h (second_machine x sim.state)
    step_other = ap (core_step h) sim.other

    abbrev Steps : Type 0
    Steps = Outcome x (core_step g (first_machine x sim.state)) (core_step h (second_machine x sim.state))

    outcome : reaches_lent (is_lent x.lent) (core_moment g i).code ≡ true → Outcome x (core_step g (first_machine x sim.state)) (core_step h (second_machine x sim.state))
    outcome e = both_step x sound o sim.state sim.stays (ap (λ (t : Machine). reaches_lent (is_lent x.lent) t.code) (sym sim.one) ∙ e)

    most_at : b.most (suc i) + a.most i ≤ b.most i + a.most (suc i)
    most_at =
        let p = most_next g i in
        let q = most_next h i in
        let first = ap (step_most g) sim.one in
        let second = ap (step_most h) sim.other in
        let less = most_less x o sim.state sim.stays in
        omega arith

    least_at : b.least i + a.least (suc i) ≤ b.least (suc i) + a.least i
    least_at =
        let p = least_next g i in
        let q = least_next h i in
        let first = ap (step_least g) sim.one in
        let second = ap (step_least h) sim.other in
        let same = least_is x o sim.state in
        omega arith

    next_one : (n : Next) → core_step g (first_machine x sim.state) ≡ n → core_moment g (suc i) ≡ gone (first_machine x sim.state) n
    next_one n e = moment_next g i ∙ ap (λ (t : Machine). gone t (core_step g t)) sim.one ∙ ap (gone (first_machine x sim.state)) e

    next_other : (n : Next) → core_step h (second_machine x sim.state) ≡ n → core_moment h (suc i) ≡ gone (second_machine x sim.state) n
    next_other n e = moment_next h i ∙ ap (λ (t : Machine). gone t (core_step h t)) sim.other ∙ ap (gone (second_machine x sim.state)) e

    hop_by : a.goes i ≡ true → Outcome x (core_step g (first_machine x sim.state)) (core_step h (second_machine x sim.state)) → Hop i
    hop_by goes (Halts e) = never (sym (ap goes_on (step_one ∙ e)) ∙ goes)
    hop_by goes (Rests e f) =
        record { sim = record { state = sim.state; stays = sim.stays; one = next_one Still e; other = next_other Still f }; goes = ap goes_on (step_other ∙ f); most = most_at; least = least_at }
    hop_by goes (Moves t s e f) =
        record { sim = record { state = t; stays = s; one = next_one (next.Goes (first_machine x t)) e; other = next_other (next.Goes (second_machine x t)) f }; goes = ap goes_on (step_other ∙ f); most = most_at; least = least_at }

    hop : a.goes i ≡ true → reaches_lent (is_lent x.lent) (core_moment g i).code ≡ true → Hop i
    hop goes e = hop_by goes (outcome e)

    rests_by : a.rests i ≡ true → Outcome x (core_step g (first_machine x sim.state)) (core_step h (second_machine x sim.state)) → b.rests i ≡ true
    rests_by rests (Halts e) = never (sym (ap is_still (step_one ∙ e)) ∙ rests)
    rests_by rests (Rests e f) = ap is_still (step_other ∙ f)
    rests_by rests (Moves t s e f) = never (sym (ap is_still (step_one ∙ e)) ∙ rests)

    same_trace : b.trace i ≡ map (λ event. event) (a.trace i)
    same_trace = ap (λ (t : Machine). t.world.trace) sim.other ∙ sym (ap (λ (t : Machine). t.world.trace) sim.one) ∙ sym (map-id (a.trace i))

  module _ (n : ℕ) (goes : Goes a n) (open_all : IsOpen x o n) where
    sim_at : (i : ℕ) → i ≤ n → Sim i
    sim_at zero l = begins
    sim_at (suc i) l = (hop i (sim_at i (omega arith)) (goes i (omega arith)) (open_all i (omega arith))).sim

    hop_at : (i : ℕ) → i < n → Hop i
    hop_at i l = hop i (sim_at i (omega arith)) (goes i l) (open_all i (omega arith))

    pub follows : Follows (λ event. event) a b n
    follows = record {
      at = λ i. i;
      starts = refl;
      rises = λ i j l m. l;
      goes = λ k l. (hop_at k l).goes;
      same = λ i l. same_trace i (sim_at i l);
      fast = chain (λ i j. b.most j + a.most i ≤ b.most i + a.most j) n (λ i. omega arith) (λ i j l lt before. let most = (hop_at j lt).most in omega arith);
      rests = λ rests. rests_by n (sim_at n (omega arith)) rests (outcome n (sim_at n (omega arith)) (open_all n (omega arith)));
    }

    pub slow : IsSlow (λ event. event) a b n follows
    unfolding follows
    slow = chain (λ i j. b.least i + a.least j ≤ b.least j + a.least i) n (λ i. omega arith) (λ i j l lt before. let least = (hop_at j lt).least in omega arith)

    pub in_step : (i : ℕ) → i ≤ n → InStep g h i
    in_step i l =
        let s = sim_at i l in
        let less = most_less x o s.state s.stays in
        let first = ap (step_most g) s.one in
        let second = ap (step_most h) s.other in
        record {
          world = ap (λ (t : Machine). t.world) s.other ∙ sym (ap (λ (t : Machine). t.world) s.one);
          copy = ap (λ (t : Machine). t.copy) s.other ∙ sym (ap (λ (t : Machine). t.copy) s.one);
          transfer = ap (λ (t : Machine). transfer_of t.code) s.other ∙ transfers_same s.state.jobs ∙ sym (ap (λ (t : Machine). transfer_of t.code) s.one);
          goes = λ goes_here. (hop i s goes_here (open_all i l)).goes;
          rests = λ rests. rests_by i s rests (outcome i s (open_all i l));
          most = omega (arith, less, first, second);
          least = ap (step_least h) s.other ∙ least_is x o s.state ∙ sym (ap (step_least g) s.one);
        }

pub narrowing_in_step : NarrowingGoesInStep
narrowing_in_step x sound o n goes open_all i l = in_step x sound o n goes open_all i l

pub narrowing_keeps : NarrowingKeeps
narrowing_keeps x sound o n goes open_all = (follows x sound o n goes open_all, slow x sound o n goes open_all)
