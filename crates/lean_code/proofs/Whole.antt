-- The code that is made follows the given code.
use Rattle.std.proofs.Common.{◌≡◌, ℕ, zero, suc, ◌+◌, ◌<◌, ◌≤◌, true, false, [], map, map-id, Option, Some, None, refl, sym, ap, ◌∙◌, subst, ⊎_elim, arith}
use Rattle.std.proofs.lemmas.Bool.{cases_lt}
use Rattle.std.proofs.lemmas.Option.{none-some}
use Rattle.pic_world.specs.World.{Outside, World, Happening, arrived, is_due, world_at_start}
use Rattle.pic_world.proofs.WorldLaws.{arrived_again, arrived_trace, arrived_inside}
use Rattle.run_links.specs.Runs.{Run, Goes, Follows, IsSlow}
use Rattle.sym_code.specs.Cost.{Prices, least_prices, most_prices, step_cost_at, step_cost, cost_by}
use Rattle.sym_code.specs.Effect.{Setting, Memory}
use Rattle.sym_code.specs.Machine as next
use Rattle.sym_code.specs.Machine.{Machine, Entry, Next, Stops, Still, at_front, running, settled, sym_step_at, sym_step, gone, sym_run, sym_start}
use Rattle.sym_code.specs.Programs.{Position, front}
use Rattle.sym_code.specs.Registers.{Registers}
use Rattle.sym_code.specs.Runs.{goes_on, is_still, run_of}
use Rattle.sym_code.specs.declared.code.BlockName.{BlockName}
use Rattle.sym_code.specs.declared.code.BlockName.TheVariants.{Copy}
use Rattle.lean_code.specs.Rows.{Apart, Note, nothing_known, note_ahead, Lean, old_program, new_program, old_setting, new_setting}
use Rattle.lean_code.specs.Right.{Expects, Begins, IsSound}
use Rattle.lean_code.specs.Links.{is_open, IsOpen, staying, stays_of, IsCheaper, LeanKeeps}
use Rattle.lean_code.proofs.Lists.{never}
use Rattle.lean_code.proofs.Places.{to_front, under_front}
use Rattle.lean_code.proofs.Relation.{Ready, arrive}
use Rattle.lean_code.proofs.Resting.{open_at_rest}
use Rattle.lean_code.proofs.Machines.{Together, Outcome, Halted, Rested, Moved, pace_of, Stepped, Halts, Joint, Alone, both_step}

-- ---- one moment later
module _ (g : Setting) (e : Entry) (o : Outside) (t : Machine) where
  step_is : (n : ℕ) (f : Next) → sym_step_at g e o (settled o (sym_run g e o n t)) ≡ f → sym_step g e o (sym_run g e o n t) ≡ f
  unfolding sym_step
  step_is n f is = is

  next_is : (n : ℕ) (v : Machine) → sym_step_at g e o (settled o (sym_run g e o n t)) ≡ next.Goes v → sym_run g e o (suc n) t ≡ v
  unfolding sym_run
  next_is n v is = ap (gone (sym_run g e o n t)) (step_is n (next.Goes v) is)

  same_is : (n : ℕ) → sym_step_at g e o (settled o (sym_run g e o n t)) ≡ Still → sym_run g e o (suc n) t ≡ sym_run g e o n t
  unfolding sym_run
  same_is n is = ap (gone (sym_run g e o n t)) (step_is n Still is)

  pub cost_next : (c : Prices) (n : ℕ) → cost_by g c e o (suc n) t ≡ cost_by g c e o n t + step_cost_at g c (settled o (sym_run g e o n t))
  unfolding cost_by step_cost
  cost_next c n = refl

  cost_none : (c : Prices) → cost_by g c e o 0 t ≡ 0
  unfolding cost_by
  cost_none c = refl

  run_none : sym_run g e o 0 t ≡ t
  unfolding sym_run
  run_none = refl

-- a relation of moments that holds of one and itself and goes on with each step holds of any two
pub chain : (R : ℕ → ℕ → Type 0) (n : ℕ) → ((i : ℕ) → R i i) → ((i j : ℕ) → i ≤ j → j < n → R i j → R i (suc j)) → (i j : ℕ) → i ≤ j → j ≤ n → R i j
chain R n same step i zero l m = let is : i ≡ zero = omega arith in subst (λ k. R i k) is (same i)
chain R n same step i (suc j) l m =
    ⊎_elim
    (λ lt. step i j (omega arith) (omega arith) (chain R n same step i j (omega arith) (omega arith)))
    (λ ge. let is : i ≡ suc j = omega arith in subst (λ k. R i k) is (same i))
    (cases_lt i (suc j))

still_goes : (n : Next) → is_still n ≡ true → goes_on n ≡ true
still_goes (next.Goes t) r = refl
still_goes Stops r = r
still_goes Still r = refl

module _ (x : Lean) (o : Outside) where
  -- flags that arrive are set in both
  settled_both : (u v : Machine) → Together x u v → Together x (settled o u) (settled o v)
  settled_both u v t = record { inside = t.inside; is = arrived_inside o u.world ∙ t.is; entries = t.entries; world = ap (arrived o) t.world; rest = t.rest; other = t.other; ready = t.ready }

  -- .. or were set in the one that stands
  settled_again : (u v : Machine) → Together x u (settled o v) → Together x (settled o u) (settled o v)
  settled_again u v t = record { inside = t.inside; is = arrived_inside o u.world ∙ t.is; entries = t.entries; world = ap (arrived o) t.world ∙ arrived_again o v.world; rest = t.rest; other = t.other; ready = t.ready }

module _ (x : Lean) (sound : IsSound x) (old new : BlockName → ℕ → ℕ) (cheaper : IsCheaper x old new) (o : Outside) (e : Entry) (r : Registers) (m : Memory) where
  abbrev first : Machine
  first = sym_start (old_program x) r m

  abbrev last : Machine
  last = sym_start (new_program x) r m

  abbrev a : Run (Happening ℕ)
  a = stays_of x old e o first

  abbrev b : Run (Happening ℕ)
  b = run_of (new_setting x) new e o last

  abbrev one : ℕ → Machine
  one i = sym_run (old_setting x) e o i first

  abbrev other : ℕ → Machine
  other k = sym_run (new_setting x) e o k last

  -- the machines at two moments
  abbrev Sim : ℕ → ℕ → Type 0
  Sim i k = Together x (settled o (one i)) (settled o (other k))

  main_expects : (q : Option (Option Note)) → Begins (λ j. false) q → Expects q nothing_known (record { w = false; z = false; dc = false; c = false; bytes = λ j. false })
  main_expects None h = tt
  main_expects (Some None) h = h
  main_expects (Some (Some i)) h = (h.0, record { flags = record { w = λ z. refl; z = λ z. refl; dc = λ z. refl; c = λ z. refl }; bytes = h.2 }, h.1)

  begins_ready : Ready x false x.rest (at_front (old_program x) 0 r) (at_front (new_program x) 0 r) m m
  begins_ready =
      let d : Apart = record { w = false; z = false; dc = false; c = false; bytes = λ j. false } in
      (arrive x sound false x.rest (Copy 0) (front (old_program x) (Copy 0)) (note_ahead (x.rows (Copy 0))) nothing_known d (to_front x (Copy 0)) sound.main.0 (main_expects (note_ahead (x.rows (Copy 0))) sound.main.1) [] tt
      (at_front (old_program x) 0 r) (at_front (new_program x) 0 r) m m refl (ap (λ (q : Position). Some q) (under_front x (Copy 0))) refl tt refl refl
      (record { w = λ h. refl; z = λ h. refl; dc = λ h. refl; c = λ h. refl; fsr = refl; irp = refl })
      (record { number = λ i h. absurd (none-some i h); held = λ i h. never h; zero = λ h. never h; known = λ i j h. absurd (none-some j h); twin = λ i j h. never h; carry_bit = λ h. never h; zero_bit = λ h. never h })
      (λ j h i l. refl) sound.stands).0

  begins_at : Together x (settled o first) (settled o last)
  begins_at = record { inside = false; is = arrived_inside o world_at_start; entries = refl; world = refl; rest = x.rest; other = λ j. refl; ready = begins_ready }

  begins : Sim 0 0
  begins =
      subst (λ (u : Machine). Together x (settled o u) (settled o (other 0))) (sym (run_none (old_setting x) e o first))
      (subst (λ (u : Machine). Together x (settled o first) (settled o u)) (sym (run_none (new_setting x) e o last)) begins_at)

  -- the moment that belongs to one of the given code
  abbrev pub place : ℕ → ℕ
  place zero = 0
  place (suc i) = place i + pace_of x (settled o (one i))

  -- ---- a step
  record Hop (i k n : ℕ) : Type 0 where
    sim : Sim (suc i) n
    later : k ≤ n
    goes : (j : ℕ) → k ≤ j → j < n → b.goes j ≡ true
    most : b.most n + a.most i ≤ b.most k + a.most (suc i)
    least : b.least k + a.least (suc i) ≤ b.least n + a.least i

  module _ (i k : ℕ) (sim : Sim i k) where
    abbrev u : Machine
    u = settled o (one i)

    abbrev v : Machine
    v = settled o (other k)

    stops : a.goes i ≡ true → sym_step_at (old_setting x) e o u ≡ Stops → false ≡ true
    stops goes is = sym (ap goes_on (step_is (old_setting x) e o first i Stops is)) ∙ goes

    hop_both : Sim (suc i) (suc k) → b.goes k ≡ true → step_cost_at (new_setting x) (most_prices new) v ≤ step_cost_at (old_setting x) (most_prices old) u → step_cost_at (old_setting x) (staying x) u ≤ step_cost_at (new_setting x) least_prices v → Hop i k (suc k)
    hop_both next_sim on cheap dear =
        let p = cost_next (old_setting x) e o first (most_prices old) i in
        let q = cost_next (new_setting x) e o last (most_prices new) k in
        let y = cost_next (old_setting x) e o first (staying x) i in
        let z = cost_next (new_setting x) e o last least_prices k in
        record {
          sim = next_sim;
          later = omega arith;
          goes = λ j l n. let is : k ≡ j = omega arith in subst (λ h. b.goes h ≡ true) is on;
          most = omega arith;
          least = omega arith;
        }

    hop_alone : Sim (suc i) k → step_cost_at (old_setting x) (staying x) u ≡ 0 → Hop i k k
    hop_alone next_sim none =
        let p = cost_next (old_setting x) e o first (most_prices old) i in
        let y = cost_next (old_setting x) e o first (staying x) i in
        record { sim = next_sim; later = omega arith; goes = λ j l n. absurd (omega arith); most = omega arith; least = omega arith }

    by_outcome : a.goes i ≡ true → Outcome x v (sym_step_at (old_setting x) e o u) (sym_step_at (new_setting x) e o v) (step_cost_at (old_setting x) (most_prices old) u) (step_cost_at (new_setting x) (most_prices new) v) (step_cost_at (old_setting x) (staying x) u) (step_cost_at (new_setting x) least_prices v) → Hop i k (suc k)
    by_outcome goes (Halted is) = never (stops goes is)
    by_outcome goes (Rested f g cheap dear) =
        hop_both
        (subst (λ (h : Machine). Together x (settled o h) (settled o (other (suc k)))) (sym (same_is (old_setting x) e o first i f))
        (subst (λ (h : Machine). Together x (settled o (one i)) (settled o h)) (sym (same_is (new_setting x) e o last k g)) sim))
        (ap goes_on (step_is (new_setting x) e o last k Still g)) cheap dear
    by_outcome goes (Moved y z f g t cheap dear) =
        hop_both
        (subst (λ (h : Machine). Together x (settled o h) (settled o (other (suc k)))) (sym (next_is (old_setting x) e o first i y f))
        (subst (λ (h : Machine). Together x (settled o y) (settled o h)) (sym (next_is (new_setting x) e o last k z g)) (settled_both x o y z t)))
        (ap goes_on (step_is (new_setting x) e o last k (next.Goes z) g)) cheap dear

    by_step : a.goes i ≡ true → (pace : ℕ) → Stepped x v (sym_step_at (old_setting x) e o u) (sym_step_at (new_setting x) e o v) pace (step_cost_at (old_setting x) (most_prices old) u) (step_cost_at (new_setting x) (most_prices new) v) (step_cost_at (old_setting x) (staying x) u) (step_cost_at (new_setting x) least_prices v)
        → Hop i k (k + pace)
    by_step goes pace (Halts is) = never (stops goes is)
    by_step goes pace (Joint is h) = let same : suc k ≡ k + pace = omega arith in subst (Hop i k) same (by_outcome goes h)
    by_step goes pace (Alone is y f t none) =
        let same : k ≡ k + pace = omega arith in
        subst (Hop i k) same (hop_alone (subst (λ (h : Machine). Together x (settled o h) v) (sym (next_is (old_setting x) e o first i y f)) (settled_again x o y (other k) t)) none)

    hop : a.goes i ≡ true → (is_due u.world ≡ false → is_open x.hidden (old_program x) (running u) ≡ true) → Hop i k (k + pace_of x u)
    hop goes open_at = by_step goes (pace_of x u) (both_step x sound o e old new cheaper u v sim open_at)

    -- where the given code rests, the other one does
    rests_by : is_still (sym_step (old_setting x) e o (one i)) ≡ true → (pace : ℕ) → Stepped x v (sym_step_at (old_setting x) e o u) (sym_step_at (new_setting x) e o v) pace (step_cost_at (old_setting x) (most_prices old) u) (step_cost_at (new_setting x) (most_prices new) v) (step_cost_at (old_setting x) (staying x) u) (step_cost_at (new_setting x) least_prices v)
        → is_still (sym_step (new_setting x) e o (other k)) ≡ true
    rests_by rests pace (Halts f) = never (sym (ap is_still (step_is (old_setting x) e o first i Stops f)) ∙ rests)
    rests_by rests pace (Joint is (Halted f)) = never (sym (ap is_still (step_is (old_setting x) e o first i Stops f)) ∙ rests)
    rests_by rests pace (Joint is (Rested f g cheap dear)) = ap is_still (step_is (new_setting x) e o last k Still g)
    rests_by rests pace (Joint is (Moved y z f g t cheap dear)) = never (sym (ap is_still (step_is (old_setting x) e o first i (next.Goes y) f)) ∙ rests)
    rests_by rests pace (Alone is y f t none) = never (sym (ap is_still (step_is (old_setting x) e o first i (next.Goes y) f)) ∙ rests)

  sim_trace : (i k : ℕ) → Sim i k → b.trace k ≡ map (λ event. event) (a.trace i)
  sim_trace i k sim =
      sym (arrived_trace o (other k).world) ∙ ap (λ (w : World ℕ). w.trace) (sym sim.world) ∙ arrived_trace o (one i).world ∙ sym (map-id (a.trace i))

  module _ (n : ℕ) (goes : Goes a n) (open_all : IsOpen x e o first n) where
    pub sim_at : (i : ℕ) → i ≤ n → Sim i (place i)
    sim_at zero l = begins
    sim_at (suc i) l = (hop i (place i) (sim_at i (omega arith)) (goes i (omega arith)) (open_all i (omega arith))).sim

    hop_at : (i : ℕ) → i < n → Hop i (place i) (place (suc i))
    hop_at i l = hop i (place i) (sim_at i (omega arith)) (goes i l) (open_all i l)

    all_go : (i : ℕ) → i ≤ n → (k : ℕ) → k < place i → b.goes k ≡ true
    all_go zero l k lt = absurd (omega arith)
    all_go (suc i) l k lt = ⊎_elim (λ early. all_go i (omega arith) k early) (λ late. (hop_at i (omega arith)).goes k late lt) (cases_lt k (place i))

    rests_at : a.rests n ≡ true → b.rests (place n) ≡ true
    rests_at rests =
        let u = settled o (one n) in
        let still : is_still (sym_step_at (old_setting x) e o u) ≡ true = sym (ap is_still (step_is (old_setting x) e o first n (sym_step_at (old_setting x) e o u) refl)) ∙ rests in
        rests_by n (place n) (sim_at n (omega arith)) rests (pace_of x u)
        (both_step x sound o e old new cheaper u (settled o (other (place n))) (sim_at n (omega arith)) (λ due. open_at_rest x.hidden (old_setting x) e o u still))

    pub follows : Follows (λ event. event) a b n
    follows = record {
      at = place;
      starts = refl;
      rises = chain (λ i j. place i ≤ place j) n (λ i. omega arith) (λ i j l lt before. let later = (hop_at j lt).later in omega arith);
      goes = all_go n (omega arith);
      same = λ i l. sim_trace i (place i) (sim_at i l);
      fast = chain (λ i j. b.most (place j) + a.most i ≤ b.most (place i) + a.most j) n (λ i. omega arith) (λ i j l lt before. let most = (hop_at j lt).most in omega arith);
      rests = rests_at;
    }

    -- each instruction that stays is paid for
    pub slow : IsSlow (λ event. event) a b n follows
    unfolding follows
    slow = chain (λ i j. b.least (place i) + a.least j ≤ b.least (place j) + a.least i) n (λ i. omega arith) (λ i j l lt before. let least = (hop_at j lt).least in omega arith)

pub lean_keeps : LeanKeeps
lean_keeps x sound old new cheaper o e r m n goes open_all = (follows x sound old new cheaper o e r m n goes open_all, slow x sound old new cheaper o e r m n goes open_all)
