-- The run with selects follows the run without them.
use Rattle.std.proofs.Common.{◌≡◌, ℕ, zero, suc, ◌+◌, ◌<◌, ◌≤◌, true, [], map, map-id, Some, None, refl, sym, ap, ◌∙◌, subst, ⊎_elim, arith}
use Rattle.std.proofs.lemmas.Bool.{cases_lt}
use Rattle.pic_world.specs.World.{Outside, Happening, arrived, world_at_start}
use Rattle.pic_world.proofs.WorldLaws.{arrived_trace}
use Rattle.run_links.specs.Runs.{Run, Goes, Follows, IsSlow}
use Rattle.sym_code.specs.Cost.{times_in}
use Rattle.sym_code.specs.Effect.{Memory}
use Rattle.sym_code.specs.Machine.{Machine, Entry, sym_run, sym_start}
use Rattle.sym_code.specs.Programs.{Position, front}
use Rattle.sym_code.specs.Registers.{Registers}
use Rattle.sym_code.specs.Runs.{run_of}
use Rattle.sym_code.specs.declared.code.BlockName.TheVariants.{Copy}
use Rattle.bank_page.specs.Links.{price_in}
use Rattle.bank_trace.proofs.Banks.{bits_of}
use Rattle.bank_trace.proofs.Sites.{Site, IsSound, without, with, plain_setting, banked_setting}
use Rattle.bank_trace.proofs.Places.{under_front, open_front}
use Rattle.bank_trace.proofs.Moments.{one, other}
use Rattle.bank_trace.proofs.Hops.{Sim, pace, Hop, hop, rests}

-- a relation of moments that holds of one and itself and goes on with each step holds of any two
chain : (R : ℕ → ℕ → Type 0) (n : ℕ) → ((i : ℕ) → R i i) → ((i j : ℕ) → i ≤ j → j < n → R i j → R i (suc j)) → (i j : ℕ) → i ≤ j → j ≤ n → R i j
chain R n same step i zero l m = let is : i ≡ zero = omega arith in subst (λ k. R i k) is (same i)
chain R n same step i (suc j) l m =
    ⊎_elim
    (λ lt. step i j (omega arith) (omega arith) (chain R n same step i j (omega arith) (omega arith)))
    (λ ge. let is : i ≡ suc j = omega arith in subst (λ k. R i k) is (same i))
    (cases_lt i (suc j))

module _ (x : Site) (sound : IsSound x) (e : Entry) (o : Outside) (r : Registers) (m : Memory) where
  abbrev first : Machine
  first = sym_start (without x) r m

  abbrev last : Machine
  last = sym_start (with x) r m

  abbrev a : Run (Happening ℕ)
  a = run_of (plain_setting x) (price_in x.made) e o first

  abbrev b : Run (Happening ℕ)
  b = run_of (banked_setting x) (times_in x.made) e o last

  abbrev SimAt : ℕ → ℕ → Type 0
  SimAt = Sim x sound e o first last

  begins : SimAt 0 0
  unfolding sym_run
  begins =
      let f : Position → Machine = λ p. record {
        main = record { rest = None; at = Some p; stack = []; registers = r };
        isr = record { rest = None; at = None; stack = []; registers = r };
        entries = 0;
        memory = m;
        world = arrived o world_at_start;
      } in
      record {
        joint = record {
          main = record { rest = None; at = Some (front (with x) (Copy 0)); stack = []; registers = r; bits = bits_of r };
          isr = record { rest = None; at = None; stack = []; registers = r; bits = bits_of r };
          entries = 0;
          memory = m;
          world = arrived o world_at_start;
        };
        plain = ap f (under_front x (Copy 0));
        banked = refl;
        fine = record {
          main = record { at = (open_front x sound 0 (bits_of r) sound.main).fine; stack = tt };
          isr = record { at = tt; stack = tt };
        };
      }

  -- the moment that belongs to one of the code without selects
  abbrev place : ℕ → ℕ
  place zero = 0
  place (suc i) = place i + pace x sound e o first last (place i)

  sim_trace : (i k : ℕ) → SimAt i k → b.trace k ≡ map (λ event. event) (a.trace i)
  sim_trace i k sim =
      sym (arrived_trace o (other x sound e o first last k).world) ∙ ap (λ (u : Machine). u.world.trace) sim.banked
      ∙ sym (ap (λ (u : Machine). u.world.trace) sim.plain) ∙ arrived_trace o (one x sound e o first last i).world
      ∙ sym (map-id (a.trace i))

  module _ (n : ℕ) (goes : Goes a n) where
    sim_at : (i : ℕ) → i ≤ n → SimAt i (place i)
    sim_at zero l = begins
    sim_at (suc i) l = (hop x sound e o first last i (place i) (sim_at i (omega arith)) (goes i (omega arith))).sim

    hop_at : (i : ℕ) → i < n → Hop x sound e o first last i (place i) (place (suc i))
    hop_at i l = hop x sound e o first last i (place i) (sim_at i (omega arith)) (goes i l)

    all_go : (i : ℕ) → i ≤ n → (k : ℕ) → k < place i → b.goes k ≡ true
    all_go zero l k lt = absurd (omega arith)
    all_go (suc i) l k lt = ⊎_elim (λ early. all_go i (omega arith) k early) (λ late. (hop_at i (omega arith)).goes k late lt) (cases_lt k (place i))

    pub follows : Follows (λ event. event) a b n
    follows = record {
      at = place;
      starts = refl;
      rises = chain (λ i j. place i ≤ place j) n (λ i. omega arith) (λ i j l lt before. omega arith);
      goes = all_go n (omega arith);
      same = λ i l. sim_trace i (place i) (sim_at i l);
      fast = chain (λ i j. b.most (place j) + a.most i ≤ b.most (place i) + a.most j) n (λ i. omega arith) (λ i j l lt before. let most = (hop_at j lt).most in omega arith);
      rests = rests x sound e o first last n (place n) (sim_at n (omega arith));
    }

    -- each step of the code without selects is paid for
    pub slow : IsSlow (λ event. event) a b n follows
    unfolding follows
    slow = chain (λ i j. b.least (place i) + a.least j ≤ b.least (place j) + a.least i) n (λ i. omega arith) (λ i j l lt before. let least = (hop_at j lt).least in omega arith)
