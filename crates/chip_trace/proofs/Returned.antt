-- Behind a whole run of the handler main's context is back, and the bytes that the handler spares are as they were.
use Rattle.std.proofs.Common.{◌≡◌, ℕ, zero, suc, ◌+◌, ◌-◌, ◌<◌, ◌≤◌, ◌⊎◌, inl, Bool, true, false, List, Some, refl, sym, ap, ◌∙◌, subst, ⊎_elim, arith}
use Rattle.std.specs.Prelude.{◌||◌, slice_index}
use Rattle.std.proofs.lemmas.Bool.{cases_lt}
use Rattle.pic_chip.specs.Run as chip
use Rattle.pic_chip.specs.Run.{IsStart, Moment, moment, takes, is_handling}
use Rattle.pic_chip.specs.State.{State}
use Rattle.pic_world.specs.Arrivals.{arriving}
use Rattle.pic_world.specs.declared.Event.{Event}
use Rattle.core_code.specs.Bytes.{Held}
use Rattle.sym_code.specs.Effect.{Setting, Thread}
use Rattle.sym_code.specs.Layout.{owner}
use Rattle.sym_code.specs.Machine.{Machine}
use Rattle.sym_code.specs.Programs.{front}
use Rattle.sym_code.specs.declared.code.BlockName.TheVariants.{Copy}
use Rattle.chip_trace.specs.Arriving.{IsRunning, IsStarted}
use Rattle.chip_trace.specs.Context.{IsBack, IsHandled, HasMains, is_handlers}
use Rattle.chip_trace.proofs.Given.{A, E, R, M, At, stands}
use Rattle.chip_trace.proofs.Image.{IsImage}
use Rattle.chip_trace.proofs.Relations.{Ground}
use Rattle.chip_trace.proofs.Stands.{Trail, Onward, Stays, Further, Anew, Rested, Mode, InMain, Saving, Selecting, InHandler, Leaving, IsMain}
use Rattle.chip_trace.proofs.Trails.{back_of_one}
use Rattle.chip_trace.proofs.Whole.{one_on, spared_on, trail_on}

-- an instruction of the handler's run leaves the trail
pub stays : (handled : Bool) (p p' : Trail) (before : List Event) (d : Moment) → handled ≡ true → Onward handled p p' before d → p' ≡ p
stays handled p p' before d on (Stays e f) = f
stays handled p p' before d on (Further e f k) = let q = sym on ∙ e in absurd (cc)
stays handled p p' before d on (Anew e f) = let q = sym on ∙ e in absurd (cc)
stays handled p p' before d on (Rested e f) = let q = sym on ∙ e in absurd (cc)

or_true : (b : Bool) → (b || true) ≡ true
or_true true = refl
or_true false = refl

module _ (g : Setting) (h : Ground) (c : chip.Setting) (hd : ℕ) (x : IsImage g h c.image c.inputs hd) (halt_is : c.watch.halt ≡ h.halt) (ranges_is : c.watch.ranges ≡ g.program.layout.objects)
    (start : IsStart c.start) (only : (k : ℕ) → g.program.handler ≡ Some k → g.program.handler ≡ Some hd) (main_is : h.place (front g.program (Copy 0)) ≡ c.watch.main)
    (first : List (List Held)) (started : IsStarted g first c) (N : ℕ) where
  abbrev pub a0 : ℕ
  a0 = A g h c hd x halt_is ranges_is start only main_is first started N

  abbrev pub now : ℕ → State
  now k = (moment c k).state

  -- main was met: it is known how the chip stands
  pub met_behind : (k : ℕ) → (moment c k).met ≡ true → a0 ≤ k
  met_behind k met = ⊎_elim (λ lt. let f = sym met ∙ started.first_met k lt in absurd (cc)) (λ ge. ge) (cases_lt k a0)

  abbrev pub handles : ℕ → Bool
  handles k = is_handling (arriving c.arrivals k) (moment c k)

  module _ (running : IsRunning g c (E g h c hd x halt_is ranges_is start only main_is first started N) (R g h c hd x halt_is ranges_is start only main_is first started N) (M g h c hd x halt_is ranges_is start only main_is first started N) N) where
    abbrev pub Then : ℕ → ℕ → Type 0
    Then n debt = At g h c hd x halt_is ranges_is start only main_is first started N running 100 a0 n debt

    pub stands_at : (k : ℕ) → a0 ≤ k → k ≤ N → (debt : ℕ) × Then k debt
    stands_at k ge le = stands g h c hd x halt_is ranges_is start only main_is first started N running k ge le

    -- ---- one moment further
    module _ (k debt : ℕ) (ge : a0 ≤ k) (lt : k < N) (kn : Then k debt) where
      abbrev pub owed : ℕ
      owed = kn.stands.spent + kn.stands.idle

      abbrev pub next : Then (suc k) owed
      next = one_on g h c hd x halt_is ranges_is start only main_is first started N running k 100 a0 debt owed ge lt kn (inl (omega arith))

      pub trail_next : Onward (handles k) kn.trail next.trail (moment c k).trace (moment c (suc k))
      trail_next = trail_on g h c hd x halt_is ranges_is start only main_is first started N running k 100 a0 debt owed ge lt kn (inl (omega arith))

      pub spared_next : handles k ≡ true → (b : ℕ) → is_handlers b (owner g.program.layout b) ≡ false → slice_index (now (suc k)).ram b ≡ slice_index (now k).ram b
      spared_next on b q = spared_on g h c hd x halt_is ranges_is start only main_is first started N running k 100 a0 debt owed ge lt kn (inl (omega arith)) on b q

    -- ---- main is under way
    main_by : (h' : Ground) (x' : IsImage g h' c.image c.inputs hd) (t : Machine) (u : Thread) (v s : State) (done : ℕ) → t.world.inside ≡ false → Mode g h' c.image hd x'.vector t u v s done
        → (done ≡ 100) × IsMain g h' c.image hd x'.vector t u v s
    main_by h' x' t u v s done out (InMain q a) = (q, a)
    main_by h' x' t u v s done out (Saving has j a lo hi q en is) = let f = sym out ∙ en.inside in absurd (cc)
    main_by h' x' t u v s done out (Selecting has j p a lj q en sel is) = let f = sym out ∙ en.inside in absurd (cc)
    main_by h' x' t u v s done out (InHandler has q a) = let f = sym out ∙ a.inside in absurd (cc)
    main_by h' x' t u v s done out (Leaving has j a lk q lf is) = let f = sym out ∙ lf.inside in absurd (cc)

    pub main_at : (k debt : ℕ) (kn : Then k debt) → (moment c k).handling ≡ false
        → (kn.stands.done ≡ 100) × IsMain g kn.ground c.image hd kn.image_then.vector kn.stands.early kn.stands.thread kn.trail.context (now k)
    main_at k debt kn out =
        let st = kn.stands in
        main_by kn.ground kn.image_then st.early st.thread kn.trail.context (now k) st.done (sym st.shows.handling ∙ out) st.mode

    -- ---- a whole run of the handler
    module _ (from to : ℕ) (run : IsHandled c from to) (le : to ≤ N) where
      ge : a0 ≤ from
      ge = met_behind from run.met

      pub handled : (k : ℕ) → from ≤ k → k < to → handles k ≡ true
      handled k low lt = ⊎_elim
          (λ later. ap (λ b. b || takes (arriving c.arrivals k) (moment c k)) (run.within k later lt))
          (λ here'.
          let e : from ≡ k = omega arith in
          ap (λ b. (moment c k).handling || b) (ap (λ z. takes (arriving c.arrivals z) (moment c z)) (sym e) ∙ run.taken) ∙ or_true (moment c k).handling)
          (cases_lt from k)

      begins_at : (debt : ℕ) × Then from debt
      begins_at = let l = run.later in stands_at from ge (omega arith)

      -- the trail stays
      along : (d k : ℕ) → k ≡ d + from → k ≤ to → (debt : ℕ) × (y : Then k debt) × (y.trail ≡ begins_at.1.trail)
      along zero k is lk =
          let e : from ≡ k = omega arith in
          subst (λ z. (debt : ℕ) × (y : Then z debt) × (y.trail ≡ begins_at.1.trail)) e (begins_at.0, begins_at.1, refl)
      along (suc d) zero is lk = absurd (omega arith)
      along (suc d) (suc k) is lk =
          let b = along d k (omega arith) (omega arith) in
          let l = ge in
          let later : a0 ≤ k = omega arith in
          let below : k < N = omega arith in
          (owed k b.0 later below b.1, next k b.0 later below b.1, stays (handles k) b.1.trail (next k b.0 later below b.1).trail (moment c k).trace (moment c (suc k)) (handled k (omega arith) (omega arith)) (trail_next k b.0 later below b.1) ∙ b.2)

      pub context_back : IsBack (now from) (now to)
      context_back =
          let l = run.later in
          let y = along (to - from) to (omega arith) (omega arith) in
          let a = main_at from begins_at.0 begins_at.1 run.before in
          let b = main_at to y.0 y.1 run.behind in
          back_of_one begins_at.1.trail.context (now from) (now to) a.1.back (subst (λ (p : Trail). IsBack p.context (now to)) y.2 b.1.back)

      spared_along : (d k b : ℕ) → k ≡ d + from → k ≤ to → is_handlers b (owner g.program.layout b) ≡ false → slice_index (now k).ram b ≡ slice_index (now from).ram b
      spared_along zero k b is lk q = let e : k ≡ from = omega arith in ap (λ z. slice_index (now z).ram b) e
      spared_along (suc d) zero b is lk q = absurd (omega arith)
      spared_along (suc d) (suc k) b is lk q =
          let l = ge in
          let later : a0 ≤ k = omega arith in
          let y = stands_at k later (omega arith) in
          spared_next k y.0 later (omega arith) y.1 (handled k (omega arith) (omega arith)) b q ∙ spared_along d k b (omega arith) (omega arith) q

      pub spared_whole : (b : ℕ) → is_handlers b (owner g.program.layout b) ≡ false → slice_index (now to).ram b ≡ slice_index (now from).ram b
      spared_whole b q = let l = run.later in spared_along (to - from) to b (omega arith) (omega arith) q

      pub own_back : HasMains g c (now from) (now to)
      own_back b q = spared_whole b (ap (is_handlers b) q)

    -- each instruction of the handler's
    pub spared_each : (k b : ℕ) → k < N → (moment c k).met ≡ true → handles k ≡ true → is_handlers b (owner g.program.layout b) ≡ false → slice_index (now (k + 1)).ram b ≡ slice_index (now k).ram b
    spared_each k b lt met on q =
        let ge = met_behind k met in
        let y = stands_at k ge (omega arith) in
        let e : k + 1 ≡ suc k = omega arith in
        ap (λ z. slice_index (now z).ram b) e ∙ spared_next k y.0 ge lt y.1 on b q
