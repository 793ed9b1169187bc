-- The moments of a run: the sizes of the state's parts, what is there before main is met, and one step behind it.
use Rattle.std.proofs.Common.{◌≡◌, ℕ, zero, suc, ◌<◌, Bool, true, false, List, [], ◌∷◌, ◌++◌, length, refl, sym, ap, ◌∙◌, subst, ⊎_elim, arith}
use Rattle.std.specs.Prelude.{if◌then◌else◌, not, ◌&&◌, ◌||◌, nat_eq, slice_index}
use Rattle.std.specs.List.{All}
use Rattle.std.proofs.lemmas.Bool.{eqb-true, cases_lt}
use Rattle.std.proofs.lemmas.List.{get_or_past}
use Rattle.pic_chip.specs.Act.{perform, accesses}
use Rattle.pic_chip.specs.Instructions.{execute, fetched, is_modelled, is_return_from_interrupt}
use Rattle.pic_chip.specs.Interrupts.{control_of, raised, begun, enter}
use Rattle.pic_chip.specs.Run.{IsStart, Watch, Moment, Setting, moment, next_moment, stepped, observed, ends_at, takes, events_of, registers_of}
use Rattle.pic_chip.specs.State.{State, reset}
use Rattle.pic_world.specs.Control.{is_due}
use Rattle.pic_world.specs.Arrivals.{arriving}
use Rattle.pic_world.specs.declared.Event.TheVariants as events
use Rattle.chip_trace.proofs.Image.{after}
use Rattle.pic_chip.proofs.Ranges.{IsRanged, executed_ranged, raised_ranged, entered_ranged}

-- each input is a byte, and so is 0 past the end
pub inputs_small : (xs : List ℕ) → All (λ byte. byte < 256) xs → (k : ℕ) → slice_index xs k < 256
inputs_small xs all k =
    ⊎_elim (λ lt. all k 0 lt) (λ ge. let e : slice_index xs k ≡ 0 = get_or_past xs k 0 ge in omega arith) (cases_lt k (length xs))

-- ---- what a look at the program counter leaves
module _ (w : Watch) where
  abbrev Kept : Moment → Moment → Type 0
  Kept a b = (a.state ≡ b.state) × (a.stopped ≡ b.stopped) × (a.handling ≡ b.handling)

  kept_ended : (m : Moment) (b : Bool) → Kept (if b then record m { ended = true; trace = m.trace ++ events.End ∷ [] } else m) m
  kept_ended m true = (refl, refl, refl)
  kept_ended m false = (refl, refl, refl)

  kept_case : (m : Moment) (b : Bool) → Kept (if b then (if nat_eq m.state.pc w.halt && not m.ended then record m { ended = true; trace = m.trace ++ events.End ∷ [] } else m) else record m { met = nat_eq m.state.pc w.main }) m
  kept_case m true = kept_ended m (nat_eq m.state.pc w.halt && not m.ended)
  kept_case m false = (refl, refl, refl)

  pub observed_keeps : (m : Moment) → Kept (observed w m) m
  observed_keeps m = kept_case m m.met

  -- before main is met
  pub unmet : (m : Moment) → m.met ≡ false → observed w m ≡ record m { met = nat_eq m.state.pc w.main }
  unmet m e = ap (λ b. if b then (if nat_eq m.state.pc w.halt && not m.ended then record m { ended = true; trace = m.trace ++ events.End ∷ [] } else m) else record m { met = nat_eq m.state.pc w.main }) e

module _ (c : Setting) (start : IsStart c.start) (small : (k : ℕ) → slice_index c.inputs k < 256) where
  reset_ranged : IsRanged (reset c.start)
  reset_ranged = record {
    w = start.w;
    bank = omega arith;
    z = omega arith;
    dc = omega arith;
    c = omega arith;
    fsr = start.fsr;
    pclath = omega arith;
    intcon = omega arith;
    pir1 = omega arith;
    pie1 = omega arith;
    bytes = start.bytes;
    count = start.count;
    stack = refl;
  }

  begun_ranged : (mask : ℕ) (s : State) → IsRanged s → IsRanged (begun mask s)
  begun_ranged mask s x = by (is_due (control_of (raised mask s))) where
    r : IsRanged (raised mask s)
    r = raised_ranged c.inputs small s x mask

    by : (b : Bool) → IsRanged (if b then perform enter (raised mask s) else raised mask s)
    by true = entered_ranged c.inputs small (raised mask s) r
    by false = r

  next_ranged : (mask : ℕ) (m : Moment) → IsRanged m.state → IsRanged (next_moment c.image c.inputs c.watch mask m).state
  next_ranged mask m x = by (ends_at c.image mask m) where
    by : (b : Bool) → IsRanged (if b then record m { stopped = true } else observed c.watch (stepped c.image c.inputs c.watch.ranges mask m)).state
    by true = x
    by false = subst IsRanged (sym (observed_keeps c.watch (stepped c.image c.inputs c.watch.ranges mask m)).0) (executed_ranged c.inputs small (begun mask m.state) (begun_ranged mask m.state x) c.image)

  pub moment_ranged : (n : ℕ) → IsRanged (moment c n).state
  unfolding moment
  moment_ranged zero = subst IsRanged (sym (observed_keeps c.watch (record { state = reset c.start; stopped = false; handling = false; met = false; ended = false; early = []; trace = [] })).0) reset_ranged
  moment_ranged (suc n) = next_ranged (arriving c.arrivals n) (moment c n) (moment_ranged n)

module _ (c : Setting) where
  abbrev first : Moment
  first = record { state = reset c.start; stopped = false; handling = false; met = false; ended = false; early = []; trace = [] }

  -- ---- before main is met
  pub record IsFirst (m : Moment) : Type 0 where
    pub trace : m.trace ≡ []
    pub ended : m.ended ≡ false

  abbrev next_of : ℕ → Moment → Moment
  next_of mask m = observed c.watch (stepped c.image c.inputs c.watch.ranges mask m)

  next_unmet : (mask : ℕ) (m : Moment) → m.met ≡ false → next_of mask m ≡ record (stepped c.image c.inputs c.watch.ranges mask m) { met = nat_eq (perform (execute c.image c.inputs) (begun mask m.state)).pc c.watch.main }
  next_unmet mask m e = unmet c.watch (stepped c.image c.inputs c.watch.ranges mask m) e

  next_first : (mask : ℕ) (m : Moment) → m.met ≡ false → IsFirst m → IsFirst (next_moment c.image c.inputs c.watch mask m)
  next_first mask m e x = by (ends_at c.image mask m) where
    by : (b : Bool) → IsFirst (if b then record m { stopped = true } else next_of mask m)
    by true = record { trace = x.trace; ended = x.ended }
    by false = subst IsFirst (sym (next_unmet mask m e)) (record {
      trace = ap (λ b. if b then m.trace ++ events_of c.watch.ranges (accesses (execute c.image c.inputs) (begun mask m.state)) else m.trace) e ∙ x.trace;
      ended = x.ended;
    })

  pub early_moments : (n : ℕ) → ((k : ℕ) → k < n → (moment c k).met ≡ false) → IsFirst (moment c n)
  unfolding moment
  early_moments zero none = subst IsFirst (sym (unmet c.watch first refl)) (record { trace = refl; ended = refl })
  early_moments (suc n) none = next_first (arriving c.arrivals n) (moment c n) (none n (omega arith)) (early_moments n (λ k lt. none k (omega arith)))

  -- where main is met first
  met_pc_on : (mask : ℕ) (m : Moment) → m.met ≡ false → (next_moment c.image c.inputs c.watch mask m).met ≡ true → ((next_moment c.image c.inputs c.watch mask m).state.pc ≡ c.watch.main) × ((next_moment c.image c.inputs c.watch mask m).stopped ≡ false)
  met_pc_on mask m e met = by (ends_at c.image mask m) refl met where
    not_stopped : (a b : Bool) → (a || b) ≡ false → a ≡ false
    not_stopped true b q = absurd (cc)
    not_stopped false b q = refl

    by : (b : Bool) → ends_at c.image mask m ≡ b → (if b then record m { stopped = true } else next_of mask m).met ≡ true
        → ((if b then record m { stopped = true } else next_of mask m).state.pc ≡ c.watch.main) × ((if b then record m { stopped = true } else next_of mask m).stopped ≡ false)
    by true q met' = let f = sym e ∙ met' in absurd (cc)
    by false q met' =
        let u = next_unmet mask m e in
        let n : nat_eq (perform (execute c.image c.inputs) (begun mask m.state)).pc c.watch.main ≡ true = sym (ap (λ (z : Moment). z.met) u) ∙ met' in
        (ap (λ (z : Moment). z.state.pc) u ∙ eqb-true _ _ n, ap (λ (z : Moment). z.stopped) u ∙ not_stopped m.stopped _ q)

  pub met_at : (n : ℕ) → (moment c n).met ≡ true → ((k : ℕ) → k < n → (moment c k).met ≡ false) → ((moment c n).state.pc ≡ c.watch.main) × ((moment c n).stopped ≡ false)
  unfolding moment
  met_at zero met none =
      let u = unmet c.watch first refl in
      (ap (λ (z : Moment). z.state.pc) u ∙ eqb-true _ _ (sym (ap (λ (z : Moment). z.met) u) ∙ met), ap (λ (z : Moment). z.stopped) u)
  met_at (suc n) met none = met_pc_on (arriving c.arrivals n) (moment c n) (none n (omega arith)) met

  -- ---- behind it
  abbrev pub raised_at : ℕ → Moment
  raised_at n = record (moment c n) { state = raised (arriving c.arrivals n) (moment c n).state }

  pub next_is : (n : ℕ) (due : Bool) → is_due (control_of (raised (arriving c.arrivals n) (moment c n).state)) ≡ due → (moment c n).met ≡ true → (moment c n).stopped ≡ false
      → is_modelled (fetched c.image (if due then perform enter (raised (arriving c.arrivals n) (moment c n).state) else raised (arriving c.arrivals n) (moment c n).state)) ≡ true
      → moment c (suc n) ≡ observed c.watch (after c.image c.inputs c.watch.ranges (raised_at n) (if due then perform enter (raised (arriving c.arrivals n) (moment c n).state) else raised (arriving c.arrivals n) (moment c n).state) ((moment c n).handling || due))
  unfolding moment
  next_is n due d met going modelled =
      let m = moment c n in
      let mask = arriving c.arrivals n in
      let r = raised mask m.state in
      let a = if due then perform enter r else r in
      let b : begun mask m.state ≡ a = ap (λ z. if z then perform enter r else r) d in
      let e : ends_at c.image mask m ≡ false = ap (λ z. z || not (is_modelled (fetched c.image (begun mask m.state)))) going ∙ ap (λ z. not (is_modelled (fetched c.image z))) b ∙ ap not modelled in
      ap (λ z. if z then record m { stopped = true } else observed c.watch (stepped c.image c.inputs c.watch.ranges mask m)) e
      ∙ ap (observed c.watch) (ap (λ z. shape m z (begun mask m.state) (m.handling || takes mask m)) met ∙ ap (λ z. shape m true z (m.handling || takes mask m)) b ∙ ap (λ z. shape m true a (m.handling || z)) d) where
        shape : Moment → Bool → State → Bool → Moment
        shape m met s h = record m {
          state = perform (execute c.image c.inputs) s;
          handling = h && not (is_return_from_interrupt (fetched c.image s));
          early = if met then m.early else m.early ++ registers_of (accesses (execute c.image c.inputs) s);
          trace = if met then m.trace ++ events_of c.watch.ranges (accesses (execute c.image c.inputs) s) else m.trace;
        }
