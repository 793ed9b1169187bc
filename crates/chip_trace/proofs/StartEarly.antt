-- One instruction of the run before main is met.
use Rattle.std.proofs.Common.{◌≡◌, ℕ, suc, Bool, true, false, List, [], ◌∷◌, ◌++◌, Some, refl, sym, ap, ◌∙◌, append-nil}
use Rattle.std.specs.Prelude.{not, ◌&&◌, ◌||◌, if◌then◌else◌, nat_eq, slice_index}
use Rattle.pic_isa.specs.declared.Ins.{Ins}
use Rattle.pic_isa.specs.Lookup.{row_of}
use Rattle.pic_chip.specs.Act.{perform, accesses}
use Rattle.pic_chip.specs.Instructions.{execute, fetched, is_modelled, is_return_from_interrupt}
use Rattle.pic_chip.specs.Interrupts.{control_of, raised, begun, enter}
use Rattle.pic_chip.specs.Run.{Moment, Setting, moment, stepped, observed, ends_at, takes, events_of, registers_of}
use Rattle.pic_chip.specs.State.{State, reset}
use Rattle.pic_world.specs.Arrivals.{arriving}
use Rattle.pic_world.specs.Control.{control_at_reset, raised_by, is_due}
use Rattle.pic_world.proofs.ControlLaws.{raised_swap, raised_both, raised_enabled, disabled_not_due}
use Rattle.pic_world.specs.declared.Event.TheVariants as events
use Rattle.chip_trace.specs.Arriving.{arrived_before}
use Rattle.chip_trace.proofs.Fetch.{performs, accesses_are}
use Rattle.chip_trace.proofs.Moments.{unmet}
use Rattle.chip_trace.proofs.StartRows.{Goes}

-- nothing of what is watched has come yet, but perhaps main's address
pub record Early (c : Setting) (k : ℕ) (has_met : Bool) (s : State) : Type 0 where
  pub state : (moment c k).state ≡ s
  pub met : (moment c k).met ≡ has_met
  pub stopped : (moment c k).stopped ≡ false
  pub handling : (moment c k).handling ≡ false
  pub early : (moment c k).early ≡ []
  pub trace : (moment c k).trace ≡ []
  pub control : control_of s ≡ raised_by (arrived_before c.arrivals k) control_at_reset

module _ (c : Setting) where
  first_control : control_of (reset c.start) ≡ raised_by 0 control_at_reset
  unfolding raised_by
  first_control = refl

  pub at_reset : Early c 0 (nat_eq 0 c.watch.main) (reset c.start)
  unfolding moment
  at_reset =
      let e = unmet c.watch (record { state = reset c.start; stopped = false; handling = false; met = false; ended = false; early = []; trace = [] }) refl in
      record {
        state = ap (λ (z : Moment). z.state) e;
        met = ap (λ (z : Moment). z.met) e;
        stopped = ap (λ (z : Moment). z.stopped) e;
        handling = ap (λ (z : Moment). z.handling) e;
        early = ap (λ (z : Moment). z.early) e;
        trace = ap (λ (z : Moment). z.trace) e;
        control = first_control;
      }

  abbrev pub after_flags : ℕ → State → State
  after_flags k s = raised (arriving c.arrivals k) s

  -- flags that come change the control alone
  raised_control : (mask : ℕ) (s : State) → control_of (raised mask s) ≡ raised_by mask (control_of s)
  unfolding raised_by
  raised_control mask s = refl

  pub control_on : (k : ℕ) (s : State) → control_of s ≡ raised_by (arrived_before c.arrivals k) control_at_reset → control_of (after_flags k s) ≡ raised_by (arrived_before c.arrivals (suc k)) control_at_reset
  control_on k s e =
      let p = arrived_before c.arrivals k in let q = arriving c.arrivals k in
      raised_control q s ∙ ap (raised_by q) e ∙ raised_swap q p control_at_reset ∙ raised_both p q control_at_reset

  not_due : (k : ℕ) (s : State) → control_of s ≡ raised_by (arrived_before c.arrivals k) control_at_reset → is_due (control_of (after_flags k s)) ≡ false
  not_due k s e =
      ap is_due (control_on k s e) ∙ disabled_not_due (raised_by (arrived_before c.arrivals (suc k)) control_at_reset) (raised_enabled (arrived_before c.arrivals (suc k)) control_at_reset)

  -- no interrupt is taken where the next instruction begins
  pub untaken : (k : ℕ) (s : State) → Early c k false s → takes (arriving c.arrivals k) (moment c k) ≡ false
  untaken k s x = ap (λ z. is_due (control_of (raised (arriving c.arrivals k) z))) x.state ∙ not_due k s x.control

  pub begun_is : (k : ℕ) (s : State) → Early c k false s → begun (arriving c.arrivals k) (moment c k).state ≡ after_flags k s
  begun_is k s x =
      let m = moment c k in
      let mask = arriving c.arrivals k in
      ap (λ z. if z then perform enter (raised mask m.state) else raised mask m.state) (untaken k s x) ∙ ap (raised mask) x.state

  abbrev shape : Moment → Bool → State → Bool → Moment
  shape m met s h = record m {
    state = perform (execute c.image c.inputs) s;
    handling = h && not (is_return_from_interrupt (fetched c.image s));
    early = if met then m.early else m.early ++ registers_of (accesses (execute c.image c.inputs) s);
    trace = if met then m.trace ++ events_of c.watch.ranges (accesses (execute c.image c.inputs) s) else m.trace;
  }

  abbrev after : Moment → State → Moment
  after m s = shape m false s false

  next_is : (k : ℕ) (s : State) → Early c k false s → is_modelled (fetched c.image (after_flags k s)) ≡ true → moment c (suc k) ≡ record (after (moment c k) (after_flags k s)) { met = nat_eq (perform (execute c.image c.inputs) (after_flags k s)).pc c.watch.main }
  unfolding moment
  next_is k s x modelled =
      let m = moment c k in
      let mask = arriving c.arrivals k in
      let a = after_flags k s in
      let d : is_due (control_of (raised mask m.state)) ≡ false = untaken k s x in
      let b : begun mask m.state ≡ a = begun_is k s x in
      let e : ends_at c.image mask m ≡ false = ap (λ z. z || not (is_modelled (fetched c.image (begun mask m.state)))) x.stopped ∙ ap (λ z. not (is_modelled (fetched c.image z))) b ∙ ap not modelled in
      ap (λ z. if z then record m { stopped = true } else observed c.watch (stepped c.image c.inputs c.watch.ranges mask m)) e
      ∙ ap (observed c.watch) (ap (λ z. shape m z (begun mask m.state) (m.handling || takes mask m)) x.met ∙ ap (λ z. shape m false z (m.handling || takes mask m)) b
      ∙ ap (λ z. shape m false a (m.handling || z)) d ∙ ap (λ z. shape m false a (z || false)) x.handling)
      ∙ unmet c.watch (after m a) x.met

  -- an instruction that accesses no device register
  pub on : (k : ℕ) (s t : State) (n : Ins) → Early c k false s → row_of (slice_index c.image s.pc) ≡ Some n → Goes c.inputs (after_flags k s) n t → control_of t ≡ control_of (after_flags k s) → Early c (suc k) (nat_eq t.pc c.watch.main) t
  on k s t n x is y same =
      let m = moment c k in
      let a = after_flags k s in
      let e = next_is k s x (ap is_modelled is ∙ y.modelled) in
      let done : perform (execute c.image c.inputs) a ≡ t = performs c.image c.inputs a n is ∙ y.done in
      record {
        state = ap (λ (z : Moment). z.state) e ∙ done;
        met = ap (λ (z : Moment). z.met) e ∙ ap (λ (z : State). nat_eq z.pc c.watch.main) done;
        stopped = ap (λ (z : Moment). z.stopped) e ∙ x.stopped;
        handling = ap (λ (z : Moment). z.handling) e;
        early = ap (λ (z : Moment). z.early) e ∙ ap (λ z. m.early ++ registers_of z) (accesses_are c.image c.inputs a n is) ∙ ap (λ z. m.early ++ z) y.silent ∙ append-nil m.early ∙ x.early;
        trace = ap (λ (z : Moment). z.trace) e ∙ x.trace;
        control = same ∙ control_on k s x.control;
      }

  -- ---- what is noted of early accesses
  append_nothing : {A : Type 0} (xs ys : List A) → xs ++ ys ≡ [] → xs ≡ []
  append_nothing [] ys e = refl
  append_nothing (x ∷ xs) ys e = absurd (cc)

  abbrev looked_at : Moment → Bool → Bool → Moment
  looked_at d met halts = if met then (if halts then record d { ended = true; trace = d.trace ++ events.End ∷ [] } else d) else record d { met = nat_eq d.state.pc c.watch.main }

  looked_early : (d : Moment) (met halts : Bool) → (looked_at d met halts).early ≡ d.early
  looked_early d true true = refl
  looked_early d true false = refl
  looked_early d false halts = refl

  looked_met : (d : Moment) (halts : Bool) → d.met ≡ true → (looked_at d true halts).met ≡ true
  looked_met d true e = e
  looked_met d false e = e

  observed_early : (d : Moment) → (observed c.watch d).early ≡ d.early
  observed_early d = looked_early d d.met (nat_eq d.state.pc c.watch.halt && not d.ended)

  observed_met : (d : Moment) → d.met ≡ true → (observed c.watch d).met ≡ true
  observed_met d e = ap (λ b. (looked_at d b (nat_eq d.state.pc c.watch.halt && not d.ended)).met) e ∙ looked_met d (nat_eq d.state.pc c.watch.halt && not d.ended) e

  module _ (m : Moment) (mask : ℕ) where
    abbrev d : Moment
    d = stepped c.image c.inputs c.watch.ranges mask m

    stays : m.met ≡ true → (b : Bool) → ((if b then record m { stopped = true } else observed c.watch d).met ≡ true) × ((if b then record m { stopped = true } else observed c.watch d).early ≡ m.early)
    stays x true = (x, refl)
    stays x false = (observed_met d x, observed_early d ∙ ap (λ b. if b then m.early else m.early ++ registers_of (accesses (execute c.image c.inputs) (begun mask m.state))) x)

    noted : (b : Bool) → (if b then m.early else m.early ++ registers_of (accesses (execute c.image c.inputs) (begun mask m.state))) ≡ [] → m.early ≡ []
    noted true e = e
    noted false e = append_nothing m.early (registers_of (accesses (execute c.image c.inputs) (begun mask m.state))) e

    back : (b : Bool) → (if b then record m { stopped = true } else observed c.watch d).early ≡ [] → m.early ≡ []
    back true e = e
    back false e = noted m.met (sym (observed_early d) ∙ e)

  -- behind main's first instruction no early access is noted any more
  pub met_stays : (k : ℕ) → (moment c k).met ≡ true → ((moment c (suc k)).met ≡ true) × ((moment c (suc k)).early ≡ (moment c k).early)
  unfolding moment
  met_stays k x = stays (moment c k) (arriving c.arrivals k) x (ends_at c.image (arriving c.arrivals k) (moment c k))

  -- what is noted stays
  pub early_back : (k : ℕ) → (moment c (suc k)).early ≡ [] → (moment c k).early ≡ []
  unfolding moment
  early_back k x = back (moment c k) (arriving c.arrivals k) (ends_at c.image (arriving c.arrivals k) (moment c k)) x
