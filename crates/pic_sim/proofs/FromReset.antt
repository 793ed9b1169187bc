-- Runs over a board as runs from reset.
use Rattle.std.specs.Prelude.{if◌then◌else◌, ◌||◌, nat_eq}
use Rattle.std.proofs.Common.{◌≡◌, ℕ, Bool, true, false, [], refl, zero, suc, ◌+◌, sym, ap, ◌∙◌, subst, add-zero, arith}
use Rattle.pic_world.specs.Arrivals.{arriving}
use Rattle.pic_chip.specs.Machine.{Machine}
use Rattle.pic_chip.specs.Run.{Setting, Moment, moment, observed}
use Rattle.pic_chip.specs.State.{State}
use Rattle.pic_map.specs.Tracing.{Tracing}
use Rattle.pic_sim.specs.FromReset.{Journey, around_of, journey, BeginsBy, GoesOnBy, GoesOnByScriptBy, StopsForGoodBy, BeginsAtReset, GoesOn, GoesOnByScript, StopsForGood}
use Rattle.pic_sim.specs.Going.{IsAt, HasBytes, after_by}
use Rattle.pic_sim.specs.Kind.{Kind, first, ends_at_by, next_moment_by, stepped_by}

-- ---- any chip
-- the moments are those of this chip
abbrev pub IsRunOf : Kind → Journey → Type 0
IsRunOf kind r = (k : ℕ) → r.moment (suc k) ≡ next_moment_by kind r.image r.inputs r.watch (arriving r.arrivals k) (r.moment k)

pub begins_by : (start : State) (r : Journey) → start.pc ≡ 0 → r.moment 0 ≡ observed r.watch (record { state = start; stopped = false; handling = false; met = false; ended = false; early = []; trace = [] }) → BeginsBy start r
begins_by start r pc e p chip tracing events =
    subst (λ (m : Moment). IsAt (around_of r) m p) (sym e)
    (record {
      state = ap (λ (c : Machine). c.state) (sym chip);
      met = ap (λ (n : ℕ). nat_eq n r.watch.main) pc ∙ ap (λ (t : Tracing). t.met) (sym tracing);
      ended = ap (λ (t : Tracing). t.ended) (sym tracing);
      trace = sym events;
      watch = ap (λ (t : Tracing). t.watch) (sym tracing);
      going = refl;
    })

module _ (kind : Kind) (r : Journey) (runs : IsRunOf kind r) where
  after_moment : (k j : ℕ) → after_by kind r.image (around_of r) k (r.moment k) j ≡ r.moment (k + j)
  unfolding after_by
  after_moment k zero = ap r.moment (sym (add-zero k))
  after_moment k (suc j) =
      let e : suc (k + j) ≡ k + suc j = omega arith in
      ap (λ (m : Moment). next_moment_by kind r.image r.inputs r.watch (arriving r.arrivals (k + j)) m) (after_moment k j) ∙ sym (runs (k + j)) ∙ ap r.moment e

  pub goes_on_by : GoesOnBy kind r
  goes_on_by k old new ran bytes masks at =
      subst (λ (m : Moment). IsAt (around_of r) m new) (after_moment old.chip.index k) (ran.run (around_of r) (r.moment old.chip.index) bytes masks at).at

  pub goes_on_by_script_by : GoesOnByScriptBy kind r
  goes_on_by_script_by k old new ran follows place at =
      let all = ran.by_script (record { input = r.inputs; arrivals = r.arrivals }) follows in
      goes_on_by k old new ran (subst (λ (n : ℕ). HasBytes r.inputs n ran.given) place all.0) all.1 at

  -- where a run ends
  end_here : (k : ℕ) → ends_at_by kind r.image (arriving r.arrivals k) (r.moment k) ≡ true → r.moment (suc k) ≡ record (r.moment k) { stopped = true }
  end_here k h =
      runs k
      ∙ ap (λ (b : Bool). if b then record (r.moment k) { stopped = true } else observed r.watch (stepped_by kind r.image r.inputs r.watch.ranges (arriving r.arrivals k) (r.moment k))) h

  stay : (k : ℕ) (m : Moment) → r.moment k ≡ record m { stopped = true } → r.moment (suc k) ≡ record m { stopped = true }
  stay k m e = runs k ∙ ap (λ (n : Moment). next_moment_by kind r.image r.inputs r.watch (arriving r.arrivals k) n) e

  stays : (k : ℕ) (m : Moment) → r.moment k ≡ record m { stopped = true } → (j : ℕ) → r.moment (k + j) ≡ record m { stopped = true }
  stays k m e zero = ap r.moment (add-zero k) ∙ e
  stays k m e (suc j) =
      let n : k + suc j ≡ suc (k + j) = omega arith in
      ap r.moment n ∙ stay (k + j) m (stays k m e j)

  pub stops_for_good_by : StopsForGoodBy kind r
  stops_for_good_by pc k old new stop mask at =
      let i = old.chip.index in
      let n : i + 1 ≡ suc i = omega arith in
      stays (i + 1) (r.moment i) (ap r.moment n ∙ end_here i (stop.ends (around_of r) (r.moment i) mask at)) k

-- ---- the PIC16F877A
runs_first : (g : Setting) → IsRunOf first (journey g)
unfolding moment
runs_first g k = refl

pub begins : BeginsAtReset
unfolding moment
begins g = begins_by _ (journey g) refl refl

pub goes_on : GoesOn
goes_on g = goes_on_by first (journey g) (runs_first g)

pub goes_on_by_script : GoesOnByScript
goes_on_by_script g = goes_on_by_script_by first (journey g) (runs_first g)

pub stops_for_good : StopsForGood
stops_for_good g = stops_for_good_by first (journey g) (runs_first g)
