-- Moments of the chip: its trace only grows, and main that is met stays so.
use Rattle.std.proofs.Common.{◌≡◌, ℕ, zero, suc, ◌+◌, ◌-◌, ◌≤◌, Bool, true, false, length, [], ◌∷◌, ◌++◌, sym, subst, arith}
use Rattle.std.specs.Prelude.{if◌then◌else◌, not, ◌&&◌, nat_eq}
use Rattle.pic_chip.specs.Run.{Setting, Moment, moment, next_moment, observed, stepped, ends_at}
use Rattle.pic_world.specs.Arrivals.{arriving}
use Rattle.pic_world.specs.declared.Event.TheVariants as events
use Rattle.chip_trace.proofs.Quick.{moment_long}

module _ (c : Setting) where
  met_observed : (m : Moment) → m.met ≡ true → (observed c.watch m).met ≡ true
  met_observed m met = subst (λ b. (if b then (if nat_eq m.state.pc c.watch.halt && not m.ended then record m { ended = true; trace = m.trace ++ events.End ∷ [] } else m) else record m { met = nat_eq m.state.pc c.watch.main }).met ≡ true) (sym met) (ended (nat_eq m.state.pc c.watch.halt && not m.ended)) where
    ended : (b : Bool) → (if b then record m { ended = true; trace = m.trace ++ events.End ∷ [] } else m).met ≡ true
    ended true = met
    ended false = met

  next_met : (mask : ℕ) (m : Moment) → m.met ≡ true → (next_moment c.image c.inputs c.watch mask m).met ≡ true
  next_met mask m met = by (ends_at c.image mask m) where
    by : (b : Bool) → (if b then record m { stopped = true } else observed c.watch (stepped c.image c.inputs c.watch.ranges mask m)).met ≡ true
    by true = met
    by false = met_observed (stepped c.image c.inputs c.watch.ranges mask m) met

  met_by : (d k : ℕ) → (moment c k).met ≡ true → (moment c (d + k)).met ≡ true
  unfolding moment
  met_by zero k met = let z : k ≡ zero + k = omega arith in subst (λ n. (moment c n).met ≡ true) z met
  met_by (suc d) k met =
      let z : suc (d + k) ≡ suc d + k = omega arith in
      subst (λ n. (moment c n).met ≡ true) z (next_met (arriving c.arrivals (d + k)) (moment c (d + k)) (met_by d k met))

  pub met_on : (k n : ℕ) → k ≤ n → (moment c k).met ≡ true → (moment c n).met ≡ true
  met_on k n le met = let z : (n - k) + k ≡ n = omega arith in subst (λ j. (moment c j).met ≡ true) z (met_by (n - k) k met)

  long_by : (d k : ℕ) → length (moment c k).trace ≤ length (moment c (d + k)).trace
  long_by zero k = let z : k ≡ zero + k = omega arith in subst (λ n. length (moment c k).trace ≤ length (moment c n).trace) z (omega arith)
  long_by (suc d) k =
      let z : suc (d + k) ≡ suc d + k = omega arith in
      let one = moment_long c (d + k) in let rest = long_by d k in
      subst (λ n. length (moment c k).trace ≤ length (moment c n).trace) z (omega arith)

  pub long_on : (k n : ℕ) → k ≤ n → length (moment c k).trace ≤ length (moment c n).trace
  long_on k n le = let z : (n - k) + k ≡ n = omega arith in subst (λ j. length (moment c k).trace ≤ length (moment c j).trace) z (long_by (n - k) k)
