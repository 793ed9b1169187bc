-- The runs of both chips.
use Rattle.std.proofs.Common.{◌≡◌, ℕ, ◌+◌, ◌-◌, ◌/◌, ◌%◌, ◌<◌, Bool, true, false, [], ◌∷◌, ◌++◌, refl, sym, ap, ◌∙◌, subst, arith}
use Rattle.std.specs.Prelude.{if◌then◌else◌, nat_eq, not, ◌&&◌, slice_index}
use Rattle.std.proofs.lemmas.Bool.{agree_below, agree_below_at, eqb-true}
use Rattle.pic_world.specs.Arrivals.{arriving}
use Rattle.pic_world.specs.declared.Event.TheVariants as events
use Rattle.pic_chip.specs.Act.{accesses}
use Rattle.pic_chip.specs.Instructions.{execute}
use Rattle.pic_chip.specs.Interrupts.{begun}
use Rattle.pic_chip.specs.Address as first
use Rattle.pic_chip.specs.Address.{Place, General}
use Rattle.pic_chip.specs.Run as first_run
use Rattle.pic_chip.specs.Run.{Watch, Moment, observed, moment as first_moment}
use Rattle.pic_chip.specs.State.{State}
use Rattle.pic_chip.specs.SmallAddress.{small_place}
use Rattle.chip_84a.specs.Lockstep.{twin, AreTwinMoments}
use Rattle.chip_84a.specs.Machine as second
use Rattle.chip_84a.specs.Run as second_run
use Rattle.chip_84a.specs.Run.{moment as second_moment}
use Rattle.chip_84a.proofs.Whole.{handling_twin}
use Rattle.headline.specs.OnChip.{run_of}
use Rattle.headline_84a.specs.OnSecondChip.{run_of as second_run_of}
use Rattle.headline_84a.proofs.Carrying.{Beside, IsChip}

-- ---- what every run keeps
met_kept : (w : Watch) (m : Moment) → m.met ≡ true → (observed w m).met ≡ true
met_kept w m e = by m.met e where
  ended : (b : Bool) → m.met ≡ true → (if b then record m { ended = true; trace = m.trace ++ events.End ∷ [] } else m).met ≡ true
  ended true q = q
  ended false q = q

  by : (b : Bool) → b ≡ true → (if b then (if nat_eq m.state.pc w.halt && not m.ended then record m { ended = true; trace = m.trace ++ events.End ∷ [] } else m) else record m { met = nat_eq m.state.pc w.main }).met ≡ true
  by true q = ended (nat_eq m.state.pc w.halt && not m.ended) e
  by false q = absurd (cc)

early_kept : (w : Watch) (m : Moment) → (observed w m).early ≡ m.early
early_kept w m = by m.met where
  ended : (b : Bool) → (if b then record m { ended = true; trace = m.trace ++ events.End ∷ [] } else m).early ≡ m.early
  ended true = refl
  ended false = refl

  by : (b : Bool) → (if b then (if nat_eq m.state.pc w.halt && not m.ended then record m { ended = true; trace = m.trace ++ events.End ∷ [] } else m) else record m { met = nat_eq m.state.pc w.main }).early ≡ m.early
  by true = ended (nat_eq m.state.pc w.halt && not m.ended)
  by false = refl

pub first_is_chip : (g : first_run.Setting) → IsChip (run_of g)
unfolding first_moment
first_is_chip g = record {
  stays_met = λ n e. met (first_run.ends_at g.image (arriving g.arrivals n) (first_moment g n)) n e;
  early_stays = λ n e. early (first_run.ends_at g.image (arriving g.arrivals n) (first_moment g n)) n e;
} where
  met : (b : Bool) (n : ℕ) → (first_moment g n).met ≡ true
      → (if b then record (first_moment g n) { stopped = true } else observed g.watch (first_run.stepped g.image g.inputs g.watch.ranges (arriving g.arrivals n) (first_moment g n))).met ≡ true
  met true n e = e
  met false n e = met_kept g.watch (first_run.stepped g.image g.inputs g.watch.ranges (arriving g.arrivals n) (first_moment g n)) e

  early : (b : Bool) (n : ℕ) → (first_moment g n).met ≡ true
      → (if b then record (first_moment g n) { stopped = true } else observed g.watch (first_run.stepped g.image g.inputs g.watch.ranges (arriving g.arrivals n) (first_moment g n))).early ≡ (first_moment g n).early
  early true n e = refl
  early false n e =
      let s = first_run.stepped g.image g.inputs g.watch.ranges (arriving g.arrivals n) (first_moment g n) in
      early_kept g.watch s ∙ ap (λ c. if c then (first_moment g n).early else (first_moment g n).early ++ first_run.registers_of (accesses (execute g.image g.inputs) (begun (arriving g.arrivals n) (first_moment g n).state))) e

pub second_is_chip : (h : second_run.Setting) → IsChip (second_run_of h)
unfolding second_moment
second_is_chip h = record {
  stays_met = λ n e. met (second_run.ends_at h.image (arriving h.arrivals n) (second_moment h n)) n e;
  early_stays = λ n e. early (second_run.ends_at h.image (arriving h.arrivals n) (second_moment h n)) n e;
} where
  met : (b : Bool) (n : ℕ) → (second_moment h n).met ≡ true
      → (if b then record (second_moment h n) { stopped = true } else observed h.watch (second_run.stepped h.image h.inputs h.watch.ranges (arriving h.arrivals n) (second_moment h n))).met ≡ true
  met true n e = e
  met false n e = met_kept h.watch (second_run.stepped h.image h.inputs h.watch.ranges (arriving h.arrivals n) (second_moment h n)) e

  early : (b : Bool) (n : ℕ) → (second_moment h n).met ≡ true
      → (if b then record (second_moment h n) { stopped = true } else observed h.watch (second_run.stepped h.image h.inputs h.watch.ranges (arriving h.arrivals n) (second_moment h n))).early ≡ (second_moment h n).early
  early true n e = refl
  early false n e =
      let s = second_run.stepped h.image h.inputs h.watch.ranges (arriving h.arrivals n) (second_moment h n) in
      early_kept h.watch s ∙ ap (λ c. if c then (second_moment h n).early else (second_moment h n).early ++ second_run.registers_of (accesses (second.execute h.image h.inputs) (second.begun (arriving h.arrivals n) (second_moment h n).state))) e

-- ---- bytes
is_general : ℕ → Place → Bool
is_general k (General j) = nat_eq j k
is_general k _ = false

general_is : (k : ℕ) (p : Place) → is_general k p ≡ true → p ≡ General k
unfolding is_general
general_is k (General j) e = ap General (eqb-true j k e)
general_is k _ e = absurd (cc)

first_test : ℕ → Bool
first_test k = is_general k (first.place ((k + 0x20) / 128) ((k + 0x20) % 128))

second_test : ℕ → Bool
second_test k = is_general (k + 20) (small_place ((k + 0x20) / 128 % 2) ((k + 0x20) % 128))

first_all : agree_below first_test (λ n. true) 48 ≡ true
unfolding first_test is_general
first_all = refl

second_all : agree_below second_test (λ n. true) 48 ≡ true
unfolding second_test is_general
second_all = refl

byte_first : (k : ℕ) → k < 48 → (s : State) → first.byte_at s (k + 0x20) ≡ slice_index s.ram k
unfolding first_test
byte_first k lt s = ap (first.byte_in s) (general_is k _ (agree_below_at first_test (λ n. true) 48 k first_all lt))

byte_second : (k : ℕ) → k < 48 → (s : State) → second.byte_at s (k + 0x20) ≡ slice_index s.ram (k + 20)
unfolding second_test
byte_second k lt s = ap (first.byte_in s) (general_is (k + 20) _ (agree_below_at second_test (λ n. true) 48 k second_all lt))

-- ---- beside each other
pub moments_beside : (g : first_run.Setting) (h : second_run.Setting) → h.arrivals ≡ g.arrivals → (n : ℕ) → AreTwinMoments (first_moment g n) (second_moment h n) → Beside (run_of g) (second_run_of h) n
moments_beside g h arrivals n x = record {
  trace = ap (λ (m : Moment). m.trace) x.same;
  met = ap (λ (m : Moment). m.met) x.same;
  pushes = ap (λ (m : Moment). m.state.pushes) x.same;
  pops = ap (λ (m : Moment). m.state.pops) x.same;
  handling =
      ap (λ (m : Moment). second_run.is_handling (arriving h.arrivals n) m) x.same
      ∙ ap (λ l. second_run.is_handling (arriving l n) (record (first_moment g n) { state = twin (first_moment g n).state (second_moment h n).state.ram })) arrivals
      ∙ handling_twin (arriving g.arrivals n) (first_moment g n) (second_moment h n).state.ram x.quiet;
  early = ap (λ (m : Moment). m.early) x.same;
  byte = λ a le lt.
      let k = a - 0x20 in
      let lk : k < 48 = omega (arith, le, lt) in
      let e : k + 0x20 ≡ a = omega (arith, le) in
      subst (λ b. second.byte_at (second_moment h n).state b ≡ first.byte_at (first_moment g n).state b) e (byte_second k lk (second_moment h n).state ∙ x.bytes.low k lk ∙ sym (byte_first k lk (first_moment g n).state));
}
