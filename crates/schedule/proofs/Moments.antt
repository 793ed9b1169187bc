-- Moments of a run, one after the other.
use Rattle.std.specs.Prelude.{if◌then◌else◌, ◌&&◌, ◌||◌}
use Rattle.std.proofs.Common.{◌≡◌, ℕ, zero, suc, ◌+◌, ◌-◌, ◌≤◌, Bool, true, false, not, nat_eq, List, [], ◌∷◌, ◌++◌, length, refl, sym, ap, ◌∙◌, add-zero, length-append, arith}
use Rattle.pic_world.specs.declared.Event.{Event}
use Rattle.pic_world.specs.declared.Event.TheVariants as events
use Rattle.pic_world.specs.Arrivals.{arriving}
use Rattle.pic_chip.specs.Act.{accesses}
use Rattle.pic_chip.specs.Instructions.{execute}
use Rattle.pic_chip.specs.Interrupts.{begun}
use Rattle.pic_chip.specs.Run.{Watch, Range, Moment, Setting, moment, observed, stepped, ends_at, events_of}

-- ---- the next moment
-- what the look at a moment leaves
pub record SameRun (m o : Moment) : Type 0 where
  pub state : o.state ≡ m.state
  pub handling : o.handling ≡ m.handling
  pub stopped : o.stopped ≡ m.stopped
  pub longer : length m.trace ≤ length o.trace

more : (xs ys : List Event) → length xs ≤ length (xs ++ ys)
more xs ys = let e = length-append xs ys in omega (arith, e)

pub observed_keeps : (w : Watch) (m : Moment) → SameRun m (observed w m)
observed_keeps w m = by_tests m.met (nat_eq m.state.pc w.halt && not m.ended)
  where
    by_tests : (b c : Bool) → SameRun m (if b then (if c then record m { ended = true; trace = m.trace ++ events.End ∷ [] } else m) else record m { met = nat_eq m.state.pc w.main })
    by_tests true true = record { state = refl; handling = refl; stopped = refl; longer = more m.trace (events.End ∷ []) }
    by_tests true false = record { state = refl; handling = refl; stopped = refl; longer = omega arith }
    by_tests false c = record { state = refl; handling = refl; stopped = refl; longer = omega arith }

-- the step that the run takes at a moment
abbrev pub next_step : Setting → ℕ → Moment
next_step g k = stepped g.image g.inputs g.watch.ranges (arriving g.arrivals k) (moment g k)

abbrev pub ends_after : Setting → ℕ → Bool
ends_after g k = ends_at g.image (arriving g.arrivals k) (moment g k)

pub goes_on : (g : Setting) (k : ℕ) → ends_after g k ≡ false → moment g (suc k) ≡ observed g.watch (next_step g k)
unfolding moment
goes_on g k h = ap (λ (b : Bool). if b then record (moment g k) { stopped = true } else observed g.watch (next_step g k)) h

pub ends_here : (g : Setting) (k : ℕ) → ends_after g k ≡ true → (moment g (suc k)).stopped ≡ true
unfolding moment
ends_here g k h = ap (λ (b : Bool). (if b then record (moment g k) { stopped = true } else observed g.watch (next_step g k)).stopped) h

pub first_going : (g : Setting) → (moment g 0).stopped ≡ false
unfolding moment
first_going g = refl

-- ---- where the run has ended
or_true : (a b : Bool) → a ≡ true → (a || b) ≡ true
or_true true b h = refl
or_true false b h = absurd (cc)

pub stays : (g : Setting) (k : ℕ) → (moment g k).stopped ≡ true → (j : ℕ) → (moment g (k + j)).stopped ≡ true
stays g k h zero = ap (λ (n : ℕ). (moment g n).stopped) (add-zero k) ∙ h
stays g k h (suc j) =
    let e : k + suc j ≡ suc (k + j) = omega arith in
    ap (λ (n : ℕ). (moment g n).stopped) e ∙ ends_here g (k + j) (or_true (moment g (k + j)).stopped _ (stays g k h j))

-- a run that goes on at a moment went on at each one before
pub going_before : (g : Setting) (j n : ℕ) → j ≤ n → (moment g n).stopped ≡ false → (moment g j).stopped ≡ false
going_before g j n before h = by_test (moment g j).stopped refl
  where
    same : j + (n - j) ≡ n
    same = omega (arith, before)

    by_test : (b : Bool) → (moment g j).stopped ≡ b → (moment g j).stopped ≡ false
    by_test false e = e
    by_test true e = let there = sym (stays g j e (n - j)) ∙ ap (λ (k : ℕ). (moment g k).stopped) same ∙ h in absurd (cc (there))

pub goes_further : (g : Setting) (k : ℕ) → (moment g (suc k)).stopped ≡ false → ends_after g k ≡ false
goes_further g k h = by_test (ends_after g k) refl
  where
    by_test : (b : Bool) → ends_after g k ≡ b → ends_after g k ≡ false
    by_test false e = e
    by_test true e = let there = sym (ends_here g k e) ∙ h in absurd (cc (there))

-- ---- the trace only grows
stepped_longer : (g : Setting) (k : ℕ) → length (moment g k).trace ≤ length (next_step g k).trace
stepped_longer g k = by_test (moment g k).met
  where
    by_test : (b : Bool) → length (moment g k).trace
        ≤ length (if b then (moment g k).trace ++ events_of g.watch.ranges (accesses (execute g.image g.inputs) (begun (arriving g.arrivals k) (moment g k).state)) else (moment g k).trace)
    by_test true = more (moment g k).trace _
    by_test false = omega arith

next_longer : (g : Setting) (k : ℕ) → length (moment g k).trace ≤ length (moment g (suc k)).trace
unfolding moment
next_longer g k = by_test (ends_after g k)
  where
    by_test : (b : Bool) → length (moment g k).trace ≤ length (if b then record (moment g k) { stopped = true } else observed g.watch (next_step g k)).trace
    by_test true = omega arith
    by_test false = let first = stepped_longer g k in let second = (observed_keeps g.watch (next_step g k)).longer in omega (arith, first, second)

longer_by : (g : Setting) (k j : ℕ) → length (moment g k).trace ≤ length (moment g (k + j)).trace
longer_by g k zero = let e = ap (λ (n : ℕ). length (moment g n).trace) (add-zero k) in omega (arith, e)
longer_by g k (suc j) =
    let same : k + suc j ≡ suc (k + j) = omega arith in
    let e = ap (λ (n : ℕ). length (moment g n).trace) same in
    let first = longer_by g k j in
    let second = next_longer g (k + j) in
    omega (arith, e, first, second)

pub trace_longer : (g : Setting) (j k : ℕ) → j ≤ k → length (moment g j).trace ≤ length (moment g k).trace
trace_longer g j k before =
    let same : j + (k - j) ≡ k = omega (arith, before) in
    let e = ap (λ (n : ℕ). length (moment g n).trace) same in
    let all = longer_by g j (k - j) in
    omega (arith, e, all)
