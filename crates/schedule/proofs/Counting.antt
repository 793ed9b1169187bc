-- The events of a run, counted moment by moment.
use Rattle.std.specs.Prelude.{if◌then◌else◌, ◌&&◌, ◌||◌}
use Rattle.std.proofs.Common.{◌≡◌, ℕ, suc, ◌+◌, Bool, true, false, not, nat_eq, Some, None, List, [], ◌∷◌, ◌++◌, length, refl, sym, ap, ◌∙◌, subst, append-nil, append_assoc, length-append, arith}
use Rattle.pic_world.specs.declared.Event.{Event}
use Rattle.pic_world.specs.declared.Event.TheVariants as events
use Rattle.pic_world.specs.Arrivals.{arriving}
use Rattle.pic_world.specs.Control.{is_due}
use Rattle.pic_chip.specs.declared.access.Accesses.{Accesses}
use Rattle.pic_chip.specs.State.{State}
use Rattle.pic_chip.specs.Act.{Made, accesses, perform}
use Rattle.pic_chip.specs.Instructions.{execute, fetched, is_return_from_interrupt}
use Rattle.pic_chip.specs.Interrupts.{control_of, raised, begun}
use Rattle.pic_chip.specs.Machine.{Machine, stop_at, index_after}
use Rattle.pic_chip.specs.Run.{Watch, Range, Setting, Moment, moment, observed, takes, cell_at, event_at, events_of}
use Rattle.pic_chip.specs.Seen.{made_by, seen}
use Rattle.pic_map.specs.Tracing.{Tracing, looked, told}
use Rattle.schedule.specs.Off.{runs_begun}
use Rattle.schedule.specs.Watching.{IsRunAt, IsWatchedAt, AreLowest, shown_all}
use Rattle.schedule.proofs.Boundaries.{taken_is, run_goes, run_ends}
use Rattle.schedule.proofs.LowestNames.{are_lowest}
use Rattle.schedule.proofs.Moments.{goes_on, goes_further, next_step, observed_keeps}

-- ---- the events of accesses
events-append : (ranges : List Range) (xs ys : List Made) → events_of ranges (xs ++ ys) ≡ events_of ranges xs ++ events_of ranges ys
events-append ranges [] ys = refl
events-append ranges (x ∷ xs) ys =
    ap (λ (z : List Event). event_at x.write x.byte (cell_at ranges x.address) ++ z) (events-append ranges xs ys)
    ∙ sym (append_assoc (event_at x.write x.byte (cell_at ranges x.address)) (events_of ranges xs) (events_of ranges ys))

shown-append : (xs ys : List Made) (t : Tracing) → shown_all (xs ++ ys) t ≡ shown_all xs t ++ shown_all ys t
shown-append xs ys t = by_test t.met
  where
    by_test : (b : Bool) → (if b then events_of t.watch.ranges (xs ++ ys) else []) ≡ (if b then events_of t.watch.ranges xs else []) ++ (if b then events_of t.watch.ranges ys else [])
    by_test true = events-append t.watch.ranges xs ys
    by_test false = refl

lowest_split : (xs ys : List Made) → AreLowest (xs ++ ys) → AreLowest xs × AreLowest ys
lowest_split [] ys h = (tt, h)
lowest_split (x ∷ xs) ys h = let rest = lowest_split xs ys h.1 in ((h.0, rest.0), rest.1)

-- of an instruction: of its read and of its write
pub both_shown : (done : Accesses) (t : Tracing) (old new reads writes : ℕ)
    → (AreLowest (made_by false done.read) → reads ≡ length (shown_all (made_by false done.read) t))
    → (AreLowest (made_by true done.write) → writes ≡ length (shown_all (made_by true done.write) t))
    → new ≡ old + (reads + writes) → AreLowest (seen done) → new ≡ old + length (shown_all (seen done) t)
both_shown done t old new reads writes hr hw e low =
    let two = lowest_split (made_by false done.read) (made_by true done.write) low in
    let r = hr two.0 in
    let w = hw two.1 in
    let all = ap length (shown-append (made_by false done.read) (made_by true done.write) t) in
    let sum = length-append (shown_all (made_by false done.read) t) (shown_all (made_by true done.write) t) in
    omega (arith, r, w, e, all, sum)

-- ---- how a moment is looked at
record Looks (m o : Moment) (new : Tracing) (more : List Event) : Type 0 where
  met : o.met ≡ new.met
  ended : o.ended ≡ new.ended
  trace : o.trace ≡ m.trace ++ more

abbrev see : Bool → Bool → Bool → Moment → Moment
see b c x m = if b then (if c then record m { ended = true; trace = m.trace ++ events.End ∷ [] } else m) else record m { met = x }

looks : (w : Watch) (m : Moment) (t : Tracing) → t.watch ≡ w → t.met ≡ m.met → t.ended ≡ m.ended → Looks m (observed w m) (looked m.state.pc t) (told m.state.pc t)
looks w m t ew em ee =
    let pc = m.state.pc in
    let form : observed w m ≡ see t.met (nat_eq pc t.watch.halt && not t.ended) (nat_eq pc t.watch.main) m =
    ap (λ (b : Bool). see b (nat_eq pc w.halt && not m.ended) (nat_eq pc w.main) m) (sym em)
    ∙ ap (λ (q : Bool). see t.met (nat_eq pc w.halt && not q) (nat_eq pc w.main) m) (sym ee)
    ∙ ap (λ (v : Watch). see t.met (nat_eq pc v.halt && not t.ended) (nat_eq pc v.main) m) (sym ew) in
    subst (λ (o : Moment). Looks m o (looked pc t) (told pc t)) (sym form)
    (by_tests t.met (nat_eq pc t.watch.halt && not t.ended) (nat_eq pc t.watch.main))
  where
    by_tests : (b c x : Bool) → Looks m (see b c x m) (if b then (if c then record t { ended = true } else t) else record t { met = x }) (if b then (if c then events.End ∷ [] else []) else [])
    by_tests true true x = record { met = sym em; ended = refl; trace = refl }
    by_tests true false x = record { met = sym em; ended = sym ee; trace = sym (append-nil m.trace) }
    by_tests false c x = record { met = refl; ended = sym ee; trace = sym (append-nil m.trace) }

watch_kept : (pc : ℕ) (t : Tracing) → (looked pc t).watch ≡ t.watch
watch_kept pc t = by_tests t.met (nat_eq pc t.watch.halt && not t.ended)
  where
    by_tests : (b c : Bool) → (if b then (if c then record t { ended = true } else t) else record t { met = nat_eq pc t.watch.main }).watch ≡ t.watch
    by_tests true true = refl
    by_tests true false = refl
    by_tests false c = refl

-- ---- the first moment
none_first : (n : ℕ) → 0 + n ≡ n
none_first n = omega arith

pub watching_starts : (g : Setting) (chip : Machine) (inside : Bool) (before tracing : Tracing) (pc events runs : ℕ)
    → IsRunAt g 0 chip inside → pc ≡ chip.state.pc → before ≡ record { watch = g.watch; met = false; ended = false }
    → tracing ≡ looked pc before → events ≡ 0 + length (told pc before) → runs ≡ 0 → IsWatchedAt g 0 chip inside tracing events runs
unfolding moment runs_begun
watching_starts g chip inside before tracing pc events runs at pc_is is looked_is told_is none =
    let here : pc ≡ 0 = pc_is ∙ ap (λ (s : State). s.pc) at.state in
    let first : tracing ≡ looked 0 (record { watch = g.watch; met = false; ended = false }) = looked_is ∙ ap (λ (n : ℕ). looked n before) here ∙ ap (looked 0) is in
    record {
      run = at;
      watch = ap (λ (t : Tracing). t.watch) first;
      met = ap (λ (t : Tracing). t.met) first;
      ended = ap (λ (t : Tracing). t.ended) first;
      count = told_is ∙ none_first (length (told pc before)) ∙ ap (λ (n : ℕ). length (told n before)) here ∙ ap (λ (t : Tracing). length (told 0 t)) is;
      begun = none;
    }

pub none_begun : (g : Setting) → runs_begun g 0 ≡ 0
unfolding runs_begun
none_begun g = refl

-- ---- the next moment
begun_next : (g : Setting) (k : ℕ) (taken : Bool) → (moment g k).stopped ≡ false → taken ≡ takes (arriving g.arrivals k) (moment g k) → runs_begun g (suc k) ≡ runs_begun g k + (if taken then 1 else 0)
unfolding runs_begun
begun_next g k taken going e =
    ap (λ (b : Bool). runs_begun g k + (if not b && takes (arriving g.arrivals k) (moment g k) then 1 else 0)) going
    ∙ ap (λ (b : Bool). runs_begun g k + (if b then 1 else 0)) (sym e)

step_shown : (g : Setting) (k : ℕ) (t : Tracing) (made : List Made) → t.watch ≡ g.watch → t.met ≡ (moment g k).met
    → made ≡ accesses (execute g.image g.inputs) (begun (arriving g.arrivals k) (moment g k).state) → (next_step g k).trace ≡ (moment g k).trace ++ shown_all made t
step_shown g k t made ew em e =
    by_test (moment g k).met
    ∙ ap (λ (q : Bool). (moment g k).trace ++ (if q then events_of g.watch.ranges now else [])) (sym em)
    ∙ ap (λ (v : Watch). (moment g k).trace ++ (if t.met then events_of v.ranges now else [])) (sym ew)
    ∙ ap (λ (z : List Made). (moment g k).trace ++ shown_all z t) (sym e)
  where
    now : List Made
    now = accesses (execute g.image g.inputs) (begun (arriving g.arrivals k) (moment g k).state)

    by_test : (b : Bool) → (if b then (moment g k).trace ++ events_of g.watch.ranges now else (moment g k).trace) ≡ (moment g k).trace ++ (if b then events_of g.watch.ranges now else [])
    by_test true = refl
    by_test false = sym (append-nil (moment g k).trace)

module _ (g : Setting) (k : ℕ) (old new : Machine) (inside now taken : Bool) (before tracing : Tracing) (pc events between after runs runs_now : ℕ) (done : Accesses)
    (at : IsWatchedAt g k old inside before events runs)
    (run : IsRunAt g (suc k) new now)
    (taken_at : taken ≡ takes (arriving g.arrivals k) (moment g k))
    (runs_are : runs_now ≡ runs + (if taken then 1 else 0))
    (made_is : seen done ≡ accesses (execute g.image g.inputs) (begun (arriving g.arrivals old.index) old.state))
    (noted : AreLowest (seen done) → between ≡ events + length (shown_all (seen done) before))
    (pc_is : pc ≡ new.state.pc)
    (looked_is : tracing ≡ looked pc before)
    (told_is : after ≡ between + length (told pc before)) where
  pub watching_goes : IsWatchedAt g (suc k) new now tracing after runs_now
  watching_goes =
      let st = next_step g k in
      let made : seen done ≡ accesses (execute g.image g.inputs) (begun (arriving g.arrivals k) (moment g k).state) =
      made_is ∙ ap (λ (n : ℕ). accesses (execute g.image g.inputs) (begun (arriving g.arrivals n) old.state)) at.run.index
      ∙ ap (λ (s : State). accesses (execute g.image g.inputs) (begun (arriving g.arrivals k) s)) at.run.state in
      let low : AreLowest (seen done) = subst AreLowest (sym made) (are_lowest g.inputs (begun (arriving g.arrivals k) (moment g k).state) g.image) in
      let next = goes_on g k (goes_further g k run.going) in
      let here : pc ≡ st.state.pc = pc_is ∙ ap (λ (s : State). s.pc) run.state ∙ ap (λ (m : Moment). m.state.pc) next ∙ ap (λ (s : State). s.pc) (observed_keeps g.watch st).state in
      let look = looks g.watch st before at.watch at.met at.ended in
      let longer : length (moment g (suc k)).trace ≡ length (moment g k).trace + length (shown_all (seen done) before) + length (told pc before) =
      ap (λ (m : Moment). length m.trace) next ∙ ap length look.trace ∙ length-append st.trace (told st.state.pc before)
      ∙ ap (λ (n : ℕ). length st.trace + length (told n before)) (sym here)
      ∙ ap (λ (z : List Event). length z + length (told pc before)) (step_shown g k before (seen done) at.watch at.met made)
      ∙ ap (λ (n : ℕ). n + length (told pc before)) (length-append (moment g k).trace (shown_all (seen done) before)) in
      let counted = noted low in
      let so_far = at.count in
      let last = told_is in
      record {
        run = run;
        watch = ap (λ (t : Tracing). t.watch) looked_is ∙ watch_kept pc before ∙ at.watch;
        met = ap (λ (t : Tracing). t.met) looked_is ∙ ap (λ (n : ℕ). (looked n before).met) here ∙ sym look.met ∙ ap (λ (m : Moment). m.met) (sym next);
        ended = ap (λ (t : Tracing). t.ended) looked_is ∙ ap (λ (n : ℕ). (looked n before).ended) here ∙ sym look.ended ∙ ap (λ (m : Moment). m.ended) (sym next);
        count = omega (arith, longer, counted, so_far, last);
        begun = runs_are ∙ ap (λ (n : ℕ). n + (if taken then 1 else 0)) at.begun ∙ sym (begun_next g k taken at.run.going taken_at);
      }

-- from the clauses of the run's step, `note` and `look`
module _ (g : Setting) (k : ℕ) (old new noted_chip last_chip : Machine) (inside now noted_inside last_inside taken returns : Bool) (before between tracing : Tracing)
    (mask events noted_events last_events runs one noted_runs last_runs : ℕ) (done : Accesses)
    (at : IsWatchedAt g k old inside before events runs)
    (mask_is : mask ≡ arriving g.arrivals k)
    (taken_at : taken ≡ is_due (control_of (raised mask old.state)))
    (returns_at : returns ≡ is_return_from_interrupt (fetched g.image (begun mask old.state)))
    (one_is : one ≡ (if taken then 1 else 0))
    (inside_is : now ≡ ((inside || taken) && not returns))
    (state_is : new.state ≡ perform (execute g.image g.inputs) (begun (arriving g.arrivals old.index) old.state))
    (made_is : seen done ≡ accesses (execute g.image g.inputs) (begun (arriving g.arrivals old.index) old.state))
    (stop_is : None ≡ stop_at g.image (begun (arriving g.arrivals old.index) old.state))
    (index_is : new.index ≡ index_after g.image (begun (arriving g.arrivals old.index) old.state) old.index)
    (noted : AreLowest (seen done) → noted_events ≡ events + length (shown_all (seen done) before))
    (noted_tracing : between ≡ before)
    (noted_same : (noted_chip ≡ new) × (noted_inside ≡ now) × (noted_runs ≡ runs + one))
    (counted : last_events ≡ noted_events + length (told noted_chip.state.pc between))
    (looked_at : tracing ≡ looked noted_chip.state.pc between)
    (looked_same : (last_chip ≡ noted_chip) × (last_inside ≡ noted_inside) × (last_runs ≡ noted_runs)) where
  pub watching_goes_on : IsWatchedAt g (k + 1) last_chip last_inside tracing last_events last_runs
  watching_goes_on =
      let run = run_goes g k old new inside now taken returns mask at.run mask_is taken_at returns_at inside_is state_is index_is stop_is in
      let same_chip = looked_same.0 ∙ noted_same.0 in
      let same_inside = looked_same.1 ∙ noted_same.1 in
      let moved : IsRunAt g (suc k) last_chip last_inside =
      subst (λ (c : Machine). IsRunAt g (suc k) c last_inside) (sym same_chip) (subst (λ (b : Bool). IsRunAt g (suc k) new b) (sym same_inside) run) in
      let pc : noted_chip.state.pc ≡ last_chip.state.pc = ap (λ (c : Machine). c.state.pc) (sym looked_same.0) in
      let next : suc k ≡ k + 1 = omega arith in
      subst (λ (n : ℕ). IsWatchedAt g n last_chip last_inside tracing last_events last_runs) next
      (watching_goes g k old last_chip inside last_inside taken before tracing noted_chip.state.pc events noted_events last_events runs last_runs done at moved
      (taken_is g k mask old inside taken at.run mask_is taken_at)
      (looked_same.2 ∙ noted_same.2 ∙ ap (λ (n : ℕ). runs + n) one_is)
      made_is noted pc
      (looked_at ∙ ap (looked noted_chip.state.pc) noted_tracing)
      (counted ∙ ap (λ (t : Tracing). noted_events + length (told noted_chip.state.pc t)) noted_tracing))

-- a run that goes on hasn't ended here
pub goes_on_here : (g : Setting) (k : ℕ) (chip : Machine) (inside : Bool) (pc : ℕ) → IsRunAt g k chip inside → Some pc ≡ stop_at g.image (begun (arriving g.arrivals chip.index) chip.state)
    → (moment g (k + 1)).stopped ≡ false → ⊥
goes_on_here g k chip inside pc at h going =
    let next : k + 1 ≡ suc k = omega arith in
    let both = sym (run_ends g k chip inside pc at h) ∙ ap (λ (n : ℕ). (moment g n).stopped) (sym next) ∙ going in
    absurd (cc (both))
