-- A source of the code behind one step more.
use Rattle.std.proofs.Common.{◌≡◌, ◌≤◌, ◌<◌, inl, inr, ⊎_elim, ℕ, zero, suc, ◌+◌, Bool, true, false, not, ◌||◌, ◌&&◌, Option, Some, None, option_map, refl, sym, ap, ◌∙◌, subst, arith}
use Rattle.std.proofs.lemmas.Bool.{false≢true}
use Rattle.std.specs.Vec.{vec_capacity}
use Rattle.c_typed.specs.Views.{program_of}
use Rattle.pic_map.specs.MapContent.{MapContent}
use Rattle.pic_world.proofs.WorldLaws.{arrived_again}
use Rattle.pic_world.specs.World.{World, Happening, arrived, world_at_start}
use Rattle.pic_world.specs.declared.Event.{Event}
use Rattle.pic_world.specs.declared.Root.{Root}
use Rattle.pic_world.specs.declared.Root.TheVariants as roots
use Rattle.src_machine.proofs.Ready.{more_room, ready_here}
use Rattle.src_machine.specs.Progress.{main_steps_of, runs_of, undefined_in, main_by, run_by, undefined_at, Notes}
use Rattle.src_machine.specs.Seen.{state_in}
use Rattle.src_machine.specs.Stepping.{taker_at, taker_of}
use Rattle.src_machine.specs.Steps.{CanGo, IsGiven, IsOnRun, TellsTake, settled}
use Rattle.src_machine.specs.Sources.{BeginsAt, EndsAs, IsBehind, IsSource, TellsNext, event_in}
use Rattle.src_machine.specs.Telling.{Tells}
use Rattle.src_machine.specs.declared.machine.Outcome.TheVariants as outcomes
use Rattle.src_machine.specs.declared.machine.SrcEnd.{SrcEnd}
use Rattle.src_machine.specs.declared.machine.SrcEnd.TheVariants as ends
use Rattle.src_machine.specs.declared.machine.Taker.{Taker}
use Rattle.src_machine.specs.declared.progress.Source.{Source}
use Rattle.src_machine.specs.declared.progress.Stop.{Stop}
use Rattle.src_memory.specs.Seen.{IsWorld, events_of}
use Rattle.src_memory.specs.Shown.{address_of, shown}
use Rattle.src_rules.proofs.Changes.{arrivals_once}
use Rattle.src_rules.proofs.Readies.{comes, are_moments, compose}
use Rattle.src_rules.specs.Runs.{after, begun_run, by_main, fault_after, fault_of, gone, is_idle, is_idle_after, is_main, is_taken, main_step, main_steps_after, one_if, ready, run, runs_after, take}
use Rattle.src_rules.specs.State.{State, Outcome, Went, Undefined, Idle, Lost}
use Rattle.src_rules.specs.Step.{counts, enters, start, step}
use Rattle.src_values.specs.Memory.{Setting}
use Rattle.src_values.specs.declared.objects.Byte.{Byte}
use Rattle.src_values.specs.declared.objects.Undef.{Undef}

-- ---- steps of the definition
take_of_ready : (s : Setting) (t : State) → take s t ≡ step s (ready s t)
unfolding take
take_of_ready s t = refl

idle_now : (s : Setting) (n : ℕ) → is_idle_after s n ≡ true → take s (after s n) ≡ Idle
unfolding is_idle_after
idle_now s n h = idle_only (take s (after s n)) h
  where
    idle_only : (out : Outcome) → is_idle out ≡ true → out ≡ Idle
    idle_only (Went u event) h = absurd (false≢true h)
    idle_only (Undefined kind line) h = absurd (false≢true h)
    idle_only Idle h = refl
    idle_only Lost h = absurd (false≢true h)

or_right : (a b : Bool) → b ≡ true → (a || b) ≡ true
or_right true b h = refl
or_right false b h = h

-- where no step is left, flags that arrive change nothing
settled_idle : (s : Setting) (r : State) → step s r ≡ Idle → step s (settled s.outside r) ≡ Idle
settled_idle s r h = arrivals_once s r ∙ h

settled_ready : (s : Setting) (r : State) → step s r ≡ Idle → ready s (settled s.outside r) ≡ settled s.outside r
settled_ready s r h = ready_here s (settled s.outside r) (or_right (counts s (settled s.outside r)) _ (ap (λ x. not (is_taken x)) (settled_idle s r h)))

-- the next step from where the code is
take_behind : (s : Setting) (n : ℕ) (t : State) → IsBehind s n t → take s t ≡ take s (after s n)
take_behind s n t behind =
    ⊎_elim (λ e. ap (take s) e)
    (λ e. let i = sym (take_of_ready s (after s n)) ∙ idle_now s n e.0 in
    ap (take s) e.1 ∙ (take_of_ready s _ ∙ (ap (step s) (settled_ready s (ready s (after s n)) i) ∙ (settled_idle s (ready s (after s n)) i ∙ sym (idle_now s n e.0)))))
    behind

after_next : (s : Setting) (n : ℕ) (u : State) (event : Option (Happening Byte)) → take s (after s n) ≡ Went u event → after s (n + 1) ≡ u
unfolding after
after_next s n u event h = let e : n + 1 ≡ suc n = omega arith in ap (after s) e ∙ ap (gone (after s n)) h

main_steps_next : (s : Setting) (n : ℕ) → main_steps_after s (n + 1) ≡ main_steps_after s n + main_step s (ready s (after s n))
unfolding main_steps_after
main_steps_next s n = let e : n + 1 ≡ suc n = omega arith in ap (main_steps_after s) e

runs_next : (s : Setting) (n : ℕ) → runs_after s (n + 1) ≡ runs_after s n + begun_run s (ready s (after s n))
unfolding runs_after
runs_next s n = let e : n + 1 ≡ suc n = omega arith in ap (runs_after s) e

one_small : (b : Bool) → one_if b ≤ 1
one_small true = omega arith
one_small false = omega arith

main_steps_few : (s : Setting) (n : ℕ) → main_steps_after s n ≤ n
unfolding main_steps_after
main_steps_few s zero = omega arith
main_steps_few s (suc n) = let i = main_steps_few s n in let d = one_small (is_taken (step s (ready s (after s n))) && by_main s (ready s (after s n))) in omega arith

runs_few : (s : Setting) (n : ℕ) → runs_after s n ≤ n
unfolding runs_after
runs_few s zero = omega arith
runs_few s (suc n) = let i = runs_few s n in let d = one_small (is_taken (step s (ready s (after s n))) && enters s (ready s (after s n))) in omega arith

pub source_small : (s : Setting) (map : MapContent) (n : ℕ) (source : Source) → IsSource s map n source → (main_steps_of source ≤ n) × (runs_of source ≤ n)
source_small s map n source h = let a = main_steps_few s n in let b = runs_few s n in let c = h.main_steps in let d = h.runs in (omega arith, omega arith)

-- ---- whose step it is
main_taken : (b : Bool) (root : Root) → one_if (true && (not b && is_main root)) ≡ main_by (taker_at b root)
main_taken true root = refl
main_taken false roots.Main = refl
main_taken false roots.Isr = refl

run_taken : (b : Bool) (root : Root) → one_if (true && b) ≡ run_by (taker_at b root)
run_taken true root = refl
run_taken false roots.Main = refl
run_taken false roots.Isr = refl

main_counts : (s : Setting) (r u : State) (event : Option (Happening Byte)) → step s r ≡ Went u event → main_step s r ≡ main_by (taker_of s r)
main_counts s r u event is = ap (λ x. one_if (is_taken x && by_main s r)) is ∙ main_taken (enters s r) r.copy.root

run_counts : (s : Setting) (r u : State) (event : Option (Happening Byte)) → step s r ≡ Went u event → begun_run s r ≡ run_by (taker_of s r)
run_counts s r u event is = ap (λ x. one_if (is_taken x && enters s r)) is ∙ run_taken (enters s r) r.copy.root

-- ---- where a run is behind so many steps
went_or_idle : (s : Setting) (n : ℕ) (t u : State) (event : Option (Happening Byte)) → IsBehind s n t → take s t ≡ Went u event → t ≡ after s n
went_or_idle s n t u event behind is =
    ⊎_elim (λ e. e) (λ e. absurd (never_both (sym is ∙ (take_behind s n t behind ∙ idle_now s n e.0)))) behind
  where
    never_both : {u : State} {event : Option (Happening Byte)} → Went u event ≡ Idle → ⊥
    never_both e = false≢true (sym (ap is_taken e))

after_on_run : (s : Setting) → IsGiven s → (n : ℕ) → IsOnRun s (after s n)
after_on_run s given n = let m = are_moments s given.proper given.bytes n in record { number = m.0.0; at = inl m.0.1 }

ready_on_run : (s : Setting) → IsGiven s → (n : ℕ) → IsOnRun s (settled s.outside (ready s (after s n)))
ready_on_run s given n =
    let m = are_moments s given.proper given.bytes n in
    let r = comes s given.proper given.bytes (after s n) m.1 in
    record { number = m.0.0 + r.0.count; at = inr (ap (settled s.outside) (r.0.at ∙ (ap (run s r.0.count) m.0.1 ∙ sym (compose s m.0.0 r.0.count (start s))))) }

settled_again : (s : Setting) (r : State) → settled s.outside (settled s.outside r) ≡ settled s.outside r
settled_again s r = ap (λ w. record (settled s.outside r) { world = w }) (arrived_again s.outside r.world)

module _ (s : Setting) (map : MapContent) (n : ℕ) (old new : Source) (source : IsSource s map n old) (by : Taker) where
  abbrev now : State
  now = state_in old.machine source.world

  goes : (w : World Byte) (end : SrcEnd) → TellsTake s map now by end old.machine new.machine → IsWorld s.outside new.machine.world w → IsOnRun s (state_in new.machine w) → events_of new.machine.world < 1152921504606846976
      → CanGo s map new.machine w
  goes w end tells world on few =
      let can = source.can in
      record {
        given = can.given;
        at = record { program = can.at.program ∙ ap (λ q. program_of q.now) (sym tells.program); shaped = tells.shaped; world = world; few = few };
        handler = tells.handler ∙ can.handler;
        run = on;
        room = more_room s (vec_capacity old.machine.stack) (vec_capacity new.machine.stack) can.room tells.room;
      }

  went_by : (event : Option Event) → TellsTake s map now by (ends.Went event) old.machine new.machine → n + 1 < 1152921504606846976 → main_steps_of new ≡ main_steps_of old + main_by by → runs_of new ≡ runs_of old + run_by by → undefined_in new ≡ None
      → (out : Outcome) → take s now ≡ out → Tells s.outside (address_of s.program map) (outcomes.Went event) new.machine out → TellsNext s map n (ends.Went event) new
  went_by event tells l m r d (Undefined kind line) is told = absurd told
  went_by event tells l m r d Idle is told = absurd told
  went_by event tells l m r d Lost is told = absurd told
  went_by event tells l m r d (Went u happening) is told =
      let next : take s (after s n) ≡ Went u happening = sym (take_behind s n now source.behind) ∙ is in
      let here : now ≡ after s n = went_or_idle s n now u happening source.behind is in
      let stepped : step s (ready s (after s n)) ≡ Went u happening = sym (take_of_ready s (after s n)) ∙ next in
      let after_is : after s (n + 1) ≡ u = after_next s n u happening next in
      let state_is : state_in new.machine u.world ≡ after s (n + 1) = sym told.0 ∙ sym after_is in
      let taken_by_is : by ≡ taker_of s (ready s (after s n)) = tells.taker ∙ ap (λ t. taker_of s (ready s t)) here in
      let few = tells.few refl in
      let events = source.few in (
        ap is_taken next,
        told.2 ∙ ap (λ x. option_map (shown (address_of s.program map)) (event_in x)) (sym next),
        record {
          world = u.world;
          can = goes u.world (ends.Went event) tells told.1 (subst (IsOnRun s) (sym state_is) (after_on_run s source.can.given (n + 1))) (omega arith);
          behind = inl state_is;
          few = omega arith;
          main_steps = m ∙ (ap (λ x. x + main_by by) source.main_steps ∙ (ap (λ x. main_steps_after s n + x) (ap main_by taken_by_is ∙ sym (main_counts s (ready s (after s n)) u happening stepped)) ∙ sym (main_steps_next s n)));
          runs = r ∙ (ap (λ x. x + run_by by) source.runs ∙ (ap (λ x. runs_after s n + x) (ap run_by taken_by_is ∙ sym (run_counts s (ready s (after s n)) u happening stepped)) ∙ sym (runs_next s n)));
          defined = d;
        },
      )

  pub follows_went : (event : Option Event) → TellsTake s map now by (ends.Went event) old.machine new.machine → n + 1 < 1152921504606846976 → main_steps_of new ≡ main_steps_of old + main_by by → runs_of new ≡ runs_of old + run_by by → undefined_in new ≡ None
      → TellsNext s map n (ends.Went event) new
  follows_went event tells l m r d = went_by event tells l m r d (take s now) refl tells.told

  fault_by : (kind : Undef) (line : ℕ) (out : Outcome) → take s now ≡ out → Tells s.outside (address_of s.program map) (outcomes.Undefined kind line) new.machine out → fault_after s n ≡ Some (record { kind = kind; line = line })
  unfolding fault_after
  fault_by kind line (Went u event) is told = absurd told
  fault_by kind line (Undefined other at) is told =
      ap fault_of (sym (take_behind s n now source.behind) ∙ is) ∙ (ap (λ k. Some (record { kind = k; line = at })) (sym told.0) ∙ ap (λ l. Some (record { kind = kind; line = l })) (sym told.1))
  fault_by kind line Idle is told = absurd told
  fault_by kind line Lost is told = absurd told

  pub follows_undefined : (kind : Undef) (line : ℕ) → TellsTake s map now by (ends.Undefined kind line) old.machine new.machine → fault_after s n ≡ Some (record { kind = kind; line = line })
  follows_undefined kind line tells = fault_by kind line (take s now) refl tells.told

  idle_by : (out : Outcome) → take s now ≡ out → Tells s.outside (address_of s.program map) outcomes.Idle new.machine out → is_idle_after s n ≡ true
  unfolding is_idle_after
  idle_by (Went u event) is told = absurd told
  idle_by (Undefined other at) is told = absurd told
  idle_by Idle is told = ap is_idle (sym (take_behind s n now source.behind) ∙ is)
  idle_by Lost is told = absurd told

  rested : is_idle_after s n ≡ true → settled s.outside (ready s now) ≡ settled s.outside (ready s (after s n))
  rested i =
      ⊎_elim (λ e. ap (λ t. settled s.outside (ready s t)) e)
      (λ e. ap (λ t. settled s.outside (ready s t)) e.1 ∙ (ap (settled s.outside) (settled_ready s (ready s (after s n)) (sym (take_of_ready s (after s n)) ∙ idle_now s n i)) ∙ settled_again s (ready s (after s n))))
      source.behind

  pub follows_idle : TellsTake s map now by ends.Idle old.machine new.machine → main_steps_of new ≡ main_steps_of old → runs_of new ≡ runs_of old → undefined_in new ≡ None → TellsNext s map n ends.Idle new
  follows_idle tells m r d =
      let idle = idle_by (take s now) refl tells.told in
      let state_is = tells.rests.0 ∙ rested idle in
      let few = tells.few refl in
      let events = source.few in
      let bound = source.can.at.few in (
        idle,
        record {
          world = arrived s.outside (ready s now).world;
          can = goes (arrived s.outside (ready s now).world) ends.Idle tells tells.rests.1 (subst (IsOnRun s) (sym state_is) (ready_on_run s source.can.given n)) (omega arith);
          behind = inr (idle, state_is);
          few = omega arith;
          main_steps = m ∙ source.main_steps;
          runs = r ∙ source.runs;
          defined = d;
        },
      )

  -- ---- how the step ended, whatever its number is
  taken_by : (event : Option Event) (out : Outcome) → take s now ≡ out → Tells s.outside (address_of s.program map) (outcomes.Went event) new.machine out → is_taken (take s (after s n)) ≡ true
  taken_by event (Went u happening) is told = ap is_taken (sym (take_behind s n now source.behind) ∙ is)
  taken_by event (Undefined other at) is told = absurd told
  taken_by event Idle is told = absurd told
  taken_by event Lost is told = absurd told

  pub ended : (end : SrcEnd) → TellsTake s map now by end old.machine new.machine → EndsAs s n end
  ended (ends.Went event) tells = taken_by event (take s now) refl tells.told
  ended (ends.Undefined kind line) tells = follows_undefined kind line tells
  ended ends.Idle tells = idle_by (take s now) refl tells.told

-- ---- as the code has it
module _ (s : Setting) (map : MapContent) (n : ℕ) (old mid new : Source) (source : IsSource s map n old) (by : Taker) where
  pub follows : (end : SrcEnd) → TellsTake s map (state_in old.machine source.world) by end old.machine mid.machine → new.machine ≡ mid.machine → n + 1 < 1152921504606846976 → Notes end by mid new
      → main_steps_of mid ≡ main_steps_of old → runs_of mid ≡ runs_of old → undefined_in mid ≡ undefined_in old → TellsNext s map n end new
  follows (ends.Went event) tells same l notes m r d =
      let small = source_small s map n old source in
      let a = small.0 in
      let b = small.1 in
      follows_went s map n old new source by event (subst (TellsTake s map (state_in old.machine source.world) by (ends.Went event) old.machine) (sym same) tells) l
      (notes.0 (omega arith) ∙ ap (λ x. x + main_by by) m) (notes.1 (omega arith) ∙ ap (λ x. x + run_by by) r) (notes.2 ∙ (d ∙ source.defined))
  follows (ends.Undefined kind line) tells same l notes m r d =
      follows_undefined s map n old new source by kind line (subst (TellsTake s map (state_in old.machine source.world) by (ends.Undefined kind line) old.machine) (sym same) tells)
  follows ends.Idle tells same l notes m r d =
      follows_idle s map n old new source by (subst (TellsTake s map (state_in old.machine source.world) by ends.Idle old.machine) (sym same) tells)
      (ap main_steps_of notes ∙ m) (ap runs_of notes ∙ r) (ap undefined_in notes ∙ (d ∙ source.defined))

-- ---- the start
pub first_source : (s : Setting) (map : MapContent) (source : Source) → BeginsAt s map source.machine → main_steps_of source ≡ 0 → runs_of source ≡ 0 → undefined_in source ≡ None → IsSource s map 0 source
unfolding after main_steps_after runs_after
first_source s map source begins m r d = record {
  world = world_at_start;
  can = begins.can;
  behind = inl begins.start;
  few = let e = begins.events in omega arith;
  main_steps = m;
  runs = r;
  defined = d;
}

-- a run that met an undefined step isn't one that follows
pub never_defined : (s : Setting) (map : MapContent) (n : ℕ) (source : Source) → IsSource s map n source → (stop : Stop) → source.stop ≡ Some stop → ⊥
never_defined s map n source h stop is = some_stop (sym (ap undefined_at is) ∙ h.defined)
  where
    some_stop : {end : SrcEnd} → Some end ≡ None → ⊥
    some_stop e = cc
