-- A run of the code, step by step, as the definition has it.
use Rattle.std.proofs.Common.{◌≡◌, ◌≤◌, ◌<◌, inl, inr, ⊎_elim, ℕ, zero, suc, ◌+◌, ◌*◌, Bool, true, false, Option, Some, None, option_to_list, option_map, is_some, List, ◌++◌, length, refl, sym, ap, ◌∙◌, subst, arith, append-nil, length-append}
use Rattle.std.proofs.lemmas.Bool.{cases_lt, false≢true}
use Rattle.std.specs.Prelude.{if◌then◌else◌}
use Rattle.pic_map.specs.MapContent.{MapContent}
use Rattle.pic_world.proofs.WorldLaws.{arrived_trace}
use Rattle.pic_world.specs.World.{Happening}
use Rattle.pic_world.specs.declared.Event.{Event}
use Rattle.run_compare.proofs.Steps.{faulty_busy, idle_stays, idle_without_fault, main_steps_more, no_run_begins, runs_more, stays_here, taken_defined, trace_longer}
use Rattle.run_compare.specs.Looking.{IsEndOf, IsFirst, IsRun, Looked, MeetsFault, Met}
use Rattle.run_compare.specs.declared.source_run.SourceRun.{SourceRun}
use Rattle.src_machine.specs.Progress.{main_steps_of, runs_of}
use Rattle.src_machine.specs.Sources.{IsSource, TellsNext, event_in}
use Rattle.src_machine.specs.Steps.{IsGiven}
use Rattle.src_machine.specs.declared.machine.SrcEnd.TheVariants as ends
use Rattle.src_machine.specs.declared.progress.Source.{Source}
use Rattle.src_memory.specs.Shown.{address_of, shown}
use Rattle.src_rules.proofs.Changes.{trace_grows, events_count}
use Rattle.src_rules.proofs.Readies.{comes, are_moments}
use Rattle.src_rules.specs.Laws.{Adds, IsReadyBehind}
use Rattle.src_rules.specs.Runs.{Fault as Faults, run, gone, is_taken, ready, take, after, fault_after, is_idle_after}
use Rattle.src_rules.specs.State.{State, Outcome, Went, Undefined, Idle, Lost}
use Rattle.src_rules.specs.Step.{step, counts, start}
use Rattle.src_values.specs.Memory.{Setting}
use Rattle.src_values.specs.declared.objects.Byte.{Byte}

-- ---- the trace, a step at a time
module _ (s : Setting) (given : IsGiven s) where
  -- a micro-step that doesn't count adds nothing to it
  uncounted : (t : State) (x : Outcome) → step s t ≡ x → counts s t ≡ false → (gone t x).world.trace ≡ t.world.trace
  uncounted t (Went u event) is none = ap (λ w. w.trace) (events_count s t u event is none).1 ∙ arrived_trace s.outside t.world
  uncounted t (Undefined kind line) is none = refl
  uncounted t Idle is none = refl
  uncounted t Lost is none = refl

  module _ (n : ℕ) where
    abbrev t : State
    t = after s n

    behind : IsReadyBehind s t (ready s t)
    behind = (comes s given.proper given.bytes t (are_moments s given.proper given.bytes n).1).0

    same_before : (k : ℕ) → k ≤ behind.count → (run s k t).world.trace ≡ t.world.trace
    unfolding run
    same_before zero le = refl
    same_before (suc k) le = uncounted (run s k t) (step s (run s k t)) refl (behind.before k (omega arith)).0 ∙ same_before k (omega arith)

    ready_same : (ready s t).world.trace ≡ t.world.trace
    ready_same = ap (λ (x : State). x.world.trace) behind.at ∙ same_before behind.count (omega arith)

    added : (before after' : List (Happening Byte)) (event : Option (Happening Byte)) → Adds before event after' → after' ≡ before ++ option_to_list event
    added before after' None a = a ∙ sym (append-nil before)
    added before after' (Some e) a = a

    -- the next step adds its event
    trace_after : is_taken (take s t) ≡ true → (after s (suc n)).world.trace ≡ t.world.trace ++ option_to_list (event_in (take s t))
    unfolding after take
    trace_after taken = by (step s (ready s t)) refl taken where
      by : (x : Outcome) → step s (ready s t) ≡ x → is_taken x ≡ true → (gone t x).world.trace ≡ t.world.trace ++ option_to_list (event_in x)
      by (Went u event) is tk = added (ready s t).world.trace u.world.trace event (trace_grows s (ready s t) u event is) ∙ ap (λ xs. xs ++ option_to_list event) ready_same
      by (Undefined kind line) is tk = absurd (cc)
      by Idle is tk = absurd (cc)
      by Lost is tk = absurd (cc)

    one_shown : (address : _) (o : Option (Happening Byte)) → length (option_to_list o) ≡ (if is_some (option_map (shown address) o) then 1 else 0)
    one_shown address None = refl
    one_shown address (Some e) = refl

    events_after : (map : MapContent) (event : Option Event) → is_taken (take s t) ≡ true → event ≡ option_map (shown (address_of s.program map)) (event_in (take s t))
        → length (after s (n + 1)).world.trace ≡ length t.world.trace + (if is_some event then 1 else 0)
    events_after map event taken is =
        let z : n + 1 ≡ suc n = omega arith in
        ap (λ k. length (after s k).world.trace) z ∙ (ap length (trace_after taken) ∙ (length-append t.world.trace (option_to_list (event_in (take s t)))
        ∙ (ap (λ k. length t.world.trace + k) (one_shown (address_of s.program map) (event_in (take s t))) ∙ ap (λ o. length t.world.trace + (if is_some o then 1 else 0)) (sym is))))

    one_at_most : (o : Option (Happening Byte)) → length (option_to_list o) ≤ 1
    one_at_most None = omega arith
    one_at_most (Some e) = omega arith

    more_by_one : (b : Bool) → is_taken (take s t) ≡ b → length (after s (suc n)).world.trace ≤ length t.world.trace + 1
    more_by_one true h =
        let e = ap length (trace_after h) in
        let d = length-append t.world.trace (option_to_list (event_in (take s t))) in
        let o = one_at_most (event_in (take s t)) in
        omega (arith, e, d, o)
    more_by_one false h = let e = ap (λ (u : State). length u.world.trace) (stays_here s n h) in omega (arith, e)

  -- a step makes one event at most
  few_events : (n : ℕ) → length (after s n).world.trace ≤ n
  unfolding after start
  few_events zero = omega arith
  few_events (suc n) = let i = few_events n in let m = more_by_one n (is_taken (take s (after s n))) refl in omega (arith, i, m)

-- ---- steps that were defined
module _ (s : Setting) where
  defined_more : (n : ℕ) → ((k : ℕ) → k < n → fault_after s k ≡ None) → fault_after s n ≡ None → (k : ℕ) → k < n + 1 → fault_after s k ≡ None
  defined_more n all this k l = ⊎_elim (λ b. all k b) (λ b. let e : n ≡ k = omega (arith, l, b) in subst (λ j. fault_after s j ≡ None) e this) (cases_lt k n)

  pub defined_next : (n next : ℕ) → next ≡ n + 1 → ((k : ℕ) → k < n → fault_after s k ≡ None) → fault_after s n ≡ None → (k : ℕ) → k < next → fault_after s k ≡ None
  defined_next n next e all this = subst (λ m. (k : ℕ) → k < m → fault_after s k ≡ None) (sym e) (defined_more n all this)

  none_and_some : {f : Faults} → None ≡ Some f → ⊥
  none_and_some e = absurd (cc)

  -- where all steps up to the last end were defined, none is met before it
  pub met_all : (most runs n : ℕ) → ((k : ℕ) → k < n → fault_after s k ≡ None) → 2 * most ≤ n → Met s most runs None
  met_all most runs n all far fault m =
      ⊎_elim (λ b. none_and_some (sym (all m.step b) ∙ m.is)) (λ b. m.going n b (inr (inl far))) (cases_lt m.step n)

-- ---- a run
module _ (s : Setting) (map : MapContent) where
  pub begins : (run : SourceRun) → run.steps ≡ 0 → run.events ≡ 0 → IsSource s map 0 run.source → IsRun s map run
  unfolding after start
  begins run steps events is = record {
    source = subst (λ n. IsSource s map n run.source) (sym steps) is;
    events = subst (λ n. run.events ≡ length (after s n).world.trace) (sym steps) events;
    defined = λ k l. absurd (omega (arith, l, steps));
  }

  pub went : (old new : SourceRun) (event : Option Event) (next : Source) → IsRun s map old → TellsNext s map old.steps (ends.Went event) next
      → new.source ≡ next → new.steps ≡ old.steps + 1 → new.events ≡ old.events + (if is_some event then 1 else 0) → IsRun s map new
  went old new event next is tells source steps events = record {
    source = subst (λ n. IsSource s map n new.source) (sym steps) (subst (IsSource s map (old.steps + 1)) (sym source) tells.2);
    events =
        events ∙ (ap (λ k. k + (if is_some event then 1 else 0)) is.events
        ∙ (sym (events_after s is.source.can.given old.steps map event tells.0 tells.1) ∙ ap (λ n. length (after s n).world.trace) (sym steps)));
    defined = defined_next s old.steps new.steps steps is.defined (taken_defined s old.steps tells.0);
  }

  pub events_few : (run : SourceRun) → IsRun s map run → run.events ≤ run.steps
  events_few run is = let e = is.events in let f = few_events s is.source.can.given run.steps in omega (arith, e, f)

  pub idle : (old new : SourceRun) (next : Source) → IsRun s map old → TellsNext s map old.steps ends.Idle next → new.source ≡ next → new.steps ≡ old.steps → new.events ≡ old.events
      → (is_idle_after s old.steps ≡ true) × IsRun s map new
  idle old new next is tells source steps events = (
    tells.0,
    record {
      source = subst (λ n. IsSource s map n new.source) (sym steps) (subst (IsSource s map old.steps) (sym source) tells.1);
      events = events ∙ (is.events ∙ ap (λ n. length (after s n).world.trace) (sym steps));
      defined = subst (λ n. (k : ℕ) → k < n → fault_after s k ≡ None) (sym steps) is.defined;
    },
  )

  module _ (run : SourceRun) (is : IsRun s map run) where
    -- ---- the first undefined step
    none_before : (k : ℕ) (P : Type 0) → k < run.steps → (fault : Faults) → fault_after s k ≡ Some fault → P
    none_before k P l fault h = absurd (never (sym (is.defined k l) ∙ h))
      where
        never : {f : Faults} → None ≡ Some f → ⊥
        never e = absurd (cc)

    pub looked_all : (most longest : ℕ) → most ≤ run.steps → Looked s most longest None
    looked_all most longest far k l short = is.defined k (omega (arith, l, far))

    pub looked_long : (most longest : ℕ) → longest < run.events → Looked s most longest None
    looked_long most longest long k l short =
        ⊎_elim (λ b. is.defined k b) (λ b. let m = trace_longer s run.steps k b in let e = is.events in absurd (omega (arith, m, e, long, short))) (cases_lt k run.steps)

    pub looked_idle : (most longest : ℕ) → is_idle_after s run.steps ≡ true → Looked s most longest None
    looked_idle most longest rests k l short = ⊎_elim (λ b. is.defined k b) (λ b. idle_without_fault s run.steps k b rests) (cases_lt k run.steps)

    pub looked_fault : (most longest : ℕ) (fault : Faults) → run.steps < most → run.events ≤ longest → fault_after s run.steps ≡ Some fault → IsFirst s most longest fault
    looked_fault most longest fault early short h = record {
      step = run.steps;
      early = early;
      short = let e = is.events in omega (arith, e, short);
      is = h;
      before = is.defined;
    }

    -- ---- up to the end
    module _ (most runs : ℕ) where
      met_none : IsEndOf s most runs run.steps → Met s most runs None
      met_none ended fault m =
          ⊎_elim (λ b. none_before m.step ⊥ b fault m.is) (λ b. m.going run.steps b ended) (cases_lt m.step run.steps)

      pub met_main : most ≤ main_steps_of run.source → Met s most runs None
      met_main many = let e = is.source.main_steps in met_none (inl (omega (arith, many, e)))

      pub met_runs : runs < runs_of run.source → Met s most runs None
      met_runs many = let e = is.source.runs in let m = runs_more s run.steps (run.steps + 1) (omega arith) in met_none (inr (inr (inr (omega (arith, many, e, m)))))

      pub met_idle : is_idle_after s run.steps ≡ true → Met s most runs None
      met_idle rests = met_none (inr (inr (inl rests)))

      pub met_fault : (fault : Faults) → run.steps < 2 * most → main_steps_of run.source < most → runs_of run.source ≤ runs → fault_after s run.steps ≡ Some fault → MeetsFault s most runs fault
      met_fault fault early few begun h = record { step = run.steps; going = going; is = h }
        where
          going : (k : ℕ) → k ≤ run.steps → IsEndOf s most runs k → ⊥
          going k le ended =
              ⊎_elim (λ a. let m = main_steps_more s k run.steps le in let e = is.source.main_steps in omega (arith, a, m, e, few))
              (λ b. ⊎_elim (λ c. omega (arith, c, le, early))
              (λ c. ⊎_elim (λ d. false≢true (sym (faulty_busy s run.steps fault h) ∙ idle_stays s k run.steps le d))
              (λ d. let m = runs_more s (k + 1) (run.steps + 1) (omega (arith, le)) in let n = no_run_begins s run.steps fault h in let e = is.source.runs in omega (arith, d, m, n, e, begun)) c) b) ended
