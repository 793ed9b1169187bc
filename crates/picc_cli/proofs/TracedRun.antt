-- What a trace prints is the run of the definition, step by step.
use Rattle.std.proofs.Common.{◌≡◌, ℕ, zero, suc, ◌+◌, ◌<◌, ◌≤◌, inl, inr, true, false, Option, Some, None, List, [], ◌∷◌, ◌++◌, map, refl, sym, ap, ◌∙◌, subst, ⊎_elim, arith, append_assoc, append-nil, option_map}
use Rattle.std.specs.Prelude.{option_to_list}
use Rattle.std.proofs.lemmas.Bool.{cases_lt}
use Rattle.std.proofs.lemmas.List.{map-append}
use Rattle.host_io.specs.Host.{PrintsPrefix}
use Rattle.pic_map.specs.EventText.{event_text}
use Rattle.pic_map.specs.MapContent.{MapContent}
use Rattle.pic_world.proofs.WorldLaws.{arrived_trace}
use Rattle.pic_world.specs.World.{Happening}
use Rattle.pic_world.specs.declared.Event.{Event}
use Rattle.picc_cli.specs.declared.tracing.Ended.{Ended}
use Rattle.picc_cli.specs.declared.tracing.Ended.TheVariants.{Done, Undefined, Refused, CannotReadText, NoScript, CannotPrint, NoMemory}
use Rattle.picc_cli.specs.Lines.{event_lines}
use Rattle.picc_cli.specs.Traced.{events_by, Prints, Ran}
use Rattle.picc_cli.specs.TracedStep.{events_at, Steps}
use Rattle.picc_cli.proofs.Endings.{whole_line}
use Rattle.host_lines.proofs.Prefixes.{later}
use Rattle.src_machine.specs.Sources.{IsSource, TellsNext, event_in}
use Rattle.src_machine.specs.Steps.{IsGiven}
use Rattle.src_machine.specs.declared.machine.SrcEnd.TheVariants as ends
use Rattle.src_machine.specs.declared.progress.Source.{Source}
use Rattle.src_memory.specs.Shown.{address_of, shown}
use Rattle.src_rules.proofs.Changes.{trace_grows, events_count}
use Rattle.src_rules.proofs.Readies.{comes, are_moments}
use Rattle.src_rules.specs.Laws.{Adds, IsReadyBehind}
use Rattle.src_rules.specs.Runs.{run, gone, is_taken, ready, take, after}
use Rattle.src_rules.specs.State.{State, Outcome, Went, Undefined as Faulty, Idle, Lost}
use Rattle.src_rules.specs.Step.{step, counts, start}
use Rattle.src_values.specs.Memory.{Setting}
use Rattle.src_values.specs.declared.objects.Byte.{Byte}

-- ---- the trace of a run, a step at a time
module _ (s : Setting) (given : IsGiven s) where
  -- a micro-step that doesn't count adds nothing to it
  uncounted : (t : State) (x : Outcome) → step s t ≡ x → counts s t ≡ false → (gone t x).world.trace ≡ t.world.trace
  uncounted t (Went u event) is none = ap (λ w. w.trace) (events_count s t u event is none).1 ∙ arrived_trace s.outside t.world
  uncounted t (Faulty kind line) is none = refl
  uncounted t Idle is none = refl
  uncounted t Lost is none = refl

  module _ (n : ℕ) where
    abbrev t : State
    t = after s n

    behind : IsReadyBehind s t (ready s t)
    behind = (comes s given.proper given.bytes t (are_moments s given.proper given.bytes n).1).0

    same_before : (k : ℕ) → k ≤ behind.count → (run s k t).world.trace ≡ t.world.trace
    unfolding run
    same_before zero le = refl
    same_before (suc k) le = uncounted (run s k t) (step s (run s k t)) refl (behind.before k (omega arith)).0 ∙ same_before k (omega arith)

    ready_same : (ready s t).world.trace ≡ t.world.trace
    ready_same = ap (λ (x : State). x.world.trace) behind.at ∙ same_before behind.count (omega arith)

    added : (before after' : List (Happening Byte)) (event : Option (Happening Byte)) → Adds before event after' → after' ≡ before ++ option_to_list event
    added before after' None a = a ∙ sym (append-nil before)
    added before after' (Some e) a = a

    -- the next step adds its event
    pub trace_after : is_taken (take s t) ≡ true → (after s (suc n)).world.trace ≡ t.world.trace ++ option_to_list (event_in (take s t))
    unfolding after take
    trace_after taken = by (step s (ready s t)) refl taken where
      by : (x : Outcome) → step s (ready s t) ≡ x → is_taken x ≡ true → (gone t x).world.trace ≡ t.world.trace ++ option_to_list (event_in x)
      by (Went u event) is tk = added (ready s t).world.trace u.world.trace event (trace_grows s (ready s t) u event is) ∙ ap (λ xs. xs ++ option_to_list event) ready_same
      by (Faulty kind line) is tk = absurd (cc)
      by Idle is tk = absurd (cc)
      by Lost is tk = absurd (cc)

-- ---- lines
module _ (content : MapContent) where
  lines_joined : (a b : List Event) → event_lines content (a ++ b) ≡ event_lines content a ++ event_lines content b
  lines_joined [] b = refl
  lines_joined (x ∷ a) b = ap (λ t. event_text content x ++ t) (lines_joined a b) ∙ sym (append_assoc (event_text content x) (event_lines content a) (event_lines content b))

  nothing_more : (p : Option (List ℕ)) → p ≡ option_map (λ t. t ++ []) p
  nothing_more None = refl
  nothing_more (Some t) = ap Some (sym (append-nil t))

  one_more : (e : Event) → event_text content e ≡ event_lines content (e ∷ [])
  one_more e = sym (append-nil (event_text content e))

joined : (p : Option (List ℕ)) (a b : List ℕ) → option_map (λ t. t ++ b) (option_map (λ t. t ++ a) p) ≡ option_map (λ t. t ++ (a ++ b)) p
joined None a b = refl
joined (Some t) a b = ap Some (append_assoc t a b)

module _ (s : Setting) (content : MapContent) where
  list_map : (f : Happening Byte → Event) (o : Option (Happening Byte)) → map f (option_to_list o) ≡ option_to_list (option_map f o)
  list_map f None = refl
  list_map f (Some e) = refl

  events_more : (n : ℕ) → IsGiven s → is_taken (take s (after s n)) ≡ true → events_by s content (n + 1) ≡ events_by s content n ++ events_at s content n
  events_more n given taken =
      let z : n + 1 ≡ suc n = omega arith in
      ap (events_by s content) z ∙ ap (map (shown (address_of s.program content))) (trace_after s given n taken)
      ∙ map-append (shown (address_of s.program content)) (after s n).world.trace (option_to_list (event_in (take s (after s n))))
      ∙ ap (λ xs. events_by s content n ++ xs) (list_map (shown (address_of s.program content)) (event_in (take s (after s n))))

  -- ---- one step
  events_of : (n : ℕ) (event : Option Event) → event ≡ option_map (shown (address_of s.program content)) (event_in (take s (after s n))) → events_at s content n ≡ option_to_list event
  events_of n event is = ap option_to_list (sym is)

  pub step_silent : (n : ℕ) (event : Option Event) (next : Source) (old new : Option (List ℕ)) → event ≡ None → TellsNext s content n (ends.Went event) next → new ≡ old
      → Steps s content n next old new None
  step_silent n event next old new none tells same =
      (tells.0, tells.2, same ∙ nothing_more content old ∙ ap (λ es. option_map (λ t. t ++ event_lines content es) old) (sym (events_of n None (sym none ∙ tells.1))))

  pub step_told : (n : ℕ) (told : Option Event) (event : Event) (next : Source) (old new : Option (List ℕ)) → told ≡ Some event → TellsNext s content n (ends.Went told) next
      → new ≡ option_map (λ t. t ++ event_text content event) old → Steps s content n next old new None
  step_told n told event next old new is tells printed =
      (tells.0, tells.2, printed ∙ ap (λ l. option_map (λ t. t ++ l) old) (one_more content event) ∙ ap (λ es. option_map (λ t. t ++ event_lines content es) old) (sym (events_of n (Some event) (sym is ∙ tells.1))))

  -- the printing of an event's line broke off
  pub step_broken : (n : ℕ) (told : Option Event) (event : Event) (next : Source) (old new : Option (List ℕ)) → told ≡ Some event → TellsNext s content n (ends.Went told) next
      → PrintsPrefix old new (event_text content event) → (is_taken (take s (after s n)) ≡ true) × PrintsPrefix old new (event_lines content (events_at s content n))
  step_broken n told event next old new is tells prefix =
      (tells.0, subst (PrintsPrefix old new) (one_more content event ∙ ap (event_lines content) (sym (events_of n (Some event) (sym is ∙ tells.1)))) prefix)

  -- ---- a run
  -- it stands behind n steps, and has printed their events
  abbrev pub AreTaken : ℕ → Type 0
  AreTaken n = (i : ℕ) → i < n → is_taken (take s (after s i)) ≡ true

  none_taken : AreTaken 0
  none_taken i lt = absurd (omega (arith, lt))

  one_taken : (n : ℕ) → AreTaken n → is_taken (take s (after s n)) ≡ true → AreTaken (n + 1)
  one_taken n taken last i lt = ⊎_elim (λ h. taken i h) (λ h. let same : n ≡ i = omega (arith, lt, h) in subst (λ k. is_taken (take s (after s k)) ≡ true) same last) (cases_lt i n)

  pub record HasRun (n : ℕ) (source : Source) (old new : Option (List ℕ)) : Type 0 where
    pub at : IsSource s content n source
    pub taken : AreTaken n
    pub printed : Prints s content old new (events_by s content n)

  pub run_begins : (source : Source) (p : Option (List ℕ)) → IsSource s content 0 source → HasRun 0 source p p
  unfolding after start
  run_begins source p is = record { at = is; taken = none_taken; printed = nothing_more content p }

  pub run_on : (n : ℕ) (source next : Source) (p q r : Option (List ℕ)) → HasRun n source p q → Steps s content n next q r None → HasRun (n + 1) next p r
  run_on n source next p q r has steps = record {
    at = steps.1;
    taken = one_taken n has.taken steps.0;
    printed =
        steps.2 ∙ ap (option_map (λ t. t ++ event_lines content (events_at s content n))) has.printed
        ∙ joined p (event_lines content (events_by s content n)) (event_lines content (events_at s content n))
        ∙ ap (λ l. option_map (λ t. t ++ l) p) (sym (ap (event_lines content) (events_more n has.at.can.given steps.0) ∙ lines_joined content (events_by s content n) (events_at s content n)));
  }

  cut : (n most : ℕ) (ended : Ended) (source : Source) (p q r : Option (List ℕ)) → n < most → HasRun n source p q
      → (is_taken (take s (after s n)) ≡ true) × PrintsPrefix q r (event_lines content (events_at s content n)) → PrintsPrefix p r (event_lines content (events_by s content (n + 1)))
  cut n most ended source p q r lt has broke =
      subst (PrintsPrefix p r) (sym (ap (event_lines content) (events_more n has.at.can.given broke.0) ∙ lines_joined content (events_by s content n) (events_at s content n)))
      (later p q r (event_lines content (events_by s content n)) (event_lines content (events_at s content n)) has.printed broke.1)

  pub run_stops : (n most : ℕ) (ended : Ended) (source next : Source) (p q r : Option (List ℕ)) → n < most → HasRun n source p q → Steps s content n next q r (Some ended) → Ran s content most ended p r
  run_stops n most Done source next p q r lt has stops = record { steps = n; few = omega arith; taken = has.taken; end = inr stops.0; printed = stops.1 ∙ has.printed }
  run_stops n most (Undefined kind line) source next p q r lt has stops = record { steps = n; few = omega arith; taken = has.taken; end = (lt, stops.0); printed = stops.1 ∙ has.printed }
  run_stops n most CannotPrint source next p q r lt has stops = record { steps = n + 1; few = omega arith; taken = one_taken n has.taken stops.0; end = tt; printed = cut n most CannotPrint source p q r lt has stops }
  run_stops n most NoMemory source next p q r lt has stops = record { steps = n + 1; few = omega arith; taken = one_taken n has.taken stops.0; end = tt; printed = cut n most NoMemory source p q r lt has stops }
  run_stops n most (Refused refusal) source next p q r lt has stops = absurd stops
  run_stops n most CannotReadText source next p q r lt has stops = absurd stops
  run_stops n most (NoScript end) source next p q r lt has stops = absurd stops

  pub run_ends : (n most : ℕ) (source : Source) (p q : Option (List ℕ)) → n ≤ most → most ≤ n → HasRun n source p q → Ran s content most Done p q
  run_ends n most source p q few all has = record { steps = n; few = few; taken = has.taken; end = inl (omega arith); printed = has.printed }

  -- a run that doesn't begin
  pub run_never : (most : ℕ) (p : Option (List ℕ)) → Ran s content most NoMemory p p
  unfolding after start
  run_never most p = record { steps = 0; few = omega arith; taken = none_taken; end = tt; printed = subst (λ o. PrintsPrefix p o []) (sym (nothing_more content p)) (whole_line p []) }
