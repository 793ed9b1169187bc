-- A kept run is, up to each moment, a run under a schedule by the length of the whole trace.
use Rattle.std.proofs.Common.{◌≡◌, ℕ, zero, suc, ◌+◌, ◌≤◌, Bool, ◌&&◌, List, [], ◌∷◌, length, Option, Some, None, refl, sym, ap, ◌∙◌, subst, arith}
use Rattle.c_typed.specs.Trees.{Program}
use Rattle.pic_world.specs.World.{Happening, Outside, Schedule}
use Rattle.src_rules.specs.Laws.{Adds}
use Rattle.src_rules.specs.Runs.{gone, run, moment, is_taken, one_if, steps_by}
use Rattle.src_rules.specs.Standing.{Keeps, Stands}
use Rattle.src_rules.specs.State.{State, Outcome, Went, Undefined, Idle, Lost}
use Rattle.src_rules.specs.Step.{counts, start, step}
use Rattle.src_rules.proofs.Changes.{trace_grows}
use Rattle.src_rules.proofs.Moments.{moments}
use Rattle.src_values.specs.Memory.{Setting}
use Rattle.src_values.specs.declared.objects.Byte.{Byte}
use Rattle.kept_trace.specs.Filtering as any
use Rattle.kept_trace.specs.Filtering.{Grows, IsMachine, counted_run}
use Rattle.kept_trace.specs.Kept.{kept_length, kept_events, with_schedule, setting_of, kept_step, kept_moment, kept_counts, kept_steps_by, IsRunUnder, KeptRunsAreRuns, KeptMomentsStand}
use Rattle.kept_trace.proofs.Filtering.{grows_none, filters}
use Rattle.kept_trace.proofs.Same.{step_same, counts_same}

abbrev trace_of : State → List (Happening Byte)
trace_of t = t.world.trace

-- ---- traces only grow
added_grows : (before after : List (Happening Byte)) (event : Option (Happening Byte)) → Adds before event after → Grows before after
added_grows before after None e = subst (λ (es : List (Happening Byte)). Grows before es) (sym e) (grows_none before)
added_grows before after (Some event) e = (event ∷ [], e)

gone_grows : (s : Setting) (t : State) → Grows (trace_of t) (trace_of (gone t (step s t)))
gone_grows s t = by (step s t) refl
  where
    by : (o : Outcome) → step s t ≡ o → Grows (trace_of t) (trace_of (gone t o))
    by (Went u event) e = added_grows (trace_of t) (trace_of u) event (trace_grows s t u event e)
    by (Undefined kind line) e = grows_none (trace_of t)
    by Idle e = grows_none (trace_of t)
    by Lost e = grows_none (trace_of t)

module _ (p : Program) (o : Outside) where
  abbrev under : Schedule → Setting
  under f = setting_of p (with_schedule o f)

  abbrev next : Schedule → State → State
  next f t = gone t (step (under f) t)

  is_machine : IsMachine next trace_of
  is_machine = record { depends = λ f g t e. ap (gone t) (step_same p o.input f g t e); grows = λ f t. gone_grows (under f) t }

  runs_are : (f : Schedule) (i : ℕ) → moment (under f) i ≡ any.run next f (start (setting_of p o)) i
  unfolding run start
  runs_are f zero = refl
  runs_are f (suc i) = ap (λ (t : State). gone t (step (under f) t)) (runs_are f i)

  module _ (kept : List Bool) where
    abbrev count : List (Happening Byte) → ℕ
    count es = length (kept_events kept es)

    kept_are : (i : ℕ) → kept_moment p kept o i ≡ counted_run next trace_of count o.schedule (start (setting_of p o)) i
    unfolding kept_moment
    kept_are zero = refl
    kept_are (suc i) = ap (λ (t : State). gone t (kept_step p kept o t)) (kept_are i)

    module _ (n : ℕ) (f : Schedule) (same : (i : ℕ) → i ≤ n → moment (under f) i ≡ kept_moment p kept o i)
        (lengths : (i : ℕ) → i ≤ n → f (length (trace_of (kept_moment p kept o i))) ≡ o.schedule (kept_length kept (kept_moment p kept o i).world)) where
      goes_same : (i : ℕ) → i ≤ n → step (under f) (kept_moment p kept o i) ≡ kept_step p kept o (kept_moment p kept o i)
      goes_same i l = step_same p o.input f (λ k. o.schedule (kept_length kept (kept_moment p kept o i).world)) (kept_moment p kept o i) (lengths i l)

      counts_are : (i : ℕ) → i ≤ n → counts (under f) (kept_moment p kept o i) ≡ kept_counts p kept o (kept_moment p kept o i)
      counts_are i l = counts_same p o.input f (λ k. o.schedule (kept_length kept (kept_moment p kept o i).world)) (kept_moment p kept o i) (lengths i l)

      steps_are : (i : ℕ) → i ≤ n → steps_by (under f) i ≡ kept_steps_by p kept o i
      unfolding steps_by kept_steps_by
      steps_are zero l = refl
      steps_are (suc i) l =
          ap (λ (t : State). steps_by (under f) i + one_if (counts (under f) t && is_taken (step (under f) t))) (same i (omega arith))
          ∙ ap (λ (b : Bool). steps_by (under f) i + one_if (b && is_taken (step (under f) (kept_moment p kept o i)))) (counts_are i (omega arith))
          ∙ ap (λ (out : Outcome). steps_by (under f) i + one_if (kept_counts p kept o (kept_moment p kept o i) && is_taken out)) (goes_same i (omega arith))
          ∙ ap (λ (m : ℕ). m + one_if (kept_counts p kept o (kept_moment p kept o i) && is_taken (kept_step p kept o (kept_moment p kept o i)))) (steps_are i (omega arith))

      under_is : IsRunUnder p kept o n f
      under_is = record { moments = same; lengths = lengths; goes = goes_same; steps = steps_are }

    pub rescheduled : (n : ℕ) → (f : Schedule) × IsRunUnder p kept o n f
    rescheduled n =
        let made = filters State (Happening Byte) ℕ next trace_of is_machine count o.schedule (start (setting_of p o)) n in
        let same : (i : ℕ) → i ≤ n → moment (under made.0) i ≡ kept_moment p kept o i = λ (i : ℕ) (l : i ≤ n). runs_are made.0 i ∙ made.1 i l ∙ sym (kept_are i) in
        let lengths : (i : ℕ) → i ≤ n → made.0 (length (trace_of (kept_moment p kept o i))) ≡ o.schedule (kept_length kept (kept_moment p kept o i).world) = λ (i : ℕ) (l : i ≤ n).
        ap (λ (t : State). made.0 (length (trace_of t))) (kept_are i) ∙ made.2 i l ∙ ap (λ (t : State). o.schedule (kept_length kept t.world)) (sym (kept_are i)) in
        (made.0, under_is n made.0 same lengths)

pub kept_runs : KeptRunsAreRuns
kept_runs p kept o n = rescheduled p o kept n

pub kept_moments : KeptMomentsStand
kept_moments p kept o proper bytes n =
    let made = kept_runs p kept o n in
    let there = moments (setting_of p (with_schedule o made.0)) proper bytes n in
    let is : moment (setting_of p (with_schedule o made.0)) n ≡ kept_moment p kept o n = made.1.moments n (omega arith) in
    let stands : Stands p (kept_moment p kept o n) = subst (λ (t : State). Stands p t) is there.0 in
    let goes : Keeps p (step (setting_of p (with_schedule o made.0)) (kept_moment p kept o n)) = subst (λ (t : State). Keeps p (step (setting_of p (with_schedule o made.0)) t)) is there.1 in
    (stands, subst (λ (out : Outcome). Keeps p out) (made.1.goes n (omega arith)) goes)
