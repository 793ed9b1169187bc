-- A kept run of byte code is, up to each moment, a run under a schedule by the length of the whole trace.
use Rattle.std.proofs.Common.{◌≡◌, ℕ, zero, suc, ◌+◌, ◌≤◌, Bool, List, length, refl, sym, ap, ◌∙◌, arith}
use Rattle.pic_world.specs.World.{Happening, Outside, Schedule}
use Rattle.core_code.specs.Bytes.{Held}
use Rattle.core_code.specs.Cost.{step_most, step_least}
use Rattle.core_code.specs.Machine.{Program, Setting, Machine, core_step, core_start, core_run, core_moment, gone, goes_on, is_still}
use Rattle.core_code.specs.Runs.{most_by, least_by, run_of}
use Rattle.kept_trace.specs.Filtering as any
use Rattle.kept_trace.specs.Filtering.{IsMachine, counted_run}
use Rattle.kept_trace.specs.Kept.{kept_events, kept_length, with_schedule, IsKeptOf}
use Rattle.kept_trace.specs.KeptCode.{code_setting, kept_code_setting, kept_code_step, kept_code_moment, kept_most_by, kept_least_by, kept_code_run, IsCodeUnder, KeptCodeRunsAreRuns}
use Rattle.kept_trace.proofs.Filtering.{filters}
use Rattle.kept_trace.proofs.SameCode.{code_step_same, most_same, least_same, code_grows}

abbrev trace_of : Machine → List (Happening Held)
trace_of t = t.world.trace

module _ (q : Program) (o : Outside) where
  abbrev under : Schedule → Setting
  under f = code_setting q (with_schedule o f)

  abbrev next : Schedule → Machine → Machine
  next f t = gone t (core_step (under f) t)

  is_machine : IsMachine next trace_of
  is_machine = record { depends = λ f g t e. ap (gone t) (code_step_same q o.input f g t e); grows = λ f t. code_grows (under f) t }

  runs_are : (f : Schedule) (i : ℕ) → core_moment (under f) i ≡ any.run next f (core_start (code_setting q o)) i
  unfolding core_run
  runs_are f zero = refl
  runs_are f (suc i) = ap (λ (t : Machine). gone t (core_step (under f) t)) (runs_are f i)

  module _ (kept : List Bool) where
    abbrev count : List (Happening Held) → ℕ
    count es = length (kept_events kept es)

    abbrev at : ℕ → Machine
    at i = kept_code_moment q kept o i

    kept_are : (i : ℕ) → kept_code_moment q kept o i ≡ counted_run next trace_of count o.schedule (core_start (code_setting q o)) i
    unfolding kept_code_moment
    kept_are zero = refl
    kept_are (suc i) = ap (λ (t : Machine). gone t (kept_code_step q kept o t)) (kept_are i)

    module _ (n : ℕ) (f : Schedule) (same : (i : ℕ) → i ≤ n → core_moment (under f) i ≡ at i)
        (lengths : (i : ℕ) → i ≤ n → f (length (trace_of (at i))) ≡ o.schedule (kept_length kept (at i).world)) where
      abbrev now : ℕ → Schedule
      now i k = o.schedule (kept_length kept (at i).world)

      steps_same : (i : ℕ) → i ≤ n → core_step (under f) (at i) ≡ kept_code_step q kept o (at i)
      steps_same i l = code_step_same q o.input f (now i) (at i) (lengths i l)

      most_are : (i : ℕ) → i ≤ n → kept_most_by q kept o i ≡ most_by (under f) i
      unfolding kept_most_by most_by
      most_are zero l = refl
      most_are (suc i) l =
          ap (λ (m : ℕ). m + step_most (kept_code_setting q kept o (at i)) (at i)) (most_are i (omega arith))
          ∙ ap (λ (m : ℕ). most_by (under f) i + m) (sym (most_same q o.input f (now i) (at i) (lengths i (omega arith))))
          ∙ ap (λ (t : Machine). most_by (under f) i + step_most (under f) t) (sym (same i (omega arith)))

      least_are : (i : ℕ) → i ≤ n → kept_least_by q kept o i ≡ least_by (under f) i
      unfolding kept_least_by least_by
      least_are zero l = refl
      least_are (suc i) l =
          ap (λ (m : ℕ). m + step_least (kept_code_setting q kept o (at i)) (at i)) (least_are i (omega arith))
          ∙ ap (λ (m : ℕ). least_by (under f) i + m) (sym (least_same q o.input f (now i) (at i) (lengths i (omega arith))))
          ∙ ap (λ (t : Machine). least_by (under f) i + step_least (under f) t) (sym (same i (omega arith)))

      under_is : IsCodeUnder q kept o n f
      under_is = record { moments = same; lengths = lengths; steps = steps_same }

      seen_is : IsKeptOf kept (kept_code_run q kept o) (run_of (under f)) n
      seen_is = record {
        trace = λ i l. ap (λ (t : Machine). kept_events kept t.world.trace) (sym (same i l));
        goes = λ i l. ap goes_on (sym (steps_same i l)) ∙ ap (λ (t : Machine). goes_on (core_step (under f) t)) (sym (same i l));
        rests = λ i l. ap is_still (sym (steps_same i l)) ∙ ap (λ (t : Machine). is_still (core_step (under f) t)) (sym (same i l));
        most = most_are;
        least = least_are;
      }

pub kept_code : KeptCodeRunsAreRuns
kept_code q kept o n =
    let made = filters Machine (Happening Held) ℕ (next q o) trace_of (is_machine q o) (count q o kept) o.schedule (core_start (code_setting q o)) n in
    let same : (i : ℕ) → i ≤ n → core_moment (under q o made.0) i ≡ kept_code_moment q kept o i = λ (i : ℕ) (l : i ≤ n). runs_are q o made.0 i ∙ made.1 i l ∙ sym (kept_are q o kept i) in
    let lengths : (i : ℕ) → i ≤ n → made.0 (length (trace_of (kept_code_moment q kept o i))) ≡ o.schedule (kept_length kept (kept_code_moment q kept o i).world) = λ (i : ℕ) (l : i ≤ n).
    ap (λ (t : Machine). made.0 (length (trace_of t))) (kept_are q o kept i) ∙ made.2 i l ∙ ap (λ (t : Machine). o.schedule (kept_length kept t.world)) (sym (kept_are q o kept i)) in
    (made.0, under_is q o kept n made.0 same lengths, seen_is q o kept n made.0 same lengths)
