-- A kept run of the source: a micro-step makes one event at most and counts as one step at most, and the next step that counts comes, or there
-- is none.
use Rattle.std.proofs.Common.{◌≡◌, ℕ, zero, suc, ◌+◌, ◌-◌, ◌*◌, ◌<◌, ◌≤◌, ◌⊎◌, inl, inr, Bool, true, false, not, ◌&&◌, ◌||◌, List, [], ◌∷◌, length, length-append, Option, Some, None, refl, sym, ap, ◌∙◌, subst, ⊎_elim, arith}
use Rattle.std.specs.Prelude.{is_none, cond}
use Rattle.std.proofs.lemmas.Bool.{cases_lt}
use Rattle.std.proofs.lemmas.List.Elements.{filter-append}
use Rattle.c_typed.specs.Trees.{Program}
use Rattle.pic_world.proofs.WorldLaws.{arrived_trace}
use Rattle.pic_world.specs.World.{Happening, Outside, World}
use Rattle.run_links.specs.Runs.{Run}
use Rattle.src_rules.specs.Laws.{IsProper, IsOfBytes, Adds, IsReadyBehind}
use Rattle.src_rules.specs.Runs.{run, gone, is_taken, one_if, is_ready, ready, fault_of, is_idle}
use Rattle.src_rules.specs.Standing.{Keeps}
use Rattle.src_rules.specs.State.{State, Outcome, Went, Undefined, Idle, Lost}
use Rattle.src_rules.specs.Step.{step, counts, start}
use Rattle.src_rules.proofs.Changes.{trace_grows, events_count}
use Rattle.src_rules.proofs.Readies.{comes}
use Rattle.src_values.specs.Memory.{Setting}
use Rattle.src_values.specs.declared.objects.Byte.{Byte}
use Rattle.kept_trace.specs.Kept.{is_kept, kept_events, with_schedule, setting_of, kept_setting, kept_step, kept_moment, kept_counts, kept_steps_by}
use Rattle.kept_trace.specs.KeptSteps.{kept_source_run, KeptSourceRunsAreRuns, KeptRunsAreSteady}
use Rattle.kept_trace.proofs.Schedules.{kept_runs, kept_moments}

-- ---- what is seen of a run
pub kept_source_runs : KeptSourceRunsAreRuns
kept_source_runs p kept o n =
    let made = kept_runs p kept o n in
    let s = setting_of p (with_schedule o made.0) in (
      made.0,
      record {
        trace = λ i l. ap (λ (t : State). kept_events kept t.world.trace) (sym (made.1.moments i l));
        goes = λ i l. ap (λ (out : Outcome). is_none (fault_of out)) (sym (made.1.goes i l)) ∙ ap (λ (t : State). is_none (fault_of (step s t))) (sym (made.1.moments i l));
        rests = λ i l. ap is_idle (sym (made.1.goes i l)) ∙ ap (λ (t : State). is_idle (step s t)) (sym (made.1.moments i l));
        most = λ i l. ap (λ (m : ℕ). 8000 * m) (sym (made.1.steps i l));
        least = λ i l. refl;
      },
    )

module _ (p : Program) (kept : List Bool) (o : Outside) where
  abbrev u : Run (Happening Byte)
  u = kept_source_run p kept o

  abbrev at : ℕ → State
  at n = kept_moment p kept o n

  abbrev steps : ℕ → ℕ
  steps n = kept_steps_by p kept o n

  -- ---- steps
  one_small : (b : Bool) → one_if b ≤ 1
  one_small true = omega arith
  one_small false = omega arith

  once : (i : ℕ) → steps (suc i) ≤ steps i + 1
  unfolding kept_steps_by
  once i = let l = one_small (kept_counts p kept o (at i) && is_taken (kept_step p kept o (at i))) in omega arith

  later_by : (d i : ℕ) → steps i ≤ steps (d + i)
  unfolding kept_steps_by
  later_by zero i = let z : zero + i ≡ i = omega arith in let q : steps (zero + i) ≡ steps i = ap steps z in omega arith
  later_by (suc d) i = let z : suc d + i ≡ suc (d + i) = omega arith in let q : steps (suc d + i) ≡ steps (suc (d + i)) = ap steps z in let l = later_by d i in omega arith

  later : (i j : ℕ) → i ≤ j → steps i ≤ steps j
  later i j le = let z : (j - i) + i ≡ j = omega arith in subst (λ (k : ℕ). steps i ≤ steps k) z (later_by (j - i) i)

  -- ---- events
  one_event : (e : Happening Byte) → length (kept_events kept (e ∷ [])) ≤ 1
  one_event e = by (is_kept kept e)
    where
      none : List (Happening Byte)
      none = []

      by : (b : Bool) → length (cond b (e ∷ none) none) ≤ 1
      by true = omega arith
      by false = omega arith

  added : (before after : List (Happening Byte)) (event : Option (Happening Byte)) → Adds before event after → length (kept_events kept after) ≤ length (kept_events kept before) + 1
  added before after None a = let q = ap (λ (es : List (Happening Byte)). length (kept_events kept es)) a in omega arith
  added before after (Some e) a =
      let q : length (kept_events kept after) ≡ length (kept_events kept before) + length (kept_events kept (e ∷ [])) =
      ap (λ (es : List (Happening Byte)). length (kept_events kept es)) a ∙ ap length (filter-append (is_kept kept) before (e ∷ [])) ∙ length-append (kept_events kept before) (kept_events kept (e ∷ [])) in
      let l = one_event e in
      omega arith

  single : (i : ℕ) → length (u.trace (suc i)) ≤ length (u.trace i) + 1
  unfolding kept_moment
  single i = by (kept_step p kept o (at i)) refl where
    by : (x : Outcome) → kept_step p kept o (at i) ≡ x → length (kept_events kept (gone (at i) x).world.trace) ≤ length (u.trace i) + 1
    by (Went t event) is = added (at i).world.trace t.world.trace event (trace_grows (kept_setting p kept o (at i)) (at i) t event is)
    by (Undefined kind line) is = omega arith
    by Idle is = omega arith
    by Lost is = omega arith

  -- ---- where it ends
  halts : (x : Outcome) (t : State) → is_none (fault_of x) ≡ false → gone t x ≡ t
  halts (Went t event) v is = absurd (cc)
  halts (Undefined kind line) v is = refl
  halts Idle v is = absurd (cc)
  halts Lost v is = absurd (cc)

  stays_by : (d i : ℕ) → u.goes i ≡ false → at (d + i) ≡ at i
  unfolding kept_moment
  stays_by zero i is = let z : zero + i ≡ i = omega arith in ap at z
  stays_by (suc d) i is =
      let z : suc d + i ≡ suc (d + i) = omega arith in
      ap at z ∙ ap (λ (t : State). gone t (kept_step p kept o t)) (stays_by d i is) ∙ halts (kept_step p kept o (at i)) (at i) is

  stays : (i j : ℕ) → i ≤ j → u.goes i ≡ false → u.trace j ≡ u.trace i
  stays i j le is = let z : (j - i) + i ≡ j = omega arith in ap (λ (k : ℕ). u.trace k) (sym z) ∙ ap (λ (t : State). kept_events kept t.world.trace) (stays_by (j - i) i is)

  -- ---- the next step comes
  module _ (proper : IsProper p) (bytes : IsOfBytes o) where
    abbrev Reached : ℕ → Type 0
    Reached bound = (n : ℕ) × ((i : ℕ) → i < n → steps i < bound) × ((bound ≤ steps n) ⊎ ((u.rests n ≡ true) ⊎ ((steps n < bound) × (u.goes n ≡ false))))

    module _ (n : ℕ) where
      abbrev t : State
      t = at n

      -- the setting stays as it is until an event is made
      abbrev s : Setting
      s = kept_setting p kept o t

      behind : IsReadyBehind s t (ready s t)
      behind = (comes s proper bytes t (kept_moments p kept o proper bytes n).0).0

      -- micro-steps that don't count make no event
      silent_step : (v : State) (x : Outcome) → step s v ≡ x → counts s v ≡ false → (gone v x).world.trace ≡ v.world.trace
      silent_step v (Went w event) is c = ap (λ (world : World Byte). world.trace) (events_count s v w event is c).1 ∙ arrived_trace s.outside v.world
      silent_step v (Undefined kind line) is c = refl
      silent_step v Idle is c = refl
      silent_step v Lost is c = refl

      same_trace : (k : ℕ) → k ≤ behind.count → (run s k t).world.trace ≡ t.world.trace
      unfolding run
      same_trace zero le = refl
      same_trace (suc k) le = silent_step (run s k t) (step s (run s k t)) refl (behind.before k (omega arith)).0 ∙ same_trace k (omega arith)

      same_setting : (v : State) → v.world.trace ≡ t.world.trace → kept_setting p kept o v ≡ s
      same_setting v e = ap (λ (es : List (Happening Byte)). setting_of p (with_schedule o (λ m. o.schedule (length (kept_events kept es))))) e

      on : (k : ℕ) → k ≤ behind.count → at (n + k) ≡ run s k t
      unfolding kept_moment run
      on zero le = let z : n + zero ≡ n = omega arith in ap at z
      on (suc k) le =
          let z : n + suc k ≡ suc (n + k) = omega arith in
          ap at z
          ∙ ap (λ (v : State). gone v (kept_step p kept o v)) (on k (omega arith))
          ∙ ap (λ (g : Setting). gone (run s k t) (step g (run s k t))) (same_setting (run s k t) (same_trace k (omega arith)))

      setting_at : (k : ℕ) → k ≤ behind.count → kept_setting p kept o (at (n + k)) ≡ s
      setting_at k le = same_setting (at (n + k)) (ap (λ (v : State). v.world.trace) (on k le) ∙ same_trace k le)

      counts_at : (k : ℕ) → k ≤ behind.count → kept_counts p kept o (at (n + k)) ≡ counts s (run s k t)
      counts_at k le = ap (λ (g : Setting). counts g (at (n + k))) (setting_at k le) ∙ ap (counts s) (on k le)

      step_at : (k : ℕ) → k ≤ behind.count → kept_step p kept o (at (n + k)) ≡ step s (run s k t)
      step_at k le = ap (λ (g : Setting). step g (at (n + k))) (setting_at k le) ∙ ap (step s) (on k le)

      uncounted : (k : ℕ) → k ≤ behind.count → steps (n + k) ≡ steps n
      unfolding kept_steps_by
      uncounted zero le = let z : n + zero ≡ n = omega arith in ap steps z
      uncounted (suc k) le =
          let z : n + suc k ≡ suc (n + k) = omega arith in
          let none : one_if (kept_counts p kept o (at (n + k)) && is_taken (kept_step p kept o (at (n + k)))) ≡ 0 =
          ap (λ (b : Bool). one_if (b && is_taken (kept_step p kept o (at (n + k))))) (counts_at k (omega arith) ∙ (behind.before k (omega arith)).0) in
          let below = uncounted k (omega arith) in
          let q : steps (n + suc k) ≡ steps (suc (n + k)) = ap steps z in
          omega arith

      abbrev last : ℕ
      last = n + behind.count

      few_before : (bound : ℕ) → ((i : ℕ) → i < n → steps i < bound) → steps n < bound → (i : ℕ) → i ≤ last → steps i < bound
      few_before bound before now i le =
          ⊎_elim (λ lt. before i lt)
          (λ ge. let z : n + (i - n) ≡ i = omega arith in let q : steps i ≡ steps (n + (i - n)) = ap steps (sym z) in let r = uncounted (i - n) (omega arith) in omega arith)
          (cases_lt i n)

      is_counted : (x : Outcome) → kept_step p kept o (at last) ≡ x → is_taken x ≡ true → steps (suc last) ≡ steps n + 1
      unfolding kept_steps_by
      is_counted x is taken =
          let tk : is_taken (kept_step p kept o (at last)) ≡ true = ap is_taken is ∙ taken in
          let rd : is_ready s (run s behind.count t) ≡ true = ap (is_ready s) (sym behind.at) ∙ behind.ready in
          let same = step_at behind.count (omega arith) in
          let now : is_taken (step s (run s behind.count t)) ≡ true = ap is_taken (sym same) ∙ tk in
          let ct : counts s (run s behind.count t) ≡ true = left_only (counts s (run s behind.count t)) (ap (λ (b : Bool). counts s (run s behind.count t) || not b) (sym now) ∙ rd) in
          let kc : kept_counts p kept o (at last) ≡ true = counts_at behind.count (omega arith) ∙ ct in
          let one : one_if (kept_counts p kept o (at last) && is_taken (kept_step p kept o (at last))) ≡ 1 = ap (λ (b : Bool). one_if (b && is_taken (kept_step p kept o (at last)))) kc ∙ ap one_if tk in
          let before = uncounted behind.count (omega arith) in
          omega arith where
            left_only : (b : Bool) → (b || not true) ≡ true → b ≡ true
            left_only true e = refl
            left_only false e = e

      next : (b : ℕ) → ((i : ℕ) → i < n → steps i < suc b) → steps n ≡ b → Reached (suc b)
      next b before now = by (kept_step p kept o (at last)) refl where
        few : (i : ℕ) → i ≤ last → steps i < suc b
        few = few_before (suc b) before (omega arith)

        by : (x : Outcome) → kept_step p kept o (at last) ≡ x → Reached (suc b)
        by (Went v event) is = (suc last, (λ i lt. few i (omega arith)), inl (let c = is_counted (Went v event) is refl in omega arith))
        by (Undefined kind line) is = (last, (λ i lt. few i (omega arith)), inr (inr (few last (omega arith), ap (λ (x : Outcome). is_none (fault_of x)) is)))
        by Idle is = (last, (λ i lt. few i (omega arith)), inr (inl (ap is_idle is)))
        by Lost is = absurd (subst (Keeps p) is (kept_moments p kept o proper bytes last).1)

    reached : (bound : ℕ) → Reached bound
    reached zero = (0, (λ i lt. absurd (omega arith)), inl (omega arith))
    reached (suc b) =
        let r = reached b in
        ⊎_elim
        (λ far.
        ⊎_elim
        (λ more. (r.0, (λ i lt. let q = r.1 i lt in omega arith), inl (omega arith)))
        (λ just. next r.0 b (λ i lt. let q = r.1 i lt in omega arith) (omega arith))
        (cases_lt b (steps r.0)))
        (λ ends. (r.0, (λ i lt. let q = r.1 i lt in omega arith), inr (⊎_elim (λ rests. inl rests) (λ stuck. inr (let q = stuck.0 in omega arith, stuck.1)) ends)))
        r.2

pub steady : KeptRunsAreSteady
unfolding kept_steps_by kept_moment start
steady p kept o proper bytes = record {
  none_yet = refl;
  later = later p kept o;
  once = once p kept o;
  silent = refl;
  single = single p kept o;
  stays = stays p kept o;
  price = λ i. refl;
  counts = reached p kept o proper bytes;
}
