-- A run of the source step by step: what stays once it stands, and what only grows.
use Rattle.std.proofs.Common.{◌≡◌, ◌≤◌, ◌⊎◌, inl, inr, ⊎_elim, ℕ, zero, suc, ◌+◌, ◌-◌, Bool, true, false, ◌&&◌, Option, Some, None, List, [], ◌∷◌, length, refl, sym, ap, ◌∙◌, arith, length-append}
use Rattle.std.proofs.lemmas.Bool.{false≢true, cases_lt}
use Rattle.std.specs.Prelude.{if◌then◌else◌}
use Rattle.pic_world.specs.World.{Happening}
use Rattle.src_rules.proofs.Changes.{trace_grows}
use Rattle.src_rules.specs.Laws.{Adds}
use Rattle.src_rules.specs.Runs.{Fault, after, fault_after, fault_of, gone, is_idle, is_idle_after, is_ready, is_taken, main_steps_after, one_if, ready, ready_within, runs_after, take}
use Rattle.src_rules.specs.State.{State, Outcome, Went, Undefined, Idle, Lost}
use Rattle.src_rules.specs.Step.{enters, step}
use Rattle.src_rules.specs.Weights.{weight}
use Rattle.src_values.specs.Memory.{Setting}
use Rattle.src_values.specs.declared.objects.Byte.{Byte}

at_last : (n k : ℕ) → n ≤ suc k → (n ≡ suc k) ⊎ (n ≤ k)
at_last n k le = ⊎_elim (λ l. inr (omega (arith, l))) (λ g. inl (omega (arith, le, g))) (cases_lt n (suc k))

-- ---- how a step ends
not_faulty : (x : Outcome) → is_taken x ≡ true → fault_of x ≡ None
not_faulty (Went u event) h = refl
not_faulty (Undefined kind line) h = absurd (false≢true h)
not_faulty Idle h = absurd (false≢true h)
not_faulty Lost h = absurd (false≢true h)

some_not_none : (f : Fault) → None ≡ Some f → ⊥
some_not_none f e = absurd (cc)

faulty : (x : Outcome) (f : Fault) → fault_of x ≡ Some f → (is_taken x ≡ false) × (is_idle x ≡ false)
faulty (Went u event) f h = absurd (some_not_none f h)
faulty (Undefined kind line) f h = (refl, refl)
faulty Idle f h = absurd (some_not_none f h)
faulty Lost f h = absurd (some_not_none f h)

idle_only : (x : Outcome) → is_idle x ≡ true → (is_taken x ≡ false) × (fault_of x ≡ None)
idle_only (Went u event) h = absurd (false≢true h)
idle_only (Undefined kind line) h = absurd (false≢true h)
idle_only Idle h = (refl, refl)
idle_only Lost h = absurd (false≢true h)

untaken : (t : State) (x : Outcome) → is_taken x ≡ false → gone t x ≡ t
untaken t (Went u event) h = absurd (false≢true (sym h))
untaken t (Undefined kind line) h = refl
untaken t Idle h = refl
untaken t Lost h = refl

module _ (s : Setting) where
  -- ---- where a run stays
  stays : (n j : ℕ) → is_taken (take s (after s n)) ≡ false → after s (n + j) ≡ after s n
  unfolding after
  stays n zero h = let e : n + 0 ≡ n = omega arith in ap (after s) e
  stays n (suc j) h =
      let e : n + suc j ≡ suc (n + j) = omega arith in
      let i = stays n j h in
      ap (after s) e ∙ (untaken (after s (n + j)) (take s (after s (n + j))) (ap (λ t. is_taken (take s t)) i ∙ h) ∙ i)

  pub stays_here : (n : ℕ) → is_taken (take s (after s n)) ≡ false → after s (suc n) ≡ after s n
  stays_here n h = let e : suc n ≡ n + 1 = omega arith in ap (after s) e ∙ stays n 1 h

  same_later : (n k : ℕ) → n ≤ k → is_taken (take s (after s n)) ≡ false → after s k ≡ after s n
  same_later n k le h = let e : k ≡ n + (k - n) = omega (arith, le) in ap (after s) e ∙ stays n (k - n) h

  pub fault_stays : (n k : ℕ) (f : Fault) → n ≤ k → fault_after s n ≡ Some f → (fault_after s k ≡ Some f) × (after s k ≡ after s n)
  unfolding fault_after
  fault_stays n k f le h =
      let e = same_later n k le (faulty (take s (after s n)) f h).0 in
      (ap (λ t. fault_of (take s t)) e ∙ h, e)

  pub idle_stays : (n k : ℕ) → n ≤ k → is_idle_after s n ≡ true → is_idle_after s k ≡ true
  unfolding is_idle_after
  idle_stays n k le h = ap (λ t. is_idle (take s t)) (same_later n k le (idle_only (take s (after s n)) h).0) ∙ h

  pub idle_defined : (n : ℕ) → is_idle_after s n ≡ true → fault_after s n ≡ None
  unfolding is_idle_after fault_after
  idle_defined n h = (idle_only (take s (after s n)) h).1

  pub idle_without_fault : (n k : ℕ) → n ≤ k → is_idle_after s n ≡ true → fault_after s k ≡ None
  idle_without_fault n k le h = idle_defined k (idle_stays n k le h)

  pub taken_defined : (n : ℕ) → is_taken (take s (after s n)) ≡ true → fault_after s n ≡ None
  unfolding fault_after
  taken_defined n h = not_faulty (take s (after s n)) h

  pub faulty_busy : (n : ℕ) (f : Fault) → fault_after s n ≡ Some f → is_idle_after s n ≡ false
  unfolding is_idle_after fault_after
  faulty_busy n f h = (faulty (take s (after s n)) f h).1

  -- ---- the trace
  adds_more : (before behind : List (Happening Byte)) (event : Option (Happening Byte)) → Adds before event behind → length before ≤ length behind
  adds_more before behind None a = let e = ap length a in omega (arith, e)
  adds_more before behind (Some e) a = let d = ap length a in let c = length-append before (e ∷ []) in omega (arith, d, c)

  gone_longer : (t : State) (x : Outcome) → step s t ≡ x → length t.world.trace ≤ length (gone t x).world.trace
  gone_longer t (Went u event) is = adds_more t.world.trace u.world.trace event (trace_grows s t u event is)
  gone_longer t (Undefined kind line) is = omega arith
  gone_longer t Idle is = omega arith
  gone_longer t Lost is = omega arith

  pub step_longer : (t : State) → length t.world.trace ≤ length (gone t (step s t)).world.trace
  step_longer t = gone_longer t (step s t) refl

  within_longer : (n : ℕ) (t : State) → length t.world.trace ≤ length (ready_within n s t).world.trace
  unfolding ready_within
  within_longer zero t = omega arith
  within_longer (suc n) t = by_test (is_ready s t) (within_longer n (gone t (step s t)))
    where
      by_test : (b : Bool) → length (gone t (step s t)).world.trace ≤ length (ready_within n s (gone t (step s t))).world.trace
          → length t.world.trace ≤ length (if b then t else ready_within n s (gone t (step s t))).world.trace
      by_test true i = omega arith
      by_test false i = let a = step_longer t in omega (arith, a, i)

  ready_longer : (t : State) → length t.world.trace ≤ length (ready s t).world.trace
  unfolding ready
  ready_longer t = within_longer (weight s t) t

  next_longer : (n : ℕ) → length (after s n).world.trace ≤ length (after s (suc n)).world.trace
  unfolding after take
  next_longer n = by (step s (ready s (after s n))) refl
    where
      by : (x : Outcome) → step s (ready s (after s n)) ≡ x → length (after s n).world.trace ≤ length (gone (after s n) x).world.trace
      by (Went u event) is = let a = ready_longer (after s n) in let b = gone_longer (ready s (after s n)) (Went u event) is in omega (arith, a, b)
      by (Undefined kind line) is = omega arith
      by Idle is = omega arith
      by Lost is = omega arith

  longer_by : (n j : ℕ) → length (after s n).world.trace ≤ length (after s (n + j)).world.trace
  longer_by n zero = let e : n + 0 ≡ n = omega arith in let d = ap (λ k. length (after s k).world.trace) e in omega (arith, d)
  longer_by n (suc j) =
      let e : n + suc j ≡ suc (n + j) = omega arith in
      let d = ap (λ k. length (after s k).world.trace) e in
      let i = longer_by n j in
      let a = next_longer (n + j) in
      omega (arith, d, i, a)

  pub trace_longer : (n k : ℕ) → n ≤ k → length (after s n).world.trace ≤ length (after s k).world.trace
  trace_longer n k le =
      let e : n + (k - n) ≡ k = omega (arith, le) in
      let d = ap (λ j. length (after s j).world.trace) e in
      let i = longer_by n (k - n) in
      omega (arith, d, i)

  -- ---- counts
  pub main_steps_more : (n k : ℕ) → n ≤ k → main_steps_after s n ≤ main_steps_after s k
  unfolding main_steps_after
  main_steps_more n zero le = let e : n ≡ 0 = omega (arith, le) in let d = ap (main_steps_after s) e in omega (arith, d)
  main_steps_more n (suc k) le = ⊎_elim (λ e. let d = ap (main_steps_after s) e in omega (arith, d)) (λ l. let i = main_steps_more n k l in omega (arith, i)) (at_last n k le)

  pub runs_more : (n k : ℕ) → n ≤ k → runs_after s n ≤ runs_after s k
  unfolding runs_after
  runs_more n zero le = let e : n ≡ 0 = omega (arith, le) in let d = ap (runs_after s) e in omega (arith, d)
  runs_more n (suc k) le = ⊎_elim (λ e. let d = ap (runs_after s) e in omega (arith, d)) (λ l. let i = runs_more n k l in omega (arith, i)) (at_last n k le)

  -- a step that is undefined begins no run
  pub no_run_begins : (n : ℕ) (f : Fault) → fault_after s n ≡ Some f → runs_after s (n + 1) ≡ runs_after s n
  unfolding runs_after fault_after take
  no_run_begins n f h =
      let e : n + 1 ≡ suc n = omega arith in
      let r = ready s (after s n) in
      let d = ap (λ b. one_if (b && enters s r)) (faulty (step s r) f h).0 in
      let z : runs_after s n + 0 ≡ runs_after s n = omega arith in
      ap (runs_after s) e ∙ (ap (λ x. runs_after s n + x) d ∙ z)
