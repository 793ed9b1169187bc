-- Steps and micro-steps: where no step among the first ones is undefined, no micro-step of them is.
use Rattle.std.proofs.Common.{◌≡◌, ◌≤◌, ◌<◌, ⊎_elim, ℕ, zero, suc, ◌+◌, Bool, true, false, not, ◌&&◌, ◌||◌, Option, Some, None, length, refl, sym, ap, ◌∙◌, subst, arith}
use Rattle.std.proofs.lemmas.Bool.{false≢true, cases_order}
use Rattle.std.specs.Prelude.{if◌then◌else◌}
use Rattle.pic_world.specs.World.{Happening}
use Rattle.run_compare.proofs.Steps.{step_longer}
use Rattle.src_rules.proofs.Moments.{moments, steps, gone_stands}
use Rattle.src_rules.proofs.Readies.{comes, compose, falls}
use Rattle.src_rules.specs.Laws.{IsProper, IsOfBytes, IsReadyBehind}
use Rattle.src_rules.specs.Runs.{Fault, after, fault_after, fault_of, gone, is_ready, is_taken, moment, one_if, ready, ready_within, run, steps_by, take}
use Rattle.src_rules.specs.Standing.{Stands}
use Rattle.src_rules.specs.State.{State, Outcome, Went, Undefined, Idle, Lost}
use Rattle.src_rules.specs.Step.{counts, step}
use Rattle.src_rules.specs.Weights.{weight}
use Rattle.src_values.specs.Memory.{Setting}
use Rattle.src_values.specs.declared.objects.Byte.{Byte}
use Rattle.src_values.specs.declared.objects.Undef.{Undef}

-- ---- ready states
here : (s : Setting) (n : ℕ) (t : State) → is_ready s t ≡ true → ready_within n s t ≡ t
unfolding ready_within
here s zero t h = refl
here s (suc n) t h = ap (λ b. if b then t else ready_within n s (gone t (step s t))) h

ready_here : (s : Setting) (t : State) → is_ready s t ≡ true → ready s t ≡ t
unfolding ready
ready_here s t h = here s (weight s t) t h

no_step : (s : Setting) (t : State) → run s 0 t ≡ t
unfolding run
no_step s t = refl

one_step : (s : Setting) (t : State) → run s 1 t ≡ gone t (step s t)
unfolding run
one_step s t = refl

first_then : (s : Setting) (n : ℕ) (t : State) → run s (suc n) t ≡ run s n (gone t (step s t))
first_then s n t = let e : suc n ≡ 1 + n = omega arith in ap (λ k. run s k t) e ∙ (compose s 1 n t ∙ ap (run s n) (one_step s t))

waits : (a b : Bool) → a ≡ false → b ≡ true → (a || not b) ≡ false
waits true b e f = absurd (false≢true (sym e))
waits false true e f = refl
waits false false e f = absurd (false≢true f)

counted_ready : (a b : Bool) → a ≡ true → (a || not b) ≡ true
counted_ready true b e = refl
counted_ready false b e = absurd (false≢true e)

stuck_ready : (a b : Bool) → b ≡ false → (a || not b) ≡ true
stuck_ready true b e = refl
stuck_ready false true e = absurd (false≢true (sym e))
stuck_ready false false e = refl

-- one ready state comes first
module _ (s : Setting) (t : State) where
  one_first : (u v : State) → IsReadyBehind s t u → IsReadyBehind s t v → u ≡ v
  one_first u v a b =
      ⊎_elim (λ e. a.at ∙ (ap (λ n. run s n t) e ∙ sym b.at))
      (⊎_elim (λ l. absurd (never u a.count (b.before a.count l) a.at a.ready)) (λ g. absurd (never v b.count (a.before b.count g) b.at b.ready)))
      (cases_order a.count b.count)
    where
      never : (x : State) (n : ℕ) → (counts s (run s n t) ≡ false) × (is_taken (step s (run s n t)) ≡ true) → x ≡ run s n t → is_ready s x ≡ true → ⊥
      never x n h e r = false≢true (sym (waits (counts s (run s n t)) (is_taken (step s (run s n t))) h.0 h.1) ∙ (ap (is_ready s) (sym e) ∙ r))

  -- a micro-step that doesn't count leads to where the same one is ready
  behind_one : (u : State) → counts s t ≡ false → is_taken (step s t) ≡ true → weight s (gone t (step s t)) + 1 ≤ weight s t → IsReadyBehind s (gone t (step s t)) u → IsReadyBehind s t u
  behind_one u c k light a =
      record {
        count = suc a.count;
        at = a.at ∙ sym (first_then s a.count t);
        few = let f = a.few in omega (arith, f, light);
        ready = a.ready;
        before = before_all;
      }
    where
      before_all : (n : ℕ) → n < suc a.count → (counts s (run s n t) ≡ false) × (is_taken (step s (run s n t)) ≡ true)
      before_all zero l = subst (λ x. (counts s x ≡ false) × (is_taken (step s x) ≡ true)) (sym (no_step s t)) (c, k)
      before_all (suc n) l = subst (λ x. (counts s x ≡ false) × (is_taken (step s x) ≡ true)) (sym (first_then s n t)) (a.before n (omega (arith, l)))

went : (x : Outcome) (t : State) → is_taken x ≡ true → (event : Option (Happening Byte)) × (x ≡ Went (gone t x) event)
went (Went u event) t e = (event, refl)
went (Undefined kind line) t e = absurd (false≢true e)
went Idle t e = absurd (false≢true e)
went Lost t e = absurd (false≢true e)

untaken : (t : State) (x : Outcome) → is_taken x ≡ false → gone t x ≡ t
untaken t (Went u event) h = absurd (false≢true (sym h))
untaken t (Undefined kind line) h = refl
untaken t Idle h = refl
untaken t Lost h = refl

gone_anywhere : (t u : State) (x : Outcome) → is_taken x ≡ true → gone t x ≡ gone u x
gone_anywhere t u (Went v event) h = refl
gone_anywhere t u (Undefined kind line) h = absurd (false≢true h)
gone_anywhere t u Idle h = absurd (false≢true h)
gone_anywhere t u Lost h = absurd (false≢true h)

-- ---- the steps of a run beside its micro-steps
module _ (s : Setting) (proper : IsProper s.program) (input : IsOfBytes s.outside) where
  same_ready : (t : State) → Stands s.program t → counts s t ≡ false → is_taken (step s t) ≡ true → ready s (gone t (step s t)) ≡ ready s t
  same_ready t h c k =
      let u = gone t (step s t) in
      let w = went (step s t) t k in
      let l = falls s t h c u w.0 w.1 in
      one_first s t (ready s u) (ready s t) (behind_one s t (ready s u) c k (omega (arith, l)) (comes s proper input u (gone_stands s t (step s t) h (steps s proper input t h))).0) (comes s proper input t h).0

  -- The steps that the first micro-steps hold lead to the same ready state, and their trace is no longer.
  record IsBeside (i : ℕ) : Type 0 where
    same : ready s (moment s i) ≡ ready s (after s (steps_by s i))
    short : length (after s (steps_by s i)).world.trace ≤ length (moment s i).world.trace

  moment_next : (i : ℕ) → moment s (suc i) ≡ gone (moment s i) (step s (moment s i))
  unfolding run
  moment_next i = refl

  steps_next : (i : ℕ) (b c : Bool) → counts s (moment s i) ≡ b → is_taken (step s (moment s i)) ≡ c → steps_by s (suc i) ≡ steps_by s i + one_if (b && c)
  unfolding steps_by
  steps_next i b c e f = ap (λ x. steps_by s i + one_if (x && is_taken (step s (moment s i)))) e ∙ ap (λ x. steps_by s i + one_if (b && x)) f

  after_next : (k : ℕ) (t : State) → ready s (after s k) ≡ t → is_taken (step s t) ≡ true → after s (k + 1) ≡ gone t (step s t)
  unfolding after take
  after_next k t e h =
      let z : k + 1 ≡ suc k = omega arith in
      ap (after s) z ∙ (ap (λ x. gone (after s k) (step s x)) e ∙ gone_anywhere (after s k) t (step s t) h)

  no_more : (b : Bool) → one_if (b && false) ≡ 0
  no_more true = refl
  no_more false = refl

  beside_next : (i : ℕ) → IsBeside i → (b c : Bool) → counts s (moment s i) ≡ b → is_taken (step s (moment s i)) ≡ c → IsBeside (suc i)
  beside_next i h b false e f =
      let t = moment s i in
      let stays : moment s (suc i) ≡ t = moment_next i ∙ untaken t (step s t) f in
      let n : steps_by s (suc i) ≡ steps_by s i = steps_next i b false e f ∙ (ap (λ x. steps_by s i + x) (no_more b) ∙ omega arith) in
      record {
        same = ap (ready s) stays ∙ (h.same ∙ ap (λ k. ready s (after s k)) (sym n));
        short = let d = ap (λ (x : State). length x.world.trace) stays in let g = ap (λ k. length (after s k).world.trace) n in let l = h.short in omega (arith, d, g, l);
      }
  beside_next i h true true e f =
      let t = moment s i in
      let r : ready s t ≡ t = ready_here s t (counted_ready (counts s t) (is_taken (step s t)) e) in
      let n : steps_by s (suc i) ≡ steps_by s i + 1 = steps_next i true true e f in
      let a : after s (steps_by s (suc i)) ≡ moment s (suc i) = ap (after s) n ∙ (after_next (steps_by s i) t (sym h.same ∙ r) f ∙ sym (moment_next i)) in
      record { same = ap (ready s) (sym a); short = let d = ap (λ (x : State). length x.world.trace) a in omega (arith, d) }
  beside_next i h false true e f =
      let t = moment s i in
      let n : steps_by s (suc i) ≡ steps_by s i = steps_next i false true e f ∙ omega arith in
      record {
        same = ap (ready s) (moment_next i) ∙ (same_ready t (moments s proper input i).0 e f ∙ (h.same ∙ ap (λ k. ready s (after s k)) (sym n)));
        short = let d = ap (λ (x : State). length x.world.trace) (moment_next i) in let g = ap (λ k. length (after s k).world.trace) n in let l = h.short in let m = step_longer s t in omega (arith, d, g, l, m);
      }

  beside : (i : ℕ) → IsBeside i
  unfolding run steps_by after
  beside zero = record { same = refl; short = omega arith }
  beside (suc i) = beside_next i (beside i) (counts s (moment s i)) (is_taken (step s (moment s i))) refl refl

  -- Where the first steps, up to a length of the trace, are defined, no micro-step of theirs is undefined.
  faulty_here : (i : ℕ) (x : Outcome) → step s (moment s i) ≡ x → is_taken x ≡ false → fault_after s (steps_by s i) ≡ fault_of x
  unfolding fault_after take
  faulty_here i x is h =
      let t = moment s i in
      let r : ready s t ≡ t = ready_here s t (stuck_ready (counts s t) (is_taken (step s t)) (ap is_taken is ∙ h)) in
      ap (λ u. fault_of (step s u)) (sym (beside i).same ∙ r) ∙ ap fault_of is

  pub none_undefined : (most longest : ℕ) → ((k : ℕ) → k < most → length (after s k).world.trace ≤ longest → fault_after s k ≡ None)
      → (i : ℕ) → steps_by s i < most → length (moment s i).world.trace ≤ longest → (kind : Undef) (line : ℕ) → step s (moment s i) ≡ Undefined kind line → ⊥
  none_undefined most longest clean i early short kind line is =
      let b = (beside i).short in
      let f = faulty_here i (Undefined kind line) is refl in
      let n = clean (steps_by s i) early (omega (arith, b, short)) in
      never (sym n ∙ f)
    where
      never : {f : Fault} → None ≡ Some f → ⊥
      never e = absurd (cc)
