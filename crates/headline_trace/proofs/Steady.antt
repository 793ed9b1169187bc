-- The source's run as the headline needs it: a micro-step makes one event at most and counts as one step at most, and the next step
-- that counts comes, or there is none.
use Rattle.std.proofs.Common.{◌≡◌, ℕ, zero, suc, ◌+◌, ◌-◌, ◌*◌, ◌<◌, ◌≤◌, ◌⊎◌, inl, inr, Bool, true, false, not, ◌&&◌, ◌||◌, List, [], ◌∷◌, length, length-append, Option, Some, None, refl, sym, ap, ◌∙◌, subst, ⊎_elim, arith}
use Rattle.std.specs.Prelude.{is_none}
use Rattle.std.proofs.lemmas.Bool.{cases_lt}
use Rattle.pic_world.specs.World.{Happening}
use Rattle.run_links.specs.Runs.{Run}
use Rattle.src_rules.specs.Laws.{IsProper, IsOfBytes, Adds, IsReadyBehind}
use Rattle.src_rules.specs.Runs.{run, moment, gone, is_taken, one_if, steps_by, is_ready, ready, fault_of, is_idle}
use Rattle.src_rules.specs.Standing.{Keeps}
use Rattle.src_rules.specs.State.{State, Outcome, Went, Undefined, Idle, Lost}
use Rattle.src_rules.specs.Step.{step, counts, start}
use Rattle.src_rules.proofs.Changes.{trace_grows}
use Rattle.src_rules.proofs.Moments.{moments}
use Rattle.src_rules.proofs.Readies.{comes, compose}
use Rattle.src_values.specs.Memory.{Setting}
use Rattle.src_values.specs.declared.objects.Byte.{Byte}
use Rattle.headline_trace.specs.Carried.{IsSteady}

abbrev source_run : Setting → Run (Happening Byte)
source_run s = record {
  trace = λ n. (moment s n).world.trace;
  goes = λ n. is_none (fault_of (step s (moment s n)));
  rests = λ n. is_idle (step s (moment s n));
  most = λ n. 8000 * steps_by s n;
  least = λ n. 0;
}

module _ (s : Setting) where
  abbrev u : Run (Happening Byte)
  u = source_run s

  -- ---- steps
  one_small : (b : Bool) → one_if b ≤ 1
  one_small true = omega arith
  one_small false = omega arith

  pub once : (i : ℕ) → steps_by s (suc i) ≤ steps_by s i + 1
  unfolding steps_by
  once i = let l = one_small (counts s (moment s i) && is_taken (step s (moment s i))) in omega arith

  later_by : (d i : ℕ) → steps_by s i ≤ steps_by s (d + i)
  unfolding steps_by
  later_by zero i = let z : zero + i ≡ i = omega arith in let q : steps_by s (zero + i) ≡ steps_by s i = ap (steps_by s) z in omega arith
  later_by (suc d) i = let z : suc d + i ≡ suc (d + i) = omega arith in let q : steps_by s (suc d + i) ≡ steps_by s (suc (d + i)) = ap (steps_by s) z in let l = later_by d i in omega arith

  pub later : (i j : ℕ) → i ≤ j → steps_by s i ≤ steps_by s j
  later i j le = let z : (j - i) + i ≡ j = omega arith in subst (λ k. steps_by s i ≤ steps_by s k) z (later_by (j - i) i)

  -- ---- events
  added : (before after : List (Happening Byte)) (event : Option (Happening Byte)) → Adds before event after → length after ≤ length before + 1
  added before after None a = let q = ap length a in omega arith
  added before after (Some e) a = let q = ap length a ∙ length-append before (e ∷ []) in omega arith

  pub single : (i : ℕ) → length (u.trace (suc i)) ≤ length (u.trace i) + 1
  unfolding run
  single i = by (step s (moment s i)) refl where
    by : (x : Outcome) → step s (moment s i) ≡ x → length (gone (moment s i) x).world.trace ≤ length (u.trace i) + 1
    by (Went t event) is = added (moment s i).world.trace t.world.trace event (trace_grows s (moment s i) t event is)
    by (Undefined kind line) is = omega arith
    by Idle is = omega arith
    by Lost is = omega arith

  -- ---- where it ends
  halts : (x : Outcome) (t : State) → is_none (fault_of x) ≡ false → gone t x ≡ t
  halts (Went t event) v is = absurd (cc)
  halts (Undefined kind line) v is = refl
  halts Idle v is = absurd (cc)
  halts Lost v is = absurd (cc)

  stays_by : (d i : ℕ) → u.goes i ≡ false → moment s (d + i) ≡ moment s i
  unfolding run
  stays_by zero i is = let z : zero + i ≡ i = omega arith in ap (moment s) z
  stays_by (suc d) i is =
      let z : suc d + i ≡ suc (d + i) = omega arith in
      ap (moment s) z ∙ ap (λ t. gone t (step s t)) (stays_by d i is) ∙ halts (step s (moment s i)) (moment s i) is

  pub stays : (i j : ℕ) → i ≤ j → u.goes i ≡ false → u.trace j ≡ u.trace i
  stays i j le is = let z : (j - i) + i ≡ j = omega arith in ap (λ k. u.trace k) (sym z) ∙ ap (λ (t : State). t.world.trace) (stays_by (j - i) i is)

  -- ---- the next step comes
  module _ (proper : IsProper s.program) (bytes : IsOfBytes s.outside) where
    -- how it goes on from a moment by which a number of steps was counted
    abbrev Reached : ℕ → Type 0
    Reached bound = (n : ℕ) × ((i : ℕ) → i < n → steps_by s i < bound) × ((bound ≤ steps_by s n) ⊎ ((u.rests n ≡ true) ⊎ ((steps_by s n < bound) × (u.goes n ≡ false))))

    module _ (n : ℕ) where
      abbrev t : State
      t = moment s n

      behind : IsReadyBehind s t (ready s t)
      behind = (comes s proper bytes t (moments s proper bytes n).0).0

      at : (k : ℕ) → moment s (n + k) ≡ run s k t
      at k = compose s n k (start s)

      uncounted : (k : ℕ) → k ≤ behind.count → steps_by s (n + k) ≡ steps_by s n
      unfolding steps_by
      uncounted zero le = let z : n + zero ≡ n = omega arith in ap (steps_by s) z
      uncounted (suc k) le =
          let z : n + suc k ≡ suc (n + k) = omega arith in
          let none : one_if (counts s (moment s (n + k)) && is_taken (step s (moment s (n + k)))) ≡ 0 =
          ap (λ b. one_if (b && is_taken (step s (moment s (n + k))))) (ap (counts s) (at k) ∙ (behind.before k (omega arith)).0) in
          let below = uncounted k (omega arith) in
          let q : steps_by s (n + suc k) ≡ steps_by s (suc (n + k)) = ap (steps_by s) z in
          omega arith

      abbrev last : ℕ
      last = n + behind.count

      few_before : (bound : ℕ) → ((i : ℕ) → i < n → steps_by s i < bound) → steps_by s n < bound → (i : ℕ) → i ≤ last → steps_by s i < bound
      few_before bound before now i le =
          ⊎_elim (λ lt. before i lt)
          (λ ge. let z : n + (i - n) ≡ i = omega arith in let q : steps_by s i ≡ steps_by s (n + (i - n)) = ap (steps_by s) (sym z) in let r = uncounted (i - n) (omega arith) in omega arith)
          (cases_lt i n)

      is_counted : (x : Outcome) → step s (moment s last) ≡ x → is_taken x ≡ true → steps_by s (suc last) ≡ steps_by s n + 1
      unfolding steps_by
      is_counted x is taken =
          let tk : is_taken (step s (moment s last)) ≡ true = ap is_taken is ∙ taken in
          let rd : is_ready s (moment s last) ≡ true = ap (is_ready s) (at behind.count ∙ sym behind.at) ∙ behind.ready in
          let ct : counts s (moment s last) ≡ true = left_only (counts s (moment s last)) (ap (λ b. counts s (moment s last) || not b) (sym tk) ∙ rd) in
          let one : one_if (counts s (moment s last) && is_taken (step s (moment s last))) ≡ 1 = ap (λ b. one_if (b && is_taken (step s (moment s last)))) ct ∙ ap one_if tk in
          let same = uncounted behind.count (omega arith) in
          omega arith where
            left_only : (b : Bool) → (b || not true) ≡ true → b ≡ true
            left_only true e = refl
            left_only false e = e

      next : (b : ℕ) → ((i : ℕ) → i < n → steps_by s i < suc b) → steps_by s n ≡ b → Reached (suc b)
      next b before now = by (step s (moment s last)) refl where
        few : (i : ℕ) → i ≤ last → steps_by s i < suc b
        few = few_before (suc b) before (omega arith)

        by : (x : Outcome) → step s (moment s last) ≡ x → Reached (suc b)
        by (Went v event) is = (suc last, (λ i lt. few i (omega arith)), inl (let c = is_counted (Went v event) is refl in omega arith))
        by (Undefined kind line) is = (last, (λ i lt. few i (omega arith)), inr (inr (few last (omega arith), ap (λ x. is_none (fault_of x)) is)))
        by Idle is = (last, (λ i lt. few i (omega arith)), inr (inl (ap is_idle is)))
        by Lost is = absurd (subst (Keeps s.program) is (moments s proper bytes last).1)

    reached : (bound : ℕ) → Reached bound
    reached zero = (0, (λ i lt. absurd (omega arith)), inl (omega arith))
    reached (suc b) =
        let r = reached b in
        ⊎_elim
        (λ far.
        ⊎_elim
        (λ more. (r.0, (λ i lt. let q = r.1 i lt in omega arith), inl (omega arith)))
        (λ just. next r.0 b (λ i lt. let q = r.1 i lt in omega arith) (omega arith))
        (cases_lt b (steps_by s r.0)))
        (λ ends. (r.0, (λ i lt. let q = r.1 i lt in omega arith), inr (⊎_elim (λ rests. inl rests) (λ stuck. inr (let q = stuck.0 in omega arith, stuck.1)) ends)))
        r.2

    pub steady : IsSteady u (steps_by s)
    unfolding steps_by run start
    steady = record {
      none_yet = refl;
      later = later;
      once = once;
      silent = refl;
      single = single;
      stays = stays;
      price = λ i. refl;
      counts = reached;
    }
