-- What is looked at under one schedule, and the moments for which it counts.
use Rattle.std.proofs.Common.{◌≡◌, ◌≤◌, ◌<◌, ⊎_elim, ℕ, zero, suc, ◌+◌, ◌-◌, ◌*◌, Bool, true, false, not, ◌&&◌, nat_lt, nat_le, Option, Some, None, List, length, take, refl, sym, ap, ◌∙◌, subst, arith}
use Rattle.std.proofs.lemmas.Bool.{cases_lt, and_parts, and_cases, and_from, ltb-true, ltb-false, lt-ltb, leb-true, leb-false, le-leb}
use Rattle.std.proofs.lemmas.List.{length-map}
use Rattle.std.proofs.lemmas.Nat.{mul-le}
use Rattle.std.specs.List.{All}
use Rattle.c_typed.specs.TreeNodes.{nodes_of}
use Rattle.c_typed.specs.Trees.{Program}
use Rattle.call_graph.specs.declared.types.FnCopy.{FnCopy}
use Rattle.headline.specs.OnChip.{IsClean}
use Rattle.headline.specs.SourceOf.{is_undefined, setting_of, source_of}
use Rattle.pic_chip.specs.Run.{Setting}
use Rattle.pic_map.specs.MapContent.{MapContent}
use Rattle.pic_world.specs.World.{Outside, outside_of}
use Rattle.run_compare.proofs.Arrived.{off_same}
use Rattle.run_compare.proofs.Bridge.{none_undefined}
use Rattle.run_compare.proofs.Steps.{trace_longer}
use Rattle.run_compare.specs.Agreement.{Counts, IsFirstFault, run_under}
use Rattle.run_compare.specs.Looking.{IsFirst, Looked, fault_in}
use Rattle.run_compare.specs.Searching.{IsDefinedTo, IsOffOf, upto}
use Rattle.run_compare.specs.declared.source_run.Fault.{Fault}
use Rattle.schedule.proofs.Moments as chip
use Rattle.schedule.specs.Watching.{traces}
use Rattle.schedule.specs.declared.off.Off.{Off}
use Rattle.src_machine.specs.Steps.{IsGiven}
use Rattle.src_memory.specs.Shown.{address_of, shown}
use Rattle.src_rules.specs.Runs.{after, fault_after, moment}
use Rattle.src_rules.specs.State.{Outcome, Went, Undefined, Idle, Lost}
use Rattle.src_rules.specs.Step.{step}
use Rattle.src_values.specs.Memory.{Setting as SourceSetting}
use Rattle.src_values.specs.declared.objects.Undef.{Undef}

module _ (p : Program) (copies : List FnCopy) (content : MapContent) (g : Setting) (off : Off) (given : IsOffOf p g off) where
  abbrev under : ℕ → SourceSetting
  under = run_under p copies content g

  abbrev events : ℕ → ℕ
  events m = length (traces g m)

  abbrev steps : ℕ → ℕ
  steps m = (m + 1) * nodes_of p

  pub steps_more : (m n : ℕ) → m ≤ n → steps m ≤ steps n
  steps_more m n le = mul-le (m + 1) (nodes_of p) (n + 1) (nodes_of p) (omega (arith, le)) (omega arith)

  pub events_more : (m n : ℕ) → m ≤ n → events m ≤ events n
  events_more m n le = chip.trace_longer g m n le

  pub is_given : (o : Outside) → o.input ≡ g.inputs → IsGiven (setting_of p o)
  is_given o e = record { proper = given.proper; acyclic = given.acyclic; bytes = subst (λ xs. All (λ byte. byte < 256) xs) (sym e) given.bytes }

  -- ---- the schedule up to a moment
  pub under_taken : (m i : ℕ) → m ≤ off.moment → upto m g.arrivals ≡ i → under m ≡ setting_of p (outside_of g.inputs (take i off.by_length.arrivals.items))
  under_taken m i le e =
      ap (λ xs. setting_of p (outside_of g.inputs xs)) (off_same (traces g) m off.moment i g.arrivals le given.rising e ∙ ap (take i) (sym given.lengths))

  -- ---- steps and micro-steps
  defined_if : (x : Outcome) → ((kind : Undef) (line : ℕ) → x ≡ Undefined kind line → ⊥) → not (is_undefined x) ≡ true
  defined_if (Went u event) h = refl
  defined_if (Undefined kind line) h = absurd (h kind line refl)
  defined_if Idle h = refl
  defined_if Lost h = refl

  pub clean : (n : ℕ) → ((m : ℕ) → m ≤ n → IsDefinedTo p copies content g m) → IsClean (source_of p copies content) content g n
  clean n all = λ m i le early short.
      let s = under m in
      let e = length-map (moment s i).world.trace (shown (address_of p content)) in
      defined_if (step s (moment s i))
      (none_undefined s given.proper given.bytes (steps m) (events m) (λ k l h. all m le k (record { early = l; short = h })) i early (omega (arith, short, e)))

  -- ---- a part of the moments, under one schedule
  -- the undefined step that counts for a moment up to the last one, or that none does
  abbrev pub Told : ℕ → Option Fault → Type 0
  Told last None = (m : ℕ) → m < suc last → IsDefinedTo p copies content g m
  Told last (Some fault) = IsFirstFault p copies content g off.moment (fault_in fault)

  module _ (s : SourceSetting) (seen last : ℕ) (same : (m : ℕ) → seen ≤ m → m ≤ last → under m ≡ s) (within : last ≤ off.moment) (before : (m : ℕ) → m < seen → IsDefinedTo p copies content g m) where
    short_of : (m k : ℕ) → seen ≤ m → m ≤ last → Counts p copies content g m k → length (after s k).world.trace ≤ events m
    short_of m k from to h = let e = ap (λ x. length (after x k).world.trace) (same m from to) in let d = h.short in omega (arith, e, d)

    none_here : Looked s (steps last) (events last) None → (m : ℕ) → seen ≤ m → m ≤ last → IsDefinedTo p copies content g m
    none_here h m from to k counts =
        let a = counts.early in
        let b = steps_more m last to in
        let c = short_of m k from to counts in
        let d = events_more m last to in
        ap (λ x. fault_after x k) (same m from to) ∙ h k (omega (arith, a, b)) (omega (arith, c, d))

    module _ (fault : Fault) (first : IsFirst s (steps last) (events last) (fault_in fault)) where
      abbrev length_there : ℕ
      length_there = length (after s first.step).world.trace

      abbrev good : ℕ → Bool
      good m = nat_lt first.step (steps m) && nat_le length_there (events m)

      -- where the step counts for no moment up to n
      not_good : (m : ℕ) → seen ≤ m → m ≤ last → good m ≡ false → IsDefinedTo p copies content g m
      not_good m from to bad k counts =
          ap (λ x. fault_after x k) (same m from to) ∙ ⊎_elim (λ l. first.before k l) (λ l. absurd (never l)) (cases_lt k first.step)
        where
          never : first.step ≤ k → ⊥
          never l =
              let a = counts.early in
              let b = short_of m k from to counts in
              let c = trace_longer s first.step k l in
              ⊎_elim (λ e. let f = ltb-false first.step (steps m) e in absurd (omega (arith, a, l, f))) (λ e. let f = leb-false length_there (events m) e in absurd (omega (arith, b, c, f)))
              (and_cases (nat_lt first.step (steps m)) (nat_le length_there (events m)) bad)

      good_here : (m : ℕ) → seen ≤ m → m ≤ last → good m ≡ true → ((j : ℕ) → j < m → IsDefinedTo p copies content g j) → IsFirstFault p copies content g off.moment (fault_in fault)
      good_here m from to is all =
          let parts = and_parts (nat_lt first.step (steps m)) (nat_le length_there (events m)) is in
          let e = same m from to in
          record {
            at = m;
            within = omega (arith, to, within);
            before = λ j l. clean j (λ i le. all i (omega (arith, le, l)));
            step = first.step;
            counts = record {
              early = ltb-true first.step (steps m) parts.0;
              short = let d = leb-true length_there (events m) parts.1 in let h = ap (λ x. length (after x first.step).world.trace) e in omega (arith, d, h);
            };
            earlier = λ k l. ap (λ x. fault_after x k) e ∙ first.before k l;
            is = ap (λ x. fault_after x first.step) e ∙ first.is;
          }

      defined_more : (m : ℕ) → ((j : ℕ) → j < m → IsDefinedTo p copies content g j) → IsDefinedTo p copies content g m → (j : ℕ) → j < suc m → IsDefinedTo p copies content g j
      defined_more m all this j l = ⊎_elim (λ b. all j b) (λ b. let e : m ≡ j = omega (arith, l, b) in subst (IsDefinedTo p copies content g) e this) (cases_lt j m)

      good_last : good last ≡ true
      good_last = and_from (nat_lt first.step (steps last)) (nat_le length_there (events last)) (lt-ltb first.step (steps last) first.early) (le-leb length_there (events last) first.short)

      -- the first moment for which the step counts
      from_here : (d m : ℕ) → m + d ≡ last → seen ≤ m → ((j : ℕ) → j < m → IsDefinedTo p copies content g j) → IsFirstFault p copies content g off.moment (fault_in fault)
      from_here zero m e from all = let z : last ≡ m = omega (arith, e) in good_here m from (omega (arith, z)) (ap good (sym z) ∙ good_last) all
      from_here (suc d) m e from all = by_test (good m) refl (λ more. from_here d (suc m) (omega (arith, e)) (omega (arith, from)) more)
        where
          by_test : (b : Bool) → good m ≡ b → (((j : ℕ) → j < suc m → IsDefinedTo p copies content g j) → IsFirstFault p copies content g off.moment (fault_in fault)) → IsFirstFault p copies content g off.moment (fault_in fault)
          by_test true h next = good_here m from (omega (arith, e)) h all
          by_test false h next = next (defined_more m all (not_good m from (omega (arith, e)) h))

    joined : ((m : ℕ) → seen ≤ m → m ≤ last → IsDefinedTo p copies content g m) → (m : ℕ) → m < suc last → IsDefinedTo p copies content g m
    joined here m l = ⊎_elim (λ b. before m b) (λ b. here m b (omega (arith, l))) (cases_lt m seen)

    pub told : (found : Option Fault) → seen ≤ last → Looked s (steps last) (events last) found → Told last found
    told None from h = joined (none_here h)
    told (Some fault) from h = from_here fault h (last - seen) seen (omega (arith, from)) (omega arith) before
