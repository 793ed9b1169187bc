-- The headline from the links: the trace is a prefix of the source's, its next steps come in time, and the return stack stays within
-- its eight words.
use Rattle.std.proofs.Common.{◌≡◌, ℕ, suc, ◌+◌, ◌-◌, ◌*◌, ◌<◌, ◌≤◌, inl, inr, true, List, [], ◌∷◌, map, length, length-append, refl, sym, ap, ◌∙◌, subst, ⊎_elim, arith}
use Rattle.std.specs.Prelude.{slice_index}
use Rattle.std.proofs.lemmas.Bool.{cases_lt}
use Rattle.std.proofs.lemmas.List.{length-map}
use Rattle.pic_chip.specs.Run as chip
use Rattle.pic_chip.specs.Run.{moment}
use Rattle.pic_map.specs.MapContent.{MapContent}
use Rattle.pic_world.specs.World.{Outside, Happening, event_of}
use Rattle.run_links.specs.Runs.{Run, IsRun, IsFrontOf, Goes}
use Rattle.run_links.proofs.Links.{not_stuck}
use Rattle.core_code.specs.Bytes.{Held}
use Rattle.sym_code.specs.Correct.{AreEntries}
use Rattle.sym_code.specs.Effect.{Setting, Memory}
use Rattle.sym_code.specs.Machine.{Entry, sym_start, sym_run}
use Rattle.sym_code.specs.Registers.{Registers}
use Rattle.sym_code.specs.Runs.{run_of}
use Rattle.sym_code.specs.Cost.{times_in}
use Rattle.chip_trace.specs.Arriving.{IsStarted, IsRunning, IsMet, Arrives, outside_at, early}
use Rattle.headline.specs.Headline.{Source, SourceRun, HasNext, IsQuiet}
use Rattle.headline.specs.OnChip.{IsClean}
use Rattle.headline_trace.specs.Carried.{IsSteady, IsLed, IsSeen}
use Rattle.headline_trace.proofs.Events.{Longer, is_run, next_longer, front_length}
use Rattle.headline_trace.proofs.Following.{IsFirst, first_of, map_front, shorter_front, HasFront, has_front, step_by, steps_first, goes_or_halts}
use Rattle.headline_trace.proofs.Moments.{met_on, long_on}

module _ {E : Type 0} (show : E → Happening ℕ) (above : Outside → Run E) (source : Source) (content : MapContent) (g : Setting) (c : chip.Setting) (first : List (List Held)) (started : IsStarted g first c)
    (begins : Registers) (arrives : (n : ℕ) → (entry : Entry) × AreEntries entry × Arrives g c entry begins (slice_index (moment c started.at).state.ram) n)
    (seen : (o : Outside) → o.input ≡ c.inputs → IsSeen show (above o) (source.run o))
    (led : (e : Entry) → AreEntries e → (o : Outside) → o.input ≡ c.inputs
    → IsLed show (above o) (source.run o).steps source.nodes (run_of g (times_in g.program.block) e o (sym_start g.program begins (slice_index (moment c started.at).state.ram))))
  where
    abbrev m : Memory
    m = slice_index (moment c started.at).state.ram

    abbrev pub entry : ℕ → Entry
    entry n = (arrives n).0

    -- the run of the source, as the link has it and as the headline does, and the early run
    abbrev pub O : ℕ → Outside
    O n = outside_at g c n

    abbrev pub u : ℕ → Run E
    u n = above (O n)

    abbrev pub s : ℕ → SourceRun
    s n = source.run (O n)

    abbrev pub b : ℕ → ℕ → Run (Happening ℕ)
    b n k = early g c (entry n) begins m k

    steady : (n : ℕ) → IsSteady (u n) (s n).steps
    steady n = (seen (O n) refl).steady

    link : (n k : ℕ) → IsLed show (u k) (s k).steps source.nodes (b n k)
    link n k = led (entry n) (arrives n).1 (O k) refl

    b_is_run : (n k : ℕ) → IsRun (b n k)
    b_is_run n k = is_run g (times_in g.program.block) (entry n) (O k) (sym_start g.program begins m)

    shown_long : (n i : ℕ) → length ((s n).trace i) ≡ length ((u n).trace i)
    shown_long n i = ap length ((seen (O n) refl).trace i) ∙ length-map (map show ((u n).trace i)) event_of ∙ length-map ((u n).trace i) show

    -- ---- what is clean
    goes_where : (n : ℕ) → IsClean source content c n → (k : ℕ) → k ≤ n → (i : ℕ) → (s k).steps i < (k + 1) * source.nodes → length ((u k).trace i) ≤ length (moment c k).trace → (u k).goes i ≡ true
    goes_where n clean k le i counted short =
        let l = shown_long k i in
        sym ((seen (O k) refl).defined i) ∙ clean k i le counted (omega arith)

    pub running : (n : ℕ) → IsClean source content c n → IsRunning g c (entry n) begins m n
    running n clean k i le cheap short =
        not_stuck E (Happening ℕ) show (u k) (b n k) (s k).steps source.nodes k (length (moment c k).trace) (b_is_run n k) (link n k).followed (link n k).lag (steady k).counts
        (goes_where n clean k le) i cheap short

    -- ---- the trace
    pub met : (n : ℕ) → IsClean source content c n → IsMet g c (entry n) begins m n 0
    met n clean = (arrives n).2.meets (running n clean)

    met_long : (n j : ℕ) (x : IsMet g c (entry n) begins m n j) → length (moment c n).trace ≡ length ((b n n).trace x.at)
    met_long n j x = ap length x.trace ∙ length-map ((b n n).trace x.at) event_of

    fronts : (n : ℕ) (clean : IsClean source content c n) → HasFront show (u n) (s n).steps source.nodes (b n n) (steady n) (b_is_run n n) (link n n).followed (link n n).lag (met n clean).at
    fronts n clean =
        has_front show (u n) (s n).steps source.nodes (b n n) (steady n) (b_is_run n n) (link n n).followed (link n n).lag n (met n clean).at (met n clean).soon
        (λ i counted short. let l = met_long n 0 (met n clean) in goes_where n clean n (omega arith) i counted (omega arith))

    pub prefix : (n : ℕ) → IsClean source content c n → (k : ℕ) × IsFrontOf (moment c n).trace ((s n).trace k)
    prefix n clean =
        let f = fronts n clean in
        let front = map_front event_of ((b n n).trace (met n clean).at) (map show ((u n).trace f.moment)) f.front in
        (f.moment, subst (λ xs. IsFrontOf xs ((s n).trace f.moment)) (sym (met n clean).trace) (subst (λ ys. IsFrontOf (map event_of ((b n n).trace (met n clean).at)) ys) (sym ((seen (O n) refl).trace f.moment)) front))

    -- ---- the return stack
    pub no_underflow : (n k : ℕ) → IsClean source content c n → k ≤ n → (moment c k).state.pops ≤ (moment c k).state.pushes
    no_underflow n k clean le = (arrives n).2.no_underflow k (running n clean) le

    pub no_overflow : (n k : ℕ) → IsClean source content c n → k ≤ n → (moment c k).state.pushes ≤ (moment c k).state.pops + 8
    no_overflow n k clean le = (arrives n).2.no_overflow k (running n clean) le

    -- ---- the start
    pub start_up : (moment c 4096).met ≡ true
    start_up = met_on c started.at 4096 started.soon started.met

    -- ---- pace
    module _ (n : ℕ) (clean : IsClean source content c n) where
      abbrev length_b : ℕ → ℕ
      length_b i = length ((b n n).trace i)

      abbrev length_u : ℕ → ℕ
      length_u i = length ((u n).trace i)

      single_b : (i : ℕ) → length_b (suc i) ≤ length_b i + 1
      single_b i = by (next_longer g (times_in g.program.block) (entry n) (O n) (sym_start g.program begins m) i) where
        by : Longer ((b n n).trace i) ((b n n).trace (suc i)) → length_b (suc i) ≤ length_b i + 1
        by (inl same) = let q = ap length same in omega arith
        by (inr more) = let q = ap length more.1 ∙ length-append ((b n n).trace i) (more.0 ∷ []) in omega arith

      silent_b : length_b 0 ≡ 0
      unfolding sym_run
      silent_b = refl

      goes_long : (i : ℕ) (d : Goes (u n) i) → length_b (((link n n).followed i d).at i) ≡ length_u i
      goes_long i d = ap length (((link n n).followed i d).same i (omega arith)) ∙ length-map ((u n).trace i) show

      -- what is no longer than the chip's trace is a front of it
      front_of_chip : (i : ℕ) (d : Goes (u n) i) → length_u i ≤ length (moment c n).trace → IsFrontOf ((s n).trace i) (moment c n).trace
      front_of_chip i d le =
          let x = met n clean in
          let l = met_long n 0 x in
          let f = (link n n).followed i d in
          let q = goes_long i d in
          let front = map_front event_of ((b n n).trace (f.at i)) ((b n n).trace x.at)
          (shorter_front show (u n) (s n).steps source.nodes (b n n) (steady n) (b_is_run n n) (link n n).followed (link n n).lag (f.at i) x.at (omega arith)) in
          subst (λ xs. IsFrontOf xs (moment c n).trace) (ap (map event_of) (f.same i (omega arith)) ∙ sym ((seen (O n) refl).trace i))
          (subst (λ ys. IsFrontOf (map event_of ((b n n).trace (f.at i))) ys) (sym x.trace) front)

      -- a moment by which the early run has come so far that the chip has, too, is as long as its trace at most
      in_time : (i : ℕ) (d : Goes (u n) i) → IsMet g c (entry n) begins m n (((link n n).followed i d).at i) → length_u i ≤ length (moment c n).trace
      in_time i d x =
          let l = met_long n _ x in
          let q = goes_long i d in
          let r = front_length ((b n n).trace (((link n n).followed i d).at i)) ((b n n).trace x.at) ((b_is_run n n).grows _ x.at x.behind) in
          omega arith

      module _ (t m' : ℕ) (le : t ≤ n) (quiet : IsQuiet c.arrivals t n) (rich : 8192 * (m' + 1) ≤ n - t) where
        long_t : length (moment c t).trace ≤ length (moment c n).trace
        long_t = long_on c t n le

        -- where the source has come to the length, and where the early run has
        from : (at : ℕ) × (at ≤ (fronts n clean).moment) × IsFirst length_u (length (moment c t).trace) at
        from =
            let f = fronts n clean in
            let q = front_length _ _ f.front in
            let l = met_long n 0 (met n clean) in
            let z = length-map ((u n).trace f.moment) show in
            let w = long_t in
            first_of length_u (steady n).silent (steady n).single (length (moment c t).trace) f.moment (omega arith)

        from_b : (at : ℕ) × (at ≤ (met n clean).at) × IsFirst length_b (length (moment c t).trace) at
        from_b = let l = met_long n 0 (met n clean) in let w = long_t in first_of length_b silent_b single_b (length (moment c t).trace) (met n clean).at (omega arith)

        -- before main is met nothing is in the trace
        from_first : t < started.at → from.0 ≡ 0
        from_first early_t =
            let w = long_on c t started.at (omega arith) in
            let z : length (moment c started.at).trace ≡ 0 = ap length started.silent in
            ⊎_elim (λ lt. let q = from.2.before 0 lt in absurd (omega arith)) (λ ge. omega arith) (cases_lt 0 from.0)

        by_start : (i : ℕ) (d : Goes (u n) i) → (s n).steps i ≤ m' → t < started.at → length_u i ≤ length (moment c n).trace
        by_start i d few early_t =
            let soon = started.soon in
            let k = steps_first show (u n) (s n).steps source.nodes (b n n) (steady n) (b_is_run n n) (link n n).followed (link n n).lag i m' d few in
            in_time i d ((arrives n).2.pace started.at 0 (((link n n).followed i d).at i) (running n clean) (omega arith) started.met
            (λ a has lt. quiet a has (omega arith))
            (record { here = silent_b ∙ sym (ap length started.silent); before = λ j lt. absurd (omega arith) })
            (omega arith))

        -- a step of the next m', all before it being defined
        next : (i : ℕ) (d : Goes (u n) i) → (s n).steps i ≤ (s n).steps from.0 + m' → length_u i ≤ length (moment c n).trace
        next i d few =
            ⊎_elim
            (λ before. let q = from.2.before i before in let w = long_t in omega arith)
            (λ behind.
            ⊎_elim
            (λ early_t. by_start i d (let z = from_first early_t in let w = ap (s n).steps z in let y = (steady n).none_yet in omega arith) early_t)
            (λ late. in_time i d ((arrives n).2.pace t from_b.0 (((link n n).followed i d).at i) (running n clean) le (met_on c started.at t late started.met) quiet
            (record { here = from_b.2.here; before = from_b.2.before })
            (let k = step_by show (u n) (s n).steps source.nodes (b n n) (steady n) (b_is_run n n) (link n n).followed (link n n).lag i m' (length (moment c t).trace) from.0 from_b.0 d from.2 behind few from_b.2.here in omega arith)))
            (cases_lt t started.at))
            (cases_lt i from.0)

        all : (i : ℕ) → (s n).steps i ≤ (s n).steps from.0 + m' → IsFrontOf ((s n).trace i) (moment c n).trace
        all i few =
            ⊎_elim
            (λ d. front_of_chip i d (next i d few))
            (λ h.
            let lt = h.early in
            let later = (steady n).later h.step i (omega arith) in
            let same : (s n).trace h.step ≡ (s n).trace i = (seen (O n) refl).trace h.step ∙ ap (λ xs. map event_of (map show xs)) (sym ((steady n).stays h.step i (omega arith) h.there)) ∙ sym ((seen (O n) refl).trace i) in
            subst (λ xs. IsFrontOf xs (moment c n).trace) same (front_of_chip h.step h.before (next h.step h.before (omega arith))))
            (goes_or_halts (u n) i)

        pub pace : HasNext (s n) (length (moment c t).trace) m' (moment c n).trace
        pace =
            let f = from in
            record {
              from = f.0;
              comes = record { here = shown_long n f.0 ∙ f.2.here; before = λ i lt. let l = shown_long n i in let q = f.2.before i lt in omega arith };
              all = all;
            }
