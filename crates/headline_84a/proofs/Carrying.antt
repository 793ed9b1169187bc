-- The headline goes from one run of a chip to another that is beside it as long as the first one is clean.
use Rattle.std.proofs.Common.{◌≡◌, ℕ, zero, suc, ◌+◌, ◌-◌, ◌*◌, ◌<◌, ◌≤◌, ◌⊎◌, inl, inr, Bool, true, false, List, [], ◌∷◌, length, Some, refl, sym, ap, ◌∙◌, subst, ⊎_elim, arith}
use Rattle.std.specs.Prelude.{if◌then◌else◌, nat_le, slice_get, slice_index, slice_index_or, Contains}
use Rattle.std.proofs.lemmas.Bool.{leb-true, cases_lt}
use Rattle.pic_world.specs.World.{outside_of}
use Rattle.pic_world.specs.declared.Arrival.{Arrival}
use Rattle.pic_world.specs.declared.Event.{Event}
use Rattle.pic_map.specs.MapContent.{ObjectLine, FrameLine, MapContent}
use Rattle.run_links.specs.Runs.{IsFrontOf}
use Rattle.schedule.specs.Off.{read_off}
use Rattle.headline.specs.Chips.{ChipRun}
use Rattle.headline.specs.Headline.{Source, SourceRun, HasNext, run_at, IsClean, Follows, last_written, is_guarded}

-- both runs at a moment
pub record Beside (r r' : ChipRun) (n : ℕ) : Type 0 where
  pub trace : r'.trace n ≡ r.trace n
  pub met : r'.met n ≡ r.met n
  pub pushes : r'.pushes n ≡ r.pushes n
  pub pops : r'.pops n ≡ r.pops n
  pub handling : r'.handling n ≡ r.handling n
  pub early : r'.early n ≡ r.early n
  pub byte : (a : ℕ) → 0x20 ≤ a → a < 0x50 → r'.byte n a ≡ r.byte n a

-- what every run of a chip keeps
pub record IsChip (r : ChipRun) : Type 0 where
  pub stays_met : (n : ℕ) → r.met n ≡ true → r.met (suc n) ≡ true
  pub early_stays : (n : ℕ) → r.met n ≡ true → r.early (suc n) ≡ r.early n

same_off : (f f' : ℕ → List Event) (m : ℕ) → ((k : ℕ) → k ≤ m → f' k ≡ f k) → (arrivals : List Arrival) → read_off f' m arrivals ≡ read_off f m arrivals
same_off f f' m same [] = refl
same_off f f' m same (a ∷ rest) = by (nat_le a.t m) refl (same_off f f' m same rest) where
  by : (b : Bool) → nat_le a.t m ≡ b → read_off f' m rest ≡ read_off f m rest → (if b then (record a { t = length (f' a.t) }) ∷ read_off f' m rest else read_off f' m rest) ≡ (if b then (record a { t = length (f a.t) }) ∷ read_off f m rest else read_off f m rest)
  by true e more =
      ap (λ t. (record a { t = length t }) ∷ read_off f' m rest) (same a.t (leb-true a.t m e)) ∙ ap (λ l. (record a { t = length (f a.t) }) ∷ l) more
  by false e more = more

module _ (source : Source) (content : MapContent) (inputs : List ℕ) (arrivals : List Arrival) (r r' : ChipRun) where
  abbrev Clean : ℕ → Type 0
  Clean = IsClean source content inputs arrivals r

  abbrev Clean' : ℕ → Type 0
  Clean' = IsClean source content inputs arrivals r'

  abbrev at : ℕ → SourceRun
  at = run_at source content inputs arrivals r

  abbrev at' : ℕ → SourceRun
  at' = run_at source content inputs arrivals r'

  same_run : (n m : ℕ) → ((k : ℕ) → k ≤ n → Beside r r' k) → m ≤ n → at' m ≡ at m
  same_run n m b le = ap (λ l. source.run (outside_of inputs l)) (same_off r.trace r'.trace m (λ k lk. (b k (omega (arith, lk, le))).trace) arrivals)

  fewer : (n k : ℕ) → k ≤ n → Clean n → Clean k
  fewer n k le c = λ m i lm. c m i (omega (arith, lm, le))

  fewer' : (n k : ℕ) → k ≤ n → Clean' n → Clean' k
  fewer' n k le c = λ m i lm. c m i (omega (arith, lm, le))

  clean_from : (n : ℕ) → ((k : ℕ) → k ≤ n → Beside r r' k) → Clean' n → Clean n
  clean_from n b c = λ m i le.
      subst (λ (z : SourceRun). z.steps i < (m + 1) * source.nodes → length (z.trace i) ≤ length (r.trace m) → z.is_defined i ≡ true) (same_run n m b le)
      (subst (λ (t : List Event). (at' m).steps i < (m + 1) * source.nodes → length ((at' m).trace i) ≤ length t → (at' m).is_defined i ≡ true) (b m le).trace (c m i le))

  module _ (first : IsChip r) (second : IsChip r') (beside : (n : ℕ) → ((k : ℕ) → k < n → Clean k ⊎ (r.met k ≡ false)) → Beside r r' n) where
    -- where the second run is clean both are beside each other, and the first is clean
    all_beside : (n : ℕ) → Clean' n → ((k : ℕ) → k ≤ n → Beside r r' k) × Clean n
    all_beside zero c =
        let b : (k : ℕ) → k ≤ 0 → Beside r r' k = λ k le. subst (Beside r r') (let z : 0 ≡ k = omega (arith, le) in z) (beside 0 (λ j lt. absurd (omega (arith, lt)))) in
        (b, clean_from 0 b c)
    all_beside (suc n) c =
        let before = all_beside n (fewer' (suc n) n (omega arith) c) in
        let next : Beside r r' (suc n) = beside (suc n) (λ j lt. inl (fewer n j (omega (arith, lt)) before.1)) in
        let b : (k : ℕ) → k ≤ suc n → Beside r r' k = λ k le. ⊎_elim (λ lt. before.0 k (omega (arith, lt))) (λ ge. subst (Beside r r') (let z : suc n ≡ k = omega (arith, le, ge) in z) next) (cases_lt k (suc n)) in
        (b, clean_from (suc n) b c)

    -- ---- before main is met
    met_later : (d n k : ℕ) → k ≡ d + n → r.met n ≡ true → r.met k ≡ true
    met_later zero n k q e = subst (λ j. r.met j ≡ true) (let z : n ≡ k = omega (arith, q) in z) e
    met_later (suc d) n zero q e = absurd (omega (arith, q))
    met_later (suc d) n (suc k) q e = first.stays_met k (met_later d n k (omega (arith, q)) e)

    not_both : (b : Bool) → b ≡ true → b ≡ false → ⊥
    not_both true e f = cc
    not_both false e f = cc

    unmet_before : (n : ℕ) → r.met n ≡ false → (k : ℕ) → k ≤ n → r.met k ≡ false
    unmet_before n e k le = by (r.met k) refl where
      by : (b : Bool) → r.met k ≡ b → r.met k ≡ false
      by false q = q
      by true q = absurd (not_both (r.met n) (met_later (n - k) k n (omega (arith, le)) q) e)

    unmet_beside : (n : ℕ) → r.met n ≡ false → Beside r r' (suc n)
    unmet_beside n e = beside (suc n) (λ k lt. inr (unmet_before n e k (omega (arith, lt))))

    met_too : (n : ℕ) → r.met n ≡ true → r'.met n ≡ true
    met_too zero e = (beside 0 (λ j lt. absurd (omega (arith, lt)))).met ∙ e
    met_too (suc n) e = by (r.met n) refl (λ q. met_too n q) where
      by : (b : Bool) → r.met n ≡ b → (r.met n ≡ true → r'.met n ≡ true) → r'.met (suc n) ≡ true
      by true q before = second.stays_met n (before q)
      by false q before = (unmet_beside n q).met ∙ e

    none_early : ((n : ℕ) → r.early n ≡ []) → (n : ℕ) → r'.early n ≡ []
    none_early none zero = (beside 0 (λ j lt. absurd (omega (arith, lt)))).early ∙ none 0
    none_early none (suc n) = by (r.met n) refl (none_early none n) where
      by : (b : Bool) → r.met n ≡ b → r'.early n ≡ [] → r'.early (suc n) ≡ []
      by true q before = second.early_stays n (met_too n q) ∙ before
      by false q before = (unmet_beside n q).early ∙ none (suc n)

    -- ---- the headline
    module _ (objects : (line : ObjectLine) (b : ℕ) → Contains content.objects line → b < line.size → (0x20 ≤ line.address + b) × (line.address + b < 0x50))
        (frames : (line : FrameLine) (b : ℕ) → Contains content.frames line → b < line.size → (0x20 ≤ line.address + b) × (line.address + b < 0x50))
        (there : (i : ℕ) (line : ObjectLine) → slice_get content.objects i ≡ Some line → Contains content.objects line) (f : Follows source content inputs arrivals r) where
      pub carried : Follows source content inputs arrivals r'
      carried = record {
        prefix = λ n c.
            let x = all_beside n c in
            let p = f.prefix n x.1 in
            (p.0, subst (λ (z : SourceRun). IsFrontOf (r'.trace n) (z.trace p.0)) (sym (same_run n n x.0 (omega arith))) (subst (λ (t : List Event). IsFrontOf t ((at n).trace p.0)) (sym (x.0 n (omega arith)).trace) p.1));
        pace = λ n t m c le quiet long.
            let x = all_beside n c in
            let p = f.pace n t m x.1 le quiet long in
            subst (λ (z : SourceRun). HasNext z (length (r'.trace t)) m (r'.trace n)) (sym (same_run n n x.0 (omega arith)))
            (subst (λ (u : List Event). HasNext (at n) (length u) m (r'.trace n)) (sym (x.0 t le).trace) (subst (λ (u : List Event). HasNext (at n) (length (r.trace t)) m u) (sym (x.0 n (omega arith)).trace) p));
        end_state = λ n i k line c met is off lt.
            let x = all_beside n c in
            let b = x.0 n (omega arith) in
            let a = objects line k (there i line is) lt in
            b.byte (line.address + k) a.0 a.1 ∙ f.end_state n i k line x.1 (sym b.met ∙ met) is off lt
            ∙ ap (last_written i k (slice_index (slice_index_or source.initial i []) k)) (sym b.trace);
        no_underflow = λ n k c le. let x = all_beside n c in let b = x.0 k le in subst (λ z. z ≤ r'.pushes k) (sym b.pops) (subst (λ z. r.pops k ≤ z) (sym b.pushes) (f.no_underflow n k x.1 le));
        no_overflow = λ n k c le. let x = all_beside n c in let b = x.0 k le in subst (λ z. z ≤ r'.pops k + 8) (sym b.pushes) (subst (λ z. r.pushes k ≤ z + 8) (sym b.pops) (f.no_overflow n k x.1 le));
        frames = λ n k b line c lt met is lb kept.
            let x = all_beside n c in
            let one = x.0 k (omega (arith, lt)) in
            let two = x.0 (k + 1) (omega (arith, lt)) in
            let a = frames line b is lb in
            two.byte (line.address + b) a.0 a.1 ∙ f.frames n k b line x.1 lt (sym one.met ∙ met) is lb (ap (λ h. is_guarded h line.root) (sym one.handling) ∙ kept) ∙ sym (one.byte (line.address + b) a.0 a.1);
        start_up = met_too 4096 f.start_up;
        no_early_access = none_early f.no_early_access;
      }
