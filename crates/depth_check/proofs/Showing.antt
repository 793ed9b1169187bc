-- A certificate that shows what a settled search has found, beside a valid one with the same cell and interrupts.
use Rattle.std.proofs.Common.{◌≡◌, ℕ, zero, suc, ◌+◌, ◌<◌, ◌≤◌, Bool, true, false, List, [], ◌∷◌, length, Option, Some, None, inl, inr, refl, sym, ap, ◌∙◌, subst, ⊎_elim, arith}
use Rattle.std.specs.Prelude.{if◌then◌else◌, not, ◌&&◌, ◌||◌, nat_eq, nat_lt, nat_le, slice_index, slice_index_or, slice_get}
use Rattle.std.specs.List.{list_all}
use Rattle.std.proofs.lemmas.Bool.{and_parts, and_from, or_cases, or_left, or_right, eqb-true, eq-eqb, lt-ltb, le-leb, ltb-true, ltb-false}
use Rattle.pic_isa.specs.declared.Ins.{Ins}
use Rattle.pic_isa.specs.declared.Ins.TheVariants.{Call, Goto, Retfie, Retlw, Return, Sleep}
use Rattle.pic_isa.specs.Lookup.{row_of}
use Rattle.depth_check.specs.declared.Facts.{Facts}
use Rattle.depth_check.specs.declared.Row.{Row}
use Rattle.depth_check.specs.declared.Routine.{Routine}
use Rattle.depth_check.specs.declared.tables.Spot.{Spot}
use Rattle.depth_check.specs.declared.tables.Out.{Out}
use Rattle.depth_check.specs.Certificate.{Certificate}
use Rattle.depth_check.specs.Facts.{known_in, fits, bits, target, after, may_skip, at_reset, at_interrupt}
use Rattle.depth_check.specs.Valid.{routine, row_at, stands, has_row, instruction, is_return, returns, comes_back, leaves, goes_straight, next, next_but_one, is_root, is_bare, is_rising, is_met, all_met, call_height, height_at, height_of, height, agree, is_none, is_row_of, is_entry, roots_hold, instruction_holds, row_holds, routine_holds, routines_hold, lets_in, writes_intcon, total_of, is_valid}
use Rattle.depth_check.specs.Search.{Tables, spot_at, out_at, put, beside, entering, leave, gone, come_back, with_callee, called, skipped, passed, done, done_by, step_from, step, with_handler, with_roots, position, is_first, first_entries, entries_of, row_for, rows_from, isr_of, p3_of, p4_of, certificate_of, with_bound, raised_to, raised_by, raised_from, raised}
use Rattle.depth_check.specs.Found.{number, routine_or_none, IsPlaced, Owns, IsUnder, IsSettled, IsSearch, IsBest}
use Rattle.depth_check.proofs.Threads.{In, in_any, main_row, main_isr, main_entry, handler, handler_entry, rises, all_hold, every_met, let_in, small_total, in_height, lo, hi}
use Rattle.depth_check.proofs.Complete.{any_in, all_in, own, found_in, same_row, every_row, all_there}
use Rattle.depth_check.proofs.Closed.{closed_to, closed_at, closed_call, is_closed, Alike, instruction_good}
use Rattle.depth_check.proofs.Below.{less_of, less_same, fits_of, same_target}
use Rattle.depth_check.proofs.Transfer.{call}
use Rattle.depth_check.proofs.Bounds.{height_least, all_routines}
use Rattle.depth_check.proofs.Sure.{Fact, fact, falls, stands_at, below}
use Rattle.depth_check.proofs.Growing.{Fits, put_moves, same_spot, inside}
use Rattle.depth_check.proofs.Step.{is_straight}
use Rattle.depth_check.proofs.Stepping.{p, goto_fits, callee_fits, back_fits, beside_fits, straight, root_fits, bare_behind}
use Rattle.depth_check.proofs.Spots.{within}
use Rattle.depth_check.proofs.Through.{each_met}
use Rattle.depth_check.proofs.Entries.{get_there, all_each, row_of_spot, row_there, rows_rise}
use Rattle.depth_check.proofs.Shown.{Shows, FromSpot, plus, held, entry_at, distinct, main_place, handler_place, owns_first, same_entry, shows_one, bound_same, bound_most, bound_grows, first_routine, start_shows}
use Rattle.depth_check.proofs.Quiet.{WasThere, put_quiet, WasLeft, leave_quiet}

module _ (image : List ℕ) (c : Certificate) (valid : is_valid image c ≡ true) (t : Tables) (cell : c.cell ≡ t.cell) (interrupts : c.interrupts ≡ t.interrupts)
    (spots : length t.spots ≡ 8192) (outs : length t.outs ≡ 8192) (u : IsUnder image c t) (settled : IsSettled image t 8192) where
  abbrev es : List ℕ
  es = entries_of t

  abbrev place : ℕ → ℕ
  place e = position e (entries_of t)

  -- ---- the roots
  abbrev first : Tables
  first = put t 0 (entering 0 false at_reset)

  roots_still : (with_handler first t.interrupts).changed ≡ false
  unfolding with_roots
  roots_still = settled.roots

  handler_quiet : (v : Tables) (b : Bool) → (with_handler v b).changed ≡ false → v.changed ≡ false
  handler_quiet v false q = q
  handler_quiet v true q = ((put_moves v 4 (entering 4 true at_interrupt)).quiet q).0

  main_still : first.changed ≡ false
  main_still = handler_quiet first t.interrupts roots_still

  main_there : WasThere t 0 at_reset
  main_there = put_quiet t 0 (entering 0 false at_reset) (omega (arith, spots)) main_still

  handler_still : t.interrupts ≡ true → (put t 4 (entering 4 true at_interrupt)).changed ≡ false
  handler_still e = subst (λ v. (put v 4 (entering 4 true at_interrupt)).changed ≡ false) ((put_moves t 0 (entering 0 false at_reset)).quiet main_still).1 (subst (λ b. (with_handler first b).changed ≡ false) e roots_still)

  handler_there : t.interrupts ≡ true → WasThere t 4 at_interrupt
  handler_there e = put_quiet t 4 (entering 4 true at_interrupt) (omega (arith, spots)) (handler_still e)

  main_fits : Fits image c t 0 (entering 0 false at_reset)
  main_fits = root_fits image c valid t 0 0 false at_reset (main_row image c valid) (main_entry image c valid) (main_isr image c valid) (or_right (c.interrupts && nat_eq 0 4) true refl)

  handler_fits : t.interrupts ≡ true → Fits image c t 4 (entering 4 true at_interrupt)
  handler_fits e =
      let i = interrupts ∙ e in
      let h = handler image c valid i in
      root_fits image c valid t 4 1 true at_interrupt h.1 (handler_entry image c valid i) h.0 (or_left (c.interrupts && nat_eq 4 4) false (ap (λ z. z && nat_eq 4 4) i))

  -- ---- entries
  owns_main : Owns t 0
  owns_main = let w = main_there in record { spot = w.spot; is = w.is; same = same_spot c 0 w.spot (entering 0 false at_reset) (u.placed 0 w.spot w.is) main_fits.placed }

  owns_handler : t.interrupts ≡ true → Owns t 4
  owns_handler e = let w = handler_there e in record { spot = w.spot; is = w.is; same = same_spot c 4 w.spot (entering 4 true at_interrupt) (u.placed 4 w.spot w.is) (handler_fits e).placed }

  start_owned : (b : Bool) → t.interrupts ≡ b → (n : ℕ) → n < length (first_entries b) → Owns t (slice_index_or (first_entries b) n 0)
  start_owned false e zero lt = owns_main
  start_owned false e (suc n) lt = absurd (omega arith)
  start_owned true e zero lt = owns_main
  start_owned true e (suc zero) lt = owns_handler e
  start_owned true e (suc (suc n)) lt = absurd (omega arith)

  -- each number of the list is the entry of a routine that was found
  pub entries_owned : (n : ℕ) → n < length (entries_of t) → Owns t (slice_index_or (entries_of t) n 0)
  entries_owned = all_each (Owns t) 0 t.spots (first_entries t.interrupts)
      (λ k h. subst (Owns t) (sym (plus t k)) (owns_first t k (spot_at t k) refl (subst (λ j. is_first j (spot_at t k) ≡ true) (plus t k) h)))
      (start_owned t.interrupts refl)

  -- ---- routines of the one and of the other
  -- the routine of c with an entry that was found
  pub routine_c : (e : ℕ) → Owns t e → (s : Row) × (row_at c.rows e ≡ Some s) × (s.routine ≡ number c e) × ((routine c (number c e)).entry ≡ e)
  routine_c e o =
      let p = u.placed e o.spot o.is in
      let n : number c e ≡ p.row.routine = ap routine_or_none p.is in
      (p.row, p.is, sym n, ap (λ k. (routine c k).entry) n ∙ p.entry_is ∙ o.same)

  placed_low : (to : ℕ) (y : Spot) → Fits image c t to y → to < 8192
  placed_low to y f = below image c valid to f.placed.row.routine f.placed.row.facts (subst (λ o. stands f.placed.row.routine f.placed.row.facts o ≡ true) (sym f.placed.is)
      (and_from (nat_eq f.placed.row.routine f.placed.row.routine) (fits f.placed.row.facts f.placed.row.facts) (eq-eqb f.placed.row.routine f.placed.row.routine refl) (fits_of f.placed.row.facts f.placed.row.facts (less_same f.placed.row.facts))))

  module _ (d : Certificate) (w : Shows t d) where
    d_isr : (e : ℕ) (o : Owns t e) → (routine d (position e (entries_of t))).isr ≡ o.spot.isr
    d_isr e o = w.isr (position e (entries_of t)) (held t e o) ∙ ap (λ k. isr_of (spot_at t k)) (entry_at t e o) ∙ ap isr_of o.is

    pub isr_alike : (e : ℕ) → Owns t e → (routine d (position e (entries_of t))).isr ≡ (routine c (number c e)).isr
    isr_alike e o = let p = u.placed e o.spot o.is in d_isr e o ∙ sym p.isr_is ∙ ap (λ k. (routine c k).isr) (sym (ap routine_or_none p.is))

    pub d_entry : (e : ℕ) → Owns t e → (routine d (position e (entries_of t))).entry ≡ e
    d_entry e o = w.entry (position e (entries_of t)) (held t e o) ∙ entry_at t e o

    pub d_out3 : (e : ℕ) → Owns t e → (routine d (position e (entries_of t))).out3 ≡ p3_of (out_at t e)
    d_out3 e o = w.out3 (position e (entries_of t)) (held t e o) ∙ ap (λ k. p3_of (out_at t k)) (entry_at t e o)

    pub d_out4 : (e : ℕ) → Owns t e → (routine d (position e (entries_of t))).out4 ≡ p4_of (out_at t e)
    d_out4 e o = w.out4 (position e (entries_of t)) (held t e o) ∙ ap (λ k. p4_of (out_at t k)) (entry_at t e o)

    both_false : (a b : Bool) → (a ≡ true → b ≡ true) → (b ≡ true → a ≡ true) → a ≡ b
    both_false true b f g = sym (f refl)
    both_false false true f g = g refl
    both_false false false f g = refl

    -- the root with the number n is the one with the entry r
    one_root : (e r n : ℕ) → Owns t e → Owns t r → position r (entries_of t) ≡ n → number c r ≡ n → nat_eq (position e (entries_of t)) n ≡ nat_eq (number c e) n
    one_root e r n o q at_d at_c = both_false (nat_eq (position e (entries_of t)) n) (nat_eq (number c e) n)
        (λ h. eq-eqb (number c e) n (ap (number c) (same_entry t e r o q (eqb-true (position e (entries_of t)) n h ∙ sym at_d)) ∙ at_c))
        (λ h. eq-eqb (position e (entries_of t)) n (ap (λ k. position k (entries_of t)) (sym (routine_c e o).3 ∙ ap (λ k. (routine c k).entry) (eqb-true (number c e) n h ∙ sym at_c) ∙ (routine_c r q).3) ∙ at_d))

    number_main : number c 0 ≡ 0
    number_main = let s = stands_at image c valid 0 0 at_reset (main_row image c valid) in ap routine_or_none s.is ∙ s.same

    number_handler : c.interrupts ≡ true → number c 4 ≡ 1
    number_handler e = let s = stands_at image c valid 4 1 at_interrupt (handler image c valid e).1 in ap routine_or_none s.is ∙ s.same

    main_alike : (e : ℕ) → Owns t e → nat_eq (position e (entries_of t)) 0 ≡ nat_eq (number c e) 0
    main_alike e o = one_root e 0 0 o owns_main (main_place t) number_main

    handler_alike : (e : ℕ) → Owns t e → c.interrupts ≡ true → nat_eq (position e (entries_of t)) 1 ≡ nat_eq (number c e) 1
    handler_alike e o i = let j = sym interrupts ∙ i in one_root e 4 1 o (owns_handler j) (handler_place t j) (number_handler i)

    root_alike : (e : ℕ) → Owns t e → is_root d (position e (entries_of t)) ≡ is_root c (number c e)
    root_alike e o = by c.interrupts refl where
      m : nat_eq (position e (entries_of t)) 0 ≡ nat_eq (number c e) 0
      m = main_alike e o

      by : (b : Bool) → c.interrupts ≡ b → (nat_eq (position e (entries_of t)) 0 || (d.interrupts && nat_eq (position e (entries_of t)) 1)) ≡ (nat_eq (number c e) 0 || (c.interrupts && nat_eq (number c e) 1))
      by true i = ap (λ z. z || (d.interrupts && nat_eq (position e (entries_of t)) 1)) m ∙ ap (λ z. nat_eq (number c e) 0 || (z && nat_eq (position e (entries_of t)) 1)) (w.interrupts ∙ sym interrupts) ∙ ap (λ z. nat_eq (number c e) 0 || (c.interrupts && z)) (handler_alike e o i)
      by false i = ap (λ z. z || (d.interrupts && nat_eq (position e (entries_of t)) 1)) m ∙ ap (λ z. nat_eq (number c e) 0 || (z && nat_eq (position e (entries_of t)) 1)) (w.interrupts ∙ sym interrupts ∙ i) ∙ sym (ap (λ z. nat_eq (number c e) 0 || (z && nat_eq (number c e) 1)) i)

    pub alike_entry : (e : ℕ) → Owns t e → Alike image c d (w.cell ∙ sym cell) (w.interrupts ∙ sym interrupts) (position e (entries_of t)) (number c e)
    alike_entry e o = record {
      root = root_alike e o;
      isr = isr_alike e o;
      handler = handler_alike e o;
      needs = (let r = routine_c e o in let f = fact image c valid e r.0 r.1 in λ h. f.needs (ap (λ k. (routine c k).isr) r.2 ∙ h));
    }

    -- ---- rows
    pub row_d : (at : ℕ) → row_at d.rows at ≡ row_of_spot (entries_of t) at (spot_at t at)
    row_d at = ap (λ rows. row_at rows at) w.rows ∙ subst (λ k. row_at (rows_from (entries_of t) 0 t.spots) k ≡ row_of_spot (entries_of t) k (spot_at t at)) (plus t at) (row_there (entries_of t) 0 t.spots at)

    pub rises_d : is_rising 0 d.rows ≡ true
    rises_d = ap (is_rising 0) w.rows ∙ rows_rise (entries_of t) 0 t.spots (omega (arith, spots))

    pub row_at_spot : (at : ℕ) (s : Spot) → spot_at t at ≡ Some s → row_at d.rows at ≡ Some (row_for (entries_of t) at s)
    row_at_spot at s e = row_d at ∙ ap (row_of_spot (entries_of t) at) e

    pub from_spot : (at : ℕ) (r : Row) → row_at d.rows at ≡ Some r → FromSpot t at r
    from_spot at r e = by (spot_at t at) refl (sym (row_d at) ∙ e) where
      by : (o : Option Spot) → spot_at t at ≡ o → row_of_spot (entries_of t) at o ≡ Some r → FromSpot t at r
      by None q h = absurd (cc)
      by (Some s) q h = record { spot = s; is = q; same = inside r (row_for (entries_of t) at s) (sym h) }

    pub member_spot : (r : Row) → In r d.rows → FromSpot t r.at r
    member_spot r is = from_spot r.at r (own 0 r d.rows rises_d is)

    -- what was put without a change stands in the certificate
    pub asked : (to : ℕ) (y : Spot) → Fits image c t to y → (put t to y).changed ≡ false → has_row d to (position y.entry (entries_of t)) y.facts ≡ true
    asked to y f q =
        let x = put_quiet t to y (subst (λ n. to < n) (sym spots) (placed_low to y f)) q in
        let e = same_spot c to x.spot y (u.placed to x.spot x.is) f.placed in
        subst (λ o. stands (position y.entry (entries_of t)) y.facts o ≡ true) (sym (row_at_spot to x.spot x.is))
        (and_from (nat_eq (position x.spot.entry (entries_of t)) (position y.entry (entries_of t))) (fits y.facts x.spot.facts) (eq-eqb _ _ (ap (λ k. position k (entries_of t)) e)) x.fit)

    -- ---- nothing more is asked for
    module _ (at : ℕ) (s : Spot) (is : spot_at t at ≡ Some s) where
      low : at < 8192
      low = subst (λ n. at < n) spots (within t.spots at s is)

      still : (done_by t at s (row_of (slice_index image at))).changed ≡ false
      unfolding step
      still = subst (λ o. (step_from image t at o).changed ≡ false) is (settled.rows at low)

      mine : Owns t s.entry
      mine = u.owned at s is

      abbrev r : Row
      r = row_for (entries_of t) at s

      -- what is known where the routine is left
      left_known : is_return (row_of (slice_index image at)) ≡ true → WasLeft t s.entry s.facts
      left_known h = by (row_of (slice_index image at)) still h where
        quiet : (leave t s.entry s.facts).changed ≡ false → WasLeft t s.entry s.facts
        quiet q = leave_quiet t s.entry s.facts (subst (λ n. s.entry < n) (spots ∙ sym outs) (within t.spots s.entry mine.spot mine.is)) q

        by : (o : Option Ins) → (done_by t at s o).changed ≡ false → is_return o ≡ true → WasLeft t s.entry s.facts
        by None q h = absurd (cc)
        by (Some (Retlw k)) q h = quiet q
        by (Some Return) q h = quiet q
        by (Some i) q h = absurd (cc)

    -- a routine that returns in the certificate was seen to return
    pub record WasSeen (to : ℕ) : Type 0 where
      pub out : Out
      pub is : out_at t to ≡ Some out

    returned : (to : ℕ) → Owns t to → returns image d (position to (entries_of t)) ≡ true → WasSeen to
    returned to o h =
        let a = any_in (λ v. nat_eq v.routine (position to (entries_of t)) && is_return (instruction image v)) d.rows h in
        let p = and_parts (nat_eq a.0.routine (position to (entries_of t))) (is_return (instruction image a.0)) a.2 in
        let m = member_spot a.0 a.1 in
        let e : m.spot.entry ≡ to = same_entry t m.spot.entry to (u.owned a.0.at m.spot m.is) o (sym (ap (λ (v : Row). v.routine) m.same) ∙ eqb-true _ _ p.0) in
        let l = left_known a.0.at m.spot m.is p.1 in
        record { out = l.out; is = subst (λ k. out_at t k ≡ Some l.out) e l.is }

    module _ (at : ℕ) (s : Spot) (is : spot_at t at ≡ Some s) where
      own_entry : Owns t s.entry
      own_entry = u.owned at s is

      module _ (i : Ins) (e : row_of (slice_index image at) ≡ Some i) where
        done_still : (done t at s i).changed ≡ false
        done_still = subst (λ o. (done_by t at s o).changed ≡ false) e (still at s is)

        goto_closed : (k : ℕ) → i ≡ Goto k → (o : Option ℕ) → target s.facts.p3 s.facts.p4 k ≡ o → (gone t s o).changed ≡ false → closed_to d (r at s is) o ≡ true
        goto_closed k j None h q = refl
        goto_closed k j (Some to) h q = asked to s (goto_fits image t at s is i e c valid cell u k to j h) q

        back_closed : (k to : ℕ) → i ≡ Call k → target s.facts.p3 s.facts.p4 k ≡ Some to → Owns t to → (come_back t at s (out_at t to)).changed ≡ false → comes_back image d (r at s is) (position to (entries_of t)) ≡ true
        back_closed k to j h o q = by (returns image d (position to (entries_of t))) refl where
          behind : (x : Out) → out_at t to ≡ Some x → has_row d (next at) (position s.entry (entries_of t)) (bits (routine d (position to (entries_of t))).out3 (routine d (position to (entries_of t))).out4 s.facts.saved) ≡ true
          behind x is_x =
              let b = asked (next at) (beside s (bits x.p3 x.p4 s.facts.saved)) (back_fits image t at s is i e c valid cell u k to j h t u own_entry x is_x) (subst (λ z. (come_back t at s z).changed ≡ false) is_x q) in
              subst (λ z. has_row d (next at) (position s.entry (entries_of t)) (bits z (routine d (position to (entries_of t))).out4 s.facts.saved) ≡ true) (sym (d_out3 to o ∙ ap p3_of is_x))
              (subst (λ z. has_row d (next at) (position s.entry (entries_of t)) (bits x.p3 z s.facts.saved) ≡ true) (sym (d_out4 to o ∙ ap p4_of is_x)) b)

          by : (b : Bool) → returns image d (position to (entries_of t)) ≡ b → (not b || has_row d (next at) (position s.entry (entries_of t)) (bits (routine d (position to (entries_of t))).out3 (routine d (position to (entries_of t))).out4 s.facts.saved)) ≡ true
          by false z = refl
          by true z = let x = returned to o z in behind x.out x.is

        come_quiet : (v : Tables) (o : Option Out) → (come_back v at s o).changed ≡ false → v.changed ≡ false
        come_quiet v None q = q
        come_quiet v (Some o) q = ((put_moves v (next at) (beside s (bits o.p3 o.p4 s.facts.saved))).quiet q).0

        -- what is called is the first row of its routine
        callee_closed : (k to : ℕ) → i ≡ Call k → target s.facts.p3 s.facts.p4 k ≡ Some to → (called t at s (Some to)).changed ≡ false → closed_at image d (r at s is) to (row_at d.rows to) ≡ true
        callee_closed k to j h q =
            let y = entering to s.isr (bits s.facts.p3 s.facts.p4 false) in
            let f = callee_fits image t at s is i e c valid cell u k to j h in
            let q1 = come_quiet (with_callee t s to) (out_at (with_callee t s to) to) q in
            let same = ((put_moves t to y).quiet q1).1 in
            let q2 : (come_back t at s (out_at t to)).changed ≡ false = subst (λ z. (come_back z at s (out_at z to)).changed ≡ false) same q in
            let x = put_quiet t to y (subst (λ n. to < n) (sym spots) (placed_low to y f)) q1 in
            let n : x.spot.entry ≡ to = same_spot c to x.spot y (u.placed to x.spot x.is) f.placed in
            let o : Owns t to = record { spot = x.spot; is = x.is; same = n } in
            subst (λ z. closed_at image d (r at s is) to z ≡ true) (sym (row_at_spot to x.spot x.is))
            (and_from (nat_eq (routine d (position x.spot.entry (entries_of t))).entry to && fits (bits s.facts.p3 s.facts.p4 false) x.spot.facts) (comes_back image d (r at s is) (position x.spot.entry (entries_of t)))
            (and_from (nat_eq (routine d (position x.spot.entry (entries_of t))).entry to) (fits (bits s.facts.p3 s.facts.p4 false) x.spot.facts)
            (eq-eqb _ _ (ap (λ z. (routine d (position z (entries_of t))).entry) n ∙ d_entry to o)) x.fit)
            (subst (λ z. comes_back image d (r at s is) (position z (entries_of t)) ≡ true) (sym n) (back_closed k to j h o q2)))

        call_closed : (k : ℕ) → i ≡ Call k → (o : Option ℕ) → target s.facts.p3 s.facts.p4 k ≡ o → (called t at s o).changed ≡ false → closed_call image d (r at s is) o ≡ true
        call_closed k j None h q = refl
        call_closed k j (Some to) h q = callee_closed k to j h q

        leaves_closed : is_return (Some i) ≡ true → leaves (routine d (position s.entry (entries_of t))) s.facts ≡ true
        leaves_closed h =
            let l = left_known at s is (ap is_return e ∙ h) in
            subst (λ z. (known_in z s.facts.p3 && known_in (routine d (position s.entry (entries_of t))).out4 s.facts.p4) ≡ true) (sym (d_out3 s.entry own_entry ∙ ap p3_of l.is))
            (subst (λ z. (known_in l.out.p3 s.facts.p3 && known_in z s.facts.p4) ≡ true) (sym (d_out4 s.entry own_entry ∙ ap p4_of l.is)) l.fit)

        straight_closed : is_straight i ≡ true → (passed t at s i).changed ≡ false → goes_straight d (r at s is) i ≡ true
        straight_closed st q = subst (λ z. (has_row d (next at) (position s.entry (entries_of t)) (after z i s.facts) && (not (may_skip i) || has_row d (next_but_one at) (position s.entry (entries_of t)) (after z i s.facts))) ≡ true) (sym w.cell) (by (may_skip i) refl q) where
          x : Facts
          x = after t.cell i s.facts

          g : (has_row c (next at) (p image t at s is i e c valid cell u).row.routine x ≡ true) × (may_skip i ≡ true → has_row c (next_but_one at) (p image t at s is i e c valid cell u).row.routine x ≡ true)
          g = straight image t at s is i e c valid cell u st

          one : (put t (next at) (beside s x)).changed ≡ false → has_row d (next at) (position s.entry (entries_of t)) x ≡ true
          one q = asked (next at) (beside s x) (beside_fits image t at s is i e c valid cell u (next at) x g.0 (bare_behind t.cell i s.facts)) q

          by : (b : Bool) → may_skip i ≡ b → (skipped (put t (next at) (beside s x)) at (beside s x) b).changed ≡ false → (has_row d (next at) (position s.entry (entries_of t)) x && (not b || has_row d (next_but_one at) (position s.entry (entries_of t)) x)) ≡ true
          by false h q = and_from (has_row d (next at) (position s.entry (entries_of t)) x) true (one q) refl
          by true h q =
              let m = (put_moves (put t (next at) (beside s x)) (next_but_one at) (beside s x)).quiet q in
              let k = (put_moves t (next at) (beside s x)).quiet m.0 in
              and_from (has_row d (next at) (position s.entry (entries_of t)) x) (has_row d (next_but_one at) (position s.entry (entries_of t)) x) (one m.0)
              (asked (next_but_one at) (beside s x) (beside_fits image t at s is i e c valid cell u (next_but_one at) x (g.1 h) (bare_behind t.cell i s.facts)) (subst (λ z. (put z (next_but_one at) (beside s x)).changed ≡ false) k.1 q))

      closed_by : (i : Ins) (e : row_of (slice_index image at) ≡ Some i) → (done t at s i).changed ≡ false → is_closed image d (r at s is) i ≡ true
      closed_by (Goto k) e q = goto_closed (Goto k) e k refl (target s.facts.p3 s.facts.p4 k) refl q
      closed_by (Call k) e q = call_closed (Call k) e k refl (target s.facts.p3 s.facts.p4 k) refl q
      closed_by Return e q = leaves_closed Return e refl
      closed_by (Retlw k) e q = leaves_closed (Retlw k) e refl
      closed_by Retfie e q = refl
      closed_by Sleep e q = refl
      closed_by i e q = straight_closed i e refl q

      pub closed_spot : (i : Ins) → row_of (slice_index image at) ≡ Some i → is_closed image d (r at s is) i ≡ true
      closed_spot i e = closed_by i e (done_still i e)

    pub closed_row : (v : Row) (i : Ins) → In v d.rows → instruction image v ≡ Some i → is_closed image d v i ≡ true
    closed_row v i m e = let f = member_spot v m in subst (λ z. is_closed image d z i ≡ true) (sym f.same) (closed_spot v.at f.spot f.is i e)

  -- ---- bounds
  module _ (at : ℕ) (s : Spot) (is : spot_at t at ≡ Some s) where
    abbrev its : IsPlaced c at s
    its = u.placed at s is

    abbrev sure : Fact image c valid at its.row
    sure = fact image c valid at its.row its.is

    quiet_here : (done_by t at s (row_of (slice_index image at))).changed ≡ false
    unfolding step
    quiet_here = subst (λ o. (step_from image t at o).changed ≡ false) is (settled.rows at (subst (λ n. at < n) spots (within t.spots at s is)))

    instruction_c : (i : Ins) → row_of (slice_index image at) ≡ Some i → instruction image its.row ≡ Some i
    instruction_c i e = ap (λ k. row_of (slice_index image k)) sure.at_is ∙ e

    come_back_quiet : (v : Tables) (o : Option Out) → (come_back v at s o).changed ≡ false → v.changed ≡ false
    come_back_quiet v None q = q
    come_back_quiet v (Some o) q = ((put_moves v (next at) (beside s (bits o.p3 o.p4 s.facts.saved))).quiet q).0

    call_owned : (k to : ℕ) → row_of (slice_index image at) ≡ Some (Call k) → target s.facts.p3 s.facts.p4 k ≡ Some to → Owns t to
    call_owned k to e h =
        let y = entering to s.isr (bits s.facts.p3 s.facts.p4 false) in
        let q : (done_by t at s (Some (Call k))).changed ≡ false = subst (λ o. (done_by t at s o).changed ≡ false) e quiet_here in
        let q1 : (called t at s (Some to)).changed ≡ false = subst (λ o. (called t at s o).changed ≡ false) h q in
        let f = callee_fits image t at s is (Call k) e c valid cell u k to refl h in
        let x = put_quiet t to y (subst (λ n. to < n) (sym spots) (placed_low to y f)) (come_back_quiet (with_callee t s to) (out_at (with_callee t s to) to) q1) in
        record { spot = x.spot; is = x.is; same = same_spot c to x.spot y (u.placed to x.spot x.is) f.placed }

    -- what a CALL calls, here and in c
    record Deep (k : ℕ) : Type 0 where
      pub to : ℕ
      pub target_is : target s.facts.p3 s.facts.p4 k ≡ Some to
      pub owned : Owns t to
      pub in_c : height_at c (target its.row.facts.p3 its.row.facts.p4 k) ≡ 1 + (routine c (number c to)).bound
      pub less : (routine c (number c to)).bound < (routine c (number c s.entry)).bound

    deep : (k : ℕ) → row_of (slice_index image at) ≡ Some (Call k) → Deep k
    deep k e =
        let q = call image c its.row sure.ok its.row.facts (fits_of its.row.facts its.row.facts (less_same its.row.facts)) k (instruction_c (Call k) e) in
        let l = less_of s.facts its.row.facts its.fit in
        let h = same_target its.row.facts.p3 its.row.facts.p4 s.facts.p3 s.facts.p4 k q.at l.p3 l.p4 q.target_is in
        let n : number c q.at ≡ q.entry.routine = ap routine_or_none q.row_is in
        record {
          to = q.at;
          target_is = h;
          owned = call_owned k q.at e h;
          in_c = ap (height_at c) q.target_is ∙ ap (height_of c) q.row_is ∙ ap (λ z. 1 + (routine c z).bound) (sym n);
          less = subst (λ z. (routine c z).bound < (routine c (number c s.entry)).bound) (sym n)
              (subst (λ z. (routine c q.entry.routine).bound < (routine c z).bound) (sym its.number_is) (falls image c valid its.row sure.member k q.at q.entry (instruction_c (Call k) e) q.target_is q.row_is));
        }

    call_d : (d : Certificate) → Shows t d → (k : ℕ) (x : Deep k) → call_height d (row_for (entries_of t) at s) (Some (Call k)) ≡ 1 + (routine d (position x.to (entries_of t))).bound
    call_d d w k x = ap (height_at d) x.target_is ∙ ap (height_of d) (row_at_spot d w x.to x.owned.spot x.owned.is) ∙ ap (λ z. 1 + (routine d (position z (entries_of t))).bound) x.owned.same

  abbrev AtMost : Certificate → Type 0
  AtMost d = (e : ℕ) → Owns t e → (routine d (position e (entries_of t))).bound ≤ (routine c (number c e)).bound

  abbrev Upto : ℕ → Certificate → Type 0
  Upto k d = (e : ℕ) → Owns t e → (routine c (number c e)).bound < k → (routine c (number c e)).bound ≤ (routine d (position e (entries_of t))).bound

  abbrev Grows : Certificate → Certificate → Type 0
  Grows d v = (e : ℕ) → Owns t e → (routine d (position e (entries_of t))).bound ≤ (routine v (position e (entries_of t))).bound

  nothing : (m : ℕ) → 0 ≤ m
  nothing m = omega arith

  module _ (at : ℕ) (s : Spot) (is : spot_at t at ≡ Some s) where
    abbrev here : Row
    here = row_for (entries_of t) at s

    abbrev there : Row
    there = (its at s is).row

    -- no higher than c has it
    most_here : (d : Certificate) → Shows t d → AtMost d → call_height d here (instruction image here) ≤ (routine c (number c s.entry)).bound
    most_here d w m = by (row_of (slice_index image at)) refl where
      by : (o : Option Ins) → row_of (slice_index image at) ≡ o → call_height d here o ≤ (routine c (number c s.entry)).bound
      by None e = nothing (routine c (number c s.entry)).bound
      by (Some (Call k)) e = let x = deep at s is k e in let h = call_d at s is d w k x in let l = m x.to x.owned in let f = x.less in omega (arith, h, l, f)
      by (Some i) e = nothing (routine c (number c s.entry)).bound

    grown_here : (d v : Certificate) → Shows t d → Shows t v → Grows d v → call_height d here (instruction image here) ≤ call_height v here (instruction image here)
    grown_here d v w x g = by (row_of (slice_index image at)) refl where
      by : (o : Option Ins) → row_of (slice_index image at) ≡ o → call_height d here o ≤ call_height v here o
      by None e = nothing 0
      by (Some (Call k)) e = let y = deep at s is k e in let h = call_d at s is d w k y in let j = call_d at s is v x k y in let l = g y.to y.owned in omega (arith, h, j, l)
      by (Some i) e = nothing 0

    -- as high as c has it, where the bounds below are
    reached_here : (d : Certificate) → Shows t d → (k : ℕ) → Upto k d → (routine c (number c s.entry)).bound < k + 1 → call_height c there (instruction image there) ≤ call_height d here (instruction image here)
    reached_here d w k h lt = subst (λ o. call_height c there o ≤ call_height d here (row_of (slice_index image at))) (sym (ap (λ z. row_of (slice_index image z)) (sure at s is).at_is)) (by (row_of (slice_index image at)) refl) where
      by : (o : Option Ins) → row_of (slice_index image at) ≡ o → call_height c there o ≤ call_height d here o
      by None e = nothing 0
      by (Some (Call j)) e =
          let y = deep at s is j e in let a = call_d at s is d w j y in let b = y.in_c in let l = y.less in let z = h y.to y.owned (omega (arith, l, lt)) in
          omega (arith, a, b, z)
      by (Some i) e = nothing 0

  -- one row, or several, after another
  record Raised (d v : Certificate) : Type 0 where
    pub shows : Shows t v
    pub grows : Grows d v
    pub most : AtMost v

  raised_same : (d : Certificate) → Shows t d → AtMost d → Raised d d
  raised_same d w m = record { shows = w; grows = λ e o. omega arith; most = m }

  raise_to : (d : Certificate) (w : Shows t d) (m : AtMost d) (e : ℕ) (o : Owns t e) (b : ℕ) → b ≤ (routine c (number c e)).bound → (routine c (number c e)).bound ≤ 8
      → Raised d (raised_to d (position e (entries_of t)) b) × (b ≤ (routine (raised_to d (position e (entries_of t)) b) (position e (entries_of t))).bound)
  raise_to d w m e o b le small = by (nat_lt (routine d (position e (entries_of t))).bound b) refl where
    n : ℕ
    n = position e (entries_of t)

    rest : (nat_lt b 100 && nat_lt n (length d.routines)) ≡ true
    rest = and_from (nat_lt b 100) (nat_lt n (length d.routines)) (lt-ltb b 100 (omega (arith, le, small))) (lt-ltb n (length d.routines) (subst (λ k. n < k) (sym w.count) (held t e o)))

    up : (routine d n).bound < b → Raised d (with_bound d n b) × (b ≤ (routine (with_bound d n b) n).bound)
    up lt = (
      record {
        shows = shows_one t d w n b (held t e o);
        grows = λ f q. bound_grows t d w n b (held t e o) (position f (entries_of t)) (omega (arith, lt));
        most = λ f q. bound_most t d w n b (held t e o) (position f (entries_of t)) (routine c (number c f)).bound (λ z. subst (λ k. b ≤ (routine c (number c k)).bound) (same_entry t e f o q z) le) (m f q);
      },
      (let z = bound_same t d w n b (held t e o) in omega (arith, z)),
    )

    by : (z : Bool) → nat_lt (routine d n).bound b ≡ z → Raised d (if nat_lt (routine d n).bound b && nat_lt b 100 && nat_lt n (length d.routines) then with_bound d n b else d)
        × (b ≤ (routine (if nat_lt (routine d n).bound b && nat_lt b 100 && nat_lt n (length d.routines) then with_bound d n b else d) n).bound)
    by true z = subst (λ x. Raised d (if x then with_bound d n b else d) × (b ≤ (routine (if x then with_bound d n b else d) n).bound)) (sym (all_true z)) (up (ltb-true (routine d n).bound b z)) where
      all_true : nat_lt (routine d n).bound b ≡ true → (nat_lt (routine d n).bound b && nat_lt b 100 && nat_lt n (length d.routines)) ≡ true
      all_true z = and_from (nat_lt (routine d n).bound b && nat_lt b 100) (nat_lt n (length d.routines)) (and_from (nat_lt (routine d n).bound b) (nat_lt b 100) z (and_parts (nat_lt b 100) (nat_lt n (length d.routines)) rest).0) (and_parts (nat_lt b 100) (nat_lt n (length d.routines)) rest).1
    by false z = subst (λ x. Raised d (if x && nat_lt b 100 && nat_lt n (length d.routines) then with_bound d n b else d) × (b ≤ (routine (if x && nat_lt b 100 && nat_lt n (length d.routines) then with_bound d n b else d) n).bound)) (sym z)
        (raised_same d w m, ltb-false (routine d n).bound b z)

  -- ---- each row of c is there
  module _ (d : Certificate) (w : Shows t d) where
    abbrev like : ℕ → ℕ → Type 0
    like n m = n ≡ position (routine c m).entry (entries_of t)

    one_like : (n m k : ℕ) → like n k → like m k → n ≡ m
    one_like n m k a b = a ∙ sym b

    root_has : (at : ℕ) → is_met image c 0 at ≡ true → (r : Row) × (row_at d.rows at ≡ Some r)
    unfolding is_met
    root_has at h = ⊎_elim
        (λ p. subst (λ k. (r : Row) × (row_at d.rows k ≡ Some r)) (eqb-true 0 at p) (row_for (entries_of t) 0 main_there.spot, row_at_spot d w 0 main_there.spot main_there.is))
        (λ p.
        let z = and_parts c.interrupts (nat_eq 4 at) p in
        let y = handler_there (sym interrupts ∙ z.0) in
        subst (λ k. (r : Row) × (row_at d.rows k ≡ Some r)) (eqb-true 4 at z.1) (row_for (entries_of t) 4 y.spot, row_at_spot d w 4 y.spot y.is))
        (or_cases (nat_eq 0 at) (c.interrupts && nat_eq 4 at) h)

    below_row : (at : ℕ) (r s : Row) → row_at d.rows at ≡ Some r → row_at c.rows at ≡ Some s → like r.routine s.routine × (fits r.facts s.facts ≡ true)
    below_row at r s e f =
        let x = from_spot d w at r e in
        let p = u.placed at x.spot x.is in
        let q = same_row (row_at c.rows at) p.row s p.is f in (
          ap (λ (z : Row). z.routine) x.same ∙ ap (λ k. position k (entries_of t)) (sym p.entry_is ∙ ap (λ (z : Row). (routine c z.routine).entry) q),
          subst (λ (z : Row). fits r.facts z.facts ≡ true) q (subst (λ (z : Row). fits z.facts p.row.facts ≡ true) (sym x.same) p.fit),
        )

    entry_root : (at : ℕ) (s : Row) → is_met image c 0 at ≡ true → row_at c.rows at ≡ Some s → (routine c s.routine).entry ≡ at
    unfolding is_met
    entry_root at s h e = ⊎_elim
        (λ p. let q = eqb-true 0 at p in root_routine 0 0 at_reset (main_row image c valid) (main_entry image c valid) at s q e)
        (λ p. let z = and_parts c.interrupts (nat_eq 4 at) p in root_routine 4 1 at_interrupt (handler image c valid z.0).1 (handler_entry image c valid z.0) at s (eqb-true 4 at z.1) e)
        (or_cases (nat_eq 0 at) (c.interrupts && nat_eq 4 at) h) where
          root_routine : (a n : ℕ) (x : Facts) → has_row c a n x ≡ true → (routine c n).entry ≡ a → (at : ℕ) (s : Row) → a ≡ at → row_at c.rows at ≡ Some s → (routine c s.routine).entry ≡ at
          root_routine a n x h en at s q e =
              let y = stands_at image c valid a n x h in
              ap (λ (z : Row). (routine c z.routine).entry) (same_row (row_at c.rows at) s y.row e (subst (λ k. row_at c.rows k ≡ Some y.row) q y.is)) ∙ ap (λ k. (routine c k).entry) y.same ∙ en ∙ q

    has_all : (r : Row) → In r c.rows → (v : Row) × (row_at d.rows r.at ≡ Some v)
    has_all = every_row image c d (rises image c valid) (all_hold image c valid) (every_met image c valid) (falls image c valid) like one_like root_has below_row (closed_row d w) entry_root (w.interrupts ∙ sym interrupts)

    met_d : all_met image d ≡ true
    met_d = all_there image c d (rises image c valid) (all_hold image c valid) (every_met image c valid) (falls image c valid) like one_like root_has below_row (closed_row d w) entry_root (w.interrupts ∙ sym interrupts)
        (λ r i. let m = member_spot d w r i in let p = u.placed r.at m.spot m.is in (p.row, p.is))

    -- the spot of a row of c
    record Twin (r : Row) : Type 0 where
      pub spot : Spot
      pub is : spot_at t r.at ≡ Some spot
      pub row_is : (u.placed r.at spot is).row ≡ r

    twin : (r : Row) → In r c.rows → Twin r
    twin r i =
        let h = has_all r i in
        let f = from_spot d w r.at h.0 h.1 in
        record { spot = f.spot; is = f.is; row_is = same_row (row_at c.rows r.at) (u.placed r.at f.spot f.is).row r (u.placed r.at f.spot f.is).is (own 0 r c.rows (rises image c valid) i) }

    twin_entry : (e : ℕ) → Owns t e → (r : Row) (i : In r c.rows) → r.routine ≡ number c e → (twin r i).spot.entry ≡ e
    twin_entry e o r i h =
        let x = twin r i in
        sym (u.placed r.at x.spot x.is).entry_is ∙ ap (λ (z : Row). (routine c z.routine).entry) x.row_is ∙ ap (λ k. (routine c k).entry) h ∙ (routine_c e o).3

    -- what a row of c calls is as high in d
    twin_reached : (k e : ℕ) → Owns t e → Upto k d → (routine c (number c e)).bound < k + 1 → (r : Row) (i : In r c.rows) → r.routine ≡ number c e
        → call_height c r (instruction image r) ≤ call_height d (row_for (entries_of t) r.at (twin r i).spot) (instruction image (row_for (entries_of t) r.at (twin r i).spot))
    twin_reached k e o h lt r i q =
        let x = twin r i in
        subst (λ (z : Row). call_height c z (instruction image z) ≤ call_height d (row_for (entries_of t) r.at x.spot) (instruction image (row_for (entries_of t) r.at x.spot))) x.row_is
        (reached_here r.at x.spot x.is d w k h (subst (λ z. (routine c (number c z)).bound < k + 1) (sym (twin_entry e o r i q)) lt))

  bound_c : (e : ℕ) → Owns t e → (routine c (number c e)).bound ≡ height image c (number c e) 0 c.rows
  bound_c e o = let r = routine_c e o in subst (λ k. (routine c k).bound ≡ height image c k 0 c.rows) r.2 (fact image c valid e r.0 r.1).bound

  -- ---- no bound is above 8
  small : (e : ℕ) → Owns t e → (routine c (number c e)).bound ≤ 8
  small e o =
      let r = routine_c e o in
      let f = fact image c valid e r.0 r.1 in
      subst (λ k. (routine c k).bound ≤ 8) r.2
      (each_met image c valid (λ m. (routine c m).bound ≤ 8) (let z = small_total image c valid in omega (arith, z)) (λ q. two q)
      (λ v i k a s x y z h. let l = falls image c valid v i k a s x y z in omega (arith, l, h))
      8192 r.0.at r.0 (all_in (λ v. is_met image c 8192 v.at) r.0 c.rows (every_met image c valid) f.member) (own 0 r.0 c.rows (rises image c valid) f.member)) where
        two : c.interrupts ≡ true → (routine c 1).bound ≤ 8
        two q = let z : (routine c 0).bound + (1 + (routine c 1).bound) ≤ 8 = subst (λ b. (routine c 0).bound + (if b then 1 + (routine c 1).bound else 0) ≤ 8) q (small_total image c valid) in omega (arith, z)

  -- ---- a round
  raised_then : (d v x : Certificate) → Raised d v → Raised v x → Raised d x
  raised_then d v x a b = record { shows = b.shows; grows = λ e o. (let p = a.grows e o in let q = b.grows e o in omega (arith, p, q)); most = b.most }

  raise_row : (d : Certificate) (w : Shows t d) → AtMost d → (r : Row) → FromSpot t r.at r → Raised d (raised_by image d r) × (call_height d r (instruction image r) ≤ (routine (raised_by image d r) r.routine).bound)
  raise_row d w m r f = subst (λ z. Raised d (raised_by image d z) × (call_height d z (instruction image z) ≤ (routine (raised_by image d z) z.routine).bound)) (sym f.same)
      (let o = u.owned r.at f.spot f.is in raise_to d w m f.spot.entry o (call_height d (row_for (entries_of t) r.at f.spot) (row_of (slice_index image r.at))) (most_here r.at f.spot f.is d w m) (small f.spot.entry o))

  raise_rows : (rows : List Row) → ((r : Row) → In r rows → FromSpot t r.at r) → (d : Certificate) (w : Shows t d) → AtMost d
      → Raised d (raised_from image d rows) × ((at : ℕ) (s : Spot) → spot_at t at ≡ Some s → In (row_for (entries_of t) at s) rows
      → call_height d (row_for (entries_of t) at s) (instruction image (row_for (entries_of t) at s)) ≤ (routine (raised_from image d rows) (position s.entry (entries_of t))).bound)
  raise_rows [] from d w m = (raised_same d w m, λ at s is i. absurd i)
  raise_rows (r ∷ rows) from d w m =
      let one = raise_row d w m r (from r (inl refl)) in
      let more = raise_rows rows (λ v i. from v (inr i)) (raised_by image d r) one.0.shows one.0.most in (
        raised_then d (raised_by image d r) (raised_from image (raised_by image d r) rows) one.0 more.0,
        λ at s is i. ⊎_elim
            (λ e.
            let a : call_height d (row_for (entries_of t) at s) (instruction image (row_for (entries_of t) at s)) ≤ (routine (raised_by image d r) (position s.entry (entries_of t))).bound
            = subst (λ z. call_height d z (instruction image z) ≤ (routine (raised_by image d r) z.routine).bound) e one.1 in
            let b = more.0.grows s.entry (u.owned at s is) in omega (arith, a, b))
            (λ l. let a = grown_here at s is d (raised_by image d r) w one.0.shows one.0.grows in let b = more.1 at s is l in omega (arith, a, b)) i,
      )

  -- after so many rounds
  pub record Round (k : ℕ) (d : Certificate) : Type 0 where
    pub shows : Shows t d
    pub most : AtMost d
    pub upto : Upto k d

  next_round : (k : ℕ) (d : Certificate) → Round k d → Round (suc k) (raised_from image d d.rows)
  next_round k d q =
      let z = raise_rows d.rows (λ r i. member_spot d q.shows r i) d q.shows q.most in
      record {
        shows = z.0.shows;
        most = z.0.most;
        upto = λ e o lt.
            subst (λ b. b ≤ (routine (raised_from image d d.rows) (position e (entries_of t))).bound) (sym (bound_c e o))
            (height_least image c (number c e) 0 (routine (raised_from image d d.rows) (position e (entries_of t))).bound c.rows (nothing (routine (raised_from image d d.rows) (position e (entries_of t))).bound)
            (λ r i h.
            let n = eqb-true r.routine (number c e) h in
            let x = twin d q.shows r i in
            let a = twin_reached d q.shows k e o q.upto (omega (arith, lt)) r i n in
            let b = z.1 r.at x.spot x.is (found_in d.rows r.at (row_for (entries_of t) r.at x.spot) (row_at_spot d q.shows r.at x.spot x.is)).1 in
            let y : (routine (raised_from image d d.rows) (position x.spot.entry (entries_of t))).bound ≡ (routine (raised_from image d d.rows) (position e (entries_of t))).bound
            = ap (λ j. (routine (raised_from image d d.rows) (position j (entries_of t))).bound) (twin_entry d q.shows e o r i n) in
            omega (arith, a, b, y)));
      }

  rounds : (k : ℕ) → Round k (raised image k (certificate_of t))
  unfolding raised
  rounds zero = record {
    shows = (start_shows t);
    most = λ e o. subst (λ (q : Routine). q.bound ≤ (routine c (number c e)).bound) (sym (first_routine t (position e (entries_of t)) (held t e o))) (nothing (routine c (number c e)).bound);
    upto = λ e o lt. absurd (omega (arith, lt));
  }
  rounds (suc k) = next_round k (raised image k (certificate_of t)) (rounds k)

  -- ---- all of it is valid
  module _ (d : Certificate) (q : Round 9 d) where
    abbrev w : Shows t d
    w = q.shows

    bound_is : (e : ℕ) → Owns t e → (routine d (position e (entries_of t))).bound ≡ (routine c (number c e)).bound
    bound_is e o = let s = small e o in let a = q.most e o in let b = q.upto e o (omega (arith, s)) in omega (arith, a, b)

    here_in : (at : ℕ) (s : Spot) → spot_at t at ≡ Some s → In (row_for (entries_of t) at s) d.rows
    here_in at s is = (found_in d.rows at (row_for (entries_of t) at s) (row_at_spot d w at s is)).1

    height_is : (e : ℕ) → Owns t e → height image d (position e (entries_of t)) 0 d.rows ≡ (routine c (number c e)).bound
    height_is e o = let a = most in let b = least in omega (arith, a, b) where
      n : ℕ
      n = position e (entries_of t)

      most : height image d (position e (entries_of t)) 0 d.rows ≤ (routine c (number c e)).bound
      most = height_least image d (position e (entries_of t)) 0 (routine c (number c e)).bound d.rows (nothing (routine c (number c e)).bound)
          (λ r i h.
          let m = member_spot d w r i in
          let k = same_entry t m.spot.entry e (u.owned r.at m.spot m.is) o (sym (ap (λ (z : Row). z.routine) m.same) ∙ eqb-true r.routine (position e (entries_of t)) h) in
          subst (λ j. call_height d r (instruction image r) ≤ (routine c (number c j)).bound) k
          (subst (λ (z : Row). call_height d z (instruction image z) ≤ (routine c (number c m.spot.entry)).bound) (sym m.same) (most_here r.at m.spot m.is d w q.most)))

      least : (routine c (number c e)).bound ≤ height image d (position e (entries_of t)) 0 d.rows
      least = subst (λ b. b ≤ height image d (position e (entries_of t)) 0 d.rows) (sym (bound_c e o))
          (height_least image c (number c e) 0 (height image d (position e (entries_of t)) 0 d.rows) c.rows (nothing (height image d (position e (entries_of t)) 0 d.rows))
          (λ r i h.
          let k = eqb-true r.routine (number c e) h in
          let x = twin d w r i in
          let s = small e o in
          let a = twin_reached d w 9 e o q.upto (omega (arith, s)) r i k in
          let b = in_height image d (position e (entries_of t)) 0 (row_for (entries_of t) r.at x.spot) d.rows (here_in r.at x.spot x.is)
          (eq-eqb (position x.spot.entry (entries_of t)) (position e (entries_of t)) (ap (λ j. position j (entries_of t)) (twin_entry d w e o r i k))) in
          omega (arith, a, b)))

    -- rows
    abbrev Like : ℕ → ℕ → Type 0
    Like n m = Alike image c d (w.cell ∙ sym cell) (w.interrupts ∙ sym interrupts) n m

    like_rows : (at : ℕ) (e f : Row) → row_at d.rows at ≡ Some e → row_at c.rows at ≡ Some f → Like e.routine f.routine
    like_rows at e f x y =
        let m = from_spot d w at e x in
        let p = u.placed at m.spot m.is in
        subst (λ n. Like n f.routine) (sym (ap (λ (z : Row). z.routine) m.same))
        (subst (λ n. Like (position m.spot.entry (entries_of t)) n) (p.number_is ∙ ap (λ (z : Row). z.routine) (same_row (row_at c.rows at) p.row f p.is y)) (alike_entry d w m.spot.entry (u.owned at m.spot m.is)))

    module _ (at : ℕ) (s : Spot) (is : spot_at t at ≡ Some s) where
      abbrev mine_d : Row
      mine_d = row_for (entries_of t) at s

      abbrev mine_c : Row
      mine_c = (its at s is).row

      same_instruction : instruction image mine_c ≡ instruction image mine_d
      same_instruction = ap (λ k. row_of (slice_index image k)) (sure at s is).at_is

      shut : (elim (instruction image mine_c) [ None ↦ true | Some i ↦ is_closed image d mine_d i ]) ≡ true
      shut = by (instruction image mine_c) (sym same_instruction) where
        by : (o : Option Ins) → instruction image mine_d ≡ o → (elim o [ None ↦ true | Some i ↦ is_closed image d mine_d i ]) ≡ true
        by None e = refl
        by (Some i) e = closed_spot d w at s is i e

      good_instruction : instruction_holds image d mine_d (instruction image mine_d) ≡ true
      good_instruction = subst (λ o. instruction_holds image d mine_d o ≡ true) same_instruction
          (instruction_good image c d (w.cell ∙ sym cell) (w.interrupts ∙ sym interrupts) like_rows mine_d mine_c (like_rows at mine_d mine_c (row_at_spot d w at s is) (its at s is).is) (sym (sure at s is).at_is) (sure at s is).ok (its at s is).fit shut)

      bare_d : (nat_eq (position s.entry (entries_of t)) 1 || is_bare s.facts) ≡ true
      bare_d = ⊎_elim
          (λ h. let z = and_parts c.interrupts (nat_eq s.entry 4) h in
          or_left (nat_eq (position s.entry (entries_of t)) 1) (is_bare s.facts) (eq-eqb (position s.entry (entries_of t)) 1 (ap (λ k. position k (entries_of t)) (eqb-true s.entry 4 z.1) ∙ handler_place t (sym interrupts ∙ z.0))))
          (λ h. or_right (nat_eq (position s.entry (entries_of t)) 1) (is_bare s.facts) h)
          (or_cases (c.interrupts && nat_eq s.entry 4) (is_bare s.facts) (u.bare at s is))

      good_row : row_holds image d mine_d ≡ true
      good_row = and_from _ (instruction_holds image d mine_d (instruction image mine_d))
          (and_from (nat_lt (position s.entry (entries_of t)) (length d.routines)) (nat_eq (position s.entry (entries_of t)) 1 || is_bare s.facts)
          (lt-ltb (position s.entry (entries_of t)) (length d.routines) (subst (λ k. position s.entry (entries_of t) < k) (sym w.count) (held t s.entry (u.owned at s is)))) bare_d)
          good_instruction

    all_rows : (rows : List Row) → ((r : Row) → In r rows → In r d.rows) → list_all (row_holds image d) rows ≡ true
    all_rows [] sub = refl
    all_rows (x ∷ rows) sub =
        let m = member_spot d w x (sub x (inl refl)) in
        and_from (row_holds image d x) (list_all (row_holds image d) rows) (subst (λ z. row_holds image d z ≡ true) (sym m.same) (good_row x.at m.spot m.is)) (all_rows rows (λ r i. sub r (inr i)))

    -- routines
    isr_needs : (b k : Bool) → (b ≡ true → k ≡ true) → (k || not b) ≡ true
    isr_needs true k f = or_left k false (f refl)
    isr_needs false k f = or_right k true refl

    no_out : (e : ℕ) (o : Owns t e) → (x : Option Out) → out_at t e ≡ x
        → (returns image d (position e (entries_of t)) || (is_none (routine d (position e (entries_of t))).out3 && is_none (routine d (position e (entries_of t))).out4)) ≡ true
    no_out e o None x = or_right (returns image d (position e (entries_of t))) _
        (and_from (is_none (routine d (position e (entries_of t))).out3) (is_none (routine d (position e (entries_of t))).out4) (ap is_none (d_out3 d w e o ∙ ap p3_of x)) (ap is_none (d_out4 d w e o ∙ ap p4_of x)))
    no_out e o (Some y) x =
        let l = u.left e y x in
        or_left (returns image d (position e (entries_of t))) _
        (in_any (λ r. nat_eq r.routine (position e (entries_of t)) && is_return (instruction image r)) (row_for (entries_of t) l.at l.spot) d.rows (here_in l.at l.spot l.is)
        (and_from (nat_eq (position l.spot.entry (entries_of t)) (position e (entries_of t))) (is_return (row_of (slice_index image l.at))) (eq-eqb _ _ (ap (λ k. position k (entries_of t)) l.same)) l.leaves))

    good_routine : (e : ℕ) → Owns t e → routine_holds image d (position e (entries_of t)) (routine d (position e (entries_of t))) ≡ true
    good_routine e o = and_from _ (nat_eq (routine d n).bound (height image d n 0 d.rows)) (and_from _ (returns image d n || (is_none (routine d n).out3 && is_none (routine d n).out4))
        (and_from (is_row_of n (row_at d.rows (routine d n).entry)) (d.interrupts || not (routine d n).isr)
        (subst (λ k. is_row_of n (row_at d.rows k) ≡ true) (sym (d_entry d w e o))
        (subst (λ z. is_row_of n z ≡ true) (sym (row_at_spot d w e o.spot o.is)) (eq-eqb (position o.spot.entry (entries_of t)) n (ap (λ k. position k (entries_of t)) o.same))))
        (isr_needs (routine d n).isr d.interrupts (λ h. w.interrupts ∙ sym interrupts ∙ (alike_entry d w e o).needs (sym (isr_alike d w e o) ∙ h))))
        (no_out e o (out_at t e) refl))
        (eq-eqb (routine d n).bound (height image d n 0 d.rows) (bound_is e o ∙ sym (height_is e o))) where
          n : ℕ
          n = position e (entries_of t)

    good_routines : routines_hold image d 0 d.routines ≡ true
    good_routines = all_routines image d 0 d.routines (λ n lt.
        let l = subst (λ k. n < k) w.count lt in
        let o = entries_owned n l in
        subst (λ k. routine_holds image d k (routine d n) ≡ true) (sym (plus t n))
        (subst (λ k. routine_holds image d k (routine d k) ≡ true) (distinct t n l) (good_routine (slice_index_or (entries_of t) n 0) o)))

    -- the roots
    agreed : (a b : Bool) → a ≡ b → agree a b ≡ true
    agreed true b e = sym e
    agreed false b e = ap not (sym e)

    entry_d : (e n : ℕ) (b : Bool) → Owns t e → position e (entries_of t) ≡ n → (routine c (number c e)).isr ≡ b → is_entry b e (slice_get d.routines n) ≡ true
    entry_d e n b o p f = subst (λ k. is_entry b e (slice_get d.routines k) ≡ true) p
        (subst (λ z. is_entry b e z ≡ true) (sym (get_there d.routines (position e (entries_of t)) (subst (λ k. position e (entries_of t) < k) (sym w.count) (held t e o))))
        (and_from (nat_eq (routine d (position e (entries_of t))).entry e) (agree (routine d (position e (entries_of t))).isr b) (eq-eqb _ _ (d_entry d w e o)) (agreed (routine d (position e (entries_of t))).isr b (isr_alike d w e o ∙ f))))

    main_good : (is_entry false 0 (slice_get d.routines 0) && has_row d 0 0 at_reset) ≡ true
    main_good = and_from (is_entry false 0 (slice_get d.routines 0)) (has_row d 0 0 at_reset)
        (entry_d 0 0 false owns_main (main_place t) (ap (λ k. (routine c k).isr) (number_main d w) ∙ main_isr image c valid))
        (subst (λ k. has_row d 0 k at_reset ≡ true) (main_place t) (asked d w 0 (entering 0 false at_reset) main_fits main_still))

    handler_good : t.interrupts ≡ true → (is_entry true 4 (slice_get d.routines 1) && has_row d 4 1 at_interrupt) ≡ true
    handler_good e = let i = interrupts ∙ e in
        and_from (is_entry true 4 (slice_get d.routines 1)) (has_row d 4 1 at_interrupt)
        (entry_d 4 1 true (owns_handler e) (handler_place t e) (ap (λ k. (routine c k).isr) (number_handler d w i) ∙ (handler image c valid i).0))
        (subst (λ k. has_row d 4 k at_interrupt ≡ true) (handler_place t e) (asked d w 4 (entering 4 true at_interrupt) (handler_fits e) (handler_still e)))

    where_on : (k p : Bool) → (k ≡ true → p ≡ true) → (not k || p) ≡ true
    where_on true p f = f refl
    where_on false p f = refl

    roots_good : roots_hold d ≡ true
    roots_good = and_from (is_entry false 0 (slice_get d.routines 0) && has_row d 0 0 at_reset) (not d.interrupts || (is_entry true 4 (slice_get d.routines 1) && has_row d 4 1 at_interrupt)) main_good
        (where_on d.interrupts (is_entry true 4 (slice_get d.routines 1) && has_row d 4 1 at_interrupt) (λ e. handler_good (sym w.interrupts ∙ e)))

    -- interrupts are let in
    lets_in_d : d.interrupts ≡ true → lets_in image d d.rows ≡ true
    lets_in_d e =
        let a = any_in (λ r. not (routine c r.routine).isr && writes_intcon (instruction image r)) c.rows (on c.interrupts (lets_in image c c.rows) (interrupts ∙ sym w.interrupts ∙ e) (let_in image c valid)) in
        let p = and_parts (not (routine c a.0.routine).isr) (writes_intcon (instruction image a.0)) a.2 in
        let x = twin d w a.0 a.1 in
        let s = u.placed a.0.at x.spot x.is in
        let o = u.owned a.0.at x.spot x.is in
        let f : (routine d (position x.spot.entry (entries_of t))).isr ≡ (routine c a.0.routine).isr = isr_alike d w x.spot.entry o ∙ ap (λ k. (routine c k).isr) (s.number_is ∙ ap (λ (z : Row). z.routine) x.row_is) in
        in_any (λ r. not (routine d r.routine).isr && writes_intcon (instruction image r)) (row_for (entries_of t) a.0.at x.spot) d.rows (here_in a.0.at x.spot x.is)
        (and_from (not (routine d (position x.spot.entry (entries_of t))).isr) (writes_intcon (row_of (slice_index image a.0.at))) (ap not f ∙ p.0) p.1) where
          on : (k p : Bool) → k ≡ true → (not k || p) ≡ true → p ≡ true
          on true p e h = h
          on false p e h = absurd (cc)

    -- the total is that of c
    total_is : total_of d ≡ total_of c
    total_is = by t.interrupts refl where
      zero_is : (routine d 0).bound ≡ (routine c 0).bound
      zero_is = ap (λ k. (routine d k).bound) (sym (main_place t)) ∙ bound_is 0 owns_main ∙ ap (λ k. (routine c k).bound) (number_main d w)

      by : (b : Bool) → t.interrupts ≡ b → (routine d 0).bound + (if d.interrupts then 1 + (routine d 1).bound else 0) ≡ (routine c 0).bound + (if c.interrupts then 1 + (routine c 1).bound else 0)
      by true e =
          let one : (routine d 1).bound ≡ (routine c 1).bound = ap (λ k. (routine d k).bound) (sym (handler_place t e)) ∙ bound_is 4 (owns_handler e) ∙ ap (λ k. (routine c k).bound) (number_handler d w (interrupts ∙ e)) in
          ap (λ z. (routine d 0).bound + (if z then 1 + (routine d 1).bound else 0)) (w.interrupts ∙ e) ∙ ap (λ z. z + (1 + (routine d 1).bound)) zero_is ∙ ap (λ z. (routine c 0).bound + (1 + z)) one
          ∙ sym (ap (λ z. (routine c 0).bound + (if z then 1 + (routine c 1).bound else 0)) (interrupts ∙ e))
      by false e =
          ap (λ z. (routine d 0).bound + (if z then 1 + (routine d 1).bound else 0)) (w.interrupts ∙ e) ∙ ap (λ z. z + 0) zero_is ∙ sym (ap (λ z. (routine c 0).bound + (if z then 1 + (routine c 1).bound else 0)) (interrupts ∙ e))

    cell_is : d.cell ≡ c.cell
    cell_is = w.cell ∙ sym cell

    pub valid_d : is_valid image d ≡ true
    valid_d = and_from _ (all_met image d) (and_from _ (nat_le (total_of d) 8) (and_from _ (not d.interrupts || lets_in image d d.rows) (and_from _ (routines_hold image d 0 d.routines) (and_from _ (list_all (row_holds image d) d.rows)
        (and_from _ (roots_hold d) (and_from _ (nat_lt d.cell 0x80) (and_from (is_rising 0 d.rows) (nat_le 0x70 d.cell) (rises_d d w)
        (le-leb 0x70 d.cell (subst (λ k. 0x70 ≤ k) (sym cell_is) (lo image c valid))))
        (lt-ltb d.cell 0x80 (subst (λ k. k < 0x80) (sym cell_is) (hi image c valid))))
        roots_good) (all_rows d.rows (λ r i. i))) good_routines) (where_on d.interrupts (lets_in image d d.rows) lets_in_d)) (le-leb (total_of d) 8 (subst (λ k. k ≤ 8) (sym total_is) (small_total image c valid)))) (met_d d w)

-- what a search finds is valid where some certificate is
pub best : (image : List ℕ) (interrupts : Bool) (cell : ℕ) (t : Tables) → IsSearch image interrupts cell t → IsSettled image t 8192 → IsBest image interrupts cell (raised image 9 (certificate_of t))
best image interrupts cell t s z c v k i =
    let a = k ∙ sym s.cell_is in
    let b = i ∙ sym s.interrupts_is in
    valid_d image c v t a b s.spots s.outs (s.under c v k i) z (raised image 9 (certificate_of t)) (rounds image c v t a b s.spots s.outs (s.under c v k i) z 9)
