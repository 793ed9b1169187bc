-- A certificate that shows what the tables of a search have: its routines by number, and what one bound more makes of it.
use Rattle.std.proofs.Common.{◌≡◌, ℕ, zero, suc, ◌+◌, ◌<◌, ◌≤◌, Bool, true, false, length, Option, Some, None, refl, sym, ap, ◌∙◌, subst, arith}
use Rattle.std.specs.Prelude.{nat_eq, slice_index_or}
use Rattle.std.proofs.lemmas.Bool.{eqb-true, eq-eqb, both_ways}
use Rattle.depth_check.specs.declared.Row.{Row}
use Rattle.depth_check.specs.declared.Routine.{Routine}
use Rattle.depth_check.specs.declared.tables.Spot.{Spot}
use Rattle.depth_check.specs.Certificate.{Certificate}
use Rattle.depth_check.specs.Valid.{routine}
use Rattle.depth_check.specs.Search.{Tables, spot_at, out_at, position, is_first, first_entries, entries_of, row_for, rows_from, isr_of, p3_of, p4_of, routine_for, certificate_of, with_bound}
use Rattle.depth_check.specs.Found.{Owns}
use Rattle.depth_check.proofs.Bounds.{set_routine, other_routine, set_count}
use Rattle.depth_check.proofs.Entries.{routine_there, routines_length, Distinct, Holds, at_position, all_distinct, all_old, all_held}

-- routines, rows, cell and interrupts are those that were found; bounds may be any
pub record Shows (t : Tables) (d : Certificate) : Type 0 where
  pub interrupts : d.interrupts ≡ t.interrupts
  pub cell : d.cell ≡ t.cell
  pub rows : d.rows ≡ rows_from (entries_of t) 0 t.spots
  pub count : length d.routines ≡ length (entries_of t)
  pub entry : (n : ℕ) → n < length (entries_of t) → (routine d n).entry ≡ slice_index_or (entries_of t) n 0
  pub isr : (n : ℕ) → n < length (entries_of t) → (routine d n).isr ≡ isr_of (spot_at t (slice_index_or (entries_of t) n 0))
  pub out3 : (n : ℕ) → n < length (entries_of t) → (routine d n).out3 ≡ p3_of (out_at t (slice_index_or (entries_of t) n 0))
  pub out4 : (n : ℕ) → n < length (entries_of t) → (routine d n).out4 ≡ p4_of (out_at t (slice_index_or (entries_of t) n 0))

-- a row for what was found at this address
pub record FromSpot (t : Tables) (at : ℕ) (r : Row) : Type 0 where
  pub spot : Spot
  pub is : spot_at t at ≡ Some spot
  pub same : r ≡ row_for (entries_of t) at spot

module _ (t : Tables) where
  first_of : (e : ℕ) (y : Spot) → spot_at t e ≡ Some y → y.entry ≡ e → is_first e (spot_at t e) ≡ true
  first_of e y is same = subst (λ o. is_first e o ≡ true) (sym is) (eq-eqb y.entry e same)

  pub plus : (k : ℕ) → 0 + k ≡ k
  plus k = omega arith

  held_first : (e : ℕ) → is_first e (spot_at t e) ≡ true → Holds (entries_of t) e
  held_first e h = subst (Holds (entries_of t)) (plus e) (all_held 0 t.spots (first_entries t.interrupts) e (subst (λ k. is_first k (spot_at t e) ≡ true) (sym (plus e)) h))

  pub held : (e : ℕ) → Owns t e → Holds (entries_of t) e
  held e o = held_first e (first_of e o.spot o.is o.same)

  pub entry_at : (e : ℕ) → Owns t e → slice_index_or (entries_of t) (position e (entries_of t)) 0 ≡ e
  entry_at e o = at_position e (entries_of t) (held e o)

  start_distinct : (b : Bool) → Distinct (first_entries b)
  start_distinct false zero lt = refl
  start_distinct false (suc n) lt = absurd (omega arith)
  start_distinct true zero lt = refl
  start_distinct true (suc zero) lt = refl
  start_distinct true (suc (suc n)) lt = absurd (omega arith)

  pub distinct : Distinct (entries_of t)
  distinct = all_distinct 0 t.spots (first_entries t.interrupts) (start_distinct t.interrupts)

  start_main : (b : Bool) → (position 0 (first_entries b) ≡ 0) × Holds (first_entries b) 0
  start_main false = (refl, omega arith)
  start_main true = (refl, omega arith)

  pub main_place : position 0 (entries_of t) ≡ 0
  main_place = let s = start_main t.interrupts in (all_old 0 t.spots (first_entries t.interrupts) 0 s.1).0 ∙ s.0

  pub handler_place : t.interrupts ≡ true → position 4 (entries_of t) ≡ 1
  handler_place e =
      let h : Holds (first_entries t.interrupts) 4 = subst (λ b. Holds (first_entries b) 4) (sym e) (omega arith) in
      (all_old 0 t.spots (first_entries t.interrupts) 4 h).0 ∙ ap (λ b. position 4 (first_entries b)) e

  pub owns_first : (e : ℕ) (o : Option Spot) → spot_at t e ≡ o → is_first e o ≡ true → Owns t e
  owns_first e None is h = absurd (cc)
  owns_first e (Some y) is h = record { spot = y; is = is; same = eqb-true y.entry e h }

  pub same_entry : (a b : ℕ) → Owns t a → Owns t b → position a (entries_of t) ≡ position b (entries_of t) → a ≡ b
  same_entry a b x y e = sym (entry_at a x) ∙ ap (λ k. slice_index_or (entries_of t) k 0) e ∙ entry_at b y

  -- ---- one bound is raised
  module _ (d : Certificate) (w : Shows t d) (n b : ℕ) (lt : n < length (entries_of t)) where
    abbrev v : Certificate
    v = with_bound d n b

    changed_one : (m : ℕ) (P : Routine → Type 0) → (n ≡ m → P (record (routine d n) { bound = b })) → (nat_eq n m ≡ false → P (routine d m)) → P (routine v m)
    changed_one m P f g = by (nat_eq n m) refl where
      by : (z : Bool) → nat_eq n m ≡ z → P (routine v m)
      by true e = let q = eqb-true n m e in
          subst (λ k. P (routine v k)) q (subst P (sym (set_routine d.routines n (record (routine d n) { bound = b }) (subst (λ k. n < k) (sym w.count) lt))) (f q))
      by false e = subst P (sym (other_routine d.routines n m (record (routine d n) { bound = b }) e)) (g e)

    pub shows_one : Shows t v
    shows_one = record {
      interrupts = w.interrupts;
      cell = w.cell;
      rows = w.rows;
      count = set_count d.routines n (record (routine d n) { bound = b }) ∙ w.count;
      entry = λ m l. changed_one m (λ q. q.entry ≡ slice_index_or (entries_of t) m 0) (λ e. ap (λ k. (routine d k).entry) e ∙ w.entry m l) (λ e. w.entry m l);
      isr = λ m l. changed_one m (λ q. q.isr ≡ isr_of (spot_at t (slice_index_or (entries_of t) m 0))) (λ e. ap (λ k. (routine d k).isr) e ∙ w.isr m l) (λ e. w.isr m l);
      out3 = λ m l. changed_one m (λ q. q.out3 ≡ p3_of (out_at t (slice_index_or (entries_of t) m 0))) (λ e. ap (λ k. (routine d k).out3) e ∙ w.out3 m l) (λ e. w.out3 m l);
      out4 = λ m l. changed_one m (λ q. q.out4 ≡ p4_of (out_at t (slice_index_or (entries_of t) m 0))) (λ e. ap (λ k. (routine d k).out4) e ∙ w.out4 m l) (λ e. w.out4 m l);
    }

    pub bound_same : (routine v n).bound ≡ b
    bound_same = changed_one n (λ q. q.bound ≡ b) (λ e. refl) (λ e. absurd (both_ways (nat_eq n n) e (eq-eqb n n refl)))

    pub bound_most : (m k : ℕ) → (n ≡ m → b ≤ k) → (routine d m).bound ≤ k → (routine v m).bound ≤ k
    bound_most m k f h = changed_one m (λ q. q.bound ≤ k) f (λ e. h)

    pub bound_grows : (m : ℕ) → (routine d n).bound ≤ b → (routine d m).bound ≤ (routine v m).bound
    bound_grows m h = changed_one m (λ q. (routine d m).bound ≤ q.bound) (λ e. subst (λ k. (routine d k).bound ≤ b) e h) (λ e. omega arith)

  -- at first
  pub first_routine : (n : ℕ) → n < length (entries_of t) → routine (certificate_of t) n ≡ routine_for t (slice_index_or (entries_of t) n 0)
  first_routine n lt = routine_there t (entries_of t) n lt

  pub start_shows : Shows t (certificate_of t)
  start_shows = record {
    interrupts = refl;
    cell = refl;
    rows = refl;
    count = routines_length t (entries_of t);
    entry = λ n lt. ap (λ (q : Routine). q.entry) (first_routine n lt);
    isr = λ n lt. ap (λ (q : Routine). q.isr) (first_routine n lt);
    out3 = λ n lt. ap (λ (q : Routine). q.out3) (first_routine n lt);
    out4 = λ n lt. ap (λ (q : Routine). q.out4) (first_routine n lt);
  }
