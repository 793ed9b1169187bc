-- What a row that was found asks for is in each valid certificate.
use Rattle.std.proofs.Common.{◌≡◌, ℕ, Bool, true, false, List, Option, Some, None, inl, inr, refl, sym, ap, ◌∙◌, subst, ⊎_elim}
use Rattle.std.specs.Prelude.{not, ◌&&◌, nat_eq, slice_index}
use Rattle.std.proofs.lemmas.Bool.{and_parts, and_from, or_cases, or_left, or_right, eq-eqb, not-true, not_from_false}
use Rattle.pic_isa.specs.declared.Ins.{Ins}
use Rattle.pic_isa.specs.declared.Ins.TheVariants.{Call, Goto, Retfie, Retlw, Return, Sleep}
use Rattle.pic_isa.specs.Lookup.{row_of}
use Rattle.depth_check.specs.declared.Facts.{Facts}
use Rattle.depth_check.specs.declared.tables.Spot.{Spot}
use Rattle.depth_check.specs.declared.tables.Out.{Out}
use Rattle.depth_check.specs.Certificate.{Certificate}
use Rattle.depth_check.specs.Facts.{known_in, bits, target, after, may_skip, at_reset, at_interrupt}
use Rattle.depth_check.specs.Valid.{routine, row_at, has_row, instruction, is_return, is_bare, returns, agree, next, next_but_one, is_valid}
use Rattle.depth_check.specs.Search.{Tables, spot_at, out_at, put, beside, entering, leave, gone, come_back, with_callee, called, skipped, passed, done, done_by, step_from, step, with_handler, with_roots}
use Rattle.depth_check.specs.Found.{number, routine_or_none, IsPlaced, Owns, IsLeft, is_bare_spot, IsUnder, Moves, Goes}
use Rattle.depth_check.proofs.Step.{is_straight}
use Rattle.depth_check.proofs.Threads.{in_any, bare_after, main_row, main_isr, main_entry, handler, handler_entry}
use Rattle.depth_check.proofs.Transfer.{IsCalled, jump, call, straight_on, left, left_with}
use Rattle.depth_check.proofs.Sure.{Fact, fact, stands_at}
use Rattle.depth_check.proofs.Growing.{Fits, moves_same, moves_then, goes_same, put_moves, put_keeps, owns_put, leave_moves, leave_keeps}

-- a row of the routine that a placed row is of
placed_beside : (image : List ℕ) (c : Certificate) (valid : is_valid image c ≡ true) (at : ℕ) (s : Spot) (p : IsPlaced c at s) (to : ℕ) (x : Facts) → has_row c to p.row.routine x ≡ true → IsPlaced c to (beside s x)
placed_beside image c valid at s p to x h =
    let q = stands_at image c valid to p.row.routine x h in
    record {
      row = q.row;
      is = q.is;
      number_is = p.number_is ∙ sym q.same;
      entry_is = ap (λ n. (routine c n).entry) q.same ∙ p.entry_is;
      isr_is = ap (λ n. (routine c n).isr) q.same ∙ p.isr_is;
      fit = q.fit;
    }

-- facts of a row behind it are as bare as those of the row
bare_from : (k : Bool) (s : Spot) (x : Facts) → is_bare_spot k s ≡ true → (is_bare s.facts ≡ true → is_bare x ≡ true) → is_bare_spot k (beside s x) ≡ true
bare_from k s x h f = ⊎_elim (λ e. or_left (k && nat_eq s.entry 4) (is_bare x) e) (λ e. or_right (k && nat_eq s.entry 4) (is_bare x) (f e)) (or_cases (k && nat_eq s.entry 4) (is_bare s.facts) h)

bare_to : (x : Facts) → is_bare x ≡ true → (x.orig ≡ false) × (x.w_orig ≡ false) × (x.saved ≡ false)
bare_to x h =
    let a = and_parts (not x.orig && not x.w_orig) (not x.saved) h in
    let b = and_parts (not x.orig) (not x.w_orig) a.0 in
    (not-true x.orig b.0, not-true x.w_orig b.1, not-true x.saved a.1)

bare_of : (x : Facts) → (x.orig ≡ false) × (x.w_orig ≡ false) × (x.saved ≡ false) → is_bare x ≡ true
bare_of x h = and_from (not x.orig && not x.w_orig) (not x.saved) (and_from (not x.orig) (not x.w_orig) (not_from_false x.orig h.0) (not_from_false x.w_orig h.1)) (not_from_false x.saved h.2)

pub bare_behind : (cell : ℕ) (i : Ins) (x : Facts) → is_bare x ≡ true → is_bare (after cell i x) ≡ true
bare_behind cell i x h = bare_of (after cell i x) (bare_after cell i x (bare_to x h))

bare_back : (p3 p4 : Option Bool) (x : Facts) → is_bare x ≡ true → is_bare (bits p3 p4 x.saved) ≡ true
bare_back p3 p4 x h = bare_of (bits p3 p4 x.saved) (refl, refl, (bare_to x h).2)

same_flags : (a b : Bool) → agree a b ≡ true → a ≡ b
same_flags true true e = refl
same_flags true false e = absurd (cc)
same_flags false true e = absurd (cc)
same_flags false false e = refl

module _ (image : List ℕ) (t : Tables) (at : ℕ) (s : Spot) (is : spot_at t at ≡ Some s) (i : Ins) (instruction_is : row_of (slice_index image at) ≡ Some i) where
  module _ (c : Certificate) (valid : is_valid image c ≡ true) (cell : c.cell ≡ t.cell) (u : IsUnder image c t) where
    abbrev pub p : IsPlaced c at s
    p = u.placed at s is

    abbrev f : Fact image c valid at p.row
    f = fact image c valid at p.row p.is

    found_instruction : instruction image p.row ≡ Some i
    found_instruction = ap (λ k. row_of (slice_index image k)) f.at_is ∙ instruction_is

    pub beside_fits : (to : ℕ) (x : Facts) → has_row c to p.row.routine x ≡ true → (is_bare s.facts ≡ true → is_bare x ≡ true) → Fits image c t to (beside s x)
    beside_fits to x h b = record {
      placed = placed_beside image c valid at s p to x h;
      owner = inr (u.owned at s is);
      bare = bare_from c.interrupts s x (u.bare at s is) b;
    }

    pub goto_fits : (k to : ℕ) → i ≡ Goto k → target s.facts.p3 s.facts.p4 k ≡ Some to → Fits image c t to s
    goto_fits k to e h =
        let j = jump image c p.row f.ok s.facts p.fit k (found_instruction ∙ ap Some e) in
        beside_fits to s.facts (subst (λ o. has_row c o p.row.routine s.facts ≡ true) (inside j.0 to (sym j.1 ∙ h)) j.2) (λ b. b) where
          inside : (m n : ℕ) → Some m ≡ Some n → m ≡ n
          inside m n e = cc

    is_called : (k to : ℕ) → i ≡ Call k → IsCalled image c p.row f.ok s.facts p.fit k
    is_called k to e = call image c p.row f.ok s.facts p.fit k (found_instruction ∙ ap Some e)

    pub callee_fits : (k to : ℕ) → i ≡ Call k → target s.facts.p3 s.facts.p4 k ≡ Some to → Fits image c t to (entering to s.isr (bits s.facts.p3 s.facts.p4 false))
    callee_fits k to e h =
        let q = is_called k to e in
        let same : q.at ≡ to = inside q.at to (sym q.target_is ∙ h) in
        let w = stands_at image c valid q.at q.entry.routine (bits s.facts.p3 s.facts.p4 false) q.stands_there in
        record {
          placed = record {
            row = w.row;
            is = subst (λ z. row_at c.rows z ≡ Some w.row) same w.is;
            number_is = ap routine_or_none (subst (λ z. row_at c.rows z ≡ Some w.row) same w.is);
            entry_is = ap (λ n. (routine c n).entry) w.same ∙ q.entry_is ∙ same;
            isr_is = ap (λ n. (routine c n).isr) w.same ∙ same_flags (routine c q.entry.routine).isr (routine c p.row.routine).isr q.same ∙ p.isr_is;
            fit = w.fit;
          };
          owner = inl refl;
          bare = or_right (c.interrupts && nat_eq to 4) true refl;
        } where
          inside : (m n : ℕ) → Some m ≡ Some n → m ≡ n
          inside m n e = cc

    -- behind the call, once the callee was seen to return
    pub back_fits : (k to : ℕ) → i ≡ Call k → target s.facts.p3 s.facts.p4 k ≡ Some to → (v : Tables) → IsUnder image c v → Owns v s.entry → (o : Out) → out_at v to ≡ Some o
        → Fits image c v (next at) (beside s (bits o.p3 o.p4 s.facts.saved))
    back_fits k to e h v w own o eo =
        let q = is_called k to e in
        let same : q.at ≡ to = inside q.at to (sym q.target_is ∙ h) in
        let n : number c to ≡ q.entry.routine = ap (number c) (sym same) ∙ ap routine_or_none q.row_is in
        let l = w.left to o eo in
        let g = w.placed l.at l.spot l.is in
        let y = fact image c valid l.at g.row g.is in
        let m : g.row.routine ≡ q.entry.routine = sym g.number_is ∙ ap (number c) l.same ∙ n in
        let r : returns image c q.entry.routine ≡ true = in_any (λ z. nat_eq z.routine q.entry.routine && is_return (instruction image z)) g.row c.rows y.member
        (and_from (nat_eq g.row.routine q.entry.routine) (is_return (instruction image g.row)) (eq-eqb g.row.routine q.entry.routine m) (ap (λ z. is_return (row_of (slice_index image z))) y.at_is ∙ l.leaves)) in
        let b = q.back o.p3 o.p4 r (subst (λ z. known_in (routine c z).out3 o.p3 ≡ true) n l.p3) (subst (λ z. known_in (routine c z).out4 o.p4 ≡ true) n l.p4) in
        record {
          placed = placed_beside image c valid at s p (next at) (bits o.p3 o.p4 s.facts.saved) (subst (λ z. has_row c (next z) p.row.routine (bits o.p3 o.p4 s.facts.saved) ≡ true) f.at_is b);
          owner = inr own;
          bare = bare_from c.interrupts s (bits o.p3 o.p4 s.facts.saved) (u.bare at s is) (bare_back o.p3 o.p4 s.facts);
        } where
          inside : (m n : ℕ) → Some m ≡ Some n → m ≡ n
          inside m n e = cc

    pub straight : is_straight i ≡ true → (has_row c (next at) p.row.routine (after t.cell i s.facts) ≡ true) × (may_skip i ≡ true → has_row c (next_but_one at) p.row.routine (after t.cell i s.facts) ≡ true)
    straight e =
        let g = straight_on image c p.row f.ok s.facts p.fit i e found_instruction in (
          subst (λ z. has_row c (next at) p.row.routine (after z i s.facts) ≡ true) cell (subst (λ z. has_row c (next z) p.row.routine (after c.cell i s.facts) ≡ true) f.at_is g.0),
          λ k. subst (λ z. has_row c (next_but_one at) p.row.routine (after z i s.facts) ≡ true) cell (subst (λ z. has_row c (next_but_one z) p.row.routine (after c.cell i s.facts) ≡ true) f.at_is (g.1 k)),
        )

    leaves_so : is_return (Some i) ≡ true → (known_in (routine c p.row.routine).out3 s.facts.p3 ≡ true) × (known_in (routine c p.row.routine).out4 s.facts.p4 ≡ true) → IsLeft image c t s.entry (record { p3 = s.facts.p3; p4 = s.facts.p4 })
    leaves_so r k = record {
      at = at;
      spot = s;
      is = is;
      same = refl;
      leaves = ap is_return instruction_is ∙ r;
      p3 = subst (λ z. known_in (routine c z).out3 s.facts.p3 ≡ true) (sym p.number_is) k.0;
      p4 = subst (λ z. known_in (routine c z).out4 s.facts.p4 ≡ true) (sym p.number_is) k.1;
    }

  -- ---- what the row asks for is put
  goto_moves : (o : Option ℕ) → Moves t (gone t s o)
  goto_moves None = moves_same t
  goto_moves (Some to) = put_moves t to s

  back_moves : (to : ℕ) (o : Option Out) → Moves t (come_back (with_callee t s to) at s o)
  back_moves to None = put_moves t to (entering to s.isr (bits s.facts.p3 s.facts.p4 false))
  back_moves to (Some o) = moves_then t (with_callee t s to) _ (put_moves t to (entering to s.isr (bits s.facts.p3 s.facts.p4 false))) (put_moves (with_callee t s to) (next at) (beside s (bits o.p3 o.p4 s.facts.saved)))

  call_moves : (o : Option ℕ) → Moves t (called t at s o)
  call_moves None = moves_same t
  call_moves (Some to) = back_moves to (out_at (with_callee t s to) to)

  skip_moves : (v : Tables) (y : Spot) (b : Bool) → Moves v (skipped v at y b)
  skip_moves v y false = moves_same v
  skip_moves v y true = put_moves v (next_but_one at) y

  pass_moves : Moves t (passed t at s i)
  pass_moves =
      let y = beside s (after t.cell i s.facts) in
      moves_then t (put t (next at) y) (passed t at s i) (put_moves t (next at) y) (skip_moves (put t (next at) y) y (may_skip i))

  module _ (c : Certificate) (valid : is_valid image c ≡ true) (cell : c.cell ≡ t.cell) (u : IsUnder image c t) where
    goto_keeps : (k : ℕ) → i ≡ Goto k → (o : Option ℕ) → target s.facts.p3 s.facts.p4 k ≡ o → IsUnder image c (gone t s o)
    goto_keeps k e None h = u
    goto_keeps k e (Some to) h = put_keeps image c t to s u (goto_fits c valid cell u k to e h)

    callee_keeps : (k to : ℕ) → i ≡ Call k → target s.facts.p3 s.facts.p4 k ≡ Some to → IsUnder image c (with_callee t s to)
    callee_keeps k to e h = put_keeps image c t to (entering to s.isr (bits s.facts.p3 s.facts.p4 false)) u (callee_fits c valid cell u k to e h)

    back_keeps : (k to : ℕ) → i ≡ Call k → target s.facts.p3 s.facts.p4 k ≡ Some to → (o : Option Out) → out_at (with_callee t s to) to ≡ o → IsUnder image c (come_back (with_callee t s to) at s o)
    back_keeps k to e h None eo = callee_keeps k to e h
    back_keeps k to e h (Some o) eo =
        let w = callee_keeps k to e h in
        put_keeps image c (with_callee t s to) (next at) (beside s (bits o.p3 o.p4 s.facts.saved)) w
        (back_fits c valid cell u k to e h (with_callee t s to) w (owns_put t to (entering to s.isr (bits s.facts.p3 s.facts.p4 false)) s.entry (u.owned at s is)) o eo)

    call_keeps : (k : ℕ) → i ≡ Call k → (o : Option ℕ) → target s.facts.p3 s.facts.p4 k ≡ o → IsUnder image c (called t at s o)
    call_keeps k e None h = u
    call_keeps k e (Some to) h = back_keeps k to e h (out_at (with_callee t s to) to) refl

    pass_keeps : is_straight i ≡ true → IsUnder image c (passed t at s i)
    pass_keeps st = by (may_skip i) refl where
      y : Spot
      y = beside s (after t.cell i s.facts)

      w : IsUnder image c (put t (next at) y)
      w = put_keeps image c t (next at) y u (beside_fits c valid cell u (next at) (after t.cell i s.facts) (straight c valid cell u st).0 (bare_behind t.cell i s.facts))

      by : (b : Bool) → may_skip i ≡ b → IsUnder image c (skipped (put t (next at) y) at y b)
      by false e = w
      by true e =
          let f = beside_fits c valid cell u (next_but_one at) (after t.cell i s.facts) ((straight c valid cell u st).1 e) (bare_behind t.cell i s.facts) in
          put_keeps image c (put t (next at) y) (next_but_one at) y w (record { placed = f.placed; owner = inr (owns_put t (next at) y s.entry (u.owned at s is)); bare = f.bare })

module _ (image : List ℕ) (t : Tables) (at : ℕ) (s : Spot) (is : spot_at t at ≡ Some s) where
  done_moves : (i : Ins) → row_of (slice_index image at) ≡ Some i → Moves t (done t at s i)
  done_moves (Goto k) e = goto_moves image t at s is (Goto k) e (target s.facts.p3 s.facts.p4 k)
  done_moves (Call k) e = call_moves image t at s is (Call k) e (target s.facts.p3 s.facts.p4 k)
  done_moves Return e = leave_moves t s.entry s.facts
  done_moves (Retlw k) e = leave_moves t s.entry s.facts
  done_moves Retfie e = moves_same t
  done_moves Sleep e = moves_same t
  done_moves i e = pass_moves image t at s is i e

  module _ (c : Certificate) (valid : is_valid image c ≡ true) (cell : c.cell ≡ t.cell) (u : IsUnder image c t) where
    ended : (i : Ins) (e : row_of (slice_index image at) ≡ Some i) → is_return (Some i) ≡ true
        → (known_in (routine c (u.placed at s is).row.routine).out3 s.facts.p3 ≡ true) × (known_in (routine c (u.placed at s is).row.routine).out4 s.facts.p4 ≡ true) → IsUnder image c (leave t s.entry s.facts)
    ended i e r k = leave_keeps image c t s.entry s.facts u (leaves_so image t at s is i e c valid cell u r k)

    abbrev row : IsPlaced c at s
    row = u.placed at s is

    ok : Fact image c valid at row.row
    ok = fact image c valid at row.row row.is

    done_keeps : (i : Ins) → row_of (slice_index image at) ≡ Some i → IsUnder image c (done t at s i)
    done_keeps (Goto k) e = goto_keeps image t at s is (Goto k) e c valid cell u k refl (target s.facts.p3 s.facts.p4 k) refl
    done_keeps (Call k) e = call_keeps image t at s is (Call k) e c valid cell u k refl (target s.facts.p3 s.facts.p4 k) refl
    done_keeps Return e = ended Return e refl (left image c row.row ok.ok s.facts row.fit (found_instruction image t at s is Return e c valid cell u))
    done_keeps (Retlw k) e = ended (Retlw k) e refl (left_with image c row.row ok.ok s.facts row.fit k (found_instruction image t at s is (Retlw k) e c valid cell u))
    done_keeps Retfie e = u
    done_keeps Sleep e = u
    done_keeps i e = pass_keeps image t at s is i e c valid cell u refl

    by_keeps : (o : Option Ins) → row_of (slice_index image at) ≡ o → IsUnder image c (done_by t at s o)
    by_keeps None e = u
    by_keeps (Some i) e = done_keeps i e

  by_moves : (o : Option Ins) → row_of (slice_index image at) ≡ o → Moves t (done_by t at s o)
  by_moves None e = moves_same t
  by_moves (Some i) e = done_moves i e

  row_goes : Goes image t (done_by t at s (row_of (slice_index image at)))
  row_goes = record { moves = by_moves (row_of (slice_index image at)) refl; keeps = λ c v cell i u. by_keeps c v cell u (row_of (slice_index image at)) refl }

from_goes : (image : List ℕ) (t : Tables) (at : ℕ) (o : Option Spot) → spot_at t at ≡ o → Goes image t (step_from image t at o)
from_goes image t at None e = goes_same image t
from_goes image t at (Some s) e = row_goes image t at s e

pub step_goes : (image : List ℕ) (t : Tables) (at : ℕ) → Goes image t (step image t at)
unfolding step
step_goes image t at = from_goes image t at (spot_at t at) refl

-- ---- the rows that each certificate begins with
handler_moves : (t : Tables) (b : Bool) → Moves t (with_handler t b)
handler_moves t false = moves_same t
handler_moves t true = put_moves t 4 (entering 4 true at_interrupt)

pub root_fits : (image : List ℕ) (c : Certificate) (valid : is_valid image c ≡ true) (t : Tables) (at n : ℕ) (isr : Bool) (x : Facts) → has_row c at n x ≡ true → (routine c n).entry ≡ at → (routine c n).isr ≡ isr → is_bare_spot c.interrupts (entering at isr x) ≡ true
    → Fits image c t at (entering at isr x)
root_fits image c valid t at n isr x h e f b =
    let w = stands_at image c valid at n x h in
    record {
      placed = record {
        row = w.row;
        is = w.is;
        number_is = ap routine_or_none w.is;
        entry_is = ap (λ k. (routine c k).entry) w.same ∙ e;
        isr_is = ap (λ k. (routine c k).isr) w.same ∙ f;
        fit = w.fit;
      };
      owner = inl refl;
      bare = b;
    }

main_keeps : (image : List ℕ) (c : Certificate) → is_valid image c ≡ true → (t : Tables) → IsUnder image c t → IsUnder image c (put t 0 (entering 0 false at_reset))
main_keeps image c v t u = put_keeps image c t 0 (entering 0 false at_reset) u (root_fits image c v t 0 0 false at_reset (main_row image c v) (main_entry image c v) (main_isr image c v) (or_right (c.interrupts && nat_eq 0 4) true refl))

handler_keeps : (image : List ℕ) (c : Certificate) → is_valid image c ≡ true → (t : Tables) (b : Bool) → c.interrupts ≡ b → IsUnder image c t → IsUnder image c (with_handler t b)
handler_keeps image c v t false e u = u
handler_keeps image c v t true e u = put_keeps image c t 4 (entering 4 true at_interrupt) u
    (let h = handler image c v e in root_fits image c v t 4 1 true at_interrupt h.1 (handler_entry image c v e) h.0 (or_left (c.interrupts && nat_eq 4 4) false (ap (λ z. z && nat_eq 4 4) e)))

pub roots_go : (image : List ℕ) (t : Tables) → Goes image t (with_roots t)
unfolding with_roots
roots_go image t = record {
  moves = moves_then t (put t 0 (entering 0 false at_reset)) (with_handler (put t 0 (entering 0 false at_reset)) t.interrupts) (put_moves t 0 (entering 0 false at_reset)) (handler_moves (put t 0 (entering 0 false at_reset)) t.interrupts);
  keeps = λ c v cell i u. handler_keeps image c v (put t 0 (entering 0 false at_reset)) t.interrupts i (main_keeps image c v t u);
}
