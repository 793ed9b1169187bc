-- What holds of the roots and goes from a caller to what it calls holds of the routine of each row that is met.
use Rattle.std.proofs.Common.{◌≡◌, ℕ, zero, suc, Bool, true, false, List, Option, Some, None, refl, sym, ap, ◌∙◌, subst, ⊎_elim}
use Rattle.std.specs.Prelude.{◌&&◌, ◌||◌, nat_eq}
use Rattle.std.specs.List.{list_any}
use Rattle.std.proofs.lemmas.Bool.{and_parts, or_cases, eqb-true}
use Rattle.pic_isa.specs.declared.Ins.{Ins}
use Rattle.pic_isa.specs.declared.Ins.TheVariants.{Call, Goto, Retfie, Retlw, Return, Sleep}
use Rattle.depth_check.specs.declared.Facts.{Facts}
use Rattle.depth_check.specs.declared.Row.{Row}
use Rattle.depth_check.specs.Certificate.{Certificate}
use Rattle.depth_check.specs.Facts.{may_skip, after, fits, bits, target, at_reset, at_interrupt}
use Rattle.depth_check.specs.Valid.{routine, row_at, has_row, instruction, next, next_but_one, returns, is_place, returns_from, call_returns, asks, is_met, row_holds, is_valid}
use Rattle.depth_check.proofs.Step.{is_straight}
use Rattle.depth_check.proofs.Threads.{In, main_row, handler, rises}
use Rattle.depth_check.proofs.Transfer.{jump, call, straight_on}
use Rattle.depth_check.proofs.Below.{less_same, fits_of, known_same}
use Rattle.depth_check.proofs.Complete.{any_in, own, same_row}
use Rattle.depth_check.proofs.Sure.{fact, stands_at}

itself : (x : Facts) → fits x x ≡ true
itself x = fits_of x x (less_same x)

inside : (m n : ℕ) → Some m ≡ Some n → m ≡ n
inside m n e = cc

placed : (at : ℕ) (o : Option ℕ) → is_place at o ≡ true → o ≡ Some at
placed at None h = absurd (cc)
placed at (Some k) h = ap Some (eqb-true k at h)

module _ (image : List ℕ) (c : Certificate) (valid : is_valid image c ≡ true) (Q : ℕ → Type 0) (main : Q 0) (isr : c.interrupts ≡ true → Q 1)
    (callee : (r : Row) → In r c.rows → (k at : ℕ) (e : Row) → instruction image r ≡ Some (Call k) → target r.facts.p3 r.facts.p4 k ≡ Some at → row_at c.rows at ≡ Some e → Q r.routine → Q e.routine) where
  back_to : (o : Option Row) → returns_from image c o ≡ true → (e : Row) × (o ≡ Some e) × (returns image c e.routine ≡ true)
  back_to None h = absurd (cc)
  back_to (Some e) h = (e, refl, h)

  module _ (at : ℕ) (s : Row) (at_s : row_at c.rows at ≡ Some s) (r : Row) (is : In r c.rows) (q : Q r.routine) where
    again : (x : Facts) → has_row c at r.routine x ≡ true → Q s.routine
    again x h = let w = stands_at image c valid at r.routine x h in subst Q (sym w.same ∙ ap (λ (z : Row). z.routine) (same_row (row_at c.rows at) w.row s w.is at_s)) q

    abbrev ok : row_holds image c r ≡ true
    ok = (fact image c valid r.at r (own 0 r c.rows (rises image c valid) is)).ok

    by_goto : (k : ℕ) → instruction image r ≡ Some (Goto k) → is_place at (target r.facts.p3 r.facts.p4 k) ≡ true → Q s.routine
    by_goto k e h =
        let j = jump image c r ok r.facts (itself r.facts) k e in
        let same : j.0 ≡ at = inside j.0 at (sym j.1 ∙ placed at (target r.facts.p3 r.facts.p4 k) h) in
        again r.facts (subst (λ a. has_row c a r.routine r.facts ≡ true) same j.2)

    by_back : (k a : ℕ) → instruction image r ≡ Some (Call k) → target r.facts.p3 r.facts.p4 k ≡ Some a → next r.at ≡ at → returns_from image c (row_at c.rows a) ≡ true → Q s.routine
    by_back k a e t nx h =
        let w = call image c r ok r.facts (itself r.facts) k e in
        let same : w.at ≡ a = inside w.at a (sym w.target_is ∙ t) in
        let b = back_to (row_at c.rows a) h in
        let row : w.entry ≡ b.0 = same_row (row_at c.rows a) w.entry b.0 (subst (λ u. row_at c.rows u ≡ Some w.entry) same w.row_is) b.1 in
        let rt : returns image c w.entry.routine ≡ true = subst (λ (y : Row). returns image c y.routine ≡ true) (sym row) b.2 in
        let up = w.back (routine c w.entry.routine).out3 (routine c w.entry.routine).out4 rt (known_same (routine c w.entry.routine).out3) (known_same (routine c w.entry.routine).out4) in
        again (bits (routine c w.entry.routine).out3 (routine c w.entry.routine).out4 r.facts.saved)
        (subst (λ u. has_row c u r.routine (bits (routine c w.entry.routine).out3 (routine c w.entry.routine).out4 r.facts.saved) ≡ true) nx up)

    by_entry : (k a : ℕ) → instruction image r ≡ Some (Call k) → target r.facts.p3 r.facts.p4 k ≡ Some a → a ≡ at → Q s.routine
    by_entry k a e t same = callee r is k a s e t (subst (λ z. row_at c.rows z ≡ Some s) (sym same) at_s) q

    by_call : (k : ℕ) → instruction image r ≡ Some (Call k) → (o : Option ℕ) → target r.facts.p3 r.facts.p4 k ≡ o → (is_place at o || (nat_eq (next r.at) at && call_returns image c o)) ≡ true → Q s.routine
    by_call k e None t h = absurd (last (nat_eq (next r.at) at) h) where
      last : (b : Bool) → (false || (b && false)) ≡ true → ⊥
      last true h = cc
      last false h = cc
    by_call k e (Some a) t h = ⊎_elim
        (λ p. by_entry k a e t (eqb-true a at p))
        (λ p. let z = and_parts (nat_eq (next r.at) at) (returns_from image c (row_at c.rows a)) p in by_back k a e t (eqb-true (next r.at) at z.0) z.1)
        (or_cases (is_place at (Some a)) (nat_eq (next r.at) at && returns_from image c (row_at c.rows a)) h)

    by_straight : (i : Ins) → is_straight i ≡ true → instruction image r ≡ Some i → (nat_eq (next r.at) at || (may_skip i && nat_eq (next_but_one r.at) at)) ≡ true → Q s.routine
    by_straight i st e h =
        let o = straight_on image c r ok r.facts (itself r.facts) i st e in
        ⊎_elim
        (λ p. again (after c.cell i r.facts) (subst (λ a. has_row c a r.routine (after c.cell i r.facts) ≡ true) (eqb-true (next r.at) at p) o.0))
        (λ p. let z = and_parts (may_skip i) (nat_eq (next_but_one r.at) at) p in
        again (after c.cell i r.facts) (subst (λ a. has_row c a r.routine (after c.cell i r.facts) ≡ true) (eqb-true (next_but_one r.at) at z.1) (o.1 z.0)))
        (or_cases (nat_eq (next r.at) at) (may_skip i && nat_eq (next_but_one r.at) at) h)

    by : (o : Option Ins) → instruction image r ≡ o → asks image c r o at ≡ true → Q s.routine
    by None e h = absurd (cc)
    by (Some (Goto k)) e h = by_goto k e h
    by (Some (Call k)) e h = by_call k e (target r.facts.p3 r.facts.p4 k) refl h
    by (Some Return) e h = absurd (cc)
    by (Some (Retlw k)) e h = absurd (cc)
    by (Some Retfie) e h = absurd (cc)
    by (Some Sleep) e h = absurd (cc)
    by (Some i) e h = by_straight i refl e h

  rooted : (at n : ℕ) (x : Facts) (s : Row) → has_row c at n x ≡ true → row_at c.rows at ≡ Some s → n ≡ s.routine
  rooted at n x s h e = let w = stands_at image c valid at n x h in sym w.same ∙ ap (λ (z : Row). z.routine) (same_row (row_at c.rows at) w.row s w.is e)

  pub each_met : (n at : ℕ) (s : Row) → is_met image c n at ≡ true → row_at c.rows at ≡ Some s → Q s.routine
  unfolding is_met
  each_met zero at s h e = ⊎_elim
      (λ p. subst Q (rooted 0 0 at_reset s (main_row image c valid) (subst (λ k. row_at c.rows k ≡ Some s) (sym (eqb-true 0 at p)) e)) main)
      (λ p. let z = and_parts c.interrupts (nat_eq 4 at) p in
      subst Q (rooted 4 1 at_interrupt s (handler image c valid z.0).1 (subst (λ k. row_at c.rows k ≡ Some s) (sym (eqb-true 4 at z.1)) e)) (isr z.0))
      (or_cases (nat_eq 0 at) (c.interrupts && nat_eq 4 at) h)
  each_met (suc n) at s h e = ⊎_elim
      (λ l. each_met n at s l e)
      (λ l. let a = any_in (λ t. is_met image c n t.at && asks image c t (instruction image t) at) c.rows l in
      let p = and_parts (is_met image c n a.0.at) (asks image c a.0 (instruction image a.0) at) a.2 in
      by at s e a.0 a.1 (each_met n a.0.at a.0 p.0 (own 0 a.0 c.rows (rises image c valid) a.1)) (instruction image a.0) refl p.1)
      (or_cases (is_met image c n at) (list_any (λ t. is_met image c n t.at && asks image c t (instruction image t) at) c.rows) h)
