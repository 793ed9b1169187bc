-- What a valid certificate asks for at a row is asked for by facts that tell more, too.
use Rattle.std.proofs.Common.{◌≡◌, ℕ, Bool, true, false, List, Option, Some, None, refl, sym, subst}
use Rattle.std.specs.Prelude.{not, ◌||◌, nat_eq}
use Rattle.std.proofs.lemmas.Bool.{and_parts, and_from, eqb-true, eq-eqb, not-true}
use Rattle.pic_isa.specs.declared.Ins.{Ins}
use Rattle.pic_isa.specs.declared.Ins.TheVariants.{Call, Goto, Retfie, Retlw, Return}
use Rattle.depth_check.specs.declared.Facts.{Facts}
use Rattle.depth_check.specs.declared.Row.{Row}
use Rattle.depth_check.specs.Certificate.{Certificate}
use Rattle.depth_check.specs.Facts.{may_skip, after, known_in, fits, bits, target}
use Rattle.depth_check.specs.Valid.{routine, row_at, stands, has_row, instruction, next, next_but_one, returns, is_root, is_allowed, leads, comes_back, agree, is_callee, calls, leaves, goes_on, instruction_holds, row_holds}
use Rattle.depth_check.proofs.Step.{is_straight}
use Rattle.depth_check.proofs.Threads.{straight_goes}
use Rattle.depth_check.proofs.Below.{Less, less_of, fits_of, less_trans, after_less, same_target, known_trans}

stands_less : (n : ℕ) (x y : Facts) (o : Option Row) → Less x y → stands n y o ≡ true → stands n x o ≡ true
stands_less n x y None l h = absurd (cc)
stands_less n x y (Some r) l h =
    let p = and_parts (nat_eq r.routine n) (fits y r.facts) h in
    and_from (nat_eq r.routine n) (fits x r.facts) p.0 (fits_of x r.facts (less_trans x y r.facts l (less_of y r.facts p.1)))

module _ (image : List ℕ) (c : Certificate) where
  pub has_less : (at n : ℕ) (x y : Facts) → Less x y → has_row c at n y ≡ true → has_row c at n x ≡ true
  has_less at n x y l h = stands_less n x y (row_at c.rows at) l h

  second : (p q : Bool) → p ≡ true → (not p || q) ≡ true → q ≡ true
  second true q e h = h
  second false q e h = absurd (cc)

  -- a row of the certificate, and facts that fit it
  module _ (r : Row) (ok : row_holds image c r ≡ true) (x : Facts) (fit : fits x r.facts ≡ true) where
    abbrev l : Less x r.facts
    l = less_of x r.facts fit

    held : (i : Ins) → instruction image r ≡ Some i → (is_allowed c r.routine i ≡ true) × (goes_on image c r i ≡ true)
    held i e =
        let a = and_parts _ (instruction_holds image c r (instruction image r)) ok in
        and_parts (is_allowed c r.routine i) (goes_on image c r i) (subst (λ o. instruction_holds image c r o ≡ true) e a.1)

    pub allowed : (i : Ins) → instruction image r ≡ Some i → is_allowed c r.routine i ≡ true
    allowed i e = (held i e).0

    pub straight_on : (i : Ins) → is_straight i ≡ true → instruction image r ≡ Some i
        → (has_row c (next r.at) r.routine (after c.cell i x) ≡ true) × (may_skip i ≡ true → has_row c (next_but_one r.at) r.routine (after c.cell i x) ≡ true)
    straight_on i s e =
        let g = straight_goes image c r i s (held i e).1 in
        let m = after_less c.cell i x r.facts l in (
          has_less (next r.at) r.routine (after c.cell i x) (after c.cell i r.facts) m g.0,
          λ k. has_less (next_but_one r.at) r.routine (after c.cell i x) (after c.cell i r.facts) m (second (may_skip i) _ k g.1),
        )

    led : (o : Option ℕ) → leads c r o ≡ true → (at : ℕ) × (o ≡ Some at) × (has_row c at r.routine r.facts ≡ true)
    led None h = absurd (cc)
    led (Some at) h = (at, refl, h)

    pub jump : (k : ℕ) → instruction image r ≡ Some (Goto k) → (at : ℕ) × (target x.p3 x.p4 k ≡ Some at) × (has_row c at r.routine x ≡ true)
    jump k e =
        let a = led (target r.facts.p3 r.facts.p4 k) (held (Goto k) e).1 in
        (a.0, same_target r.facts.p3 r.facts.p4 x.p3 x.p4 k a.0 l.p3 l.p4 a.1, has_less a.0 r.routine x r.facts l a.2)

    pub record IsCalled (k : ℕ) : Type 0 where
      pub at : ℕ
      pub target_is : target x.p3 x.p4 k ≡ Some at
      pub entry : Row
      pub row_is : row_at c.rows at ≡ Some entry
      pub entry_is : (routine c entry.routine).entry ≡ at
      pub callee : is_root c entry.routine ≡ false
      pub same : agree (routine c entry.routine).isr (routine c r.routine).isr ≡ true
      pub stands_there : has_row c at entry.routine (bits x.p3 x.p4 false) ≡ true
      pub back : (o3 o4 : Option Bool) → returns image c entry.routine ≡ true → known_in (routine c entry.routine).out3 o3 ≡ true → known_in (routine c entry.routine).out4 o4 ≡ true
          → has_row c (next r.at) r.routine (bits o3 o4 x.saved) ≡ true

    called : (k at : ℕ) → target x.p3 x.p4 k ≡ Some at → (o : Option Row) → row_at c.rows at ≡ o → is_callee image c r at o ≡ true → IsCalled k
    called k at t None e h = absurd (cc)
    called k at t (Some q) e h =
        let p2 = and_parts _ (comes_back image c r q.routine) h in
        let p3 = and_parts _ (agree (routine c q.routine).isr (routine c r.routine).isr) p2.0 in
        let p4 = and_parts _ (not (is_root c q.routine)) p3.0 in
        let p5 = and_parts (nat_eq (routine c q.routine).entry at) (fits (bits r.facts.p3 r.facts.p4 false) q.facts) p4.0 in
        record {
          at = at;
          target_is = t;
          entry = q;
          row_is = e;
          entry_is = eqb-true _ _ p5.0;
          callee = not-true _ p4.1;
          same = p3.1;
          stands_there = has_less at q.routine (bits x.p3 x.p4 false) (bits r.facts.p3 r.facts.p4 false)
              (record { p3 = l.p3; p4 = l.p4; orig = λ z. absurd (cc); w_orig = λ z. absurd (cc); saved = λ z. absurd (cc) })
              (subst (λ o. stands q.routine (bits r.facts.p3 r.facts.p4 false) o ≡ true) (sym e) (and_from (nat_eq q.routine q.routine) (fits (bits r.facts.p3 r.facts.p4 false) q.facts) (eq-eqb q.routine q.routine refl) p5.1));
          back = λ o3 o4 rt k3 k4. has_less (next r.at) r.routine (bits o3 o4 x.saved) (bits (routine c q.routine).out3 (routine c q.routine).out4 r.facts.saved)
              (record { p3 = k3; p4 = k4; orig = λ z. absurd (cc); w_orig = λ z. absurd (cc); saved = l.saved })
              (second (returns image c q.routine) _ rt p2.1);
        }

    reached : (o : Option ℕ) → calls image c r o ≡ true → (at : ℕ) × (o ≡ Some at) × (is_callee image c r at (row_at c.rows at) ≡ true)
    reached None h = absurd (cc)
    reached (Some at) h = (at, refl, h)

    pub call : (k : ℕ) → instruction image r ≡ Some (Call k) → IsCalled k
    call k e =
        let a = reached (target r.facts.p3 r.facts.p4 k) (held (Call k) e).1 in
        called k a.0 (same_target r.facts.p3 r.facts.p4 x.p3 x.p4 k a.0 l.p3 l.p4 a.1) (row_at c.rows a.0) refl a.2

    known_out : leaves (routine c r.routine) r.facts ≡ true → (known_in (routine c r.routine).out3 x.p3 ≡ true) × (known_in (routine c r.routine).out4 x.p4 ≡ true)
    known_out h =
        let p = and_parts (known_in (routine c r.routine).out3 r.facts.p3) (known_in (routine c r.routine).out4 r.facts.p4) h in
        (known_trans (routine c r.routine).out3 r.facts.p3 x.p3 p.0 l.p3, known_trans (routine c r.routine).out4 r.facts.p4 x.p4 p.1 l.p4)

    pub left : instruction image r ≡ Some Return → (known_in (routine c r.routine).out3 x.p3 ≡ true) × (known_in (routine c r.routine).out4 x.p4 ≡ true)
    left e = known_out (held Return e).1

    pub left_with : (k : ℕ) → instruction image r ≡ Some (Retlw k) → (known_in (routine c r.routine).out3 x.p3 ≡ true) × (known_in (routine c r.routine).out4 x.p4 ≡ true)
    left_with k e = known_out (held (Retlw k) e).1

    pub ended : instruction image r ≡ Some Retfie → x.orig ≡ true
    ended e = l.orig (held Retfie e).1
