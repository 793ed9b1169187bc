-- What a valid certificate has, in the form in which a search meets it.
use Rattle.std.proofs.Common.{◌≡◌, ℕ, ◌+◌, ◌<◌, Bool, true, false, List, [], ◌∷◌, length, Option, Some, None, refl, ap, ◌∙◌, subst, ⊎_elim, arith}
use Rattle.std.specs.Prelude.{not, ◌&&◌, ◌||◌, nat_eq, nat_lt, nat_le}
use Rattle.std.proofs.lemmas.Bool.{and_parts, eqb-true, eq-eqb, ltb-true, le-leb}
use Rattle.pic_isa.specs.declared.Ins.TheVariants.{Call}
use Rattle.depth_check.specs.declared.Facts.{Facts}
use Rattle.depth_check.specs.declared.Row.{Row}
use Rattle.depth_check.specs.Certificate.{Certificate}
use Rattle.depth_check.specs.Facts.{fits, target}
use Rattle.depth_check.specs.Valid.{routine, row_at, has_row, stands, instruction, instruction_holds, is_none, is_row_of, is_bare, returns, row_holds, routine_holds, height, call_height, height_at, height_of, is_rising, total_of, is_valid}
use Rattle.depth_check.specs.Found.{number, routine_or_none}
use Rattle.depth_check.proofs.Threads.{In, in_height, small_total, all_hold, routines_fine, routine_at, rises}
use Rattle.depth_check.proofs.Complete.{all_in, own, found_in}

module _ (image : List ℕ) (c : Certificate) (valid : is_valid image c ≡ true) where
  pub record Fact (at : ℕ) (r : Row) : Type 0 where
    pub member : In r c.rows
    pub at_is : r.at ≡ at
    pub ok : row_holds image c r ≡ true
    pub exists : r.routine < length c.routines
    pub holds : routine_holds image c r.routine (routine c r.routine) ≡ true
    -- the routine's entry has a row of it
    pub first : number c (routine c r.routine).entry ≡ r.routine
    pub needs : (routine c r.routine).isr ≡ true → c.interrupts ≡ true
    pub bound : (routine c r.routine).bound ≡ height image c r.routine 0 c.rows

  first_of : (n : ℕ) (o : Option Row) → is_row_of n o ≡ true → routine_or_none o ≡ n
  first_of n None h = absurd (cc)
  first_of n (Some r) h = eqb-true r.routine n h

  needed : (k b : Bool) → (k || not b) ≡ true → b ≡ true → k ≡ true
  needed true b h e = refl
  needed false true h e = absurd (cc)
  needed false false h e = absurd (cc)

  plain : (k : ℕ) → 0 + k ≡ k
  plain k = omega arith

  pub fact : (at : ℕ) (r : Row) → row_at c.rows at ≡ Some r → Fact at r
  fact at r e =
      let f = found_in c.rows at r e in
      let ok = all_in (row_holds image c) r c.rows (all_hold image c valid) f.1 in
      let a = and_parts _ (instruction_holds image c r (instruction image r)) ok in
      let b = and_parts (nat_lt r.routine (length c.routines)) (nat_eq r.routine 1 || is_bare r.facts) a.0 in
      let lt = ltb-true r.routine (length c.routines) b.0 in
      let q : routine_holds image c r.routine (routine c r.routine) ≡ true = subst (λ m. routine_holds image c m (routine c r.routine) ≡ true) (plain r.routine) (routine_at image c 0 c.routines r.routine (routines_fine image c valid) lt) in
      let q1 = and_parts _ (nat_eq (routine c r.routine).bound (height image c r.routine 0 c.rows)) q in
      let q2 = and_parts _ (returns image c r.routine || (is_none (routine c r.routine).out3 && is_none (routine c r.routine).out4)) q1.0 in
      let q3 = and_parts (is_row_of r.routine (row_at c.rows (routine c r.routine).entry)) (c.interrupts || not (routine c r.routine).isr) q2.0 in
      record {
        member = f.1;
        at_is = f.0;
        ok = ok;
        exists = lt;
        holds = q;
        first = first_of r.routine (row_at c.rows (routine c r.routine).entry) q3.0;
        needs = needed c.interrupts (routine c r.routine).isr q3.1;
        bound = eqb-true _ _ q1.1;
      }

  -- what is called has a smaller bound
  pub falls : (r : Row) → In r c.rows → (k at : ℕ) (e : Row) → instruction image r ≡ Some (Call k) → target r.facts.p3 r.facts.p4 k ≡ Some at → row_at c.rows at ≡ Some e → (routine c e.routine).bound < (routine c r.routine).bound
  falls r is k at e i t a =
      let h : call_height c r (instruction image r) ≡ 1 + (routine c e.routine).bound = ap (call_height c r) i ∙ ap (height_at c) t ∙ ap (height_of c) a in
      let l = in_height image c r.routine 0 r c.rows is (eq-eqb r.routine r.routine refl) in
      let q = (fact r.at r (own 0 r c.rows (rises image c valid) is)).bound in
      omega (arith, h, l, q)

  pub record Stands (at n : ℕ) (x : Facts) : Type 0 where
    pub row : Row
    pub is : row_at c.rows at ≡ Some row
    pub same : row.routine ≡ n
    pub fit : fits x row.facts ≡ true

  pub stands_at : (at n : ℕ) (x : Facts) → has_row c at n x ≡ true → Stands at n x
  stands_at at n x h = by (row_at c.rows at) refl h where
    by : (o : Option Row) → row_at c.rows at ≡ o → stands n x o ≡ true → Stands at n x
    by None e h = absurd (cc)
    by (Some r) e h =
        let p = and_parts (nat_eq r.routine n) (fits x r.facts) h in
        record { row = r; is = e; same = eqb-true r.routine n p.0; fit = p.1 }

  pub below : (at n : ℕ) (x : Facts) → has_row c at n x ≡ true → at < 8192
  below at n x h = let s = stands_at at n x h in let f = found_in c.rows at s.row s.is in subst (λ k. k < 8192) f.0 (under 0 s.row c.rows (rises image c valid) f.1) where
    under : (low : ℕ) (t : Row) (rows : List Row) → is_rising low rows ≡ true → In t rows → t.at < 8192
    under low t [] h o = absurd o
    under low t (x ∷ rows) h o =
        let a = and_parts _ (is_rising (x.at + 1) rows) h in
        let b = and_parts (nat_le low x.at) (nat_lt x.at 8192) a.0 in
        ⊎_elim (λ e. subst (λ (z : Row). z.at < 8192) e (ltb-true x.at 8192 b.1)) (λ l. under (x.at + 1) t rows a.1 l) o

-- a total above 8 is in no valid certificate
pub too_deep : (image : List ℕ) (c : Certificate) → not (nat_le (total_of c) 8) ≡ true → false ≡ is_valid image c
too_deep image c h = by (is_valid image c) refl where
  clash : (b : Bool) → b ≡ true → not b ≡ true → ⊥
  clash true e f = cc
  clash false e f = cc

  by : (b : Bool) → is_valid image c ≡ b → false ≡ b
  by false v = refl
  by true v = absurd (clash (nat_le (total_of c) 8) (le-leb (total_of c) 8 (small_total image c v)) h)
