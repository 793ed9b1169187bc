-- Two certificates that are valid for one image, whatever their cells are, have rows at the same addresses, which tell nothing different of
-- PCLATH.
use Rattle.std.proofs.Common.{◌≡◌, ℕ, zero, suc, ◌<◌, ◌≤◌, Bool, true, false, List, Option, Some, None, refl, sym, ap, ◌∙◌, subst, ⊎_elim, arith}
use Rattle.std.specs.Prelude.{◌&&◌, ◌||◌, nat_eq}
use Rattle.std.specs.List.{list_any}
use Rattle.std.proofs.lemmas.Bool.{and_parts, and_from, or_cases, eqb-true, eq-eqb}
use Rattle.pic_isa.specs.declared.Ins.{Ins}
use Rattle.pic_isa.specs.declared.Ins.TheVariants.{Call, Goto, Retfie, Retlw, Return, Sleep}
use Rattle.pic_isa.specs.Lookup.{row_of}
use Rattle.std.specs.Prelude.{slice_index}
use Rattle.depth_check.specs.declared.Facts.{Facts}
use Rattle.depth_check.specs.declared.Row.{Row}
use Rattle.depth_check.specs.Certificate.{Certificate}
use Rattle.depth_check.specs.Found.{routine_or_none}
use Rattle.depth_check.specs.Facts.{writes, bit_written, may_skip, after, known_in, fits, bits, target, at_reset, at_interrupt}
use Rattle.depth_check.specs.Valid.{routine, row_at, has_row, instruction, next, next_but_one, is_return, returns, is_place, returns_from, call_returns, asks, is_met, row_holds, is_valid}
use Rattle.depth_check.proofs.Step.{is_straight}
use Rattle.depth_check.proofs.Threads.{In, in_any, main_row, main_entry, handler, handler_entry, rises, every_met}
use Rattle.depth_check.proofs.Below.{less_of}
use Rattle.depth_check.proofs.Transfer.{IsCalled, straight_on, jump, call}
use Rattle.depth_check.proofs.Complete.{any_in, all_in, own, found_in, same_row}
use Rattle.depth_check.proofs.Sure.{fact, falls, stands_at}
use Rattle.depth_check.proofs.Agreeing.{Agrees, agrees_self, agrees_less, written_agrees, chosen_agrees, inside, same_place, itself, left_known}

module _ (image : List ℕ) (c d : Certificate) (valid : is_valid image c ≡ true) (other : is_valid image d ≡ true) where
  -- a row of the one has such a row of the other at its address
  pub record Twin (r : Row) : Type 0 where
    pub its : Row
    pub is : row_at d.rows r.at ≡ Some its
    pub entry : (routine c r.routine).entry ≡ (routine d its.routine).entry
    pub p3 : Agrees r.facts.p3 its.facts.p3
    pub p4 : Agrees r.facts.p4 its.facts.p4

  abbrev pub At : ℕ → Type 0
  At at = (r : Row) × (row_at c.rows at ≡ Some r) × Twin r

  -- all rows of a routine
  abbrev pub Whole : ℕ → Type 0
  Whole k = (v : Row) → In v c.rows → v.routine ≡ k → Twin v

  twin_of : (at : ℕ) (s : Row) → row_at c.rows at ≡ Some s → At at → Twin s
  twin_of at s e a = subst Twin (same_row (row_at c.rows at) a.0 s a.1 e) a.2

  pub own_c : (t : Row) → In t c.rows → row_at c.rows t.at ≡ Some t
  own_c t is = own 0 t c.rows (rises image c valid) is

  -- routines of the other with one entry are one
  pub one_routine : (at to : ℕ) (u v : Row) → row_at d.rows at ≡ Some u → row_at d.rows to ≡ Some v → (routine d u.routine).entry ≡ (routine d v.routine).entry → u.routine ≡ v.routine
  one_routine at to u v a b e = sym (fact image d other at u a).first ∙ ap (λ k. routine_or_none (row_at d.rows k)) e ∙ (fact image d other to v b).first

  -- ---- what a row and its twin ask for
  module _ (t : Row) (is : In t c.rows) (w : Twin t) where
    pub ok : row_holds image c t ≡ true
    ok = (fact image c valid t.at t (own_c t is)).ok

    pub its_ok : row_holds image d w.its ≡ true
    its_ok = (fact image d other t.at w.its w.is).ok

    same_at : w.its.at ≡ t.at
    same_at = (fact image d other t.at w.its w.is).at_is

    pub there : (i : Ins) → instruction image t ≡ Some i → instruction image w.its ≡ Some i
    there i e = ap (λ a. row_of (slice_index image a)) same_at ∙ e

    -- of the same routine
    moved : (at : ℕ) (s : Row) (x y : Facts) → row_at c.rows at ≡ Some s → has_row c at t.routine x ≡ true → has_row d at w.its.routine y ≡ true → Agrees x.p3 y.p3 → Agrees x.p4 y.p4 → Twin s
    moved at s x y at_s h k g3 g4 =
        let a = stands_at image c valid at t.routine x h in
        let b = stands_at image d other at w.its.routine y k in
        let e : a.row ≡ s = same_row (row_at c.rows at) a.row s a.is at_s in
        subst Twin e (record {
          its = b.row;
          is = subst (λ z. row_at d.rows z ≡ Some b.row) (sym (found_in c.rows at a.row a.is).0) b.is;
          entry = ap (λ z. (routine c z).entry) a.same ∙ w.entry ∙ sym (ap (λ z. (routine d z).entry) b.same);
          p3 = agrees_less x.p3 y.p3 a.row.facts.p3 b.row.facts.p3 (less_of x a.row.facts a.fit).p3 (less_of y b.row.facts b.fit).p3 g3;
          p4 = agrees_less x.p4 y.p4 a.row.facts.p4 b.row.facts.p4 (less_of x a.row.facts a.fit).p4 (less_of y b.row.facts b.fit).p4 g4;
        })

    jumped : (k at : ℕ) (s : Row) → instruction image t ≡ Some (Goto k) → target t.facts.p3 t.facts.p4 k ≡ Some at → row_at c.rows at ≡ Some s → Twin s
    jumped k at s e to at_s =
        let j = jump image c t ok t.facts (itself t.facts) k e in
        let i = jump image d w.its its_ok w.its.facts (itself w.its.facts) k (there (Goto k) e) in
        let a : j.0 ≡ at = inside j.0 at (sym j.1 ∙ to) in
        let b : i.0 ≡ at = sym (same_place t.facts.p3 t.facts.p4 w.its.facts.p3 w.its.facts.p4 k at i.0 w.p3 w.p4 to i.1) in
        moved at s t.facts w.its.facts at_s (subst (λ z. has_row c z t.routine t.facts ≡ true) a j.2) (subst (λ z. has_row d z w.its.routine w.its.facts ≡ true) b i.2) w.p3 w.p4

    went : (i : Ins) (at : ℕ) (s : Row) → row_at c.rows at ≡ Some s → has_row c at t.routine (after c.cell i t.facts) ≡ true → has_row d at w.its.routine (after d.cell i w.its.facts) ≡ true → Twin s
    went i at s at_s h k = moved at s (after c.cell i t.facts) (after d.cell i w.its.facts) at_s h k
        (chosen_agrees (writes 10 i) (bit_written 3 i t.facts.p3) (bit_written 3 i w.its.facts.p3) t.facts.p3 w.its.facts.p3 (written_agrees 3 i t.facts.p3 w.its.facts.p3 w.p3) w.p3)
        (chosen_agrees (writes 10 i) (bit_written 4 i t.facts.p4) (bit_written 4 i w.its.facts.p4) t.facts.p4 w.its.facts.p4 (written_agrees 4 i t.facts.p4 w.its.facts.p4 w.p4) w.p4)

    went_on : (i : Ins) (at : ℕ) (s : Row) → is_straight i ≡ true → instruction image t ≡ Some i → row_at c.rows at ≡ Some s → next t.at ≡ at → Twin s
    went_on i at s st e at_s nx =
        let o = straight_on image c t ok t.facts (itself t.facts) i st e in
        let q = straight_on image d w.its its_ok w.its.facts (itself w.its.facts) i st (there i e) in
        went i at s at_s (subst (λ z. has_row c z t.routine (after c.cell i t.facts) ≡ true) nx o.0)
        (subst (λ z. has_row d z w.its.routine (after d.cell i w.its.facts) ≡ true) (ap next same_at ∙ nx) q.0)

    skipped : (i : Ins) (at : ℕ) (s : Row) → is_straight i ≡ true → instruction image t ≡ Some i → may_skip i ≡ true → row_at c.rows at ≡ Some s → next_but_one t.at ≡ at → Twin s
    skipped i at s st e sk at_s nx =
        let o = straight_on image c t ok t.facts (itself t.facts) i st e in
        let q = straight_on image d w.its its_ok w.its.facts (itself w.its.facts) i st (there i e) in
        went i at s at_s (subst (λ z. has_row c z t.routine (after c.cell i t.facts) ≡ true) nx (o.1 sk))
        (subst (λ z. has_row d z w.its.routine (after d.cell i w.its.facts) ≡ true) (ap next_but_one same_at ∙ nx) (q.1 sk))

    module _ (k : ℕ) (e : instruction image t ≡ Some (Call k)) where
      pub mine : IsCalled image c t ok t.facts (itself t.facts) k
      mine = call image c t ok t.facts (itself t.facts) k e

      pub others : IsCalled image d w.its its_ok w.its.facts (itself w.its.facts) k
      others = call image d w.its its_ok w.its.facts (itself w.its.facts) k (there (Call k) e)

      one_place : mine.at ≡ others.at
      one_place = same_place t.facts.p3 t.facts.p4 w.its.facts.p3 w.its.facts.p4 k mine.at others.at w.p3 w.p4 mine.target_is others.target_is

      -- the entries of what is called
      pub called : Twin mine.entry
      called =
          let a = stands_at image c valid mine.at mine.entry.routine (bits t.facts.p3 t.facts.p4 false) mine.stands_there in
          let b = stands_at image d other others.at others.entry.routine (bits w.its.facts.p3 w.its.facts.p4 false) others.stands_there in
          let f : a.row ≡ mine.entry = same_row (row_at c.rows mine.at) a.row mine.entry a.is mine.row_is in
          let g : b.row ≡ others.entry = same_row (row_at d.rows others.at) b.row others.entry b.is others.row_is in
          let fa = subst (λ (z : Row). fits (bits t.facts.p3 t.facts.p4 false) z.facts ≡ true) f a.fit in
          let fb = subst (λ (z : Row). fits (bits w.its.facts.p3 w.its.facts.p4 false) z.facts ≡ true) g b.fit in
          record {
            its = others.entry;
            is = subst (λ z. row_at d.rows z ≡ Some others.entry) (sym ((found_in c.rows mine.at mine.entry mine.row_is).0 ∙ one_place)) others.row_is;
            entry = mine.entry_is ∙ one_place ∙ sym others.entry_is;
            p3 = agrees_less t.facts.p3 w.its.facts.p3 mine.entry.facts.p3 others.entry.facts.p3 (less_of (bits t.facts.p3 t.facts.p4 false) mine.entry.facts fa).p3
                (less_of (bits w.its.facts.p3 w.its.facts.p4 false) others.entry.facts fb).p3 w.p3;
            p4 = agrees_less t.facts.p4 w.its.facts.p4 mine.entry.facts.p4 others.entry.facts.p4 (less_of (bits t.facts.p3 t.facts.p4 false) mine.entry.facts fa).p4
                (less_of (bits w.its.facts.p3 w.its.facts.p4 false) others.entry.facts fb).p4 w.p4;
          }

      -- what modules above know of this row's twin
      pub called_is : called.its ≡ others.entry
      unfolding called
      called_is = refl

      pub called_by : Twin (call image c t (fact image c valid t.at t (own_c t is)).ok t.facts (itself t.facts) k e).entry
      unfolding mine ok
      called_by = called

      -- behind the call, where all rows of what is called have twins
      came_back : (at : ℕ) (s : Row) → Whole mine.entry.routine → returns image c mine.entry.routine ≡ true → row_at c.rows at ≡ Some s → next t.at ≡ at → Twin s
      came_back at s all rt at_s nx =
          let a = any_in (λ r. nat_eq r.routine mine.entry.routine && is_return (instruction image r)) c.rows rt in
          let v = a.0 in
          let p = and_parts (nat_eq v.routine mine.entry.routine) (is_return (instruction image v)) a.2 in
          let n = eqb-true v.routine mine.entry.routine p.0 in
          let x = all v a.1 n in
          let f = fact image c valid v.at v (own_c v a.1) in
          let g = fact image d other v.at x.its x.is in
          let back_here : is_return (instruction image x.its) ≡ true = ap (λ z. is_return (row_of (slice_index image z))) g.at_is ∙ p.1 in
          let m : x.its.routine ≡ others.entry.routine = one_routine v.at others.at x.its others.entry x.is others.row_is (sym x.entry ∙ ap (λ z. (routine c z).entry) n ∙ mine.entry_is ∙ one_place ∙ sym others.entry_is) in
          let rd : returns image d others.entry.routine ≡ true = in_any (λ r. nat_eq r.routine others.entry.routine && is_return (instruction image r)) x.its d.rows g.member
          (and_from (nat_eq x.its.routine others.entry.routine) (is_return (instruction image x.its)) (eq-eqb x.its.routine others.entry.routine m) back_here) in
          let kc = left_known image c v f.ok p.1 in
          let kd = left_known image d x.its g.ok back_here in
          let hc = mine.back v.facts.p3 v.facts.p4 rt (subst (λ z. known_in (routine c z).out3 v.facts.p3 ≡ true) n kc.0) (subst (λ z. known_in (routine c z).out4 v.facts.p4 ≡ true) n kc.1) in
          let hd = others.back x.its.facts.p3 x.its.facts.p4 rd (subst (λ z. known_in (routine d z).out3 x.its.facts.p3 ≡ true) m kd.0) (subst (λ z. known_in (routine d z).out4 x.its.facts.p4 ≡ true) m kd.1) in
          moved at s (bits v.facts.p3 v.facts.p4 t.facts.saved) (bits x.its.facts.p3 x.its.facts.p4 w.its.facts.saved) at_s
          (subst (λ z. has_row c z t.routine (bits v.facts.p3 v.facts.p4 t.facts.saved) ≡ true) nx hc)
          (subst (λ z. has_row d z w.its.routine (bits x.its.facts.p3 x.its.facts.p4 w.its.facts.saved) ≡ true) (ap next same_at ∙ nx) hd) x.p3 x.p4

  placed : (at : ℕ) (o : Option ℕ) → is_place at o ≡ true → o ≡ Some at
  placed at None h = absurd (cc)
  placed at (Some k) h = ap Some (eqb-true k at h)

  back_to : (o : Option Row) → returns_from image c o ≡ true → (e : Row) × (o ≡ Some e) × (returns image c e.routine ≡ true)
  back_to None h = absurd (cc)
  back_to (Some e) h = (e, refl, h)

  -- ---- the rows of a routine whose entry has a twin
  module _ (m at : ℕ) (s : Row) (at_s : row_at c.rows at ≡ Some s) (is_m : s.routine ≡ m) (entry : At (routine c m).entry)
      (small : (k : ℕ) → (routine c k).bound < (routine c m).bound → At (routine c k).entry → Whole k) (t : Row) (is : In t c.rows) (before : t.routine ≡ m → Twin t) where
    fine : row_holds image c t ≡ true
    fine = (fact image c valid t.at t (own_c t is)).ok

    same_routine : (x : Facts) → has_row c at t.routine x ≡ true → t.routine ≡ m
    same_routine x h = let q = stands_at image c valid at t.routine x h in sym q.same ∙ ap (λ (z : Row). z.routine) (same_row (row_at c.rows at) q.row s q.is at_s) ∙ is_m

    by_goto : (k : ℕ) → instruction image t ≡ Some (Goto k) → is_place at (target t.facts.p3 t.facts.p4 k) ≡ true → Twin s
    by_goto k e h =
        let to = placed at (target t.facts.p3 t.facts.p4 k) h in
        let j = jump image c t fine t.facts (itself t.facts) k e in
        let same : j.0 ≡ at = inside j.0 at (sym j.1 ∙ to) in
        jumped t is (before (same_routine t.facts (subst (λ z. has_row c z t.routine t.facts ≡ true) same j.2))) k at s e to at_s

    by_entry : (k : ℕ) → instruction image t ≡ Some (Call k) → is_place at (target t.facts.p3 t.facts.p4 k) ≡ true → Twin s
    by_entry k e h =
        let q = call image c t fine t.facts (itself t.facts) k e in
        let same : q.at ≡ at = inside q.at at (sym q.target_is ∙ placed at (target t.facts.p3 t.facts.p4 k) h) in
        let row : q.entry ≡ s = same_row (row_at c.rows at) q.entry s (subst (λ a. row_at c.rows a ≡ Some q.entry) same q.row_is) at_s in
        let en : (routine c m).entry ≡ at = ap (λ z. (routine c z).entry) (sym is_m ∙ ap (λ (z : Row). z.routine) (sym row)) ∙ q.entry_is ∙ same in
        twin_of at s at_s (subst At en entry)

    by_back : (k to : ℕ) → instruction image t ≡ Some (Call k) → target t.facts.p3 t.facts.p4 k ≡ Some to → next t.at ≡ at → returns_from image c (row_at c.rows to) ≡ true → Twin s
    unfolding mine fine ok
    by_back k to e q nx h =
        let z = call image c t fine t.facts (itself t.facts) k e in
        let same : z.at ≡ to = inside z.at to (sym z.target_is ∙ q) in
        let b = back_to (row_at c.rows to) h in
        let row : b.0 ≡ z.entry = same_row (row_at c.rows to) b.0 z.entry b.1 (subst (λ a. row_at c.rows a ≡ Some z.entry) same z.row_is) in
        let rt : returns image c z.entry.routine ≡ true = subst (λ (y : Row). returns image c y.routine ≡ true) row b.2 in
        let up = z.back (routine c z.entry.routine).out3 (routine c z.entry.routine).out4 rt (known_self (routine c z.entry.routine).out3) (known_self (routine c z.entry.routine).out4) in
        let r = same_routine (bits (routine c z.entry.routine).out3 (routine c z.entry.routine).out4 t.facts.saved)
        (subst (λ a. has_row c a t.routine (bits (routine c z.entry.routine).out3 (routine c z.entry.routine).out4 t.facts.saved) ≡ true) nx up) in
        let low : (routine c z.entry.routine).bound < (routine c m).bound = subst (λ y. (routine c z.entry.routine).bound < (routine c y).bound) r (falls image c valid t is k z.at z.entry e z.target_is z.row_is) in
        let w = before r in
        let x : Twin z.entry = called t is w k e in
        came_back t is w k e at s (small z.entry.routine low (z.entry, subst (λ a. row_at c.rows a ≡ Some z.entry) (sym z.entry_is) z.row_is, x)) rt at_s nx
      where
        known_self : (k : Option Bool) → known_in k k ≡ true
        known_self None = refl
        known_self (Some true) = refl
        known_self (Some false) = refl

    by_call : (k : ℕ) → instruction image t ≡ Some (Call k) → (o : Option ℕ) → target t.facts.p3 t.facts.p4 k ≡ o → (is_place at o || (nat_eq (next t.at) at && call_returns image c o)) ≡ true → Twin s
    by_call k e None q h = absurd (last (nat_eq (next t.at) at) h) where
      last : (b : Bool) → (false || (b && false)) ≡ true → ⊥
      last true h = cc
      last false h = cc
    by_call k e (Some to) q h = ⊎_elim
        (λ p. by_entry k e (subst (λ o. is_place at o ≡ true) (sym q) p))
        (λ p. let z = and_parts (nat_eq (next t.at) at) (returns_from image c (row_at c.rows to)) p in by_back k to e q (eqb-true (next t.at) at z.0) z.1)
        (or_cases (is_place at (Some to)) (nat_eq (next t.at) at && returns_from image c (row_at c.rows to)) h)

    by_straight : (i : Ins) → is_straight i ≡ true → instruction image t ≡ Some i → (nat_eq (next t.at) at || (may_skip i && nat_eq (next_but_one t.at) at)) ≡ true → Twin s
    by_straight i st e h =
        let o = straight_on image c t fine t.facts (itself t.facts) i st e in
        ⊎_elim
        (λ q. let nx = eqb-true (next t.at) at q in
        went_on t is (before (same_routine (after c.cell i t.facts) (subst (λ a. has_row c a t.routine (after c.cell i t.facts) ≡ true) nx o.0))) i at s st e at_s nx)
        (λ q. let z = and_parts (may_skip i) (nat_eq (next_but_one t.at) at) q in
        let nx = eqb-true (next_but_one t.at) at z.1 in
        skipped t is (before (same_routine (after c.cell i t.facts) (subst (λ a. has_row c a t.routine (after c.cell i t.facts) ≡ true) nx (o.1 z.0)))) i at s st e z.0 at_s nx)
        (or_cases (nat_eq (next t.at) at) (may_skip i && nat_eq (next_but_one t.at) at) h)

    by : (o : Option Ins) → instruction image t ≡ o → asks image c t o at ≡ true → Twin s
    by None e h = absurd (cc)
    by (Some (Goto k)) e h = by_goto k e h
    by (Some (Call k)) e h = by_call k e (target t.facts.p3 t.facts.p4 k) refl h
    by (Some Return) e h = absurd (cc)
    by (Some (Retlw k)) e h = absurd (cc)
    by (Some Retfie) e h = absurd (cc)
    by (Some Sleep) e h = absurd (cc)
    by (Some i) e h = by_straight i refl e h

  -- a row that is met at first is the entry of its routine
  rooted : (at n : ℕ) (x : Facts) (s : Row) → has_row c at n x ≡ true → row_at c.rows at ≡ Some s → n ≡ s.routine
  rooted at n x s h e = let w = stands_at image c valid at n x h in sym w.same ∙ ap (λ (z : Row). z.routine) (same_row (row_at c.rows at) w.row s w.is e)

  root_entry : (at : ℕ) (s : Row) → is_met image c 0 at ≡ true → row_at c.rows at ≡ Some s → (routine c s.routine).entry ≡ at
  unfolding is_met
  root_entry at s h e = ⊎_elim
      (λ p. let z = eqb-true 0 at p in
      ap (λ k. (routine c k).entry) (sym (rooted 0 0 at_reset s (main_row image c valid) (subst (λ k. row_at c.rows k ≡ Some s) (sym z) e))) ∙ main_entry image c valid ∙ z)
      (λ p. let y = and_parts c.interrupts (nat_eq 4 at) p in let z = eqb-true 4 at y.1 in
      ap (λ k. (routine c k).entry) (sym (rooted 4 1 at_interrupt s (handler image c valid y.0).1 (subst (λ k. row_at c.rows k ≡ Some s) (sym z) e))) ∙ handler_entry image c valid y.0 ∙ z)
      (or_cases (nat_eq 0 at) (c.interrupts && nat_eq 4 at) h)

  rounds : (m : ℕ) → At (routine c m).entry → ((k : ℕ) → (routine c k).bound < (routine c m).bound → At (routine c k).entry → Whole k) → (n at : ℕ) (s : Row)
      → is_met image c n at ≡ true → row_at c.rows at ≡ Some s → s.routine ≡ m → Twin s
  unfolding is_met
  rounds m en small zero at s h e r = twin_of at s e (subst At (ap (λ k. (routine c k).entry) (sym r) ∙ root_entry at s h e) en)
  rounds m en small (suc n) at s h e r = ⊎_elim
      (λ l. rounds m en small n at s l e r)
      (λ l. let a = any_in (λ t. is_met image c n t.at && asks image c t (instruction image t) at) c.rows l in
      let p = and_parts (is_met image c n a.0.at) (asks image c a.0 (instruction image a.0) at) a.2 in
      by m at s e r en small a.0 a.1 (λ q. rounds m en small n a.0.at a.0 p.0 (own_c a.0 a.1) q) (instruction image a.0) refl p.1)
      (or_cases (is_met image c n at) (list_any (λ t. is_met image c n t.at && asks image c t (instruction image t) at) c.rows) h)

  met_row : (m : ℕ) → At (routine c m).entry → ((k : ℕ) → (routine c k).bound < (routine c m).bound → At (routine c k).entry → Whole k) → Whole m
  met_row m en small v is r = rounds m en small 8192 v.at v (all_in (λ z. is_met image c 8192 z.at) v c.rows (every_met image c valid) is) (own_c v is) r

  pub all_twins : (b m : ℕ) → (routine c m).bound ≤ b → At (routine c m).entry → Whole m
  all_twins zero m le en = met_row m en (λ k lt h. absurd (omega arith))
  all_twins (suc b) m le en = met_row m en (λ k lt h. all_twins b k (omega arith) h)

  -- ---- the roots
  root_twin : (at n k : ℕ) (x : Facts) → has_row c at n x ≡ true → has_row d at k x ≡ true → (routine c n).entry ≡ at → (routine d k).entry ≡ at → At at
  root_twin at n k x h g e f =
      let a = stands_at image c valid at n x h in
      let b = stands_at image d other at k x g in (
        a.row,
        a.is,
        record {
          its = b.row;
          is = subst (λ z. row_at d.rows z ≡ Some b.row) (sym (found_in c.rows at a.row a.is).0) b.is;
          entry = ap (λ z. (routine c z).entry) a.same ∙ e ∙ sym f ∙ ap (λ z. (routine d z).entry) (sym b.same);
          p3 = agrees_less x.p3 x.p3 a.row.facts.p3 b.row.facts.p3 (less_of x a.row.facts a.fit).p3 (less_of x b.row.facts b.fit).p3 (agrees_self x.p3);
          p4 = agrees_less x.p4 x.p4 a.row.facts.p4 b.row.facts.p4 (less_of x a.row.facts a.fit).p4 (less_of x b.row.facts b.fit).p4 (agrees_self x.p4);
        },
      )

  pub main_twin : At 0
  main_twin = root_twin 0 0 0 at_reset (main_row image c valid) (main_row image d other) (main_entry image c valid) (main_entry image d other)

  pub handler_twin : c.interrupts ≡ true → d.interrupts ≡ true → At 4
  handler_twin e f = root_twin 4 1 1 at_interrupt (handler image c valid e).1 (handler image d other f).1 (handler_entry image c valid e) (handler_entry image d other f)
