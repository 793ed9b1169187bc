-- Certificates that are valid for one image have one total.
use Rattle.std.proofs.Common.{◌≡◌, ℕ, zero, suc, ◌+◌, ◌<◌, ◌≤◌, Bool, true, false, List, Option, Some, None, refl, sym, ap, ◌∙◌, subst, arith}
use Rattle.std.specs.Prelude.{if◌then◌else◌, not, ◌&&◌, ◌||◌}
use Rattle.std.proofs.lemmas.Bool.{and_parts, eqb-true, eq-eqb, not-true}
use Rattle.pic_isa.specs.declared.Ins.{Ins}
use Rattle.pic_isa.specs.declared.Ins.TheVariants.{Call}
use Rattle.depth_check.specs.declared.Facts.{Facts}
use Rattle.depth_check.specs.declared.Row.{Row}
use Rattle.depth_check.specs.Certificate.{Certificate}
use Rattle.depth_check.specs.Facts.{target, at_reset, at_interrupt}
use Rattle.depth_check.specs.Valid.{routine, row_at, has_row, instruction, is_met, call_height, height_at, height_of, lets_in, writes_intcon, total_of, is_valid}
use Rattle.depth_check.proofs.Threads.{In, in_height, main_row, main_entry, handler, handler_entry, every_met, let_in}
use Rattle.depth_check.proofs.Transfer.{allowed, call}
use Rattle.depth_check.proofs.Complete.{any_in, all_in, found_in, same_row}
use Rattle.depth_check.proofs.Bounds.{height_least}
use Rattle.depth_check.proofs.Sure.{fact, falls, stands_at}
use Rattle.depth_check.proofs.Through.{each_met}
use Rattle.depth_check.proofs.Agreeing.{inside, itself, same_flag, interrupts_come}
use Rattle.depth_check.proofs.Twins as rows

module _ (image : List ℕ) (c d : Certificate) (valid : is_valid image c ≡ true) (other : is_valid image d ≡ true) where
  abbrev Twin : Row → Type 0
  Twin r = rows.Twin image c d valid other r

  abbrev At : ℕ → Type 0
  At at = rows.At image c d valid other at

  -- ---- all rows of main's routines, or of all
  module _ (Side : Bool → Type 0) (handled : Side true → c.interrupts ≡ true → d.interrupts ≡ true) where
    abbrev Q : ℕ → Type 0
    Q m = Side (routine c m).isr → At (routine c m).entry

    handler_side : c.interrupts ≡ true → Q 1
    handler_side e side = subst At (sym (handler_entry image c valid e)) (rows.handler_twin image c d valid other e (handled (subst Side (handler image c valid e).0 side) e))

    callee_side : (r : Row) → In r c.rows → (k at : ℕ) (e : Row) → instruction image r ≡ Some (Call k) → target r.facts.p3 r.facts.p4 k ≡ Some at → row_at c.rows at ≡ Some e → Q r.routine → Q e.routine
    callee_side r is k at e i t at_e q side =
        let ok = (fact image c valid r.at r (rows.own_c image c d valid other r is)).ok in
        let z = call image c r ok r.facts (itself r.facts) k i in
        let same : z.at ≡ at = inside z.at at (sym z.target_is ∙ t) in
        let row : z.entry ≡ e = same_row (row_at c.rows at) z.entry e (subst (λ a. row_at c.rows a ≡ Some z.entry) same z.row_is) at_e in
        let n : z.entry.routine ≡ e.routine = ap (λ (y : Row). y.routine) row in
        let f : (routine c r.routine).isr ≡ (routine c e.routine).isr = same_flag (routine c z.entry.routine).isr (routine c r.routine).isr z.same ∙ ap (λ y. (routine c y).isr) n in
        let w = rows.all_twins image c d valid other (routine c r.routine).bound r.routine (omega arith) (q (subst Side (sym f) side)) r is refl in
        let x : Twin z.entry = rows.called_by image c d valid other r is w k i in
        let en : z.at ≡ (routine c e.routine).entry = sym z.entry_is ∙ ap (λ y. (routine c y).entry) n in
        (z.entry, subst (λ a. row_at c.rows a ≡ Some z.entry) en z.row_is, x)

    entries : (v : Row) → In v c.rows → Q v.routine
    entries v is = each_met image c valid Q (λ side. subst At (sym (main_entry image c valid)) (rows.main_twin image c d valid other)) handler_side callee_side 8192 v.at v
        (all_in (λ z. is_met image c 8192 z.at) v c.rows (every_met image c valid) is) (rows.own_c image c d valid other v is)

    pub twins : (v : Row) → In v c.rows → Side (routine c v.routine).isr → Twin v
    twins v is side = rows.all_twins image c d valid other (routine c v.routine).bound v.routine (omega arith) (entries v is side) v is refl

  -- ---- interrupts
  main_twins : (v : Row) → In v c.rows → (routine c v.routine).isr ≡ false → Twin v
  main_twins = twins (λ b. b ≡ false) (λ no e. absurd (cc))

  written : (v : Row) (is : In v c.rows) → Twin v → (o : Option Ins) → instruction image v ≡ o → writes_intcon o ≡ true → d.interrupts ≡ true
  written v is w None e h = absurd (cc)
  written v is w (Some i) e h =
      interrupts_come d w.its.routine i h (allowed image d w.its (rows.its_ok image c d valid other v is w) w.its.facts (itself w.its.facts) i (rows.there image c d valid other v is w i e))

  pub same_interrupts : c.interrupts ≡ true → d.interrupts ≡ true
  same_interrupts e =
      let a = any_in (λ r. not (routine c r.routine).isr && writes_intcon (instruction image r)) c.rows (second c.interrupts (lets_in image c c.rows) e (let_in image c valid)) in
      let p = and_parts (not (routine c a.0.routine).isr) (writes_intcon (instruction image a.0)) a.2 in
      written a.0 a.1 (main_twins a.0 a.1 (not-true _ p.0)) (instruction image a.0) refl p.1
    where
      second : (p q : Bool) → p ≡ true → (not p || q) ≡ true → q ≡ true
      second true q e h = h
      second false q e h = absurd (cc)

  -- ---- bounds
  -- one call goes no deeper in the one than in the other
  module _ (m : ℕ) (en : At (routine c m).entry) (small : (e : Row) (at : ℕ) (w : Twin e) → row_at c.rows at ≡ Some e → (routine c e.routine).entry ≡ at → (routine c e.routine).bound < (routine c m).bound → (routine c e.routine).bound ≤ (routine d w.its.routine).bound) (n : ℕ)
      (entry_d : (v : Row) (w : Twin v) → v.routine ≡ m → w.its.routine ≡ n) (t : Row) (is : In t c.rows) (is_m : t.routine ≡ m) where
    w : Twin t
    w = rows.all_twins image c d valid other (routine c m).bound m (omega arith) en t is is_m

    call_less : (k : ℕ) → instruction image t ≡ Some (Call k) → call_height c t (Some (Call k)) ≤ (routine d n).bound
    call_less k e =
        let a = rows.mine image c d valid other t is w k e in
        let b = rows.others image c d valid other t is w k e in
        let x = rows.called image c d valid other t is w k e in
        let u : call_height c t (Some (Call k)) ≡ 1 + (routine c a.entry.routine).bound = ap (height_at c) a.target_is ∙ ap (height_of c) a.row_is in
        let v : call_height d w.its (instruction image w.its) ≡ 1 + (routine d b.entry.routine).bound = ap (call_height d w.its) (rows.there image c d valid other t is w (Call k) e) ∙ ap (height_at d) b.target_is ∙ ap (height_of d) b.row_is in
        let g = fact image d other t.at w.its w.is in
        let y = in_height image d w.its.routine 0 w.its d.rows g.member (eq-eqb w.its.routine w.its.routine refl) in
        let z = g.bound in
        let low : (routine c a.entry.routine).bound < (routine c m).bound = subst (λ i. (routine c a.entry.routine).bound < (routine c i).bound) is_m (falls image c valid t is k a.at a.entry e a.target_is a.row_is) in
        let s : (routine c a.entry.routine).bound ≤ (routine d b.entry.routine).bound =
        subst (λ (y : Row). (routine c a.entry.routine).bound ≤ (routine d y.routine).bound) (rows.called_is image c d valid other t is w k e) (small a.entry a.at x a.row_is a.entry_is low) in
        let its_n = entry_d t w is_m in
        subst (λ i. call_height c t (Some (Call k)) ≤ (routine d i).bound) its_n (omega (arith, u, v, y, z, s))

    height_less : (o : Option Ins) → instruction image t ≡ o → call_height c t o ≤ (routine d n).bound
    height_less None e = omega arith
    height_less (Some (Call k)) e = call_less k e
    height_less (Some _) e = omega arith

  bounds_by : (b : ℕ) (e : Row) (at : ℕ) (w : Twin e) → row_at c.rows at ≡ Some e → (routine c e.routine).entry ≡ at
      → ((f : Row) (to : ℕ) (x : Twin f) → row_at c.rows to ≡ Some f → (routine c f.routine).entry ≡ to → (routine c f.routine).bound < (routine c e.routine).bound → (routine c f.routine).bound ≤ (routine d x.its.routine).bound)
      → (routine c e.routine).bound ≤ (routine d w.its.routine).bound
  bounds_by b e at w at_e en small =
      let h = (fact image c valid at e at_e).bound in
      let l = height_least image c e.routine 0 (routine d w.its.routine).bound c.rows (omega arith) (λ r is q.
      height_less e.routine (e, subst (λ a. row_at c.rows a ≡ Some e) (sym en) at_e, w) small w.its.routine
      (λ v x n. rows.one_routine image c d valid other v.at e.at x.its w.its x.is w.is (sym x.entry ∙ ap (λ k. (routine c k).entry) n ∙ w.entry)) r is (eqb-true r.routine e.routine q) (instruction image r) refl) in
      omega (arith, h, l)

  bounds : (b : ℕ) (e : Row) (at : ℕ) (w : Twin e) → row_at c.rows at ≡ Some e → (routine c e.routine).entry ≡ at → (routine c e.routine).bound ≤ b → (routine c e.routine).bound ≤ (routine d w.its.routine).bound
  bounds zero e at w at_e en le = bounds_by zero e at w at_e en (λ f to x at_f ef lt. absurd (omega arith))
  bounds (suc b) e at w at_e en le = bounds_by (suc b) e at w at_e en (λ f to x at_f ef lt. bounds b f to x at_f ef (omega arith))

  root_bound : (at n k : ℕ) (x : Facts) → At at → has_row c at n x ≡ true → has_row d at k x ≡ true → (routine c n).entry ≡ at → (routine c n).bound ≤ (routine d k).bound
  root_bound at n k x a h g en =
      let u = stands_at image c valid at n x h in
      let v = stands_at image d other at k x g in
      let e : a.0.routine ≡ n = ap (λ (z : Row). z.routine) (same_row (row_at c.rows at) a.0 u.row a.1 u.is) ∙ u.same in
      let there_d : row_at d.rows at ≡ Some a.2.its = subst (λ z. row_at d.rows z ≡ Some a.2.its) (found_in c.rows at a.0 a.1).0 a.2.is in
      let f : a.2.its.routine ≡ k = ap (λ (z : Row). z.routine) (same_row (row_at d.rows at) a.2.its v.row there_d v.is) ∙ v.same in
      let l = bounds (routine c a.0.routine).bound a.0 at a.2 a.1 (ap (λ z. (routine c z).entry) e ∙ en) (omega arith) in
      subst (λ z. (routine c z).bound ≤ (routine d k).bound) e (subst (λ z. (routine c a.0.routine).bound ≤ (routine d z).bound) f l)

  pub total_less : total_of c ≤ total_of d
  total_less = by c.interrupts refl where
    main_less : (routine c 0).bound ≤ (routine d 0).bound
    main_less = root_bound 0 0 0 at_reset (rows.main_twin image c d valid other) (main_row image c valid) (main_row image d other) (main_entry image c valid)

    by : (b : Bool) → c.interrupts ≡ b → (routine c 0).bound + (if b then 1 + (routine c 1).bound else 0) ≤ (routine d 0).bound + (if d.interrupts then 1 + (routine d 1).bound else 0)
    by false e = omega (arith, main_less)
    by true e =
        let f = same_interrupts e in
        let l = root_bound 4 1 1 at_interrupt (rows.handler_twin image c d valid other e f) (handler image c valid e).1 (handler image d other f).1 (handler_entry image c valid e) in
        subst (λ z. (routine c 0).bound + (1 + (routine c 1).bound) ≤ (routine d 0).bound + (if z then 1 + (routine d 1).bound else 0)) (sym f) (omega (arith, main_less, l))

pub one_total : (image : List ℕ) (c d : Certificate) → is_valid image c ≡ true → is_valid image d ≡ true → total_of c ≡ total_of d
one_total image c d valid other = let a = total_less image c d valid other in let b = total_less image d c other valid in omega (arith, a, b)
