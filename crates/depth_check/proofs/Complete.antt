-- Every row of a valid certificate is among the rows of a closed one that tells at least as much.
use Rattle.std.proofs.Common.{◌≡◌, ℕ, zero, suc, ◌+◌, ◌<◌, ◌≤◌, Bool, true, false, List, [], ◌∷◌, Option, Some, None, inl, inr, refl, sym, ap, ◌∙◌, subst, ⊎_elim, arith}
use Rattle.std.specs.Prelude.{if◌then◌else◌, not, ◌&&◌, ◌||◌, nat_eq, nat_lt, nat_le}
use Rattle.std.specs.List.{list_any, list_all}
use Rattle.std.proofs.lemmas.Bool.{and_parts, and_from, or_cases, or_left, or_right, eqb-true, eq-eqb, ne_eqb, leb-true}
use Rattle.pic_isa.specs.declared.Ins.{Ins}
use Rattle.pic_isa.specs.declared.Ins.TheVariants.{Call, Goto, Retfie, Retlw, Return, Sleep}
use Rattle.depth_check.specs.declared.Facts.{Facts}
use Rattle.depth_check.specs.declared.Row.{Row}
use Rattle.depth_check.specs.Certificate.{Certificate}
use Rattle.depth_check.specs.Facts.{may_skip, after, fits, bits, target}
use Rattle.depth_check.specs.Valid.{routine, row_at, stands, has_row, instruction, next, next_but_one, is_return, returns, comes_back, goes_straight, row_holds, is_place, returns_from, call_returns, asks, is_met, all_met, is_rising}
use Rattle.depth_check.proofs.Threads.{In, in_any}
use Rattle.depth_check.proofs.Transfer.{jump, call, straight_on}
use Rattle.depth_check.proofs.Below.{Less, less_of, less_same, fits_of, known_same, same_target}
use Rattle.depth_check.proofs.Step.{is_straight}
use Rattle.depth_check.proofs.Closed.{closed_to, closed_at, closed_call, is_closed}

pub any_in : (test : Row → Bool) (rows : List Row) → list_any test rows ≡ true → (t : Row) × In t rows × (test t ≡ true)
any_in test [] h = absurd (cc)
any_in test (x ∷ rows) h = ⊎_elim (λ e. (x, inl refl, e)) (λ e. let f = any_in test rows e in (f.0, inr f.1, f.2)) (or_cases (test x) (list_any test rows) h)

pub all_in : (test : Row → Bool) (t : Row) (rows : List Row) → list_all test rows ≡ true → In t rows → test t ≡ true
all_in test t [] h o = absurd o
all_in test t (x ∷ rows) h o =
    let p = and_parts (test x) (list_all test rows) h in
    ⊎_elim (λ e. subst (λ z. test z ≡ true) e p.0) (λ l. all_in test t rows p.1 l) o

not_below : (low : ℕ) (t : Row) (rows : List Row) → is_rising low rows ≡ true → In t rows → low ≤ t.at
not_below low t [] h o = absurd o
not_below low t (x ∷ rows) h o =
    let a = and_parts _ (is_rising (x.at + 1) rows) h in
    let b = and_parts (nat_le low x.at) (nat_lt x.at 8192) a.0 in
    let l = leb-true low x.at b.0 in
    ⊎_elim (λ e. subst (λ (z : Row). low ≤ z.at) e l) (λ i. let k = not_below (x.at + 1) t rows a.1 i in omega arith) o

-- rows in rising order are found at their addresses
pub own : (low : ℕ) (t : Row) (rows : List Row) → is_rising low rows ≡ true → In t rows → row_at rows t.at ≡ Some t
own low t [] h o = absurd o
own low t (x ∷ rows) h o =
    let a = and_parts _ (is_rising (x.at + 1) rows) h in
    ⊎_elim
    (λ e. subst (λ (z : Row). (if nat_eq x.at z.at then Some x else row_at rows z.at) ≡ Some z) e (ap (λ b. if b then Some x else row_at rows x.at) (eq-eqb x.at x.at refl)))
    (λ i. let k = not_below (x.at + 1) t rows a.1 i in ap (λ b. if b then Some x else row_at rows t.at) (ne_eqb x.at t.at (λ q. omega arith)) ∙ own (x.at + 1) t rows a.1 i) o

pub found_in : (rows : List Row) (at : ℕ) (t : Row) → row_at rows at ≡ Some t → (t.at ≡ at) × In t rows
found_in [] at t e = absurd (cc)
found_in (x ∷ rows) at t e = by (nat_eq x.at at) refl e (λ h. found_in rows at t h) where
  inside : (u v : Row) → Some u ≡ Some v → u ≡ v
  inside u v e = cc

  by : (b : Bool) → nat_eq x.at at ≡ b → (if b then Some x else row_at rows at) ≡ Some t → (row_at rows at ≡ Some t → (t.at ≡ at) × In t rows) → (t.at ≡ at) × In t (x ∷ rows)
  by true q e more = (ap (λ (z : Row). z.at) (sym (inside x t e)) ∙ eqb-true x.at at q, inl (inside x t e))
  by false q e more = let m = more e in (m.0, inr m.1)

pub same_row : (o : Option Row) (u v : Row) → o ≡ Some u → o ≡ Some v → u ≡ v
same_row o u v a b = inside u v (sym a ∙ b) where
  inside : (u v : Row) → Some u ≡ Some v → u ≡ v
  inside u v e = cc

-- where a row stands, its routine is this one
pub stands_row : (n : ℕ) (x : Facts) (o : Option Row) → stands n x o ≡ true → (t : Row) × (o ≡ Some t) × (t.routine ≡ n)
stands_row n x None h = absurd (cc)
stands_row n x (Some t) h = (t, refl, eqb-true t.routine n (and_parts (nat_eq t.routine n) (fits x t.facts) h).0)

module _ (image : List ℕ) (c d : Certificate) (rising : is_rising 0 c.rows ≡ true) (good : list_all (row_holds image c) c.rows ≡ true) (met : all_met image c ≡ true)
    (falls : (r : Row) → In r c.rows → (k at : ℕ) (e : Row) → instruction image r ≡ Some (Call k) → target r.facts.p3 r.facts.p4 k ≡ Some at → row_at c.rows at ≡ Some e → (routine c e.routine).bound < (routine c r.routine).bound)
    (like : ℕ → ℕ → Type 0) (one : (n m k : ℕ) → like n k → like m k → n ≡ m) where
  abbrev Has : ℕ → Type 0
  Has at = (r : Row) × (row_at d.rows at ≡ Some r)

  module _ (root : (at : ℕ) → is_met image c 0 at ≡ true → Has at)
      (below : (at : ℕ) (r s : Row) → row_at d.rows at ≡ Some r → row_at c.rows at ≡ Some s → like r.routine s.routine × (fits r.facts s.facts ≡ true))
      (closed : (r : Row) (i : Ins) → In r d.rows → instruction image r ≡ Some i → is_closed image d r i ≡ true) where
    has : (at n : ℕ) (x : Facts) → has_row d at n x ≡ true → Has at
    has at n x h = let t = stands_row n x (row_at d.rows at) h in (t.0, t.1)

    -- one row of c that d has, and what it asks for
    module _ (r : Row) (is : In r c.rows) (r' : Row) (at_r : row_at d.rows r.at ≡ Some r') where
      same_at : r'.at ≡ r.at
      same_at = (found_in d.rows r.at r' at_r).0

      own_r : row_at c.rows r.at ≡ Some r
      own_r = own 0 r c.rows rising is

      fit : fits r'.facts r.facts ≡ true
      fit = (below r.at r' r at_r own_r).1

      ok : row_holds image c r ≡ true
      ok = all_in (row_holds image c) r c.rows good is

      there : (i : Ins) → instruction image r ≡ Some i → instruction image r' ≡ Some i
      there i e = ap (λ a. instruction image (record r' { at = a })) same_at ∙ e

      shut : (i : Ins) → instruction image r ≡ Some i → is_closed image d r' i ≡ true
      shut i e = closed r' i (found_in d.rows r.at r' at_r).1 (there i e)

      less : Less r'.facts r.facts
      less = less_of r'.facts r.facts fit

      knows : (k at : ℕ) → target r.facts.p3 r.facts.p4 k ≡ Some at → target r'.facts.p3 r'.facts.p4 k ≡ Some at
      knows k at t = same_target r.facts.p3 r.facts.p4 r'.facts.p3 r'.facts.p4 k at less.p3 less.p4 t

      goto_has : (k at : ℕ) → instruction image r ≡ Some (Goto k) → target r.facts.p3 r.facts.p4 k ≡ Some at → Has at
      goto_has k at e t = has at r'.routine r'.facts (subst (λ o. closed_to d r' o ≡ true) (knows k at t) (shut (Goto k) e))

      -- the entry of what is called
      entry_has : (k at : ℕ) → instruction image r ≡ Some (Call k) → target r.facts.p3 r.facts.p4 k ≡ Some at → (f : Row) × (row_at d.rows at ≡ Some f) × (comes_back image d r' f.routine ≡ true)
      entry_has k at e t = by (row_at d.rows at) refl (subst (λ o. closed_call image d r' o ≡ true) (knows k at t) (shut (Call k) e)) where
        by : (o : Option Row) → row_at d.rows at ≡ o → closed_at image d r' at o ≡ true → (f : Row) × (row_at d.rows at ≡ Some f) × (comes_back image d r' f.routine ≡ true)
        by None q h = absurd (cc)
        by (Some f) q h = (f, q, (and_parts (nat_eq (routine d f.routine).entry at && fits (bits r'.facts.p3 r'.facts.p4 false) f.facts) (comes_back image d r' f.routine) h).1)

      next_has : (f : Row) → comes_back image d r' f.routine ≡ true → returns image d f.routine ≡ true → Has (next r.at)
      next_has f h rt = subst (λ a. Has (next a)) same_at (has (next r'.at) r'.routine _ (second (returns image d f.routine) _ rt h)) where
        second : (p q : Bool) → p ≡ true → (not p || q) ≡ true → q ≡ true
        second true q e h = h
        second false q e h = absurd (cc)

      straight_has : (i : Ins) → is_straight i ≡ true → instruction image r ≡ Some i → goes_straight d r' i ≡ true → (at : ℕ) → (nat_eq (next r.at) at || (may_skip i && nat_eq (next_but_one r.at) at)) ≡ true → Has at
      straight_has i s e g at h =
          let p = and_parts (has_row d (next r'.at) r'.routine (after d.cell i r'.facts)) (not (may_skip i) || has_row d (next_but_one r'.at) r'.routine (after d.cell i r'.facts)) g in
          ⊎_elim
          (λ q. subst Has (ap next same_at ∙ eqb-true (next r.at) at q) (has (next r'.at) r'.routine (after d.cell i r'.facts) p.0))
          (λ q. let z = and_parts (may_skip i) (nat_eq (next_but_one r.at) at) q in
          subst Has (ap next_but_one same_at ∙ eqb-true (next_but_one r.at) at z.1) (has (next_but_one r'.at) r'.routine (after d.cell i r'.facts) (second (may_skip i) _ z.0 p.1)))
          (or_cases (nat_eq (next r.at) at) (may_skip i && nat_eq (next_but_one r.at) at) h) where
            second : (p q : Bool) → p ≡ true → (not p || q) ≡ true → q ≡ true
            second true q e h = h
            second false q e h = absurd (cc)

    placed : (at : ℕ) (o : Option ℕ) → is_place at o ≡ true → o ≡ Some at
    placed at None h = absurd (cc)
    placed at (Some k) h = ap Some (eqb-true k at h)

    -- what returns in c returns in d
    returned : (m at : ℕ) (f e : Row) → row_at d.rows at ≡ Some f → row_at c.rows at ≡ Some e → ((t : Row) → In t c.rows → t.routine ≡ e.routine → Has t.at) → returns image c e.routine ≡ true → returns image d f.routine ≡ true
    returned m at f e df ce all h =
        let a = any_in (λ r. nat_eq r.routine e.routine && is_return (instruction image r)) c.rows h in
        let t = a.0 in
        let p = and_parts (nat_eq t.routine e.routine) (is_return (instruction image t)) a.2 in
        let same = eqb-true t.routine e.routine p.0 in
        let u = all t a.1 same in
        let v = u.0 in
        let w = found_in d.rows t.at v u.1 in
        let l1 = (below t.at v t u.1 (own 0 t c.rows rising a.1)).0 in
        let l2 = (below at f e df ce).0 in
        let n = one v.routine f.routine e.routine (subst (like v.routine) same l1) l2 in
        in_any (λ r. nat_eq r.routine f.routine && is_return (instruction image r)) v d.rows w.1
        (and_from (nat_eq v.routine f.routine) (is_return (instruction image v)) (eq-eqb v.routine f.routine n) (ap (λ k. is_return (instruction image (record v { at = k }))) w.0 ∙ p.1))

    back_to : (o : Option Row) → returns_from image c o ≡ true → (e : Row) × (o ≡ Some e) × (returns image c e.routine ≡ true)
    back_to None h = absurd (cc)
    back_to (Some e) h = (e, refl, h)

    -- rows of routine m that c meets, once its entry is there
    abbrev Reached : ℕ → ℕ → Type 0
    Reached m n = (at : ℕ) (s : Row) → is_met image c n at ≡ true → row_at c.rows at ≡ Some s → s.routine ≡ m → Has at

    itself : (x : Facts) → fits x x ≡ true
    itself x = fits_of x x (less_same x)

    inside : (m n : ℕ) → Some m ≡ Some n → m ≡ n
    inside m n e = cc

    -- what one row asks for
    module _ (m at : ℕ) (s : Row) (at_s : row_at c.rows at ≡ Some s) (is_m : s.routine ≡ m) (entry : Has (routine c m).entry)
        (small : (k : ℕ) → (routine c k).bound < (routine c m).bound → Has (routine c k).entry → Reached k 8192)
        (t : Row) (is : In t c.rows) (before : t.routine ≡ m → Has t.at) where
      fine : row_holds image c t ≡ true
      fine = all_in (row_holds image c) t c.rows good is

      -- the row asked for is of the same routine
      same_routine : (x : Facts) → has_row c at t.routine x ≡ true → t.routine ≡ m
      same_routine x h =
          let q = stands_row t.routine x (row_at c.rows at) h in
          sym q.2 ∙ ap (λ (z : Row). z.routine) (same_row (row_at c.rows at) q.0 s q.1 at_s) ∙ is_m

      by_goto : (k : ℕ) → instruction image t ≡ Some (Goto k) → is_place at (target t.facts.p3 t.facts.p4 k) ≡ true → Has at
      by_goto k e h =
          let tt' = placed at (target t.facts.p3 t.facts.p4 k) h in
          let j = jump image c t fine t.facts (itself t.facts) k e in
          let same : j.0 ≡ at = inside j.0 at (sym j.1 ∙ tt') in
          let r = same_routine t.facts (subst (λ a. has_row c a t.routine t.facts ≡ true) same j.2) in
          let b = before r in
          goto_has t is b.0 b.1 k at e tt'

      by_entry : (k : ℕ) → instruction image t ≡ Some (Call k) → is_place at (target t.facts.p3 t.facts.p4 k) ≡ true → Has at
      by_entry k e h =
          let tt' = placed at (target t.facts.p3 t.facts.p4 k) h in
          let q = call image c t fine t.facts (itself t.facts) k e in
          let same : q.at ≡ at = inside q.at at (sym q.target_is ∙ tt') in
          let row : q.entry ≡ s = same_row (row_at c.rows at) q.entry s (subst (λ a. row_at c.rows a ≡ Some q.entry) same q.row_is) at_s in
          let en : (routine c m).entry ≡ at = ap (λ z. (routine c z).entry) (sym is_m ∙ ap (λ (z : Row). z.routine) (sym row)) ∙ q.entry_is ∙ same in
          subst Has en entry

      by_back : (k at' : ℕ) → instruction image t ≡ Some (Call k) → target t.facts.p3 t.facts.p4 k ≡ Some at' → next t.at ≡ at → returns_from image c (row_at c.rows at') ≡ true → Has at
      by_back k at' e tt' nx h =
          let q = call image c t fine t.facts (itself t.facts) k e in
          let same : q.at ≡ at' = inside q.at at' (sym q.target_is ∙ tt') in
          let b = back_to (row_at c.rows at') h in
          let row : q.entry ≡ b.0 = same_row (row_at c.rows at') q.entry b.0 (subst (λ a. row_at c.rows a ≡ Some q.entry) same q.row_is) b.1 in
          let rt : returns image c q.entry.routine ≡ true = subst (λ (z : Row). returns image c z.routine ≡ true) (sym row) b.2 in
          let up = q.back (routine c q.entry.routine).out3 (routine c q.entry.routine).out4 rt (known_same (routine c q.entry.routine).out3) (known_same (routine c q.entry.routine).out4) in
          let r = same_routine (bits (routine c q.entry.routine).out3 (routine c q.entry.routine).out4 t.facts.saved) (subst (λ a. has_row c a t.routine (bits (routine c q.entry.routine).out3 (routine c q.entry.routine).out4 t.facts.saved) ≡ true) nx up) in
          let here = before r in
          let f = entry_has t is here.0 here.1 k at' e tt' in
          let low : (routine c b.0.routine).bound < (routine c m).bound = subst (λ z. (routine c b.0.routine).bound < (routine c z).bound) r (falls t is k at' b.0 e tt' b.1) in
          let en : (routine c b.0.routine).entry ≡ at' = ap (λ (z : Row). (routine c z.routine).entry) (sym row) ∙ q.entry_is ∙ same in
          let inner = small b.0.routine low (subst Has (sym en) (f.0, f.1)) in
          let back = returned m at' f.0 b.0 f.1 b.1 (λ u i w. inner u.at u (all_in (λ z. is_met image c 8192 z.at) u c.rows met i) (own 0 u c.rows rising i) w) b.2 in
          subst Has nx (next_has t is here.0 here.1 f.0 f.2 back)

      by_straight : (i : Ins) → is_straight i ≡ true → instruction image t ≡ Some i → ((r' : Row) → is_closed image d r' i ≡ true → goes_straight d r' i ≡ true)
          → (nat_eq (next t.at) at || (may_skip i && nat_eq (next_but_one t.at) at)) ≡ true → Has at
      by_straight i st e g h =
          let o = straight_on image c t fine t.facts (itself t.facts) i st e in
          let r = ⊎_elim
          (λ q. same_routine (after c.cell i t.facts) (subst (λ a. has_row c a t.routine (after c.cell i t.facts) ≡ true) (eqb-true (next t.at) at q) o.0))
          (λ q. let z = and_parts (may_skip i) (nat_eq (next_but_one t.at) at) q in
          same_routine (after c.cell i t.facts) (subst (λ a. has_row c a t.routine (after c.cell i t.facts) ≡ true) (eqb-true (next_but_one t.at) at z.1) (o.1 z.0)))
          (or_cases (nat_eq (next t.at) at) (may_skip i && nat_eq (next_but_one t.at) at) h) in
          let b = before r in
          straight_has t is b.0 b.1 i st e (g b.0 (shut t is b.0 b.1 i e)) at h

      by_call : (k : ℕ) → instruction image t ≡ Some (Call k) → (o : Option ℕ) → target t.facts.p3 t.facts.p4 k ≡ o → (is_place at o || (nat_eq (next t.at) at && call_returns image c o)) ≡ true → Has at
      by_call k e None q h = absurd (last (nat_eq (next t.at) at) h) where
        last : (b : Bool) → (false || (b && false)) ≡ true → ⊥
        last true h = cc
        last false h = cc
      by_call k e (Some at') q h = ⊎_elim
          (λ p. by_entry k e (subst (λ o. is_place at o ≡ true) (sym q) p))
          (λ p. let z = and_parts (nat_eq (next t.at) at) (returns_from image c (row_at c.rows at')) p in by_back k at' e q (eqb-true (next t.at) at z.0) z.1)
          (or_cases (is_place at (Some at')) (nat_eq (next t.at) at && returns_from image c (row_at c.rows at')) h)

      by : (o : Option Ins) → instruction image t ≡ o → asks image c t o at ≡ true → Has at
      by None e h = absurd (cc)
      by (Some (Goto k)) e h = by_goto k e h
      by (Some (Call k)) e h = by_call k e (target t.facts.p3 t.facts.p4 k) refl h
      by (Some Return) e h = absurd (cc)
      by (Some (Retlw k)) e h = absurd (cc)
      by (Some Retfie) e h = absurd (cc)
      by (Some Sleep) e h = absurd (cc)
      by (Some i) e h = by_straight i refl e (λ r' z. z) h

    rounds : (m : ℕ) → Has (routine c m).entry → ((k : ℕ) → (routine c k).bound < (routine c m).bound → Has (routine c k).entry → Reached k 8192) → (n : ℕ) → Reached m n
    unfolding is_met
    rounds m en small zero at s h e r = root at h
    rounds m en small (suc n) at s h e r = ⊎_elim
        (λ l. rounds m en small n at s l e r)
        (λ l. let a = any_in (λ t. is_met image c n t.at && asks image c t (instruction image t) at) c.rows l in
        let p = and_parts (is_met image c n a.0.at) (asks image c a.0 (instruction image a.0) at) a.2 in
        by m at s e r en small a.0 a.1 (λ q. rounds m en small n a.0.at a.0 p.0 (own 0 a.0 c.rows rising a.1) q) (instruction image a.0) refl p.1)
        (or_cases (is_met image c n at) (list_any (λ t. is_met image c n t.at && asks image c t (instruction image t) at) c.rows) h)

    -- every row of a routine whose entry is there
    pub all_reached : (b m : ℕ) → (routine c m).bound ≤ b → Has (routine c m).entry → Reached m 8192
    all_reached zero m le en = rounds m en (λ k lt h. absurd (omega arith)) 8192
    all_reached (suc b) m le en = rounds m en (λ k lt h. all_reached b k (omega arith) h) 8192

    -- ---- all rows, and that they are met
    module _ (root_entry : (at : ℕ) (s : Row) → is_met image c 0 at ≡ true → row_at c.rows at ≡ Some s → (routine c s.routine).entry ≡ at) (same_interrupts : d.interrupts ≡ c.interrupts) where
      its_row : (t : Row) → In t c.rows → Has (routine c t.routine).entry → Has t.at
      its_row t is en = all_reached (routine c t.routine).bound t.routine (omega arith) en t.at t (all_in (λ z. is_met image c 8192 z.at) t c.rows met is) (own 0 t c.rows rising is) refl

      -- a row is asked for by one of its routine, or it is the entry of what is called
      module _ (at : ℕ) (s : Row) (at_s : row_at c.rows at ≡ Some s) (t : Row) (is : In t c.rows) (en : Has (routine c t.routine).entry) where
        sure : row_holds image c t ≡ true
        sure = all_in (row_holds image c) t c.rows good is

        again : (x : Facts) → has_row c at t.routine x ≡ true → Has (routine c s.routine).entry
        again x h =
            let q = stands_row t.routine x (row_at c.rows at) h in
            subst (λ k. Has (routine c k).entry) (sym q.2 ∙ ap (λ (z : Row). z.routine) (same_row (row_at c.rows at) q.0 s q.1 at_s)) en

        entry_call : (k : ℕ) → instruction image t ≡ Some (Call k) → (o : Option ℕ) → target t.facts.p3 t.facts.p4 k ≡ o → (is_place at o || (nat_eq (next t.at) at && call_returns image c o)) ≡ true → Has (routine c s.routine).entry
        entry_call k e None q h = absurd (last (nat_eq (next t.at) at) h) where
          last : (b : Bool) → (false || (b && false)) ≡ true → ⊥
          last true h = cc
          last false h = cc
        entry_call k e (Some a) q h =
            let w = call image c t sure t.facts (itself t.facts) k e in
            let same : w.at ≡ a = inside w.at a (sym w.target_is ∙ q) in
            ⊎_elim
            (λ p.
            let eq : a ≡ at = eqb-true a at p in
            let row : w.entry ≡ s = same_row (row_at c.rows at) w.entry s (subst (λ z. row_at c.rows z ≡ Some w.entry) (same ∙ eq) w.row_is) at_s in
            let b = its_row t is en in
            let f = entry_has t is b.0 b.1 k a e q in
            subst Has (sym (ap (λ (z : Row). (routine c z.routine).entry) (sym row) ∙ w.entry_is ∙ same)) (f.0, f.1))
            (λ p.
            let z = and_parts (nat_eq (next t.at) at) (returns_from image c (row_at c.rows a)) p in
            let b = back_to (row_at c.rows a) z.1 in
            let row : w.entry ≡ b.0 = same_row (row_at c.rows a) w.entry b.0 (subst (λ u. row_at c.rows u ≡ Some w.entry) same w.row_is) b.1 in
            let rt : returns image c w.entry.routine ≡ true = subst (λ (y : Row). returns image c y.routine ≡ true) (sym row) b.2 in
            let up = w.back (routine c w.entry.routine).out3 (routine c w.entry.routine).out4 rt (known_same (routine c w.entry.routine).out3) (known_same (routine c w.entry.routine).out4) in
            again _ (subst (λ u. has_row c u t.routine (bits (routine c w.entry.routine).out3 (routine c w.entry.routine).out4 t.facts.saved) ≡ true) (eqb-true (next t.at) at z.0) up))
            (or_cases (is_place at (Some a)) (nat_eq (next t.at) at && returns_from image c (row_at c.rows a)) h)

        entry_goto : (k : ℕ) → instruction image t ≡ Some (Goto k) → is_place at (target t.facts.p3 t.facts.p4 k) ≡ true → Has (routine c s.routine).entry
        entry_goto k e h =
            let j = jump image c t sure t.facts (itself t.facts) k e in
            let same : j.0 ≡ at = inside j.0 at (sym j.1 ∙ placed at (target t.facts.p3 t.facts.p4 k) h) in
            again t.facts (subst (λ a. has_row c a t.routine t.facts ≡ true) same j.2)

        entry_straight : (i : Ins) → is_straight i ≡ true → instruction image t ≡ Some i → (nat_eq (next t.at) at || (may_skip i && nat_eq (next_but_one t.at) at)) ≡ true → Has (routine c s.routine).entry
        entry_straight i st e h =
            let o = straight_on image c t sure t.facts (itself t.facts) i st e in
            ⊎_elim
            (λ q. again (after c.cell i t.facts) (subst (λ a. has_row c a t.routine (after c.cell i t.facts) ≡ true) (eqb-true (next t.at) at q) o.0))
            (λ q. let z = and_parts (may_skip i) (nat_eq (next_but_one t.at) at) q in
            again (after c.cell i t.facts) (subst (λ a. has_row c a t.routine (after c.cell i t.facts) ≡ true) (eqb-true (next_but_one t.at) at z.1) (o.1 z.0)))
            (or_cases (nat_eq (next t.at) at) (may_skip i && nat_eq (next_but_one t.at) at) h)

        entry_by : (o : Option Ins) → instruction image t ≡ o → asks image c t o at ≡ true → Has (routine c s.routine).entry
        entry_by None e h = absurd (cc)
        entry_by (Some (Goto k)) e h = entry_goto k e h
        entry_by (Some (Call k)) e h = entry_call k e (target t.facts.p3 t.facts.p4 k) refl h
        entry_by (Some Return) e h = absurd (cc)
        entry_by (Some (Retlw k)) e h = absurd (cc)
        entry_by (Some Retfie) e h = absurd (cc)
        entry_by (Some Sleep) e h = absurd (cc)
        entry_by (Some i) e h = entry_straight i refl e h

      entries : (n at : ℕ) (s : Row) → is_met image c n at ≡ true → row_at c.rows at ≡ Some s → Has (routine c s.routine).entry
      unfolding is_met
      entries zero at s h e = subst Has (sym (root_entry at s h e)) (root at h)
      entries (suc n) at s h e = ⊎_elim
          (λ l. entries n at s l e)
          (λ l. let a = any_in (λ t. is_met image c n t.at && asks image c t (instruction image t) at) c.rows l in
          let p = and_parts (is_met image c n a.0.at) (asks image c a.0 (instruction image a.0) at) a.2 in
          entry_by at s e a.0 a.1 (entries n a.0.at a.0 p.0 (own 0 a.0 c.rows rising a.1)) (instruction image a.0) refl p.1)
          (or_cases (is_met image c n at) (list_any (λ t. is_met image c n t.at && asks image c t (instruction image t) at) c.rows) h)

      -- every row of c is there
      pub every_row : (t : Row) → In t c.rows → Has t.at
      every_row t is = its_row t is (entries 8192 t.at t (all_in (λ z. is_met image c 8192 z.at) t c.rows met is) (own 0 t c.rows rising is))

      -- what a row of c asks for, the row of d there asks for
      module _ (at : ℕ) (t : Row) (is : In t c.rows) (r' : Row) (at_r : row_at d.rows t.at ≡ Some r') where
        call_asks : (k : ℕ) → instruction image t ≡ Some (Call k) → (o : Option ℕ) → target t.facts.p3 t.facts.p4 k ≡ o → (is_place at o || (nat_eq (next t.at) at && call_returns image c o)) ≡ true
            → asks image d r' (Some (Call k)) at ≡ true
        call_asks k e None q h = absurd (last (nat_eq (next t.at) at) h) where
          last : (b : Bool) → (false || (b && false)) ≡ true → ⊥
          last true h = cc
          last false h = cc
        call_asks k e (Some a) q h =
            let kn = knows t is r' at_r k a q in
            let f = entry_has t is r' at_r k a e q in
            subst (λ o. (is_place at o || (nat_eq (next r'.at) at && call_returns image d o)) ≡ true) (sym kn) (⊎_elim
            (λ p. or_left (is_place at (Some a)) (nat_eq (next r'.at) at && returns_from image d (row_at d.rows a)) p)
            (λ p.
            let z = and_parts (nat_eq (next t.at) at) (returns_from image c (row_at c.rows a)) p in
            let b = back_to (row_at c.rows a) z.1 in
            let rt = returned 0 a f.0 b.0 f.1 b.1 (λ u i w. every_row u i) b.2 in
            or_right (is_place at (Some a)) (nat_eq (next r'.at) at && returns_from image d (row_at d.rows a))
            (and_from (nat_eq (next r'.at) at) (returns_from image d (row_at d.rows a)) (ap (λ v. nat_eq (next v) at) (same_at t is r' at_r) ∙ z.0) (ap (returns_from image d) f.1 ∙ rt)))
            (or_cases (is_place at (Some a)) (nat_eq (next t.at) at && returns_from image c (row_at c.rows a)) h))

        asks_by : (o : Option Ins) → instruction image t ≡ o → asks image c t o at ≡ true → asks image d r' o at ≡ true
        asks_by None e h = absurd (cc)
        asks_by (Some (Goto k)) e h = ap (is_place at) (knows t is r' at_r k at (placed at (target t.facts.p3 t.facts.p4 k) h)) ∙ eq-eqb at at refl
        asks_by (Some (Call k)) e h = call_asks k e (target t.facts.p3 t.facts.p4 k) refl h
        asks_by (Some Return) e h = absurd (cc)
        asks_by (Some (Retlw k)) e h = absurd (cc)
        asks_by (Some Retfie) e h = absurd (cc)
        asks_by (Some Sleep) e h = absurd (cc)
        asks_by (Some i) e h = ap (λ v. nat_eq (next v) at || (may_skip i && nat_eq (next_but_one v) at)) (same_at t is r' at_r) ∙ h

        asks_there : asks image c t (instruction image t) at ≡ true → asks image d r' (instruction image r') at ≡ true
        asks_there h = subst (λ o. asks image d r' o at ≡ true) (ap (λ a. instruction image (record r' { at = a })) (sym (same_at t is r' at_r))) (asks_by (instruction image t) refl h)

      -- what c meets in so many rounds, d meets
      pub met_there : (n at : ℕ) → is_met image c n at ≡ true → is_met image d n at ≡ true
      unfolding is_met
      met_there zero at h = ap (λ k. nat_eq 0 at || (k && nat_eq 4 at)) same_interrupts ∙ h
      met_there (suc n) at h = ⊎_elim
          (λ l. or_left (is_met image d n at) _ (met_there n at l))
          (λ l. let a = any_in (λ t. is_met image c n t.at && asks image c t (instruction image t) at) c.rows l in
          let t = a.0 in
          let p = and_parts (is_met image c n t.at) (asks image c t (instruction image t) at) a.2 in
          let b = every_row t a.1 in
          let w = found_in d.rows t.at b.0 b.1 in
          or_right (is_met image d n at) _ (in_any (λ r. is_met image d n r.at && asks image d r (instruction image r) at) b.0 d.rows w.1
          (and_from (is_met image d n b.0.at) (asks image d b.0 (instruction image b.0) at) (subst (λ z. is_met image d n z ≡ true) (sym w.0) (met_there n t.at p.0)) (asks_there at t a.1 b.0 b.1 p.1))))
          (or_cases (is_met image c n at) (list_any (λ t. is_met image c n t.at && asks image c t (instruction image t) at) c.rows) h)

      -- so all rows of d are met, where c has a row at each of their addresses
      pub all_there : ((r : Row) → In r d.rows → (s : Row) × (row_at c.rows r.at ≡ Some s)) → all_met image d ≡ true
      all_there has_s = each d.rows (λ r i. i) where
        each : (rows : List Row) → ((r : Row) → In r rows → In r d.rows) → list_all (λ r. is_met image d 8192 r.at) rows ≡ true
        each [] sub = refl
        each (x ∷ rows) sub =
            let s = has_s x (sub x (inl refl)) in
            let w = found_in c.rows x.at s.0 s.1 in
            and_from (is_met image d 8192 x.at) _ (met_there 8192 x.at (subst (λ z. is_met image c 8192 z ≡ true) w.0 (all_in (λ z. is_met image c 8192 z.at) s.0 c.rows met w.1))) (each rows (λ r i. sub r (inr i)))
