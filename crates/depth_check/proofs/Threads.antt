-- Where a run stands: a row of the certificate, and the calls that are under way.
use Rattle.std.proofs.Common.{◌≡◌, ℕ, zero, suc, ◌+◌, ◌-◌, ◌*◌, ◌/◌, ◌%◌, ◌<◌, ◌≤◌, Bool, true, false, List, [], ◌∷◌, ◌++◌, length, Option, Some, None, inl, inr, refl, sym, ap, ◌∙◌, subst, ⊎_elim, arith}
use Rattle.std.specs.Prelude.{if◌then◌else◌, not, ◌&&◌, ◌||◌, nat_eq, nat_lt, nat_le, slice_index, ◌⊎◌}
use Rattle.std.specs.List.{list_any, list_all, slice_get}
use Rattle.std.proofs.lemmas.Bool.{and_parts, and_right, or_from, or_left, or_right, and_from, eqb-true, eq-eqb, not-true, both_ways, leb-true, ltb-true, ltb-false, true_from_ne_false, false_from_ne_true, cond_both}
use Rattle.pic_isa.specs.declared.Ins.{Ins}
use Rattle.pic_isa.specs.declared.Ins.TheVariants.{Movf, Call, Goto, Retfie, Retlw, Return, Sleep}
use Rattle.pic_isa.specs.Lookup.{row_of}
use Rattle.pic_world.specs.Bits.{bit, truth}
use Rattle.pic_chip.specs.State.{State}
use Rattle.pic_chip.specs.Act.{perform}
use Rattle.pic_chip.specs.Instructions.{row, act_of, is_modelled}
use Rattle.depth_check.specs.declared.Facts.{Facts}
use Rattle.depth_check.specs.declared.Row.{Row}
use Rattle.depth_check.specs.declared.Routine.{Routine}
use Rattle.depth_check.specs.Certificate.{Certificate}
use Rattle.depth_check.specs.Facts.{writes, writes_w, may_skip, is_movwf, loads, after, known_in, implies, fits, bits, target, at_reset, at_interrupt}
use Rattle.depth_check.specs.Valid.{routine_or, routine_in, routine, row_at, call_height, height_at, height_of, greater, height, height_in, routine_holds, routines_hold, is_rising, is_entry, lets_in, all_met, stands, has_row, instruction, next, next_but_one, is_return, returns, is_root, spares_gie, is_allowed, leads, comes_back, agree, is_callee, calls, leaves, goes_on, instruction_holds, is_bare, row_holds, total_of, roots_hold, is_valid}
use Rattle.pic_chip.proofs.Stack.{IsOn, after_push, on_push, after_pop, on_pop, push_list, pop_list, on_same}
use Rattle.pic_chip.proofs.Ranges.{IsRanged, IsSmall}
use Rattle.depth_check.proofs.Step.{GoesTo, is_straight, row_moved}
use Rattle.depth_check.proofs.Holding.{Knows, knows_less, Holds, weaker, holds_after, gie_stays}

-- ---- the row at an address
-- it is one of the rows
abbrev pub In : Row → List Row → Type 0
In r [] = ⊥
In r (x ∷ rows) = (x ≡ r) ⊎ In r rows

pub in_any : (test : Row → Bool) (r : Row) (rows : List Row) → In r rows → test r ≡ true → list_any test rows ≡ true
in_any test r [] o h = absurd o
in_any test r (x ∷ rows) o h = ⊎_elim (λ e. or_left (test x) (list_any test rows) (ap test e ∙ h)) (λ l. or_right (test x) (list_any test rows) (in_any test r rows l h)) o

greater_left : (a b : ℕ) → a ≤ greater a b
greater_left a b = cond_both (nat_lt a b) b a (λ z. a ≤ z) (λ e. let l = ltb-true a b e in omega arith) (λ e. omega arith)

greater_right : (a b : ℕ) → b ≤ greater a b
greater_right a b = cond_both (nat_lt a b) b a (λ z. b ≤ z) (λ e. omega arith) (λ e. ltb-false a b e)

best_height : (image : List ℕ) (c : Certificate) (n best : ℕ) (rows : List Row) → best ≤ height image c n best rows
best_height image c n best [] = omega arith
best_height image c n best (x ∷ rows) =
    let a = best_height image c n (greater best (height_in n c x (instruction image x))) rows in
    let b = greater_left best (height_in n c x (instruction image x)) in
    omega arith

pub in_height : (image : List ℕ) (c : Certificate) (n best : ℕ) (r : Row) (rows : List Row) → In r rows → nat_eq r.routine n ≡ true → call_height c r (instruction image r) ≤ height image c n best rows
in_height image c n best r [] o h = absurd o
in_height image c n best r (x ∷ rows) o h = ⊎_elim
    (λ e. here e)
    (λ l. in_height image c n (greater best (height_in n c x (instruction image x))) r rows l h) o where
      here : x ≡ r → call_height c r (instruction image r) ≤ height image c n (greater best (height_in n c x (instruction image x))) rows
      here e =
          let q : height_in n c x (instruction image x) ≡ call_height c r (instruction image r) =
          ap (λ (y : Row). height_in n c y (instruction image y)) e ∙ ap (λ b. if b then call_height c r (instruction image r) else 0) h in
          let a = best_height image c n (greater best (height_in n c x (instruction image x))) rows in
          let b = greater_right best (height_in n c x (instruction image x)) in
          omega arith

pub record Found (p : Row → Bool) (at : ℕ) (q : Option Row → Bool) (rows : List Row) : Type 0 where
  pub row : Row
  pub is : row_at rows at ≡ Some row
  pub at_is : row.at ≡ at
  pub holds : p row ≡ true
  pub passes : q (Some row) ≡ true
  pub member : In row rows

pub find_row : (p : Row → Bool) (at : ℕ) (q : Option Row → Bool) (rows : List Row) → q None ≡ false → list_all p rows ≡ true → q (row_at rows at) ≡ true → Found p at q rows
find_row p at q [] n a o = absurd (both_ways (q None) n o)
find_row p at q (r ∷ rs) n a o = by (nat_eq r.at at) refl o (λ h. find_row p at q rs n (and_parts (p r) (list_all p rs) a).1 h) where
  both : (p r ≡ true) × (list_all p rs ≡ true)
  both = and_parts (p r) (list_all p rs) a

  by : (b : Bool) → nat_eq r.at at ≡ b → q (if b then Some r else row_at rs at) ≡ true → (q (row_at rs at) ≡ true → Found p at q rs) → Found p at q (r ∷ rs)
  by true e h more = record { row = r; is = ap (λ z. if z then Some r else row_at rs at) e; at_is = eqb-true r.at at e; holds = both.0; passes = h; member = inl refl }
  by false e h more =
      let f = more h in
      record { row = f.row; is = ap (λ z. if z then Some r else row_at rs at) e ∙ f.is; at_is = f.at_is; holds = f.holds; passes = f.passes; member = inr f.member }

pub routine_at : (image : List ℕ) (c : Certificate) (k : ℕ) (qs : List Routine) (n : ℕ) → routines_hold image c k qs ≡ true → n < length qs → routine_holds image c (k + n) (routine_in qs n) ≡ true
routine_at image c k [] n h lt = absurd (omega arith)
routine_at image c k (q ∷ qs) zero h lt = subst (λ m. routine_holds image c m q ≡ true) (plain k) (and_parts (routine_holds image c k q) (routines_hold image c (k + 1) qs) h).0 where
  plain : (k : ℕ) → k ≡ k + 0
  plain k = omega arith
routine_at image c k (q ∷ qs) (suc n) h lt = subst (λ m. routine_holds image c m (routine_in qs n) ≡ true) (moved k n) (routine_at image c (k + 1) qs n (and_parts (routine_holds image c k q) (routines_hold image c (k + 1) qs) h).1 (omega arith)) where
  moved : (k n : ℕ) → k + 1 + n ≡ k + suc n
  moved k n = omega arith

guard : (w k b p : Bool) → (not w || (k && (not b || p))) ≡ true → (b || not k) ≡ true → (not w || p) ≡ true
guard false k b p e q = refl
guard true false b p e q = absurd (cc)
guard true true false p e q = absurd (cc)
guard true true true p e q = e

target_is : (p3 p4 : Option Bool) (k p at : ℕ) → Knows p3 (bit p 3) → Knows p4 (bit p 4) → target p3 p4 k ≡ Some at → p / 8 % 4 * 2048 + k ≡ at
target_is None p4 k p at a b e = absurd (cc)
target_is (Some x) None k p at a b e = absurd (cc)
target_is (Some x) (Some y) k p at a b e = sum (truth x) (truth y) a b ∙ inside _ at e where
  inside : (m n : ℕ) → Some m ≡ Some n → m ≡ n
  inside m n e = cc

  sum : (u v : ℕ) → bit p 3 ≡ u → bit p 4 ≡ v → p / 8 % 4 * 2048 + k ≡ (2 * v + u) * 2048 + k
  sum u v a b = omega arith

same_flag : (x y b : Bool) → agree x y ≡ true → y ≡ b → x ≡ b
same_flag true y b e h = sym e ∙ h
same_flag false true b e h = absurd (cc)
same_flag false false b e h = h

-- an instruction without a jump
straight_allowed : (c : Certificate) (n : ℕ) (i : Ins) → is_straight i ≡ true → is_allowed c n i ≡ true → (writes 2 i ≡ false) × (writes 0 i ≡ false) × ((not (writes 11 i) || (c.interrupts && (not (routine c n).isr || spares_gie i))) ≡ true)
    × (((routine c n).isr && not (nat_eq n 1) && writes c.cell i) ≡ false)
straight_allowed c n i s h = by i s h where
  parts : (i : Ins) → (not (writes 2 i) && not (writes 0 i) && (not (writes 11 i) || (c.interrupts && (not (routine c n).isr || spares_gie i))) && not ((routine c n).isr && not (nat_eq n 1) && writes c.cell i)) ≡ true
      → (writes 2 i ≡ false) × (writes 0 i ≡ false) × ((not (writes 11 i) || (c.interrupts && (not (routine c n).isr || spares_gie i))) ≡ true) × (((routine c n).isr && not (nat_eq n 1) && writes c.cell i) ≡ false)
  parts i h =
      let a = and_parts _ (not ((routine c n).isr && not (nat_eq n 1) && writes c.cell i)) h in
      let b = and_parts _ (not (writes 11 i) || (c.interrupts && (not (routine c n).isr || spares_gie i))) a.0 in
      let d = and_parts (not (writes 2 i)) (not (writes 0 i)) b.0 in
      (not-true _ d.0, not-true _ d.1, b.1, not-true _ a.1)

  by : (i : Ins) → is_straight i ≡ true → is_allowed c n i ≡ true → (writes 2 i ≡ false) × (writes 0 i ≡ false) × ((not (writes 11 i) || (c.interrupts && (not (routine c n).isr || spares_gie i))) ≡ true) × (((routine c n).isr && not (nat_eq n 1) && writes c.cell i) ≡ false)
  by (Call k) s h = absurd (cc)
  by (Goto k) s h = absurd (cc)
  by Retfie s h = absurd (cc)
  by (Retlw k) s h = absurd (cc)
  by Return s h = absurd (cc)
  by Sleep s h = absurd (cc)
  by i s h = parts i h

pub straight_goes : (image : List ℕ) (c : Certificate) (r : Row) (i : Ins) → is_straight i ≡ true → goes_on image c r i ≡ true
    → (has_row c (next r.at) r.routine (after c.cell i r.facts) ≡ true) × ((not (may_skip i) || has_row c (next_but_one r.at) r.routine (after c.cell i r.facts)) ≡ true)
straight_goes image c r (Call k) s h = absurd (cc)
straight_goes image c r (Goto k) s h = absurd (cc)
straight_goes image c r Retfie s h = absurd (cc)
straight_goes image c r (Retlw k) s h = absurd (cc)
straight_goes image c r Return s h = absurd (cc)
straight_goes image c r Sleep s h = absurd (cc)
straight_goes image c r i s h = and_parts (has_row c (next r.at) r.routine (after c.cell i r.facts)) (not (may_skip i) || has_row c (next_but_one r.at) r.routine (after c.cell i r.facts)) h

-- ---- facts that tell nothing of what was interrupted
abbrev pub Bare : Facts → Type 0
Bare x = (x.orig ≡ false) × (x.w_orig ≡ false) × (x.saved ≡ false)

less_flag : (r a : Bool) → implies r a ≡ true → a ≡ false → r ≡ false
less_flag false a h e = refl
less_flag true true h e = absurd (cc)
less_flag true false h e = absurd (cc)

pub bare_less : (x y : Facts) → fits x y ≡ true → Bare x → Bare y
bare_less x y e b =
    let a1 = and_parts _ (implies y.saved x.saved) e in
    let a2 = and_parts _ (implies y.w_orig x.w_orig) a1.0 in
    let a3 = and_parts _ (implies y.orig x.orig) a2.0 in
    (less_flag y.orig x.orig a3.1 b.0, less_flag y.w_orig x.w_orig a2.1 b.1, less_flag y.saved x.saved a1.1 b.2)

no_load : (cell : ℕ) (i : Ins) (x : Facts) → Bare x → loads cell i x ≡ false
no_load cell (Movf f d) x b = or_from (nat_eq f 10 && x.orig) (nat_eq f cell && x.saved) (and_right (nat_eq f 10) x.orig b.0) (and_right (nat_eq f cell) x.saved b.2)
no_load cell _ x b = refl

pub bare_after : (cell : ℕ) (i : Ins) (x : Facts) → Bare x → Bare (after cell i x)
bare_after cell i x b = (
  cond_both (writes 10 i) (is_movwf i && x.w_orig) x.orig (λ z. z ≡ false) (λ h. and_right (is_movwf i) x.w_orig b.1) (λ h. b.0),
  cond_both (writes_w i) (loads cell i x) x.w_orig (λ z. z ≡ false) (λ h. no_load cell i x b) (λ h. b.1),
  cond_both (writes cell i) (is_movwf i && x.w_orig) x.saved (λ z. z ≡ false) (λ h. and_right (is_movwf i) x.w_orig b.1) (λ h. b.2),
)

module _ (image : List ℕ) (c : Certificate) (valid : is_valid image c ≡ true) where
  -- ---- what is valid
  v8 : (is_rising 0 c.rows && nat_le 0x70 c.cell && nat_lt c.cell 0x80 && roots_hold c && list_all (row_holds image c) c.rows && routines_hold image c 0 c.routines && (not c.interrupts || lets_in image c c.rows) && nat_le (total_of c) 8) ≡ true
  v8 = (and_parts _ (all_met image c) valid).0

  v7 : (is_rising 0 c.rows && nat_le 0x70 c.cell && nat_lt c.cell 0x80 && roots_hold c && list_all (row_holds image c) c.rows && routines_hold image c 0 c.routines && (not c.interrupts || lets_in image c c.rows)) ≡ true
  v7 = (and_parts _ (nat_le (total_of c) 8) v8).0

  v6 : (is_rising 0 c.rows && nat_le 0x70 c.cell && nat_lt c.cell 0x80 && roots_hold c && list_all (row_holds image c) c.rows && routines_hold image c 0 c.routines) ≡ true
  v6 = (and_parts _ (not c.interrupts || lets_in image c c.rows) v7).0

  v5 : (is_rising 0 c.rows && nat_le 0x70 c.cell && nat_lt c.cell 0x80 && roots_hold c && list_all (row_holds image c) c.rows) ≡ true
  v5 = (and_parts _ (routines_hold image c 0 c.routines) v6).0

  v4 : (is_rising 0 c.rows && nat_le 0x70 c.cell && nat_lt c.cell 0x80 && roots_hold c) ≡ true
  v4 = (and_parts _ (list_all (row_holds image c) c.rows) v5).0

  v3 : (is_rising 0 c.rows && nat_le 0x70 c.cell && nat_lt c.cell 0x80) ≡ true
  v3 = (and_parts _ (roots_hold c) v4).0

  pub small_total : total_of c ≤ 8
  small_total = leb-true (total_of c) 8 (and_parts _ (nat_le (total_of c) 8) v8).1

  pub routines_fine : routines_hold image c 0 c.routines ≡ true
  routines_fine = (and_parts _ (routines_hold image c 0 c.routines) v6).1

  pub all_hold : list_all (row_holds image c) c.rows ≡ true
  all_hold = (and_parts _ (list_all (row_holds image c) c.rows) v5).1

  roots : roots_hold c ≡ true
  roots = (and_parts _ (roots_hold c) v4).1

  pub hi : c.cell < 0x80
  hi = ltb-true c.cell 0x80 (and_parts _ (nat_lt c.cell 0x80) v3).1

  pub lo : 0x70 ≤ c.cell
  lo = leb-true 0x70 c.cell (and_parts (is_rising 0 c.rows) (nat_le 0x70 c.cell) (and_parts _ (nat_lt c.cell 0x80) v3).0).1

  entry_isr : (b : Bool) (at : ℕ) (o : Option Routine) → is_entry b at o ≡ true → (routine_or o).isr ≡ b
  entry_isr b at None h = absurd (cc)
  entry_isr b at (Some q) h = same_flag q.isr b b (and_parts (nat_eq q.entry at) (agree q.isr b) h).1 refl

  both_roots : ((is_entry false 0 (slice_get c.routines 0) && has_row c 0 0 at_reset) ≡ true) × ((not c.interrupts || (is_entry true 4 (slice_get c.routines 1) && has_row c 4 1 at_interrupt)) ≡ true)
  both_roots = and_parts (is_entry false 0 (slice_get c.routines 0) && has_row c 0 0 at_reset) (not c.interrupts || (is_entry true 4 (slice_get c.routines 1) && has_row c 4 1 at_interrupt)) roots

  pub rises : is_rising 0 c.rows ≡ true
  rises = (and_parts (is_rising 0 c.rows) (nat_le 0x70 c.cell) (and_parts _ (nat_lt c.cell 0x80) v3).0).0

  pub every_met : all_met image c ≡ true
  every_met = (and_parts _ (all_met image c) valid).1

  pub let_in : (not c.interrupts || lets_in image c c.rows) ≡ true
  let_in = (and_parts _ (not c.interrupts || lets_in image c c.rows) v7).1

  entry_of : (b : Bool) (at : ℕ) (o : Option Routine) → is_entry b at o ≡ true → (routine_or o).entry ≡ at
  entry_of b at None h = absurd (cc)
  entry_of b at (Some q) h = eqb-true q.entry at (and_parts (nat_eq q.entry at) (agree q.isr b) h).0

  pub main_entry : (routine c 0).entry ≡ 0
  main_entry = entry_of false 0 (slice_get c.routines 0) (and_parts (is_entry false 0 (slice_get c.routines 0)) (has_row c 0 0 at_reset) both_roots.0).0

  pub handler_entry : c.interrupts ≡ true → (routine c 1).entry ≡ 4
  handler_entry e = entry_of true 4 (slice_get c.routines 1) (and_parts (is_entry true 4 (slice_get c.routines 1)) (has_row c 4 1 at_interrupt) (second c.interrupts _ e both_roots.1)).0 where
    second : (x y : Bool) → x ≡ true → (not x || y) ≡ true → y ≡ true
    second true y e h = h
    second false y e h = absurd (cc)

  pub main_isr : (routine c 0).isr ≡ false
  main_isr = entry_isr false 0 (slice_get c.routines 0) (and_parts (is_entry false 0 (slice_get c.routines 0)) (has_row c 0 0 at_reset) both_roots.0).0

  pub main_row : has_row c 0 0 at_reset ≡ true
  main_row = (and_parts (is_entry false 0 (slice_get c.routines 0)) (has_row c 0 0 at_reset) both_roots.0).1

  pub handler : c.interrupts ≡ true → ((routine c 1).isr ≡ true) × (has_row c 4 1 at_interrupt ≡ true)
  handler e =
      let a = and_parts (is_entry true 4 (slice_get c.routines 1)) (has_row c 4 1 at_interrupt) (second c.interrupts _ e both_roots.1) in
      (entry_isr true 4 (slice_get c.routines 1) a.0, a.1) where
        second : (x y : Bool) → x ≡ true → (not x || y) ≡ true → y ≡ true
        second true y e h = h
        second false y e h = absurd (cc)

  -- ---- rows
  abbrev pub Member : Row → Type 0
  Member r = In r c.rows

  pub record Stood (at n : ℕ) (x : Facts) : Type 0 where
    pub row : Row
    pub at_is : row.at ≡ at
    pub routine_is : row.routine ≡ n
    pub fitting : fits x row.facts ≡ true
    pub ok : row_holds image c row ≡ true
    pub member : Member row

  pub stood : (at n : ℕ) (x : Facts) → has_row c at n x ≡ true → Stood at n x
  stood at n x h =
      let f = find_row (row_holds image c) at (stands n x) c.rows refl all_hold h in
      let a = and_parts (nat_eq f.row.routine n) (fits x f.row.facts) f.passes in
      record { row = f.row; at_is = f.at_is; routine_is = eqb-true _ _ a.0; fitting = a.1; ok = f.holds; member = f.member }

  -- ---- calls under way
  pub record Link (b : Bool) (v o n w m : ℕ) : Type 0 where
    pub kept : Bool
    pub back : returns image c n ≡ true → has_row c w m (bits (routine c n).out3 (routine c n).out4 kept) ≡ true
    pub cell : kept ≡ true → (b ≡ true) × (v ≡ o)
    pub bound : (routine c n).bound < (routine c m).bound
    pub callee : is_root c n ≡ false
    pub isr : (routine c m).isr ≡ b

  -- n was called from m at w, and so on down to the root
  abbrev pub Chain : Bool → ℕ → ℕ → ℕ → ℕ → List ℕ → Type 0
  Chain b v o root n [] = n ≡ root
  Chain b v o root n (w ∷ ws) = (m : ℕ) × Link b v o n w m × Chain b v o root m ws

  pub chain_bound : (b : Bool) (v o root n : ℕ) (ws : List ℕ) → Chain b v o root n ws → length ws + (routine c n).bound ≤ (routine c root).bound
  chain_bound b v o root n [] e = subst (λ k. 0 + (routine c n).bound ≤ (routine c k).bound) e (omega arith)
  chain_bound b v o root n (w ∷ ws) h = let l = h.1.bound in let i = chain_bound b v o root h.0 ws h.2 in omega arith

  -- another value in the cell, where that matters
  chain_map : (b : Bool) (v v' o o' root n : ℕ) (ws : List ℕ) → (b ≡ true → v ≡ o → v' ≡ o') → Chain b v o root n ws → Chain b v' o' root n ws
  chain_map b v v' o o' root n [] q h = h
  chain_map b v v' o o' root n (w ∷ ws) q h =
      (h.0, record { kept = h.1.kept; back = h.1.back; cell = λ e. (let a = h.1.cell e in (a.0, q a.0 a.1)); bound = h.1.bound; callee = h.1.callee; isr = h.1.isr }, chain_map b v v' o o' root h.0 ws q h.2)

  pub chain_kept : (b : Bool) (v v' o root n : ℕ) (ws : List ℕ) → (b ≡ true → is_root c n ≡ false → v' ≡ v) → Chain b v o root n ws → Chain b v' o root n ws
  chain_kept b v v' o root n [] q h = h
  chain_kept b v v' o root n (w ∷ ws) q h = chain_map b v v' o o root n (w ∷ ws) (λ e a. q e h.1.callee ∙ a) h

  pub chain_main : (v v' o o' root n : ℕ) (ws : List ℕ) → Chain false v o root n ws → Chain false v' o' root n ws
  chain_main v v' o o' root n ws h = chain_map false v v' o o' root n ws (λ e a. absurd (cc)) h

  abbrev pub cell_of : State → ℕ
  cell_of s = slice_index s.ram (c.cell - 0x20)

  -- GIE is clear in the handler, and everywhere where no interrupt may come
  abbrev pub Quiet : Bool → State → Type 0
  Quiet b s = (b || not c.interrupts) ≡ true → bit s.intcon 7 ≡ 0

  pub record Thread (b : Bool) (root o : ℕ) (below : List ℕ) (s : State) : Type 0 where
    pub row : Row
    pub ok : row_holds image c row ≡ true
    pub member : Member row
    pub pc : s.pc ≡ row.at
    pub isr : (routine c row.routine).isr ≡ b
    pub facts : Holds c.cell lo hi row.facts o s
    pub words : List ℕ
    pub chain : Chain b (cell_of s) o root row.routine words
    pub stack : IsOn s.stack 0 (words ++ below)
    pub depth : s.pushes ≡ s.pops + length (words ++ below)
    pub quiet : Quiet b s
    pub bare : b ≡ false → Bare row.facts

  pub stands_there : (b : Bool) (root o : ℕ) (below : List ℕ) (s : State) (at n : ℕ) (x : Facts) → Stood at n x → s.pc ≡ at → (routine c n).isr ≡ b → Holds c.cell lo hi x o s
      → (words : List ℕ) → Chain b (cell_of s) o root n words → IsOn s.stack 0 (words ++ below) → s.pushes ≡ s.pops + length (words ++ below) → Quiet b s → (b ≡ false → Bare x) → Thread b root o below s
  stands_there b root o below s at n x st pc isr facts words chain stack depth quiet bare = record {
    row = st.row;
    ok = st.ok;
    member = st.member;
    pc = pc ∙ sym st.at_is;
    isr = subst (λ k. (routine c k).isr ≡ b) (sym st.routine_is) isr;
    facts = weaker c.cell lo hi x st.row.facts o s st.fitting facts;
    words = words;
    chain = subst (λ k. Chain b (cell_of s) o root k words) (sym st.routine_is) chain;
    stack = stack;
    depth = depth;
    quiet = quiet;
    bare = λ e. bare_less x st.row.facts st.fitting (bare e);
  }

  -- the handler's RETFIE
  pub record Left (b : Bool) (root o : ℕ) (below : List ℕ) (s t : State) : Type 0 where
    pub interrupts : c.interrupts ≡ true
    pub handler : b ≡ true
    pub pclath : t.pclath ≡ o
    pub pc : t.pc ≡ slice_index s.stack 0
    pub on : IsOn s.stack 0 below
    pub stack : t.stack ≡ after_pop s.stack
    pub pushes : t.pushes ≡ s.pushes
    pub pops : t.pops ≡ s.pops + 1
    pub depth : s.pushes ≡ s.pops + length below

  module _ (inputs : List ℕ) (b : Bool) (root o : ℕ) (small_o : o < 32) (below : List ℕ) (is_root_root : is_root c root ≡ true) (isr_only : b ≡ true → c.interrupts ≡ true)
      (room : (routine c root).bound + length below ≤ 8) (s : State) (r : IsRanged s) (th : Thread b root o below s) where
    abbrev pub Out : State → Type 0
    Out t = Thread b root o below t ⊎ Left b root o below s t

    abbrev n : ℕ
    n = th.row.routine

    abbrev x : Facts
    x = th.row.facts

    -- ---- straight on
    landed : (k : Bool) (pc' : ℕ) (y : Facts) → GoesTo k s.pc pc' → has_row c (next th.row.at) n y ≡ true → (not k || has_row c (next_but_one th.row.at) n y) ≡ true → (at : ℕ) × (pc' ≡ at) × (has_row c at n y ≡ true)
    landed false pc' y g a d = (next th.row.at, g ∙ ap next th.pc, a)
    landed true pc' y g a d = ⊎_elim (λ e. (next th.row.at, e ∙ ap next th.pc, a)) (λ e. (next_but_one th.row.at, e ∙ ap next_but_one th.pc, d)) g

    not_one : is_root c n ≡ false → b ≡ true → nat_eq n 1 ≡ false
    not_one e h = second (nat_eq n 0) c.interrupts (nat_eq n 1) e (isr_only h) where
      second : (p k q : Bool) → (p || (k && q)) ≡ false → k ≡ true → q ≡ false
      second true k q e h = absurd (cc)
      second false true q e h = e
      second false false q e h = absurd (cc)

    cell_spared : (i : Ins) → ((routine c n).isr && not (nat_eq n 1) && writes c.cell i) ≡ false → is_root c n ≡ false → b ≡ true → writes c.cell i ≡ false
    cell_spared i e nr h = third (routine c n).isr (nat_eq n 1) (writes c.cell i) e (th.isr ∙ h) (not_one nr h) where
      third : (p q w : Bool) → (p && not q && w) ≡ false → p ≡ true → q ≡ false → w ≡ false
      third true true w e a b = absurd (cc)
      third true false w e a b = e
      third false q w e a b = absurd (cc)

    straight : (i : Ins) → is_straight i ≡ true → IsSmall i → is_allowed c n i ≡ true → goes_on image c th.row i ≡ true → Out (perform (row inputs s.pc i) s)
    straight i st small al go =
        let a = straight_allowed c n i st al in
        let g = straight_goes image c th.row i st go in
        let t : State = perform (row inputs s.pc i) s in
        let m = row_moved c.cell lo hi s inputs s.pc i st a.0 a.1 in
        let l = landed (may_skip i) t.pc (after c.cell i x) m.place g.0 g.1 in
        inl (stands_there b root o below t l.0 n (after c.cell i x) (stood l.0 n (after c.cell i x) l.2) l.1 th.isr
        (holds_after c.cell lo hi inputs s.pc s r o small_o x th.facts i small m)
        th.words
        (chain_kept b (cell_of s) (cell_of t) o root n th.words (λ e nr. m.byte (cell_spared i a.3 nr e)) th.chain)
        (on_same s.stack t.stack m.level 0 (th.words ++ below) th.stack)
        (m.pushes ∙ th.depth ∙ ap (λ p. p + length (th.words ++ below)) (sym m.pops))
        (λ q. gie_stays c.cell lo hi inputs s.pc s r i (guard (writes 11 i) c.interrupts b (spares_gie i) (ap (λ z. not (writes 11 i) || (c.interrupts && (not z || spares_gie i))) (sym th.isr) ∙ a.2) q) small m.intcon (th.quiet q))
        (λ e. bare_after c.cell i x (th.bare e)))

    -- ---- GOTO
    led : (y : Option ℕ) → leads c th.row y ≡ true → (at : ℕ) × (y ≡ Some at) × (has_row c at n x ≡ true)
    led None h = absurd (cc)
    led (Some at) h = (at, refl, h)

    jump : (k : ℕ) → goes_on image c th.row (Goto k) ≡ true → Out (perform (row inputs s.pc (Goto k)) s)
    jump k go =
        let l = led (target x.p3 x.p4 k) go in
        let t : State = perform (row inputs s.pc (Goto k)) s in
        inl (stands_there b root o below t l.0 n x (stood l.0 n x l.2) (target_is x.p3 x.p4 k s.pclath l.0 th.facts.p3 th.facts.p4 l.1) th.isr
        (record { p3 = th.facts.p3; p4 = th.facts.p4; orig = th.facts.orig; w_orig = th.facts.w_orig; saved = th.facts.saved })
        th.words th.chain th.stack th.depth th.quiet th.bare)

    -- ---- CALL
    called : (y : Option ℕ) → calls image c th.row y ≡ true → (at : ℕ) × (y ≡ Some at) × (is_callee image c th.row at (row_at c.rows at) ≡ true)
    called None h = absurd (cc)
    called (Some at) h = (at, refl, h)

    few : (k : ℕ) → k < (routine c n).bound → length (th.words ++ below) ≤ 7
    few k lt =
        let a = chain_bound b (cell_of s) o root n th.words th.chain in
        let e = length_both th.words below in
        omega arith where
          length_both : (xs ys : List ℕ) → length (xs ++ ys) ≡ length xs + length ys
          length_both [] ys = omega arith
          length_both (y ∷ xs) ys = let i = length_both xs ys in omega arith

    kept_in_handler : x.saved ≡ true → b ≡ true
    kept_in_handler e = true_from_ne_false b (λ f. both_ways x.saved (th.bare f).2 e)

    height_is : (routine c n).bound ≡ height image c n 0 c.rows
    height_is =
        let a = and_parts _ (instruction_holds image c th.row (instruction image th.row)) th.ok in
        let d = and_parts (nat_lt n (length c.routines)) (nat_eq n 1 || is_bare x) a.0 in
        let q = routine_at image c 0 c.routines n routines_fine (ltb-true n (length c.routines) d.0) in
        eqb-true (routine c n).bound (height image c n 0 c.rows) (and_parts _ (nat_eq (routine c n).bound (height image c n 0 c.rows)) (subst (λ m. routine_holds image c m (routine c n) ≡ true) (plain n) q)).1 where
          plain : (k : ℕ) → 0 + k ≡ k
          plain k = omega arith

    lower : (k at : ℕ) (e : Row) → instruction image th.row ≡ Some (Call k) → target x.p3 x.p4 k ≡ Some at → row_at c.rows at ≡ Some e → (routine c e.routine).bound < (routine c n).bound
    lower k at e i t a =
        let h : call_height c th.row (instruction image th.row) ≡ 1 + (routine c e.routine).bound = ap (call_height c th.row) i ∙ ap (height_at c) t ∙ ap (height_of c) a in
        let l = in_height image c n 0 th.row c.rows th.member (eq-eqb n n refl) in
        let q = height_is in
        omega arith

    call : (k : ℕ) → instruction image th.row ≡ Some (Call k) → goes_on image c th.row (Call k) ≡ true → Out (perform (row inputs s.pc (Call k)) s)
    call k is go =
        let l = called (target x.p3 x.p4 k) go in
        let f = find_row (row_holds image c) l.0 (is_callee image c th.row l.0) c.rows refl all_hold l.2 in
        let e = f.row in
        let p2 = and_parts _ (comes_back image c th.row e.routine) f.passes in
        let p3 = and_parts _ (agree (routine c e.routine).isr (routine c n).isr) p2.0 in
        let p4 = and_parts _ (not (is_root c e.routine)) p3.0 in
        let p5 = and_parts (nat_eq (routine c e.routine).entry l.0) (fits (bits x.p3 x.p4 false) e.facts) p4.0 in
        let lt = lower k l.0 e is l.1 f.is in
        let t : State = perform (row inputs s.pc (Call k)) s in
        let low = few (routine c e.routine).bound lt in
        let w : ℕ = (s.pc + 1) % 8192 in
        let pushed : t.stack ≡ after_push w s.stack = push_list s.stack w r.stack in
        inl (record {
          row = e;
          ok = f.holds;
          member = f.member;
          pc = target_is x.p3 x.p4 k s.pclath l.0 th.facts.p3 th.facts.p4 l.1 ∙ sym f.at_is;
          isr = same_flag (routine c e.routine).isr (routine c n).isr b p3.1 th.isr;
          facts = weaker c.cell lo hi (bits x.p3 x.p4 false) e.facts o t p5.1 (record { p3 = th.facts.p3; p4 = th.facts.p4; orig = λ q. absurd (cc); w_orig = λ q. absurd (cc); saved = λ q. absurd (cc) });
          words = w ∷ th.words;
          chain = (
            n,
            record {
              kept = x.saved;
              back = λ q. subst (λ at. has_row c at n (bits (routine c e.routine).out3 (routine c e.routine).out4 x.saved) ≡ true) (ap next (sym th.pc)) (second (returns image c e.routine) _ q p2.1);
              cell = λ q. (kept_in_handler q, th.facts.saved q);
              bound = lt;
              callee = not-true (is_root c e.routine) p4.1;
              isr = th.isr;
            },
            th.chain,
          );
          stack = subst (λ z. IsOn z 0 (w ∷ (th.words ++ below))) (sym pushed) (on_push w s.stack (th.words ++ below) low th.stack);
          depth = let d = th.depth in omega arith;
          quiet = th.quiet;
          bare = λ q. bare_less (bits x.p3 x.p4 false) e.facts p5.1 (refl, refl, refl);
        }) where
          second : (p q : Bool) → p ≡ true → (not p || q) ≡ true → q ≡ true
          second true q e h = h
          second false q e h = absurd (cc)

    -- ---- returns
    module _ (t : State) (pc : t.pc ≡ slice_index s.stack 0) (stack : t.stack ≡ after_pop s.stack) (pushes : t.pushes ≡ s.pushes) (pops : t.pops ≡ s.pops + 1) (pclath : t.pclath ≡ s.pclath) (ram : t.ram ≡ s.ram) where
      going_back : t.intcon ≡ s.intcon → not (is_root c n) ≡ true → leaves (routine c n) x ≡ true → returns image c n ≡ true
          → (ws : List ℕ) → Chain b (cell_of s) o root n ws → IsOn s.stack 0 (ws ++ below) → s.pushes ≡ s.pops + length (ws ++ below) → length (ws ++ below) ≤ 8 → Thread b root o below t
      going_back intcon nr lv rt [] ch on dep le = absurd (both_ways (is_root c n) (not-true _ nr) (subst (λ k. is_root c k ≡ true) (sym ch) is_root_root))
      going_back intcon nr lv rt (w ∷ ws) ch on dep le =
          let link = ch.1 in
          let y : Facts = bits (routine c n).out3 (routine c n).out4 link.kept in
          let both = and_parts (known_in (routine c n).out3 x.p3) (known_in (routine c n).out4 x.p4) lv in
          let same_cell : cell_of t ≡ cell_of s = ap (λ z. slice_index z (c.cell - 0x20)) ram in
          stands_there b root o below t w ch.0 y (stood w ch.0 y (link.back rt)) (pc ∙ on.0) link.isr
          (record {
            p3 = subst (λ p. Knows (routine c n).out3 (bit p 3)) (sym pclath) (knows_less (routine c n).out3 x.p3 (bit s.pclath 3) both.0 th.facts.p3);
            p4 = subst (λ p. Knows (routine c n).out4 (bit p 4)) (sym pclath) (knows_less (routine c n).out4 x.p4 (bit s.pclath 4) both.1 th.facts.p4);
            orig = λ q. absurd (cc);
            w_orig = λ q. absurd (cc);
            saved = λ q. same_cell ∙ (link.cell q).1;
          })
          ws
          (chain_kept b (cell_of s) (cell_of t) o root ch.0 ws (λ e nr. same_cell) ch.2)
          (subst (λ z. IsOn z 0 (ws ++ below)) (sym stack) (on_pop s.stack w (ws ++ below) (omega arith) on))
          (omega arith)
          (λ q. ap (λ z. bit z 7) intcon ∙ th.quiet q)
          (λ f. (refl, refl, false_from_ne_true link.kept (λ h. both_ways b f (link.cell h).0)))

      leaving : c.interrupts ≡ true → n ≡ 1 → x.orig ≡ true → (ws : List ℕ) → Chain b (cell_of s) o root n ws → IsOn s.stack 0 (ws ++ below) → s.pushes ≡ s.pops + length (ws ++ below) → Left b root o below s t
      leaving k one og [] ch on dep = record {
        interrupts = k;
        handler = sym th.isr ∙ ap (λ m. (routine c m).isr) one ∙ (handler k).0;
        pclath = pclath ∙ th.facts.orig og;
        pc = pc;
        on = on;
        stack = stack;
        pushes = pushes;
        pops = pops;
        depth = dep;
      }
      leaving k one og (w ∷ ws) ch on dep =
          absurd (both_ways (is_root c n) ch.1.callee (subst (λ m. is_root c m ≡ true) (sym one) (or_right (nat_eq 1 0) (c.interrupts && nat_eq 1 1) (and_from c.interrupts true k refl))))

    deep : length (th.words ++ below) ≤ 8
    deep =
        let a = chain_bound b (cell_of s) o root n th.words th.chain in
        let e = length_both th.words below in
        omega arith where
          length_both : (xs ys : List ℕ) → length (xs ++ ys) ≡ length xs + length ys
          length_both [] ys = omega arith
          length_both (y ∷ xs) ys = let i = length_both xs ys in omega arith

    returned : (i : Option Ins) → instruction image th.row ≡ i → is_return i ≡ true → returns image c n ≡ true
    returned i e h = in_any (λ r'. nat_eq r'.routine n && is_return (instruction image r')) th.row c.rows th.member (and_from (nat_eq n n) (is_return (instruction image th.row)) (eq-eqb n n refl) (ap is_return e ∙ h))

    -- ---- any instruction
    by : (i : Ins) → instruction image th.row ≡ Some i → IsSmall i → is_modelled (Some i) ≡ true → is_allowed c n i ≡ true → goes_on image c th.row i ≡ true → Out (perform (row inputs s.pc i) s)
    by (Goto k) e small mo al go = jump k go
    by (Call k) e small mo al go = call k e go
    by Return e small mo al go =
        inl (going_back (perform (row inputs s.pc Return) s) refl (pop_list s.stack r.stack) refl refl refl refl refl al go (returned (Some Return) e refl) th.words th.chain th.stack th.depth deep)
    by (Retlw k) e small mo al go =
        inl (going_back (perform (row inputs s.pc (Retlw k)) s) refl (pop_list s.stack r.stack) refl refl refl refl refl al go (returned (Some (Retlw k)) e refl) th.words th.chain th.stack th.depth deep)
    by Retfie e small mo al go =
        let a = and_parts c.interrupts (nat_eq n 1) al in
        inr (leaving (perform (row inputs s.pc Retfie) s) refl (pop_list s.stack r.stack) refl refl refl refl a.0 (eqb-true n 1 a.1) go th.words th.chain th.stack th.depth)
    by Sleep e small mo al go = absurd (cc)
    by i e small mo al go = straight i refl small al go

    held : (i : Option Ins) → row_of (slice_index image s.pc) ≡ i → instruction_holds image c th.row i ≡ true
    held i e =
        let a = and_parts _ (instruction_holds image c th.row (instruction image th.row)) th.ok in
        subst (λ j. instruction_holds image c th.row j ≡ true) (ap (λ at. row_of (slice_index image at)) (sym th.pc) ∙ e) a.1

    pub one_step : (i : Option Ins) → row_of (slice_index image s.pc) ≡ i → ((j : Ins) → i ≡ Some j → IsSmall j) → is_modelled i ≡ true → Out (perform (act_of inputs s.pc i) s)
    one_step None e small mo = absurd (cc)
    one_step (Some i) e small mo =
        let a = and_parts (is_allowed c n i) (goes_on image c th.row i) (held (Some i) e) in
        by i (ap (λ at. row_of (slice_index image at)) (sym th.pc) ∙ e) (small i refl) mo a.0 a.1
