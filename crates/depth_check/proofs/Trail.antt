-- Addresses that are met, one after the other, are those of the rounds.
use Rattle.std.proofs.Common.{◌≡◌, ℕ, zero, suc, ◌+◌, ◌-◌, ◌<◌, ◌≤◌, Bool, true, false, List, [], ◌∷◌, length, Option, Some, None, refl, sym, ap, ◌∙◌, subst, ⊎_elim, arith, replicate}
use Rattle.std.specs.Prelude.{◌&&◌, ◌||◌, nat_eq, nat_lt, nat_le, slice_index_or, slice_set}
use Rattle.std.specs.List.{list_any}
use Rattle.std.proofs.lemmas.Bool.{and_parts, and_from, or_cases, or_left, or_right, eqb-true, eq-eqb, ltb-true, both_ways, cases_lt}
use Rattle.std.proofs.lemmas.List.{length-replicate}
use Rattle.depth_check.specs.declared.Row.{Row}
use Rattle.depth_check.specs.declared.met.Met.{Met}
use Rattle.depth_check.specs.Certificate.{Certificate}
use Rattle.depth_check.specs.Valid.{row_at, instruction, is_place, asks, is_met, is_rising}
use Rattle.depth_check.specs.Marks.{IsRound, is_marked, place, unmarked, IsOrder, Meets, IsUnderway, handler_place}
use Rattle.depth_check.proofs.Threads.{In, in_any}
use Rattle.depth_check.proofs.Complete.{any_in, own, found_in, same_row}
use Rattle.depth_check.proofs.Spots.{index_none, index_same, index_other, index_length}

-- ---- marks
marked_below : (marks : List Bool) (k : ℕ) → slice_index_or marks k false ≡ true → k < length marks
marked_below [] k e = absurd (cc)
marked_below (x ∷ marks) zero e = omega arith
marked_below (x ∷ marks) (suc k) e = let h = marked_below marks k e in omega arith

one_less : (marks : List Bool) (k : ℕ) → k < length marks → slice_index_or marks k false ≡ false → 1 + unmarked (slice_set marks k true) ≡ unmarked marks
one_less [] k lt e = absurd (omega arith)
one_less (true ∷ marks) zero lt e = absurd (cc)
one_less (false ∷ marks) zero lt e = refl
one_less (true ∷ marks) (suc k) lt e = one_less marks k (omega arith) e
one_less (false ∷ marks) (suc k) lt e = ap (λ n. 1 + n) (one_less marks k (omega arith) e)

pub set_mark : (marks : List Bool) (at k : ℕ) → at < length marks → slice_index_or (slice_set marks at true) k false ≡ (slice_index_or marks k false || nat_eq at k)
set_mark marks at k lt = by (nat_eq at k) refl where
  by : (b : Bool) → nat_eq at k ≡ b → slice_index_or (slice_set marks at true) k false ≡ (slice_index_or marks k false || b)
  by true e = subst (λ j. slice_index_or (slice_set marks at true) j false ≡ true) (eqb-true at k e) (index_same false marks at true lt) ∙ sym (or_right (slice_index_or marks k false) true refl)
  by false e = index_other false marks at k true e ∙ sym (or_none (slice_index_or marks k false)) where
    or_none : (m : Bool) → (m || false) ≡ m
    or_none true = refl
    or_none false = refl

-- ---- one address more
pub has_room : (m : Met) (at : ℕ) → IsOrder m → at < 8192 → is_marked m at ≡ false → m.count < 8192
has_room m at o lt e = let r = o.room in let l = one_less m.marks at (omega (arith, o.marks_length, lt)) e in omega (arith, r, l)

module _ (m : Met) (at : ℕ) (o : IsOrder m) (lt : at < 8192) (new : is_marked m at ≡ false) where
  abbrev more : Met
  more = record { marks = slice_set m.marks at true; places = slice_set m.places m.count at; count = m.count + 1 }

  here : at < length m.marks
  here = let l = o.marks_length in omega (arith, l, lt)

  last : place more m.count ≡ at
  last = index_same 0 m.places m.count at (let l = o.places_length in let r = has_room m at o lt new in omega (arith, l, r))

  before : (i : ℕ) → i < m.count → place more i ≡ place m i
  before i l = index_other 0 m.places m.count i at (other (nat_eq m.count i) refl) where
    other : (b : Bool) → nat_eq m.count i ≡ b → b ≡ false
    other true e = absurd (let h = eqb-true m.count i e in omega (arith, h, l))
    other false e = refl

  marks_more : (k : ℕ) → is_marked more k ≡ (is_marked m k || nat_eq at k)
  marks_more k = set_mark m.marks at k here

  still : (k : ℕ) → is_marked m k ≡ true → is_marked more k ≡ true
  still k e = marks_more k ∙ or_left (is_marked m k) (nat_eq at k) e

  listed_more : (k : ℕ) → is_marked more k ≡ true → (i : ℕ) × (i < m.count + 1) × (place more i ≡ k)
  listed_more k e = ⊎_elim
      (λ h. let p = o.listed k h in (p.0, (let l = p.1 in omega (arith, l)), before p.0 p.1 ∙ p.2))
      (λ h. (m.count, omega arith, last ∙ eqb-true at k h))
      (or_cases (is_marked m k) (nat_eq at k) (sym (marks_more k) ∙ e))

  real_more : (i : ℕ) → i < m.count + 1 → is_marked more (place more i) ≡ true
  real_more i l = ⊎_elim
      (λ h. subst (λ k. is_marked more k ≡ true) (sym (before i h)) (still (place m i) (o.real i h)))
      (λ h. subst (λ j. is_marked more (place more j) ≡ true) (same i m.count h l) (subst (λ k. is_marked more k ≡ true) (sym last) (marks_more at ∙ or_right (is_marked m at) (nat_eq at at) (eq-eqb at at refl))))
      (cases_lt i m.count) where
        same : (i n : ℕ) → n ≤ i → i < n + 1 → n ≡ i
        same i n a b = omega arith

  pub added : Meets m more (Some at)
  added = record {
    order = record {
      marks_length = index_length m.marks at true ∙ o.marks_length;
      places_length = index_length m.places m.count at ∙ o.places_length;
      room = (let r = o.room in let l = one_less m.marks at here new in omega (arith, r, l));
      listed = listed_more;
      real = real_more;
    };
    more = omega arith;
    kept = before;
    marks = λ k l. marks_more k;
  }

-- nothing is asked for, or what is met already
pub as_before : (m : Met) (at : Option ℕ) → IsOrder m → ((k : ℕ) → k < 8192 → is_place k at ≡ true → is_marked m k ≡ true) → Meets m m at
as_before m at o f = record { order = o; more = omega arith; kept = λ i l. refl; marks = λ k lt. same (is_marked m k) (is_place k at) (f k lt) } where
  same : (a b : Bool) → (b ≡ true → a ≡ true) → a ≡ (a || b)
  same true b f = refl
  same false false f = refl
  same false true f = f refl

pub none_asked : (m : Met) → IsOrder m → Meets m m None
none_asked m o = as_before m None o (λ k lt e. absurd (cc))

pub met_already : (m : Met) (at : ℕ) → IsOrder m → is_marked m at ≡ true → Meets m m (Some at)
met_already m at o e = as_before m (Some at) o (λ k lt h. subst (λ j. is_marked m j ≡ true) (eqb-true at k h) e)

pub not_an_address : (m : Met) (at : ℕ) → IsOrder m → 8192 ≤ at → Meets m m (Some at)
not_an_address m at o le = as_before m (Some at) o (λ k lt h. absurd (let e = eqb-true at k h in omega (arith, e, le, lt)))

-- ---- at first
pub nothing_met : (m : Met) → m.marks ≡ replicate 8192 false → m.places ≡ replicate 8192 0 → m.count ≡ 0 → IsOrder m
nothing_met m a b z = record {
  marks_length = ap length a ∙ length-replicate {A = Bool} 8192 false;
  places_length = ap length b ∙ length-replicate {A = ℕ} 8192 0;
  room = (let n : unmarked m.marks ≡ 8192 = ap unmarked a ∙ all_unmarked 8192 in omega (arith, z, n));
  listed = λ at e. absurd (both_ways (is_marked m at) (ap (λ (xs : List Bool). slice_index_or xs at false) a ∙ index_none false 8192 at) e);
  real = λ i lt. absurd (omega (arith, z, lt));
} where
  all_unmarked : (n : ℕ) → unmarked (replicate n false) ≡ n
  all_unmarked zero = refl
  all_unmarked (suc n) = let h = all_unmarked n in omega (arith, h)

pub begun : (image : List ℕ) (c : Certificate) (m n o : Met) → ((k : ℕ) → is_marked m k ≡ false) → Meets m n (Some 0) → Meets n o (handler_place c.interrupts) → IsUnderway image c o 0
unfolding is_met
begun image c m n o none f g = record {
  order = g.order;
  roots = λ k lt h. marks_at k lt ∙ h;
  met = λ k lt h. sym (marks_at k lt) ∙ h;
  asked = λ i l. absurd (omega arith);
} where
  handler : (b : Bool) (k : ℕ) → is_place k (handler_place b) ≡ (b && nat_eq 4 k)
  handler true k = refl
  handler false k = refl

  marks_at : (k : ℕ) → k < 8192 → is_marked o k ≡ (nat_eq 0 k || (c.interrupts && nat_eq 4 k))
  marks_at k lt = g.marks k lt ∙ ap (λ z. z || is_place k (handler_place c.interrupts)) (f.marks k lt ∙ ap (λ z. z || nat_eq 0 k) (none k)) ∙ ap (λ z. nat_eq 0 k || z) (handler c.interrupts k)

-- ---- from one place to the next
module _ (image : List ℕ) (c : Certificate) where
  later : (turn k : ℕ) → is_met image c turn k ≡ true → is_met image c (turn + 1) k ≡ true
  unfolding is_met
  later turn k h = ap (λ n. is_met image c n k) (one turn) ∙ or_left (is_met image c turn k) (list_any (λ r. is_met image c turn r.at && asks image c r (instruction image r) k) c.rows) h where
    one : (n : ℕ) → n + 1 ≡ suc n
    one n = omega arith

  by_row : (turn k : ℕ) (r : Row) → In r c.rows → is_met image c turn r.at ≡ true → asks image c r (instruction image r) k ≡ true → is_met image c (turn + 1) k ≡ true
  unfolding is_met
  by_row turn k r is m a = ap (λ n. is_met image c n k) (one turn) ∙ or_right (is_met image c turn k) (list_any (λ r. is_met image c turn r.at && asks image c r (instruction image r) k) c.rows)
      (in_any (λ s. is_met image c turn s.at && asks image c s (instruction image s) k) r c.rows is (and_from (is_met image c turn r.at) (asks image c r (instruction image r) k) m a)) where
        one : (n : ℕ) → n + 1 ≡ suc n
        one n = omega arith

  module _ (m : Met) (turn : ℕ) (u : IsUnderway image c m turn) (lt : turn < m.count) where
    same_turn : (i : ℕ) → turn ≤ i → i < turn + 1 → turn ≡ i
    same_turn i a b = omega arith

    pub passed_by : row_at c.rows (place m turn) ≡ None → IsUnderway image c m (turn + 1)
    passed_by none = record {
      order = u.order;
      roots = u.roots;
      met = λ k l h. later turn k (u.met k l h);
      asked = λ i l n r e. ⊎_elim (λ b. u.asked i b n r e) (λ b. absurd (no_row r (sym none ∙ subst (λ j. row_at c.rows (place m j) ≡ Some r) (sym (same_turn i b l)) e))) (cases_lt i turn);
    } where
      no_row : (r : Row) → None ≡ Some r → ⊥
      no_row r e = cc

    module _ (n p : Met) (row : Row) (at_row : row_at c.rows (place m turn) ≡ Some row) (first second : Option ℕ)
        (asks_are : (k : ℕ) → asks image c row (instruction image row) k ≡ (is_place k first || is_place k second)) (f : Meets m n first) (g : Meets n p second) where
      marks_at : (k : ℕ) → k < 8192 → is_marked p k ≡ (is_marked m k || is_place k first || is_place k second)
      marks_at k l = g.marks k l ∙ ap (λ z. z || is_place k second) (f.marks k l)

      kept : (i : ℕ) → i < m.count → place p i ≡ place m i
      kept i l = g.kept i (let a = f.more in omega (arith, a, l)) ∙ f.kept i l

      stays : (k : ℕ) → k < 8192 → is_marked m k ≡ true → is_marked p k ≡ true
      stays k l h = marks_at k l ∙ or_left (is_marked m k || is_place k first) (is_place k second) (or_left (is_marked m k) (is_place k first) h)

      is_asked : (k : ℕ) → k < 8192 → asks image c row (instruction image row) k ≡ true → is_marked p k ≡ true
      is_asked k l h = marks_at k l ∙ ⊎_elim
          (λ a. or_left (is_marked m k || is_place k first) (is_place k second) (or_right (is_marked m k) (is_place k first) a))
          (λ a. or_right (is_marked m k || is_place k first) (is_place k second) a)
          (or_cases (is_place k first) (is_place k second) (sym (asks_are k) ∙ h))

      its : (row.at ≡ place m turn) × In row c.rows
      its = found_in c.rows (place m turn) row at_row

      met_row : is_met image c turn row.at ≡ true
      met_row = subst (λ k. is_met image c turn k ≡ true) (sym its.0) (u.met (place m turn) (subst (λ k. place m turn < k) u.order.marks_length (marked_below m.marks (place m turn) (u.order.real turn lt))) (u.order.real turn lt))

      asked_for : (k : ℕ) → (is_place k first || is_place k second) ≡ true → is_met image c (turn + 1) k ≡ true
      asked_for k h = by_row turn k row its.1 met_row (asks_are k ∙ h)

      met_now : (k : ℕ) → k < 8192 → is_marked p k ≡ true → is_met image c (turn + 1) k ≡ true
      met_now k l h = ⊎_elim
          (λ a. ⊎_elim (λ b. later turn k (u.met k l b)) (λ b. asked_for k (or_left (is_place k first) (is_place k second) b)) (or_cases (is_marked m k) (is_place k first) a))
          (λ a. asked_for k (or_right (is_place k first) (is_place k second) a))
          (or_cases (is_marked m k || is_place k first) (is_place k second) (sym (marks_at k l) ∙ h))

      asked_now : (i : ℕ) → i < turn + 1 → i < p.count → (r : Row) → row_at c.rows (place p i) ≡ Some r → (k : ℕ) → k < 8192 → asks image c r (instruction image r) k ≡ true → is_marked p k ≡ true
      asked_now i l n r e k b h = ⊎_elim
          (λ a. stays k b (u.asked i a (omega (arith, a, lt)) r (subst (λ j. row_at c.rows j ≡ Some r) (kept i (omega (arith, a, lt))) e) k b h))
          (λ a. let x = subst (λ j. row_at c.rows j ≡ Some r) (kept turn lt) (subst (λ j. row_at c.rows (place p j) ≡ Some r) (sym (same_turn i a l)) e) in
          is_asked k b (subst (λ (z : Row). asks image c z (instruction image z) k ≡ true) (same_row (row_at c.rows (place m turn)) r row x at_row) h))
          (cases_lt i turn)

      pub looked : IsUnderway image c p (turn + 1)
      looked = record { order = g.order; roots = λ k l h. stays k l (u.roots k l h); met = met_now; asked = asked_now }

-- ---- at the end
module _ (image : List ℕ) (c : Certificate) (rising : is_rising 0 c.rows ≡ true) (m : Met) (turn : ℕ) (u : IsUnderway image c m turn) (end : m.count ≤ turn) (most : turn ≤ 8192) where
  low : (from : ℕ) (r : Row) (rows : List Row) → is_rising from rows ≡ true → In r rows → r.at < 8192
  low from r [] h o = absurd o
  low from r (x ∷ rows) h o =
      let a = and_parts _ (is_rising (x.at + 1) rows) h in
      let b = and_parts (nat_le from x.at) (nat_lt x.at 8192) a.0 in
      ⊎_elim (λ e. subst (λ (z : Row). z.at < 8192) e (ltb-true x.at 8192 b.1)) (λ l. low (x.at + 1) r rows a.1 l) o

  is_found : (n k : ℕ) → k < 8192 → is_met image c n k ≡ true → is_marked m k ≡ true
  unfolding is_met
  is_found zero k lt h = u.roots k lt h
  is_found (suc n) k lt h = ⊎_elim
      (λ l. is_found n k lt l)
      (λ l. let a = any_in (λ r. is_met image c n r.at && asks image c r (instruction image r) k) c.rows l in
      let p = and_parts (is_met image c n a.0.at) (asks image c a.0 (instruction image a.0) k) a.2 in
      let i = u.order.listed a.0.at (is_found n a.0.at (low 0 a.0 c.rows rising a.1) p.0) in
      u.asked i.0 (let b = i.1 in omega (arith, b, end)) i.1 a.0 (subst (λ z. row_at c.rows z ≡ Some a.0) (sym i.2) (own 0 a.0 c.rows rising a.1)) k lt p.1)
      (or_cases (is_met image c n k) (list_any (λ r. is_met image c n r.at && asks image c r (instruction image r) k) c.rows) h)

  longer : (n j k : ℕ) → is_met image c n k ≡ true → is_met image c (n + j) k ≡ true
  longer n zero k h = ap (λ i. is_met image c i k) (none n) ∙ h where
    none : (n : ℕ) → n + 0 ≡ n
    none n = omega arith
  longer n (suc j) k h = ap (λ i. is_met image c i k) (next n j) ∙ later image c (n + j) k (longer n j k h) where
    next : (n j : ℕ) → n + suc j ≡ n + j + 1
    next n j = omega arith

  pub all_round : IsRound image c 8192 m.marks
  all_round k lt = same (is_marked m k) (is_met image c 8192 k)
      (λ h. subst (λ n. is_met image c n k ≡ true) (whole turn most) (longer turn (8192 - turn) k (u.met k lt h)))
      (λ h. is_found 8192 k lt h) where
        whole : (n : ℕ) → n ≤ 8192 → n + (8192 - n) ≡ 8192
        whole n le = omega arith

        same : (a b : Bool) → (a ≡ true → b ≡ true) → (b ≡ true → a ≡ true) → a ≡ b
        same true b f g = sym (f refl)
        same false true f g = g refl
        same false false f g = refl
