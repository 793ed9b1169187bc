-- One instruction on both chips, by places and numbers.
use Rattle.std.proofs.Common.{◌≡◌, ℕ, ◌<◌, Bool, true, false, List, [], ◌∷◌, ◌++◌, length, refl, sym, ap, ◌∙◌, subst, arith}
use Rattle.std.specs.Prelude.{if◌then◌else◌, nat_eq, nat_lt, ◌&&◌, ◌||◌, slice_index, slice_set}
use Rattle.std.proofs.lemmas.Bool.{eqb-true, eqb-false, ltb-true, agree_below_at}
use Rattle.std.proofs.lemmas.List.{get_or-set_same, get_or-set_other, length-set}
use Rattle.pic_chip.specs.declared.processor.Flags.{Flags}
use Rattle.pic_chip.specs.declared.processor.Flags.TheVariants.{Keep, OnlyZ, OnlyC, Sums}
use Rattle.pic_chip.specs.Act.{Derived, Made, made, value_in}
use Rattle.pic_chip.specs.Address.{Place, Pcl, Status, Fsr, Pclath, Intcon, Pir1, Pie1, General, Device, Nothing}
use Rattle.pic_chip.specs.Changes.{after_reading, flagged, keeps_flags, finished, row_done, stored}
use Rattle.pic_chip.specs.Instructions.{contents, note_by, write_note_by}
use Rattle.pic_chip.specs.State.{State}
use Rattle.chip_84a.specs.Family.{Member, Fits, ShareBytes, byte_test, has, shared_byte, twin_by, twin_place}
use Rattle.chip_84a.proofs.Places.{and_left, and_right, not_true, or_right}

on_off : (b : Bool) → b ≡ true → b ≡ false → ⊥
on_off true e f = cc
on_off false e f = cc

either_true : (a b c : Bool) → (a || (b && c)) ≡ true → (a || c) ≡ true
either_true true b c e = refl
either_true false true c e = e
either_true false false c e = absurd (cc)

-- a list with one more value, at one place and at another
one_set : (xs ys : List ℕ) (i j a b v : ℕ) → a < length xs → b < length ys → slice_index ys j ≡ slice_index xs i → (nat_eq i a ≡ nat_eq j b) → slice_index (slice_set ys b v) j ≡ slice_index (slice_set xs a v) i
one_set xs ys i j a b v la lb e t = by (nat_eq i a) refl where
  by : (c : Bool) → nat_eq i a ≡ c → slice_index (slice_set ys b v) j ≡ slice_index (slice_set xs a v) i
  by true q =
      let ei = eqb-true i a q in
      let ej = eqb-true j b (sym t ∙ q) in
      ap (slice_index (slice_set ys b v)) ej ∙ get_or-set_same ys b v 0 lb ∙ sym (get_or-set_same xs a v 0 la) ∙ ap (slice_index (slice_set xs a v)) (sym ei)
  by false q = get_or-set_other ys b j v 0 (eqb-false j b (sym t ∙ q)) ∙ e ∙ sym (get_or-set_other xs a i v 0 (eqb-false i a q))

same_test : (i a j b : ℕ) → (i ≡ a → j ≡ b) → (j ≡ b → i ≡ a) → nat_eq i a ≡ nat_eq j b
same_test i a j b to from = by (nat_eq i a) (nat_eq j b) refl refl where
  by : (c d : Bool) → nat_eq i a ≡ c → nat_eq j b ≡ d → c ≡ d
  by true true p q = refl
  by false false p q = refl
  by true false p q = absurd (eqb-false j b q (to (eqb-true i a p)))
  by false true p q = absurd (eqb-false i a p (from (eqb-true j b q)))

-- ---- bytes
-- a byte that both chips have
pub record IsByte (m : Member) (k : ℕ) : Type 0 where
  pub below : k < 368
  pub shared : shared_byte m k ≡ true

module _ (m : Member) (fits : Fits m) where
  pub byte_of : (direct : Bool) (k : ℕ) → has m direct (General k) ≡ true → IsByte m k
  byte_of direct k h =
      let rest = and_right (nat_lt k 368) _ h in
      record { below = ltb-true k 368 (and_left _ _ h); shared = either_true (m.keeps k) direct (m.keeps_direct k) rest }

  -- what the test says of it
  tested : (k : ℕ) → IsByte m k → (m.back (m.byte k) ≡ k) × (m.byte k < 368)
  tested k is =
      let at : byte_test m k ≡ true = agree_below_at (byte_test m) (λ n. true) 368 k fits.bytes is.below in
      let both = or_right _ _ at (not_true _ is.shared) in
      let numbers = and_left (nat_eq (m.back (m.byte k)) k && nat_lt (m.byte k) 368) _ both in
      (eqb-true _ _ (and_left _ _ numbers), ltb-true _ _ (and_right (nat_eq (m.back (m.byte k)) k) _ numbers))

  pub set_twin : (k : ℕ) → IsByte m k → (v : ℕ) (ram ram' : List ℕ) → ShareBytes m ram ram' → ShareBytes m (slice_set ram k v) (slice_set ram' (m.byte k) v)
  set_twin k is v ram ram' b =
      let la = b.count in let lb = b.second_count in
      let here = tested k is in
      let low = is.below in let high = here.1 in
      record {
        count = length-set ram k v ∙ b.count;
        second_count = length-set ram' (m.byte k) v ∙ b.second_count;
        same = λ j lj shared.
            let there = tested j (record { below = lj; shared = shared }) in
            one_set ram ram' j (m.byte j) k (m.byte k) v (omega (arith, la, low)) (omega (arith, lb, high)) (b.same j lj shared)
            (same_test j k (m.byte j) (m.byte k) (λ e. ap m.byte e) (λ e. sym there.0 ∙ ap m.back e ∙ here.0));
      }

  abbrev pub twin : State → List ℕ → State
  twin s ram = twin_by m.peripherals s ram

  -- ---- what a place holds
  pub contents_twin : (direct : Bool) (p : Place) → has m direct p ≡ true → (inputs : List ℕ) (s : State) (ram : List ℕ) → ShareBytes m s.ram ram
      → value_in (twin s ram) (contents inputs s.pc (twin_place m p)) ≡ value_in s (contents inputs s.pc p)
  contents_twin direct Pcl sh inputs s ram b = refl
  contents_twin direct Status sh inputs s ram b = refl
  contents_twin direct Fsr sh inputs s ram b = refl
  contents_twin direct Pclath sh inputs s ram b = refl
  contents_twin direct Intcon sh inputs s ram b = refl
  contents_twin direct Pir1 sh inputs s ram b = ap (λ c. if c then s.pir1 else 0) sh
  contents_twin direct Pie1 sh inputs s ram b = ap (λ c. if c then s.pie1 else 0) sh
  contents_twin direct (General k) sh inputs s ram b = let is = byte_of direct k sh in b.same k is.below is.shared
  contents_twin direct (Device a) sh inputs s ram b = refl
  contents_twin direct Nothing sh inputs s ram b = absurd (cc)

  -- ---- what a row leaves
  -- the bytes of the member behind a write to a place of the first
  abbrev pub put : Place → ℕ → List ℕ → List ℕ
  put (General k) v ram = slice_set ram (m.byte k) v
  put _ v ram = ram

  abbrev pub put_if : Bool → Place → ℕ → List ℕ → List ℕ
  put_if true p v ram = put p v ram
  put_if false p v ram = ram

  read_twin : (p : Place) (t : State) (ram : List ℕ) → after_reading (twin_place m p) (twin t ram) ≡ twin (after_reading p t) ram
  read_twin Pcl t ram = refl
  read_twin Status t ram = refl
  read_twin Fsr t ram = refl
  read_twin Pclath t ram = refl
  read_twin Intcon t ram = refl
  read_twin Pir1 t ram = refl
  read_twin Pie1 t ram = refl
  read_twin (General k) t ram = refl
  read_twin (Device a) t ram = refl
  read_twin Nothing t ram = refl

  stored_twin : (direct : Bool) (p : Place) → has m direct p ≡ true → (plain : Bool) (v : ℕ) (t : State) (ram : List ℕ) → stored plain (twin_place m p) v (twin t ram) ≡ twin (stored plain p v t) (put p v ram)
  stored_twin direct Pcl sh plain v t ram = refl
  stored_twin direct Status sh true v t ram = refl
  stored_twin direct Status sh false v t ram = refl
  stored_twin direct Fsr sh plain v t ram = refl
  stored_twin direct Pclath sh plain v t ram = refl
  stored_twin direct Intcon sh plain v t ram = refl
  stored_twin direct Pir1 sh plain v t ram = ap (λ z. record (twin t ram) { pir1 = z }) (sym (ap (λ c. if c then v else 0) sh))
  stored_twin direct Pie1 sh plain v t ram = ap (λ z. record (twin t ram) { pie1 = z }) (sym (ap (λ c. if c then v else 0) sh))
  stored_twin direct (General k) sh plain v t ram = refl
  stored_twin direct (Device a) sh plain v t ram = refl
  stored_twin direct Nothing sh plain v t ram = refl

  flagged_twin : (fl : Flags) (v : ℕ) (t : State) (ram : List ℕ) → flagged fl v (twin t ram) ≡ twin (flagged fl v t) ram
  flagged_twin Keep v t ram = refl
  flagged_twin OnlyZ v t ram = refl
  flagged_twin (OnlyC c) v t ram = refl
  flagged_twin (Sums c dc) v t ram = refl

  pub finished_twin : (direct : Bool) (p : Place) → has m direct p ≡ true → (d : Bool) (v : ℕ) (fl : Flags) (t : State) (ram : List ℕ) → finished (twin_place m p) d v fl (twin t ram) ≡ twin (finished p d v fl t) (put_if d p v ram)
  finished_twin direct p sh true v fl t ram = ap (flagged fl v) (stored_twin direct p sh (keeps_flags fl) v t ram) ∙ flagged_twin fl v (stored (keeps_flags fl) p v t) (put p v ram)
  finished_twin direct p sh false v fl t ram = flagged_twin fl v (record t { w = v }) ram

  pub row_twin : (direct : Bool) (p : Place) → has m direct p ≡ true → (n : ℕ) (d : Bool) (v : ℕ) (fl : Flags) (s : State) (ram : List ℕ) → row_done n (twin_place m p) d v fl (twin s ram) ≡ twin (row_done n p d v fl s) (put_if d p v ram)
  row_twin direct p sh n d v fl s ram = ap (finished (twin_place m p) d v fl) (read_twin p (record s { pc = n }) ram) ∙ finished_twin direct p sh d v fl (after_reading p (record s { pc = n })) ram

  pub reading_twin : (p : Place) (n : ℕ) (s : State) (ram : List ℕ) → after_reading (twin_place m p) (record (twin s ram) { pc = n }) ≡ twin (after_reading p (record s { pc = n })) ram
  reading_twin p n s ram = read_twin p (record s { pc = n }) ram

  -- ---- PIE1 and the bytes of the first chip
  abbrev pub put_first : Place → ℕ → List ℕ → List ℕ
  put_first (General k) v ram = slice_set ram k v
  put_first _ v ram = ram

  flagged_keeps : (fl : Flags) (v : ℕ) (t : State) → ((flagged fl v t).ram ≡ t.ram) × ((flagged fl v t).pie1 ≡ t.pie1)
  flagged_keeps Keep v t = (refl, refl)
  flagged_keeps OnlyZ v t = (refl, refl)
  flagged_keeps (OnlyC c) v t = (refl, refl)
  flagged_keeps (Sums c dc) v t = (refl, refl)

  stored_keeps : (direct : Bool) (p : Place) → has m direct p ≡ true → (plain : Bool) (v : ℕ) (t : State) → ((stored plain p v t).ram ≡ put_first p v t.ram) × (m.peripherals ≡ false → (stored plain p v t).pie1 ≡ t.pie1)
  stored_keeps direct Pcl sh plain v t = (refl, λ off. refl)
  stored_keeps direct Status sh true v t = (refl, λ off. refl)
  stored_keeps direct Status sh false v t = (refl, λ off. refl)
  stored_keeps direct Fsr sh plain v t = (refl, λ off. refl)
  stored_keeps direct Pclath sh plain v t = (refl, λ off. refl)
  stored_keeps direct Intcon sh plain v t = (refl, λ off. refl)
  stored_keeps direct Pir1 sh plain v t = (refl, λ off. refl)
  stored_keeps direct Pie1 sh plain v t = (refl, λ off. absurd (on_off m.peripherals sh off))
  stored_keeps direct (General k) sh plain v t = (refl, λ off. refl)
  stored_keeps direct (Device a) sh plain v t = (refl, λ off. refl)
  stored_keeps direct Nothing sh plain v t = absurd (cc)

  put_same : (direct : Bool) (p : Place) → has m direct p ≡ true → (v : ℕ) (ram ram' : List ℕ) → ShareBytes m ram ram' → ShareBytes m (put_first p v ram) (put p v ram')
  put_same direct Pcl sh v ram ram' b = b
  put_same direct Status sh v ram ram' b = b
  put_same direct Fsr sh v ram ram' b = b
  put_same direct Pclath sh v ram ram' b = b
  put_same direct Intcon sh v ram ram' b = b
  put_same direct Pir1 sh v ram ram' b = b
  put_same direct Pie1 sh v ram ram' b = b
  put_same direct (General k) sh v ram ram' b = set_twin k (byte_of direct k sh) v ram ram' b
  put_same direct (Device a) sh v ram ram' b = b
  put_same direct Nothing sh v ram ram' b = b

  pub finished_keeps : (direct : Bool) (p : Place) → has m direct p ≡ true → (d : Bool) (v : ℕ) (fl : Flags) (t : State) (ram : List ℕ) → ShareBytes m t.ram ram → ShareBytes m (finished p d v fl t).ram (put_if d p v ram) × (m.peripherals ≡ false → (finished p d v fl t).pie1 ≡ t.pie1)
  finished_keeps direct p sh true v fl t ram b =
      let f = flagged_keeps fl v (stored (keeps_flags fl) p v t) in
      let s = stored_keeps direct p sh (keeps_flags fl) v t in
      (subst (λ r. ShareBytes m r (put p v ram)) (sym (f.0 ∙ s.0)) (put_same direct p sh v t.ram ram b), λ off. f.1 ∙ s.1 off)
  finished_keeps direct p sh false v fl t ram b =
      let f = flagged_keeps fl v (record t { w = v }) in
      (subst (λ r. ShareBytes m r ram) (sym f.0) b, λ off. f.1)

  pub reading_keeps : (p : Place) (t : State) → ((after_reading p t).ram ≡ t.ram) × ((after_reading p t).pie1 ≡ t.pie1)
  reading_keeps Pcl t = (refl, refl)
  reading_keeps Status t = (refl, refl)
  reading_keeps Fsr t = (refl, refl)
  reading_keeps Pclath t = (refl, refl)
  reading_keeps Intcon t = (refl, refl)
  reading_keeps Pir1 t = (refl, refl)
  reading_keeps Pie1 t = (refl, refl)
  reading_keeps (General k) t = (refl, refl)
  reading_keeps (Device a) t = (refl, refl)
  reading_keeps Nothing t = (refl, refl)

-- ---- accesses
abbrev pub made_at : (ℕ → ℕ) → Bool → Place → ℕ → List Made
made_at low write Pcl v = record { write = write; address = 2; byte = v } ∷ []
made_at low write Status v = record { write = write; address = 3; byte = v } ∷ []
made_at low write Fsr v = record { write = write; address = 4; byte = v } ∷ []
made_at low write Pclath v = record { write = write; address = 10; byte = v } ∷ []
made_at low write Intcon v = record { write = write; address = 11; byte = v } ∷ []
made_at low write Pir1 v = record { write = write; address = 12; byte = v } ∷ []
made_at low write Pie1 v = record { write = write; address = 0x8c; byte = v } ∷ []
made_at low write (General k) v = record { write = write; address = low k; byte = v } ∷ []
made_at low write (Device a) v = record { write = write; address = a; byte = v } ∷ []
made_at low write Nothing v = []

abbrev pub made_if : (ℕ → ℕ) → Bool → Place → ℕ → List Made
made_if low true p v = made_at low true p v
made_if low false p v = []

pub made_is : (low : ℕ → ℕ) (write : Bool) (p : Place) (x : Derived) (s : State) → made (note_by low write p x) s ≡ made_at low write p (value_in s x)
made_is low write Pcl x s = refl
made_is low write Status x s = refl
made_is low write Fsr x s = refl
made_is low write Pclath x s = refl
made_is low write Intcon x s = refl
made_is low write Pir1 x s = refl
made_is low write Pie1 x s = refl
made_is low write (General k) x s = refl
made_is low write (Device a) x s = refl
made_is low write Nothing x s = refl

pub both_made : (low : ℕ → ℕ) (d : Bool) (p : Place) (x y : Derived) (s : State) → made (note_by low false p x ++ write_note_by low d p y) s ≡ made_at low false p (value_in s x) ++ made_if low d p (value_in s y)
both_made low true Pcl x y s = refl
both_made low true Status x y s = refl
both_made low true Fsr x y s = refl
both_made low true Pclath x y s = refl
both_made low true Intcon x y s = refl
both_made low true Pir1 x y s = refl
both_made low true Pie1 x y s = refl
both_made low true (General k) x y s = refl
both_made low true (Device a) x y s = refl
both_made low true Nothing x y s = refl
both_made low false Pcl x y s = refl
both_made low false Status x y s = refl
both_made low false Fsr x y s = refl
both_made low false Pclath x y s = refl
both_made low false Intcon x y s = refl
both_made low false Pir1 x y s = refl
both_made low false Pie1 x y s = refl
both_made low false (General k) x y s = refl
both_made low false (Device a) x y s = refl
both_made low false Nothing x y s = refl
