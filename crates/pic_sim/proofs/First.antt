-- The PIC16F877A is such a chip: where its operands lead, and what it does at a boundary.
use Rattle.std.proofs.Common.{◌≡◌, ℕ, ◌+◌, ◌-◌, ◌*◌, ◌/◌, ◌%◌, ◌<◌, ◌≤◌, Bool, true, false, not, List, [], ◌∷◌, ◌++◌, refl, sym, ap, ◌∙◌, append_assoc, arith, slice_index, Option, Some, None, nat_eq, nat_lt}
use Rattle.std.specs.Prelude.{if◌then◌else◌, ◌&&◌, ◌||◌, is_some, nat_le, bit_or}
use Rattle.std.proofs.lemmas.Bool.{agree_below_at, eqb-true, eq-eqb, ltb-true, lt-ltb, ltb-false}
use Rattle.pic_isa.specs.Lookup.{row_of}
use Rattle.pic_world.specs.Control.{is_stored, is_due}
use Rattle.pic_world.specs.Registers.{Register, registers, register_at, is_among, is_register, lowest, or_itself}
use Rattle.pic_world.specs.declared.Event.{Event}
use Rattle.pic_chip.specs.Act.{Ask, Effect, Made, effect, perform}
use Rattle.pic_chip.specs.Address.{Place, Pcl, Status, Fsr, Pclath, Intcon, Pir1, Pie1, General, Device, Nothing, place, indirect, in_every_bank, address_of}
use Rattle.pic_chip.specs.Instructions.{of, part, to, plain_row}
use Rattle.pic_chip.specs.Interrupts.{control_of, enter, raised, begun}
use Rattle.pic_chip.specs.Run.{Range, cell_at, event_at, events_of}
use Rattle.pic_chip.specs.State.{State, AtBank, AtFsr, AtIntcon, AtPir1}
use Rattle.pic_sim.specs.Board.{is_outside}
use Rattle.pic_sim.specs.Kind as kinds
use Rattle.pic_sim.specs.Laws.{IsChip}
use Rattle.pic_sim.proofs.Accesses.{IsFit, LeadsToFit, act_plain, no_accesses, row_fits}

-- ---- addresses
-- what holds of each row's own address and of each other address of its register
abbrev mirrors_hold : (ℕ → ℕ → Bool) → ℕ → List ℕ → Bool
mirrors_hold g first [] = true
mirrors_hold g first (x ∷ xs) = g first x && mirrors_hold g first xs

abbrev rows_hold : (ℕ → ℕ → Bool) → List Register → Bool
rows_hold g [] = true
rows_hold g (r ∷ rs) = g r.1 r.1 && mirrors_hold g r.1 r.2 && rows_hold g rs

both : (a b : Bool) → (a && b) ≡ true → (a ≡ true) × (b ≡ true)
both true b h = (refl, h)
both false b h = absurd (cc)

mirror_holds : (g : ℕ → ℕ → Bool) (first : ℕ) (xs : List ℕ) → mirrors_hold g first xs ≡ true → (address : ℕ) → is_among xs address ≡ true → g first address ≡ true
mirror_holds g first [] h address e = absurd (cc)
mirror_holds g first (x ∷ xs) h address e = by_test (nat_eq x address) refl e (mirror_holds g first xs (both (g first x) (mirrors_hold g first xs) h).1 address)
  where
    by_test : (b : Bool) → nat_eq x address ≡ b → (b || is_among xs address) ≡ true → (is_among xs address ≡ true → g first address ≡ true) → g first address ≡ true
    by_test true is e later = ap (λ n. g first n) (sym (eqb-true x address is)) ∙ (both (g first x) (mirrors_hold g first xs) h).0
    by_test false is e later = later e

row_holds : (g : ℕ → ℕ → Bool) (rs : List Register) → rows_hold g rs ≡ true → (address first : ℕ) → register_at rs address ≡ Some first → g first address ≡ true
row_holds g [] h address first e = absurd (cc)
row_holds g (r ∷ rs) h address first e =
    by_test (nat_eq r.1 address) (is_among r.2 address) refl refl e
    (row_holds g rs (both (g r.1 r.1 && mirrors_hold g r.1 r.2) (rows_hold g rs) h).1 address first)
  where
    own : (g r.1 r.1 ≡ true) × (mirrors_hold g r.1 r.2 ≡ true)
    own = both (g r.1 r.1) (mirrors_hold g r.1 r.2) (both (g r.1 r.1 && mirrors_hold g r.1 r.2) (rows_hold g rs) h).0

    some_inj : (x y : ℕ) → Some x ≡ Some y → x ≡ y
    some_inj x y e = cc

    by_test : (b t : Bool) → nat_eq r.1 address ≡ b → is_among r.2 address ≡ t → (if b || t then Some r.1 else register_at rs address) ≡ Some first
        → (register_at rs address ≡ Some first → g first address ≡ true) → g first address ≡ true
    by_test true t is in_it e later = ap (λ n. g n address) (sym (some_inj r.1 first e)) ∙ ap (λ n. g r.1 n) (sym (eqb-true r.1 address is)) ∙ own.0
    by_test false true is in_it e later = ap (λ n. g n address) (sym (some_inj r.1 first e)) ∙ mirror_holds g r.1 r.2 own.1 address in_it
    by_test false false is in_it e later = later e

-- where INTCON, PIR1 and PIE1 are found
abbrev is_kept : ℕ → Bool
is_kept address = nat_eq (address % 128) 0x0b || nat_eq address 0x0c || nat_eq address 0x8c

-- a register's lowest address is its own lowest, and these are found there alone
abbrev names_itself : ℕ → ℕ → Bool
names_itself first address = nat_eq (lowest first) first && is_register first && (not (is_stored first) || is_kept address)

itself : (address first : ℕ) → is_kept address ≡ false → register_at registers address ≡ Some first → (is_outside first ≡ true) × (nat_eq (lowest first) first ≡ true)
itself address first other e =
    let all = row_holds names_itself registers refl address first e in
    let parts = both (nat_eq (lowest first) first && is_register first) (not (is_stored first) || is_kept address) all in
    let own = both (nat_eq (lowest first) first) (is_register first) parts.0 in
    (outside (is_register first) (is_stored first) (is_kept address) own.1 other parts.1, own.0)
  where
    outside : (r i t : Bool) → r ≡ true → t ≡ false → (not i || t) ≡ true → (r && not i) ≡ true
    outside true false t hr ht h = refl
    outside true true false hr ht h = absurd (cc)
    outside true true true hr ht h = absurd (cc)
    outside false i t hr ht h = absurd (cc)

-- an address that is no register's is its own lowest one
plain_lowest : (address : ℕ) → is_register address ≡ false → lowest address ≡ address
plain_lowest address h = by_case (register_at registers address) h
  where
    by_case : (o : Option ℕ) → is_some o ≡ false → or_itself address o ≡ address
    by_case None h = refl
    by_case (Some a) h = absurd (cc)

too_high : (address : ℕ) → 0x190 ≤ address → (b : Bool) → nat_lt address 0x190 ≡ b → b ≡ true → ⊥
too_high address high true e h = let l : address < 0x190 = ltb-true address 0x190 e in omega (arith, l, high)
too_high address high false e h = absurd (cc)

-- no register has so high an address
high_plain : (address : ℕ) → 0x190 ≤ address → is_register address ≡ false
high_plain address high = by_case (register_at registers address) refl
  where
    by_case : (o : Option ℕ) → register_at registers address ≡ o → is_some o ≡ false
    by_case None e = refl
    by_case (Some first) e = absurd (too_high address high (nat_lt address 0x190) refl (row_holds (λ first a. nat_lt a 0x190) registers refl address first e))

beyond : (k : ℕ) → 368 ≤ k → 0x190 ≤ address_of k
beyond k h = by_tests (nat_lt k 96) refl (nat_lt k 176) refl (nat_lt k 272) refl
  where
    by_tests : (a : Bool) → nat_lt k 96 ≡ a → (b : Bool) → nat_lt k 176 ≡ b → (c : Bool) → nat_lt k 272 ≡ c → 0x190 ≤ (if a then k + 0x20 else if b then k + 0x40 else if c then k + 0x60 else k + 0x80)
    by_tests true ea b eb c ec = omega arith
    by_tests false ea true eb c ec = omega arith
    by_tests false ea false eb true ec = omega arith
    by_tests false ea false eb false ec = omega arith

general_plain : (k : ℕ) → is_register (address_of k) ≡ false
general_plain k = by_test (nat_lt k 368) refl
  where
    by_test : (b : Bool) → nat_lt k 368 ≡ b → is_register (address_of k) ≡ false
    by_test true e = agree_below_at (λ k. is_register (address_of k)) (λ k. false) 368 k refl (ltb-true k 368 e)
    by_test false e = high_plain (address_of k) (beyond k (ltb-false k 368 e))

-- ---- places
general_fit : (k : ℕ) → IsFit kinds.first (General k)
general_fit k =
    let plain = general_plain k in
    (ap (λ b. b && not (is_stored (address_of k))) plain, eq-eqb (lowest (address_of k)) (address_of k) (plain_lowest (address_of k) plain))

device_fit : (bank low : ℕ) → low < 128 → nat_eq low 11 ≡ false → (nat_eq low 12 && nat_lt bank 2) ≡ false → IsFit kinds.first (if is_register (0x80 * bank + low) then Device (lowest (0x80 * bank + low)) else Nothing)
device_fit bank low h other peripheral = by_case (register_at registers (0x80 * bank + low)) refl
  where
    low_part : (0x80 * bank + low) % 128 ≡ low
    low_part = omega arith

    apart : (a b : ℕ) → (a ≡ b → ⊥) → nat_eq a b ≡ false
    apart a b other = by_equal (nat_eq a b) refl
      where
        by_equal : (q : Bool) → nat_eq a b ≡ q → q ≡ false
        by_equal true e = absurd (other (eqb-true a b e))
        by_equal false e = refl

    no_peripheral : low ≡ 12 → bank < 2 → ⊥
    no_peripheral e l = both_true (nat_eq low 12) (nat_lt bank 2) (eq-eqb low 12 e) (lt-ltb bank 2 l) peripheral
      where
        both_true : (a b : Bool) → a ≡ true → b ≡ true → (a && b) ≡ false → ⊥
        both_true true true ha hb h = cc
        both_true true false ha hb h = cc
        both_true false b ha hb h = cc

    none_kept : (a b c : Bool) → a ≡ false → b ≡ false → c ≡ false → (a || b || c) ≡ false
    none_kept false false false ha hb hc = refl
    none_kept true b c ha hb hc = absurd (cc)
    none_kept a true c ha hb hc = absurd (cc)
    none_kept a b true ha hb hc = absurd (cc)

    not_kept : is_kept (0x80 * bank + low) ≡ false
    not_kept =
        none_kept (nat_eq ((0x80 * bank + low) % 128) 0x0b) (nat_eq (0x80 * bank + low) 0x0c) (nat_eq (0x80 * bank + low) 0x8c)
        (ap (λ n. nat_eq n 0x0b) low_part ∙ other)
        (apart (0x80 * bank + low) 0x0c (λ e. no_peripheral (omega (arith, e, h)) (omega (arith, e, h))))
        (apart (0x80 * bank + low) 0x8c (λ e. no_peripheral (omega (arith, e, h)) (omega (arith, e, h))))

    by_case : (o : Option ℕ) → register_at registers (0x80 * bank + low) ≡ o → IsFit kinds.first (if is_some o then Device (or_itself (0x80 * bank + low) o) else Nothing)
    by_case None e = tt
    by_case (Some first) e = itself (0x80 * bank + low) first not_kept e

place_fit : (bank low : ℕ) → low < 128 → IsFit kinds.first (place bank low)
place_fit bank low h = by_tests (nat_eq low 2) (nat_eq low 3) (nat_eq low 4) (nat_eq low 10) (nat_eq low 11) refl (nat_eq low 12 && nat_lt bank 2) refl (nat_eq bank 0) (nat_le 0x70 low) (nat_le (if nat_lt bank 2 then 0x20 else 0x10) low)
  where
    by_tests : (a b c d e : Bool) → nat_eq low 11 ≡ e → (p : Bool) → (nat_eq low 12 && nat_lt bank 2) ≡ p → (q f g : Bool) → IsFit kinds.first (
        if a then Pcl else if b then Status else if c then Fsr else if d then Pclath else if e then Intcon else if p then (if q then Pir1 else Pie1) else
        if f then General (low - 0x20) else if g then General (0x60 * bank + low - 0x20) else
        if is_register (0x80 * bank + low) then Device (lowest (0x80 * bank + low)) else Nothing)
    by_tests true b c d e is p at q f g = (refl, refl)
    by_tests false true c d e is p at q f g = (refl, refl)
    by_tests false false true d e is p at q f g = (refl, refl)
    by_tests false false false true e is p at q f g = (refl, refl)
    by_tests false false false false true is p at q f g = (refl, refl)
    by_tests false false false false false is true at true f g = (refl, refl)
    by_tests false false false false false is true at false f g = (refl, refl)
    by_tests false false false false false is false at q true g = general_fit (low - 0x20)
    by_tests false false false false false is false at q false true = general_fit (0x60 * bank + low - 0x20)
    by_tests false false false false false is false at q false false = device_fit bank low h is at

indirect_fit : (address : ℕ) → IsFit kinds.first (indirect address)
indirect_fit address = by_test (nat_eq (address % 128) 0)
  where
    by_test : (b : Bool) → IsFit kinds.first (if b then Nothing else place (address / 128) (address % 128))
    by_test true = tt
    by_test false = place_fit (address / 128) (address % 128) (omega arith)

leads : LeadsToFit kinds.first
leads s f hf next P h = by_tests (in_every_bank f) (nat_eq f 0)
  where
    by_tests : (b c : Bool) → P (effect (if b then next (place 0 f) else if c then Ask AtBank (λ bank. Ask AtFsr (λ fsr. next (indirect (256 * (bank / 4) + fsr)))) else Ask AtBank (λ bank. next (place (bank % 4) f))) s)
    by_tests true c = h (place 0 f) (place_fit 0 f hf)
    by_tests false true = h (indirect (256 * (s.bank / 4) + s.fsr)) (indirect_fit (256 * (s.bank / 4) + s.fsr))
    by_tests false false = h (place (s.bank % 4) f) (place_fit (s.bank % 4) f hf)

-- ---- boundaries
begun_count : (mask : ℕ) (s : State) → (begun mask s).taken ≡ s.taken
begun_count mask s = by_test (is_due (control_of (raised mask s)))
  where
    by_test : (b : Bool) → (if b then perform enter (raised mask s) else raised mask s).taken ≡ s.taken
    by_test true = refl
    by_test false = refl

-- what begins with these flags of INTCON and of PIR1
begun_with : ℕ → ℕ → State → State
begun_with low high s =
    let r = perform (plain_row (to AtIntcon (of (λ x. bit_or x low) (part AtIntcon)) ∷ to AtPir1 (of (λ x. bit_or x high) (part AtPir1)) ∷ [])) s in
    if is_due (control_of r) then perform enter r else r

-- of a mask, bits 0 to 10 alone count
begun_same : (mask other : ℕ) (s : State) → mask % 2048 ≡ other % 2048 → begun mask s ≡ begun other s
unfolding begun_with
begun_same mask other s e =
    let low : mask % 8 ≡ other % 8 = omega (arith, e) in
    let high : mask / 8 % 256 ≡ other / 8 % 256 = omega (arith, e) in
    ap (λ (k : ℕ). begun_with k (mask / 8 % 256) s) low ∙ ap (λ (k : ℕ). begun_with (other % 8) k s) high

-- ---- events
events-append : (ranges : List Range) (xs ys : List Made) → events_of ranges (xs ++ ys) ≡ events_of ranges xs ++ events_of ranges ys
events-append ranges [] ys = refl
events-append ranges (x ∷ xs) ys =
    ap (λ (z : List Event). event_at x.write x.byte (cell_at ranges x.address) ++ z) (events-append ranges xs ys)
    ∙ sym (append_assoc (event_at x.write x.byte (cell_at ranges x.address)) (events_of ranges xs) (events_of ranges ys))

pub is_chip : IsChip kinds.first
is_chip = record {
  plain = λ inputs s image. act_plain kinds.first leads inputs s (row_of (slice_index image s.pc)) (row_fits (slice_index image s.pc));
  quiet = λ inputs s image. no_accesses kinds.first leads inputs s (row_of (slice_index image s.pc));
  taken = begun_count;
  same = begun_same;
  none = λ ranges. refl;
  joined = events-append;
  outside = λ address h. h;
}
