-- The second chip runs over a board as each chip does: where its operands lead, what it does at a boundary, and which registers its accesses name.
use Rattle.std.proofs.Common.{◌≡◌, ℕ, ◌+◌, ◌-◌, ◌*◌, ◌/◌, ◌%◌, ◌<◌, ◌≤◌, Bool, true, false, not, List, [], ◌∷◌, ◌++◌, refl, sym, ap, ◌∙◌, subst, append_assoc, arith, slice_index, nat_eq}
use Rattle.std.specs.Prelude.{if◌then◌else◌, ◌&&◌, ◌||◌, nat_le, bit_or}
use Rattle.std.proofs.lemmas.Bool.{agree_below, agree_below_at, eqb-true, leb-true}
use Rattle.pic_isa.specs.Lookup.{row_of}
use Rattle.pic_world.specs.Registers as all_registers
use Rattle.pic_world.specs.declared.Event.{Event}
use Rattle.pic_chip.specs.Act.{Made, perform}
use Rattle.pic_chip.specs.Address.{Pcl, Status, Fsr, Pclath, Intcon, General, Device, Nothing}
use Rattle.pic_chip.specs.Instructions.{of, part, to, plain_row}
use Rattle.pic_chip.specs.Interrupts.{enter}
use Rattle.pic_chip.specs.Run.{Range, event_at}
use Rattle.pic_chip.specs.SmallAddress.{small, small_place, is_small_register}
use Rattle.pic_chip.specs.State.{State, AtIntcon}
use Rattle.pic_sim.proofs.Accesses.{IsFit, LeadsToFit, act_plain, no_accesses, row_fits}
use Rattle.pic_sim.specs.Board.{is_outside}
use Rattle.pic_sim.specs.Kind.{is_outside_by}
use Rattle.pic_sim.specs.Laws.{IsChip}
use Rattle.chip_84a.specs.Machine.{begun, is_due, raised}
use Rattle.chip_84a.specs.Run.{cell_at, events_of}
use Rattle.chip_84a.specs.Simulated.{second}
use Rattle.chip_84a.proofs.Places.{and_left, and_right, leads_small, not_false, not_true, or_right, second_place}
use Rattle.chip_84a.proofs.Shown.{small_address}

-- ---- a check of each address
-- each byte's address tells of it, and no board is asked there
abbrev byte_test : ℕ → Bool
byte_test k = not (is_outside_by small (k + 0x0c)) && second.is_told (k + 0x0c)

-- a register that isn't INTCON's tells of itself, and a board may be asked there
abbrev register_test : ℕ → Bool
register_test n = not (is_small_register n) || (nat_eq (n % 128) 11 || (is_outside_by small n && second.is_told n))

abbrev board_test : ℕ → Bool
board_test n = not (is_outside_by small n) || is_outside n

bytes_all : agree_below byte_test (λ n. true) 68 ≡ true
bytes_all = refl

registers_all : agree_below register_test (λ n. true) 256 ≡ true
registers_all = refl

-- each register but INTCON's second address is its own lowest one on the first chip
abbrev lowest_test : ℕ → Bool
lowest_test n = not (second.is_told n && is_small_register n) || (nat_eq (all_registers.lowest n) n && all_registers.is_register n)

lowest_all : agree_below lowest_test (λ n. true) 256 ≡ true
lowest_all = refl

boards_all : agree_below board_test (λ n. true) 256 ≡ true
boards_all = refl

-- ---- places
byte_fit : (k : ℕ) → k < 68 → IsFit second (General k)
byte_fit k h =
    let at : byte_test k ≡ true = agree_below_at byte_test (λ n. true) 68 k bytes_all h in
    (not_false _ (and_left (not (is_outside_by small (k + 0x0c))) (second.is_told (k + 0x0c)) at), and_right (not (is_outside_by small (k + 0x0c))) (second.is_told (k + 0x0c)) at)

device_fit : (a : ℕ) → nat_eq (a % 128) 11 ≡ false → is_small_register a ≡ true → IsFit second (Device a)
device_fit a other h =
    let at : register_test a ≡ true = agree_below_at register_test (λ n. true) 256 a registers_all (small_address a h) in
    let both = or_right _ _ (or_right _ _ at (not_true _ h)) other in
    (and_left (is_outside_by small a) (second.is_told a) both, and_right (is_outside_by small a) (second.is_told a) both)

place_fit : (bank low : ℕ) → low < 128 → IsFit second (small_place bank low)
place_fit bank low h =
    by_tests (nat_eq low 2) (nat_eq low 3) (nat_eq low 4) (nat_eq low 10) (nat_eq low 11) refl (nat_le 0x0c low && nat_le low 0x4f) refl (is_small_register (0x80 * bank + low)) refl
  where
    low_part : (0x80 * bank + low) % 128 ≡ low
    low_part = omega arith

    below : (nat_le 0x0c low && nat_le low 0x4f) ≡ true → low - 0x0c < 68
    below e =
        let l : low ≤ 0x4f = leb-true low 0x4f (and_right (nat_le 0x0c low) (nat_le low 0x4f) e) in
        let g : 0x0c ≤ low = leb-true 0x0c low (and_left (nat_le 0x0c low) (nat_le low 0x4f) e) in
        omega (arith, l, g)

    by_tests : (a b c d e : Bool) → nat_eq low 11 ≡ e → (f : Bool) → (nat_le 0x0c low && nat_le low 0x4f) ≡ f → (g : Bool) → is_small_register (0x80 * bank + low) ≡ g
        → IsFit second (
        if a then Pcl else if b then Status else if c then Fsr else if d then Pclath else if e then Intcon else if f then General (low - 0x0c) else
        if g then Device (0x80 * bank + low) else Nothing)
    by_tests true b c d e is f at g there = (refl, refl)
    by_tests false true c d e is f at g there = (refl, refl)
    by_tests false false true d e is f at g there = (refl, refl)
    by_tests false false false true e is f at g there = (refl, refl)
    by_tests false false false false true is f at g there = (refl, refl)
    by_tests false false false false false is true at g there = byte_fit (low - 0x0c) (below at)
    by_tests false false false false false is false at true there = device_fit (0x80 * bank + low) (ap (λ n. nat_eq n 11) low_part ∙ is) there
    by_tests false false false false false is false at false there = tt

operand_fit : (bank fsr f : ℕ) → f < 128 → IsFit second (second_place bank fsr f)
operand_fit bank fsr f h = by_tests (nat_eq f 0) (nat_eq (fsr % 128) 0)
  where
    by_tests : (a b : Bool) → IsFit second (if a then (if b then Nothing else small_place (fsr / 128) (fsr % 128)) else small_place (bank % 2) f)
    by_tests true true = tt
    by_tests true false = place_fit (fsr / 128) (fsr % 128) (omega arith)
    by_tests false b = place_fit (bank % 2) f h

leads : LeadsToFit second
leads s f hf next P h = subst P (sym (leads_small s f next)) (h (second_place s.bank s.fsr f) (operand_fit s.bank s.fsr f hf))

-- ---- boundaries
begun_count : (mask : ℕ) (s : State) → (begun mask s).taken ≡ s.taken
begun_count mask s = by_test (is_due (raised mask s).intcon)
  where
    by_test : (b : Bool) → (if b then perform enter (raised mask s) else raised mask s).taken ≡ s.taken
    by_test true = refl
    by_test false = refl

-- what begins with these flags of INTCON
begun_with : ℕ → State → State
begun_with flags s =
    let r = perform (plain_row (to AtIntcon (of (λ x. bit_or x flags) (part AtIntcon)) ∷ [])) s in
    if is_due r.intcon then perform enter r else r

begun_same : (mask other : ℕ) (s : State) → mask % 8 ≡ other % 8 → begun mask s ≡ begun other s
unfolding begun_with
begun_same mask other s e = ap (λ (k : ℕ). begun_with k s) e

-- ---- events
events-append : (ranges : List Range) (xs ys : List Made) → events_of ranges (xs ++ ys) ≡ events_of ranges xs ++ events_of ranges ys
events-append ranges [] ys = refl
events-append ranges (x ∷ xs) ys =
    ap (λ (z : List Event). event_at x.write x.byte (cell_at ranges x.address) ++ z) (events-append ranges xs ys)
    ∙ sym (append_assoc (event_at x.write x.byte (cell_at ranges x.address)) (events_of ranges xs) (events_of ranges ys))

asked_outside : (address : ℕ) → is_outside_by small address ≡ true → is_outside address ≡ true
asked_outside address h =
    or_right _ _ (agree_below_at board_test (λ n. true) 256 address boards_all (small_address address (and_left (is_small_register address) _ h))) (not_true _ h)

-- a register by whose address an access is told is one of the first chip too, whose lowest address this is
pub told_register : (a : ℕ) → second.is_told a ≡ true → is_small_register a ≡ true → (all_registers.lowest a ≡ a) × (all_registers.is_register a ≡ true)
told_register a told is =
    let both = or_right _ _ (agree_below_at lowest_test (λ n. true) 256 a lowest_all (small_address a is)) (not_true _ (and_both _ _ told is)) in
    (eqb-true (all_registers.lowest a) a (and_left (nat_eq (all_registers.lowest a) a) (all_registers.is_register a) both), and_right (nat_eq (all_registers.lowest a) a) (all_registers.is_register a) both)
  where
    and_both : (a b : Bool) → a ≡ true → b ≡ true → (a && b) ≡ true
    and_both true b e f = f
    and_both false b e f = absurd (cc)

pub is_chip : IsChip second
is_chip = record {
  plain = λ inputs s image. act_plain second leads inputs s (row_of (slice_index image (s.pc % 1024))) (row_fits (slice_index image (s.pc % 1024)));
  quiet = λ inputs s image. no_accesses second leads inputs s (row_of (slice_index image (s.pc % 1024)));
  taken = begun_count;
  same = begun_same;
  none = λ ranges. refl;
  joined = events-append;
  outside = asked_outside;
}
