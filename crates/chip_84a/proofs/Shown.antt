-- What accesses show on both chips.
use Rattle.std.proofs.Common.{◌≡◌, ℕ, ◌<◌, Bool, true, false, List, [], ◌∷◌, ◌++◌, Some, None, refl, sym, ap, ◌∙◌, subst, arith}
use Rattle.std.specs.Prelude.{if◌then◌else◌, nat_eq, nat_lt, nat_le, not, ◌&&◌, ◌||◌, is_some}
use Rattle.std.proofs.lemmas.Bool.{agree_below_at, eqb-true, ltb-true}
use Rattle.pic_world.specs.Registers as all_registers
use Rattle.pic_world.specs.declared.Cell.TheVariants as cells
use Rattle.pic_chip.specs.Act.{Made}
use Rattle.pic_chip.specs.Address.{Place, Pcl, Status, Fsr, Pclath, Intcon, Pir1, Pie1, General, Device, Nothing, address_of}
use Rattle.pic_chip.specs.Run as chip
use Rattle.pic_chip.specs.Run.{Range, object_at, event_at}
use Rattle.pic_chip.specs.SmallAddress.{is_small_register}
use Rattle.chip_84a.specs.Family.{Member, Fits, byte_test, cell_by, events_by, has, register_test, registers_by, shared_byte, twin_place}
use Rattle.chip_84a.proofs.Places.{and_left, and_right, not_true, or_right}
use Rattle.chip_84a.proofs.Twins.{IsByte, byte_of, made_at, made_if}

-- ---- registers of the second chip
-- an address of the second chip's table is below 256
pub small_address : (a : ℕ) → is_small_register a ≡ true → a < 256
small_address a h = by (nat_eq 0x01 a) (nat_eq 0x05 a) (nat_eq 0x06 a) (nat_eq 0x0b a) (nat_eq 0x8b a) (nat_eq 0x81 a) (nat_eq 0x85 a) (nat_eq 0x86 a) refl refl refl refl refl refl refl refl h where
  near : (n : ℕ) → n < 256 → nat_eq n a ≡ true → a < 256
  near n lt e = let q = eqb-true n a e in omega (arith, lt, q)

  by : (b1 b2 b3 b4 b5 b6 b7 b8 : Bool) → nat_eq 0x01 a ≡ b1 → nat_eq 0x05 a ≡ b2 → nat_eq 0x06 a ≡ b3 → nat_eq 0x0b a ≡ b4 → nat_eq 0x8b a ≡ b5 → nat_eq 0x81 a ≡ b6 → nat_eq 0x85 a ≡ b7 → nat_eq 0x86 a ≡ b8
      → is_some {T = ℕ} (if b1 || false then Some 0x01 else if b2 || false then Some 0x05 else if b3 || false then Some 0x06 else if b4 || (b5 || false) then Some 0x0b else if b6 || false then Some 0x81 else if b7 || false then Some 0x85 else if b8 || false then Some 0x86 else None) ≡ true → a < 256
  by true b2 b3 b4 b5 b6 b7 b8 e1 e2 e3 e4 e5 e6 e7 e8 h' = near 0x01 (omega arith) e1
  by false true b3 b4 b5 b6 b7 b8 e1 e2 e3 e4 e5 e6 e7 e8 h' = near 0x05 (omega arith) e2
  by false false true b4 b5 b6 b7 b8 e1 e2 e3 e4 e5 e6 e7 e8 h' = near 0x06 (omega arith) e3
  by false false false true b5 b6 b7 b8 e1 e2 e3 e4 e5 e6 e7 e8 h' = near 0x0b (omega arith) e4
  by false false false false true b6 b7 b8 e1 e2 e3 e4 e5 e6 e7 e8 h' = near 0x8b (omega arith) e5
  by false false false false false true b7 b8 e1 e2 e3 e4 e5 e6 e7 e8 h' = near 0x81 (omega arith) e6
  by false false false false false false true b8 e1 e2 e3 e4 e5 e6 e7 e8 h' = near 0x85 (omega arith) e7
  by false false false false false false false true e1 e2 e3 e4 e5 e6 e7 e8 h' = near 0x86 (omega arith) e8
  by false false false false false false false false e1 e2 e3 e4 e5 e6 e7 e8 h' = absurd (cc)

-- ---- what a byte and a register show
not_both : (a b : Bool) → (not a && not b) ≡ true → (a ≡ false) × (b ≡ false)
not_both false false h = (refl, refl)
not_both true b h = absurd (cc)
not_both false true h = absurd (cc)

module _ (m : Member) (fits : Fits m) where
  register_too : (a : ℕ) → has m true (Device a) ≡ true → (m.is_register a ≡ true) × (all_registers.is_register a ≡ true)
  register_too a h =
      let there = and_right (nat_lt a 512) _ h in
      let at : register_test m a ≡ true = agree_below_at (register_test m) (λ n. true) 512 a fits.registers (ltb-true a 512 (and_left _ _ h)) in
      (there, or_right _ _ at (not_true _ there))

  -- what is shown of a byte
  abbrev Cells : List Range → ℕ → ℕ → Type 0
  Cells ranges here there = (cell_by m ranges here ≡ chip.cell_at ranges there) × (m.is_register here ≡ false) × (all_registers.is_register there ≡ false)

  -- no object stands at a byte whose accesses aren't shown
  abbrev pub IsClear : List Range → Type 0
  IsClear ranges = (k : ℕ) → k < 368 → shared_byte m k ≡ true → m.hides (m.lowest (m.byte k)) ≡ true → object_at ranges 0 (address_of k) ≡ None

  byte_cells : (ranges : List Range) → IsClear ranges → (k : ℕ) → IsByte m k → Cells ranges (m.lowest (m.byte k)) (address_of k)
  byte_cells ranges clear k is =
      let at : byte_test m k ≡ true = agree_below_at (byte_test m) (λ n. true) 368 k fits.bytes is.below in
      let both = or_right _ _ at (not_true _ is.shared) in
      let rest = and_right (nat_eq (m.back (m.byte k)) k && nat_lt (m.byte k) 368) _ both in
      let none = not_both _ _ (and_left (not (m.is_register (m.lowest (m.byte k))) && not (all_registers.is_register (address_of k))) _ rest) in
      let same = and_right (not (m.is_register (m.lowest (m.byte k))) && not (all_registers.is_register (address_of k))) _ rest in (
        ap (λ z. if z then Some (cells.Device (m.lowest (m.byte k))) else if m.hides (m.lowest (m.byte k)) then None else object_at ranges 0 (m.lowest (m.byte k))) none.0
            ∙ by (m.hides (m.lowest (m.byte k))) refl same
            ∙ sym (ap (λ z. if z then Some (cells.Device (address_of k)) else object_at ranges 0 (address_of k)) none.1),
        none.0,
        none.1,
      ) where
        by : (b : Bool) → m.hides (m.lowest (m.byte k)) ≡ b → (b || nat_eq (m.lowest (m.byte k)) (address_of k)) ≡ true → (if b then None else object_at ranges 0 (m.lowest (m.byte k))) ≡ object_at ranges 0 (address_of k)
        by true e h = sym (clear k is.below is.shared e)
        by false e h = ap (object_at ranges 0) (eqb-true (m.lowest (m.byte k)) (address_of k) h)

  -- ---- one access
  abbrev pub Shows : List Range → List Made → List Made → Type 0
  Shows ranges small big = (events_by m ranges small ≡ chip.events_of ranges big) × (registers_by m small ≡ chip.registers_of big)

  -- an access to a core register
  core_one : (ranges : List Range) (a : ℕ) → (not (m.is_register a) && not (m.hides a)) ≡ true → all_registers.is_register a ≡ false → (write : Bool) (v : ℕ) (rest rest' : List Made) → Shows ranges rest' rest
      → Shows ranges ((record { write = write; address = a; byte = v }) ∷ rest') ((record { write = write; address = a; byte = v }) ∷ rest)
  core_one ranges a plain none write v rest rest' h =
      let n = not_both _ _ plain in (
        ap (λ z. event_at write v (if z then Some (cells.Device a) else if m.hides a then None else object_at ranges 0 a) ++ events_by m ranges rest') n.0
            ∙ ap (λ z. event_at write v (if z then None else object_at ranges 0 a) ++ events_by m ranges rest') n.1
            ∙ ap (λ es. event_at write v (object_at ranges 0 a) ++ es) h.0
            ∙ sym (ap (λ z. event_at write v (if z then Some (cells.Device a) else object_at ranges 0 a) ++ chip.events_of ranges rest) none),
        ap (λ z. if z then (record { write = write; address = a; byte = v }) ∷ registers_by m rest' else registers_by m rest') n.0 ∙ h.1
            ∙ sym (ap (λ z. if z then (record { write = write; address = a; byte = v }) ∷ chip.registers_of rest else chip.registers_of rest) none),
      )

  -- and one to a device register
  device_one : (ranges : List Range) (a : ℕ) → m.is_register a ≡ true → all_registers.is_register a ≡ true → (write : Bool) (v : ℕ) (rest rest' : List Made) → Shows ranges rest' rest
      → Shows ranges ((record { write = write; address = a; byte = v }) ∷ rest') ((record { write = write; address = a; byte = v }) ∷ rest)
  device_one ranges a here there write v rest rest' h = (
    ap (λ z. event_at write v (if z then Some (cells.Device a) else if m.hides a then None else object_at ranges 0 a) ++ events_by m ranges rest') here
        ∙ ap (λ es. event_at write v (Some (cells.Device a)) ++ es) h.0
        ∙ sym (ap (λ z. event_at write v (if z then Some (cells.Device a) else object_at ranges 0 a) ++ chip.events_of ranges rest) there),
    ap (λ z. if z then (record { write = write; address = a; byte = v }) ∷ registers_by m rest' else registers_by m rest') here ∙ ap (λ (ms : List Made). (record { write = write; address = a; byte = v }) ∷ ms) h.1
        ∙ sym (ap (λ z. if z then (record { write = write; address = a; byte = v }) ∷ chip.registers_of rest else chip.registers_of rest) there),
  )

  -- what the test says of core registers, and of those of interrupts
  abbrev Plain : ℕ → Bool
  Plain a = not (m.is_register a) && not (m.hides a)

  abbrev Interrupts : Bool
  Interrupts = not m.peripherals || (m.is_register 12 && m.is_register 0x8c)

  core_rest : (Plain 2 && (Plain 3 && (Plain 4 && (Plain 10 && (m.is_register 11 && Interrupts))))) ≡ true
  core_rest = and_right (nat_eq (m.operand 0) 0 && (nat_lt 0 m.words && nat_le m.words 8192)) _ fits.core

  core_3 : (Plain 3 && (Plain 4 && (Plain 10 && (m.is_register 11 && Interrupts)))) ≡ true
  core_3 = and_right (Plain 2) _ core_rest

  core_4 : (Plain 4 && (Plain 10 && (m.is_register 11 && Interrupts))) ≡ true
  core_4 = and_right (Plain 3) _ core_3

  core_10 : (Plain 10 && (m.is_register 11 && Interrupts)) ≡ true
  core_10 = and_right (Plain 4) _ core_4

  core_11 : (m.is_register 11 && Interrupts) ≡ true
  core_11 = and_right (Plain 10) _ core_10

  interrupts : m.peripherals ≡ true → (m.is_register 12 && m.is_register 0x8c) ≡ true
  interrupts on = or_right _ _ (and_right (m.is_register 11) _ core_11) (not_true _ on)

  shows_one : (ranges : List Range) → IsClear ranges → (direct : Bool) (p : Place) → has m direct p ≡ true → (write : Bool) (v : ℕ) (rest rest' : List Made) → Shows ranges rest' rest
      → Shows ranges (made_at m.lowest write (twin_place m p) v ++ rest') (made_at address_of write p v ++ rest)
  shows_one ranges clear direct Pcl sh write v rest rest' h = core_one ranges 2 (and_left _ _ core_rest) refl write v rest rest' h
  shows_one ranges clear direct Status sh write v rest rest' h = core_one ranges 3 (and_left _ _ core_3) refl write v rest rest' h
  shows_one ranges clear direct Fsr sh write v rest rest' h = core_one ranges 4 (and_left _ _ core_4) refl write v rest rest' h
  shows_one ranges clear direct Pclath sh write v rest rest' h = core_one ranges 10 (and_left _ _ core_10) refl write v rest rest' h
  shows_one ranges clear direct Intcon sh write v rest rest' h = device_one ranges 11 (and_left _ _ core_11) refl write v rest rest' h
  shows_one ranges clear direct Pir1 sh write v rest rest' h = device_one ranges 12 (and_left _ _ (interrupts sh)) refl write v rest rest' h
  shows_one ranges clear direct Pie1 sh write v rest rest' h = device_one ranges 0x8c (and_right (m.is_register 12) _ (interrupts sh)) refl write v rest rest' h
  shows_one ranges clear direct (General k) sh write v rest rest' h =
      let c = byte_cells ranges clear k (byte_of m fits direct k sh) in (
        ap (λ z. event_at write v z ++ events_by m ranges rest') c.0 ∙ ap (λ es. event_at write v (chip.cell_at ranges (address_of k)) ++ es) h.0,
        ap (λ z. if z then (record { write = write; address = m.lowest (m.byte k); byte = v }) ∷ registers_by m rest' else registers_by m rest') c.1 ∙ h.1
            ∙ sym (ap (λ z. if z then (record { write = write; address = address_of k; byte = v }) ∷ chip.registers_of rest else chip.registers_of rest) c.2),
      )
  shows_one ranges clear direct (Device a) sh write v rest rest' h = let b = register_too a sh in device_one ranges a b.0 b.1 write v rest rest' h
  shows_one ranges clear direct Nothing sh write v rest rest' h = absurd (cc)

  pub shows_nothing : (ranges : List Range) → Shows ranges [] []
  shows_nothing ranges = (refl, refl)

  append_nil : (ms : List Made) → ms ++ [] ≡ ms
  append_nil [] = refl
  append_nil (m ∷ ms) = ap (λ (l : List Made). m ∷ l) (append_nil ms)

  pub shows_alone : (ranges : List Range) → IsClear ranges → (direct : Bool) (p : Place) → has m direct p ≡ true → (write : Bool) (v : ℕ) → Shows ranges (made_at m.lowest write (twin_place m p) v) (made_at address_of write p v)
  shows_alone ranges clear direct p sh write v =
      subst (λ l. Shows ranges l (made_at address_of write p v)) (append_nil (made_at m.lowest write (twin_place m p) v))
      (subst (λ l. Shows ranges (made_at m.lowest write (twin_place m p) v ++ []) l) (append_nil (made_at address_of write p v)) (shows_one ranges clear direct p sh write v [] [] (shows_nothing ranges)))

  pub shows_both : (ranges : List Range) → IsClear ranges → (direct : Bool) (p : Place) → has m direct p ≡ true → (d : Bool) (v r : ℕ)
      → Shows ranges (made_at m.lowest false (twin_place m p) v ++ made_if m.lowest d (twin_place m p) r) (made_at address_of false p v ++ made_if address_of d p r)
  shows_both ranges clear direct p sh true v r = shows_one ranges clear direct p sh false v (made_at address_of true p r) (made_at m.lowest true (twin_place m p) r) (shows_alone ranges clear direct p sh true r)
  shows_both ranges clear direct p sh false v r = shows_one ranges clear direct p sh false v [] [] (shows_nothing ranges)
