-- Each access of an instruction is named by the lowest address of its register.
use Rattle.std.specs.Prelude.{if◌then◌else◌, ◌&&◌, ◌||◌, is_some, nat_le, bit_and, bit_or, bit_xor}
use Rattle.std.proofs.Common.{◌≡◌, ℕ, ◌+◌, ◌-◌, ◌*◌, ◌/◌, ◌%◌, ◌<◌, ◌≤◌, Bool, true, false, List, [], ◌∷◌, ◌++◌, Option, Some, None, nat_eq, nat_lt, refl, sym, ap, ◌∙◌, subst, append-nil, slice_index, arith}
use Rattle.std.proofs.lemmas.Bool.{agree_below_at, eqb-true, ltb-true, ltb-false}
use Rattle.pic_isa.specs.declared.Ins.{Ins}
use Rattle.pic_isa.specs.declared.Ins.TheVariants.{Addwf, Andwf, Clrf, Clrw, Comf, Decf, Decfsz, Incf, Incfsz, Iorwf, Movf, Movwf, Nop, Rlf, Rrf, Subwf, Swapf, Xorwf, Bcf, Bsf, Btfsc, Btfss, Addlw, Andlw, Call, Clrwdt, Goto, Iorlw, Movlw, Retfie, Retlw, Return, Sleep, Sublw, Xorlw}
use Rattle.pic_isa.specs.Lookup.{row_of}
use Rattle.pic_world.specs.Bits.{bit, set_bit, clear_bit}
use Rattle.pic_world.specs.Registers.{Register, registers, register_at, is_among, is_register, lowest, or_itself}
use Rattle.pic_chip.specs.State.{State, AtW, AtPc, AtBank, AtZ, AtC, AtFsr}
use Rattle.pic_chip.specs.Act.{Derived, Write, Note, Effect, Made, made, accesses, Act, Ask, Do, effect}
use Rattle.pic_chip.specs.Address.{Place, Pcl, Status, Fsr, Pclath, Intcon, Pir1, Pie1, General, Device, Nothing, place, indirect, operand, in_every_bank, address_of}
use Rattle.pic_chip.specs.Instructions.{contents, after_read, store, result_to, byte_row, test_row, write_row, is_empty, to, of, part, with_part, number, access, note, write_note, following, skipping, z_of, sum, sum_flags, difference, difference_flags, complement, increment, decrement, swap, is_zero, row, act_of, execute}
use Rattle.schedule.specs.Watching.{AreLowest}

-- ---- addresses
-- what holds of each register's own address and of each other address of it
abbrev mirrors_hold : (ℕ → ℕ → Bool) → ℕ → List ℕ → Bool
mirrors_hold g first [] = true
mirrors_hold g first (x ∷ xs) = g first x && mirrors_hold g first xs

abbrev rows_hold : (ℕ → ℕ → Bool) → List Register → Bool
rows_hold g [] = true
rows_hold g (r ∷ rs) = g r.1 r.1 && mirrors_hold g r.1 r.2 && rows_hold g rs

both : (a b : Bool) → (a && b) ≡ true → (a ≡ true) × (b ≡ true)
both true b h = (refl, h)
both false b h = absurd (cc)

mirror_holds : (g : ℕ → ℕ → Bool) (first : ℕ) (xs : List ℕ) → mirrors_hold g first xs ≡ true → (address : ℕ) → is_among xs address ≡ true → g first address ≡ true
mirror_holds g first [] h address e = absurd (cc)
mirror_holds g first (x ∷ xs) h address e = by_test (nat_eq x address) refl e (mirror_holds g first xs (both (g first x) (mirrors_hold g first xs) h).1 address)
  where
    by_test : (b : Bool) → nat_eq x address ≡ b → (b || is_among xs address) ≡ true → (is_among xs address ≡ true → g first address ≡ true) → g first address ≡ true
    by_test true is e later = ap (λ n. g first n) (sym (eqb-true x address is)) ∙ (both (g first x) (mirrors_hold g first xs) h).0
    by_test false is e later = later e

row_holds : (g : ℕ → ℕ → Bool) (rs : List Register) → rows_hold g rs ≡ true → (address first : ℕ) → register_at rs address ≡ Some first → g first address ≡ true
row_holds g [] h address first e = absurd (cc)
row_holds g (r ∷ rs) h address first e =
    by_test (nat_eq r.1 address) (is_among r.2 address) refl refl e
    (row_holds g rs (both (g r.1 r.1 && mirrors_hold g r.1 r.2) (rows_hold g rs) h).1 address first)
  where
    own : (g r.1 r.1 ≡ true) × (mirrors_hold g r.1 r.2 ≡ true)
    own = both (g r.1 r.1) (mirrors_hold g r.1 r.2) (both (g r.1 r.1 && mirrors_hold g r.1 r.2) (rows_hold g rs) h).0

    some_inj : (x y : ℕ) → Some x ≡ Some y → x ≡ y
    some_inj x y e = cc

    by_test : (b t : Bool) → nat_eq r.1 address ≡ b → is_among r.2 address ≡ t → (if b || t then Some r.1 else register_at rs address) ≡ Some first
        → (register_at rs address ≡ Some first → g first address ≡ true) → g first address ≡ true
    by_test true t is in_it e later = ap (λ n. g n address) (sym (some_inj r.1 first e)) ∙ ap (λ n. g r.1 n) (sym (eqb-true r.1 address is)) ∙ own.0
    by_test false true is in_it e later = ap (λ n. g n address) (sym (some_inj r.1 first e)) ∙ mirror_holds g r.1 r.2 own.1 address in_it
    by_test false false is in_it e later = later e

-- the lowest address of a register is its own lowest
lowest_twice : (address : ℕ) → lowest (lowest address) ≡ lowest address
lowest_twice address = by_case (register_at registers address) refl
  where
    by_case : (o : Option ℕ) → register_at registers address ≡ o → lowest (or_itself address o) ≡ or_itself address o
    by_case None e = ap (or_itself address) e
    by_case (Some first) e = eqb-true (lowest first) first (row_holds (λ first a. nat_eq (lowest first) first) registers refl address first e)

-- an address that is no register's is its own lowest one
plain_lowest : (address : ℕ) → is_register address ≡ false → lowest address ≡ address
plain_lowest address h = by_case (register_at registers address) h
  where
    by_case : (o : Option ℕ) → is_some o ≡ false → or_itself address o ≡ address
    by_case None h = refl
    by_case (Some a) h = absurd (cc)

-- no register has so high an address
high_plain : (address : ℕ) → 0x190 ≤ address → is_register address ≡ false
high_plain address high = by_case (register_at registers address) refl
  where
    too_high : (b : Bool) → nat_lt address 0x190 ≡ b → b ≡ true → ⊥
    too_high true e h = let l : address < 0x190 = ltb-true address 0x190 e in omega (arith, l, high)
    too_high false e h = absurd (cc)

    by_case : (o : Option ℕ) → register_at registers address ≡ o → is_some o ≡ false
    by_case None e = refl
    by_case (Some first) e = absurd (too_high (nat_lt address 0x190) refl (row_holds (λ first a. nat_lt a 0x190) registers refl address first e))

beyond : (k : ℕ) → 368 ≤ k → 0x190 ≤ address_of k
beyond k h = by_tests (nat_lt k 96) refl (nat_lt k 176) refl (nat_lt k 272) refl
  where
    by_tests : (a : Bool) → nat_lt k 96 ≡ a → (b : Bool) → nat_lt k 176 ≡ b → (c : Bool) → nat_lt k 272 ≡ c → 0x190 ≤ (if a then k + 0x20 else if b then k + 0x40 else if c then k + 0x60 else k + 0x80)
    by_tests true ea b eb c ec = omega arith
    by_tests false ea true eb c ec = omega arith
    by_tests false ea false eb true ec = omega arith
    by_tests false ea false eb false ec = omega arith

-- a general byte is named by its own address
general_lowest : (k : ℕ) → lowest (address_of k) ≡ address_of k
general_lowest k = plain_lowest (address_of k) (by_test (nat_lt k 368) refl)
  where
    by_test : (b : Bool) → nat_lt k 368 ≡ b → is_register (address_of k) ≡ false
    by_test true e = agree_below_at (λ k. is_register (address_of k)) (λ k. false) 368 k refl (ltb-true k 368 e)
    by_test false e = high_plain (address_of k) (beyond k (ltb-false k 368 e))

-- ---- places
abbrev IsLow : Place → Type 0
IsLow (Device address) = lowest address ≡ address
IsLow _ = Unit {0}

place_low : (bank low : ℕ) → IsLow (place bank low)
place_low bank low = by_tests (nat_eq low 2) (nat_eq low 3) (nat_eq low 4) (nat_eq low 10) (nat_eq low 11) (nat_eq low 12 && nat_lt bank 2) (nat_eq bank 0) (nat_le 0x70 low) (nat_le (if nat_lt bank 2 then 0x20 else 0x10) low) (is_register (0x80 * bank + low))
  where
    by_tests : (a b c d e p q f g r : Bool) → IsLow (
        if a then Pcl else if b then Status else if c then Fsr else if d then Pclath else if e then Intcon else if p then (if q then Pir1 else Pie1) else
        if f then General (low - 0x20) else if g then General (0x60 * bank + low - 0x20) else
        if r then Device (lowest (0x80 * bank + low)) else Nothing)
    by_tests true b c d e p q f g r = tt
    by_tests false true c d e p q f g r = tt
    by_tests false false true d e p q f g r = tt
    by_tests false false false true e p q f g r = tt
    by_tests false false false false true p q f g r = tt
    by_tests false false false false false true true f g r = tt
    by_tests false false false false false true false f g r = tt
    by_tests false false false false false false q true g r = tt
    by_tests false false false false false false q false true r = tt
    by_tests false false false false false false q false false true = lowest_twice (0x80 * bank + low)
    by_tests false false false false false false q false false false = tt

indirect_low : (address : ℕ) → IsLow (indirect address)
indirect_low address = by_test (nat_eq (address % 128) 0)
  where
    by_test : (b : Bool) → IsLow (if b then Nothing else place (address / 128) (address % 128))
    by_test true = tt
    by_test false = place_low (address / 128) (address % 128)

-- ---- instructions
module _ (inputs : List ℕ) (s : State) where
  noted : (write : Bool) (p : Place) → IsLow p → (v : Derived) → AreLowest (made (note write p v) s)
  noted write Pcl h v = (refl, tt)
  noted write Status h v = (refl, tt)
  noted write Fsr h v = (refl, tt)
  noted write Pclath h v = (refl, tt)
  noted write Intcon h v = (refl, tt)
  noted write Pir1 h v = (refl, tt)
  noted write Pie1 h v = (refl, tt)
  noted write (General k) h v = (general_lowest k, tt)
  noted write (Device a) h v = (h, tt)
  noted write Nothing h v = tt

  joined : (xs ys : List Note) → AreLowest (made xs s) → AreLowest (made ys s) → AreLowest (made (xs ++ ys) s)
  joined [] ys hx hy = hy
  joined (x ∷ xs) ys hx hy = (hx.0, joined xs ys hx.1 hy)

  write_noted : (d : Bool) (p : Place) → IsLow p → (v : Derived) → AreLowest (made (write_note d p v) s)
  write_noted true p h v = noted true p h v
  write_noted false p h v = tt

  abbrev IsNamed : Act → Type 0
  IsNamed a = AreLowest (made (effect a s).notes s)

  at_operand : (f : ℕ) (next : Place → Act) → ((p : Place) → IsLow p → IsNamed (next p)) → IsNamed (operand f next)
  at_operand f next h = by_tests (in_every_bank f) (nat_eq f 0)
    where
      by_tests : (b c : Bool) → IsNamed (if b then next (place 0 f) else if c then Ask AtBank (λ bank. Ask AtFsr (λ fsr. next (indirect (256 * (bank / 4) + fsr)))) else Ask AtBank (λ bank. next (place (bank % 4) f)))
      by_tests true c = h (place 0 f) (place_low 0 f)
      by_tests false true = h (indirect (256 * (s.bank / 4) + s.fsr)) (indirect_low (256 * (s.bank / 4) + s.fsr))
      by_tests false false = h (place (s.bank % 4) f) (place_low (s.bank % 4) f)

  byte_named : (f : ℕ) (d : Bool) (result : Derived → Derived) (flags : Derived → List Write) (next : Derived → Derived) → IsNamed (byte_row inputs s.pc f d result flags next)
  byte_named f d result flags next =
      at_operand f (λ p. let x = contents inputs s.pc p in Do (record {
        writes = to AtPc (next x) ∷ (after_read p ++ result_to d p (result x) (flags x));
        notes = note false p x ++ write_note d p (result x);
      })) (λ p low. let x = contents inputs s.pc p in joined (note false p x) (write_note d p (result x)) (noted false p low x) (write_noted d p low (result x)))

  test_named : (f b v : ℕ) → IsNamed (test_row inputs s.pc f b v)
  test_named f b v =
      at_operand f (λ p. let x = contents inputs s.pc p in Do (record {
        writes = to AtPc (skipping s.pc (λ y. nat_eq (bit y b) v) x) ∷ after_read p;
        notes = note false p x;
      })) (λ p low. noted false p low (contents inputs s.pc p))

  write_named : (f : ℕ) (v : Derived) (flags : List Write) → IsNamed (write_row s.pc f v flags)
  write_named f v flags =
      at_operand f (λ p. Do (record { writes = to AtPc (following s.pc) ∷ (store (is_empty flags) p v ++ flags); notes = note true p v }))
      (λ p low. noted true p low v)

  abbrev on : Derived → Derived
  on x = following s.pc

  abbrev no_flags : Derived → List Write
  no_flags x = []

  row_named : (i : Ins) → IsNamed (row inputs s.pc i)
  row_named (Addwf f d) = byte_named f d (with_part AtW sum) sum_flags on
  row_named (Andwf f d) = byte_named f d (with_part AtW bit_and) (λ x. z_of (with_part AtW bit_and x)) on
  row_named (Clrf f) = write_named f (number 0) (to AtZ (number 1) ∷ [])
  row_named Clrw = tt
  row_named (Comf f d) = byte_named f d (of complement) (λ x. z_of (of complement x)) on
  row_named (Decf f d) = byte_named f d (of decrement) (λ x. z_of (of decrement x)) on
  row_named (Decfsz f d) = byte_named f d (of decrement) no_flags (λ x. skipping s.pc is_zero (of decrement x))
  row_named (Incf f d) = byte_named f d (of increment) (λ x. z_of (of increment x)) on
  row_named (Incfsz f d) = byte_named f d (of increment) no_flags (λ x. skipping s.pc is_zero (of increment x))
  row_named (Iorwf f d) = byte_named f d (with_part AtW bit_or) (λ x. z_of (with_part AtW bit_or x)) on
  row_named (Movf f d) = byte_named f d (λ x. x) z_of on
  row_named (Movwf f) = write_named f (part AtW) []
  row_named Nop = tt
  row_named (Rlf f d) = byte_named f d (with_part AtC (λ c x. (2 * x + c) % 256)) (λ x. to AtC (of (λ y. y / 128 % 2) x) ∷ []) on
  row_named (Rrf f d) = byte_named f d (with_part AtC (λ c x. 128 * c + x / 2)) (λ x. to AtC (of (λ y. y % 2) x) ∷ []) on
  row_named (Subwf f d) = byte_named f d (with_part AtW difference) difference_flags on
  row_named (Swapf f d) = byte_named f d (of swap) no_flags on
  row_named (Xorwf f d) = byte_named f d (with_part AtW bit_xor) (λ x. z_of (with_part AtW bit_xor x)) on
  row_named (Bcf f b) = byte_named f true (of (clear_bit b)) no_flags on
  row_named (Bsf f b) = byte_named f true (of (set_bit b)) no_flags on
  row_named (Btfsc f b) = test_named f b 0
  row_named (Btfss f b) = test_named f b 1
  row_named (Addlw k) = tt
  row_named (Andlw k) = tt
  row_named (Call k) = tt
  row_named Clrwdt = tt
  row_named (Goto k) = tt
  row_named (Iorlw k) = tt
  row_named (Movlw k) = tt
  row_named Retfie = tt
  row_named (Retlw k) = tt
  row_named Return = tt
  row_named Sleep = tt
  row_named (Sublw k) = tt
  row_named (Xorlw k) = tt

  act_named : (o : Option Ins) → IsNamed (act_of inputs s.pc o)
  act_named None = tt
  act_named (Some i) = row_named i

  pub are_lowest : (image : List ℕ) → AreLowest (accesses (execute image inputs) s)
  are_lowest image = act_named (row_of (slice_index image s.pc))
