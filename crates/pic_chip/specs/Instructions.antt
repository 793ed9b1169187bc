-- The instruction table: what each of the 35 instructions does (DS39582, instruction set summary).
use Rattle.std.specs.Prelude.{ℕ, ◌+◌, ◌-◌, ◌*◌, ◌/◌, ◌%◌, ◌^◌, Bool, true, false, nat_eq, nat_le, if◌then◌else◌, List, [], ◌∷◌, ◌++◌, Option, Some, None, slice_index, bit_and, bit_or, bit_xor}
use Rattle.pic_isa.specs.declared.Ins.{Ins}
use Rattle.pic_isa.specs.declared.Ins.TheVariants.{Addwf, Andwf, Clrf, Clrw, Comf, Decf, Decfsz, Incf, Incfsz, Iorwf, Movf, Movwf, Nop, Rlf, Rrf, Subwf, Swapf, Xorwf, Bcf, Bsf, Btfsc, Btfss, Addlw, Andlw, Call, Clrwdt, Goto, Iorlw, Movlw, Retfie, Retlw, Return, Sleep, Sublw, Xorlw}
use Rattle.pic_isa.specs.Lookup.{row_of}
use Rattle.pic_chip.specs.State.{State, Part, AtW, AtPc, AtBank, AtZ, AtDc, AtC, AtFsr, AtPclath, AtIntcon, AtPir1, AtPie1, AtPushes, AtPops, AtTaken, Ram, Level}
use Rattle.pic_chip.specs.Act.{Derived, Write, Note, Act, Ask, Do}
use Rattle.pic_world.specs.Bits.{bit, set_bit, clear_bit, truth}
use Rattle.pic_world.specs.Control.{is_stored}
use Rattle.pic_world.specs.Registers.{is_register}
use Rattle.pic_chip.specs.Address.{Place, Pcl, Status, Fsr, Pclath, Intcon, Pir1, Pie1, General, Device, Nothing, operand, address_of}

-- ---- numbers made of parts of the state
abbrev pub tail : List ℕ → List ℕ
tail [] = []
tail (x ∷ xs) = xs

abbrev pub number : ℕ → Derived
number n = record { from = []; by = λ _. n }

abbrev pub part : Part → Derived
part p = record { from = p ∷ []; by = λ xs. slice_index xs 0 }

-- g of a number
abbrev pub of : (ℕ → ℕ) → Derived → Derived
of g v = record { from = v.from; by = λ xs. g (v.by xs) }

-- g of a part and a number
abbrev pub with_part : Part → (ℕ → ℕ → ℕ) → Derived → Derived
with_part p g v = record { from = p ∷ v.from; by = λ xs. g (slice_index xs 0) (v.by (tail xs)) }

abbrev pub to : Part → Derived → Write
to p v = record { to = p; value = v }

-- ---- reads and writes of a place
-- What a read gives, where this is the input list and the instruction stands at pc. A read of a device register
-- other than INTCON, PIR1 and PIE1 takes the next byte of the input list, or 0 past its end. PCL reads as the low byte of the following address.
abbrev pub contents : List ℕ → ℕ → Place → Derived
contents inputs pc Pcl = number ((pc + 1) % 256)
contents inputs pc Status =
    record { from = AtBank ∷ AtZ ∷ AtDc ∷ AtC ∷ []; by = λ xs. 32 * slice_index xs 0 + 0x18 + 4 * slice_index xs 1 + 2 * slice_index xs 2 + slice_index xs 3 }
contents inputs pc Fsr = part AtFsr
contents inputs pc Pclath = part AtPclath
contents inputs pc Intcon = part AtIntcon
contents inputs pc Pir1 = part AtPir1
contents inputs pc Pie1 = part AtPie1
contents inputs pc (General k) = part (Ram k)
contents inputs pc (Device address) = of (slice_index inputs) (part AtTaken)
contents inputs pc Nothing = number 0

-- what a read changes
abbrev pub after_read : Place → List Write
after_read (Device address) = to AtTaken (of (λ n. n + 1) (part AtTaken)) ∷ []
after_read _ = []

-- What a write changes. PCL takes the upper five bits from PCLATH, which has just these. STATUS keeps its
-- flags where the instruction sets a flag by its own logic; `plain` says that it sets none. A write to a
-- device register other than INTCON, PIR1 and PIE1 is only recorded, as an access.
abbrev pub store : Bool → Place → Derived → List Write
store plain Pcl v = to AtPc (with_part AtPclath (λ high low. 256 * high + low) v) ∷ []
store true Status v = to AtBank (of (λ x. x / 32) v) ∷ to AtZ (of (λ x. bit x 2) v) ∷ to AtDc (of (λ x. bit x 1) v) ∷ to AtC (of (λ x. bit x 0) v) ∷ []
store false Status v = to AtBank (of (λ x. x / 32) v) ∷ []
store plain Fsr v = to AtFsr v ∷ []
store plain Pclath v = to AtPclath (of (λ x. x % 32) v) ∷ []
store plain Intcon v = to AtIntcon v ∷ []
store plain Pir1 v = to AtPir1 v ∷ []
store plain Pie1 v = to AtPie1 v ∷ []
store plain (General k) v = to (Ram k) v ∷ []
store plain (Device address) v = []
store plain Nothing v = []

abbrev pub access : Bool → ℕ → Derived → List Note
access write address v = record { write = write; address = address; value = v } ∷ []

-- What differs from chip to chip of this family.
pub record Rule : Type 0 where
  -- where an instruction goes on with the place that its operand names
  pub find : ℕ → (Place → Act) → Act
  -- how many general bytes there are, and the lowest address of each
  pub bytes : ℕ
  pub lowest : ℕ → ℕ
  -- a device register is found at the address
  pub is_register : ℕ → Bool
  -- .. which keeps what is written to it
  pub is_stored : ℕ → Bool

-- an access to a place, by its lowest address
abbrev pub note_by : (ℕ → ℕ) → Bool → Place → Derived → List Note
note_by low write Pcl v = access write 2 v
note_by low write Status v = access write 3 v
note_by low write Fsr v = access write 4 v
note_by low write Pclath v = access write 10 v
note_by low write Intcon v = access write 11 v
note_by low write Pir1 v = access write 12 v
note_by low write Pie1 v = access write 0x8c v
note_by low write (General k) v = access write (low k) v
note_by low write (Device address) v = access write address v
note_by low write Nothing v = []

-- ---- the forms of a row
abbrev pub is_empty : List Write → Bool
is_empty [] = true
is_empty (x ∷ xs) = false

-- a result to f or to W, and the flags that the row sets
abbrev pub result_to : Bool → Place → Derived → List Write → List Write
result_to true p v flags = store (is_empty flags) p v ++ flags
result_to false p v flags = to AtW v ∷ flags

abbrev pub write_note_by : (ℕ → ℕ) → Bool → Place → Derived → List Note
write_note_by low true p v = note_by low true p v
write_note_by low false p v = []

-- the following instruction
abbrev pub following : ℕ → Derived
following pc = number ((pc + 1) % 8192)

-- the following instruction, or the one behind it
abbrev pub skipping : ℕ → (ℕ → Bool) → Derived → Derived
skipping pc skips v = of (λ x. (pc + (if skips x then 2 else 1)) % 8192) v

-- a row with f and d: it reads f, and its result, its flags and the next place come from what f holds
abbrev pub byte_row_by : Rule → List ℕ → ℕ → ℕ → Bool → (Derived → Derived) → (Derived → List Write) → (Derived → Derived) → Act
byte_row_by c inputs pc f d result flags next =
    c.find f (λ p. let x = contents inputs pc p in Do (record {
      writes = to AtPc (next x) ∷ (after_read p ++ result_to d p (result x) (flags x));
      notes = note_by c.lowest false p x ++ write_note_by c.lowest d p (result x);
    }))

-- a row that writes f and doesn't read it
abbrev pub write_row_by : Rule → ℕ → ℕ → Derived → List Write → Act
write_row_by c pc f v flags =
    c.find f (λ p. Do (record { writes = to AtPc (following pc) ∷ (store (is_empty flags) p v ++ flags); notes = note_by c.lowest true p v }))

-- a row with f and b that changes a bit
abbrev pub bit_row_by : Rule → List ℕ → ℕ → ℕ → (ℕ → ℕ) → Act
bit_row_by c inputs pc f change = byte_row_by c inputs pc f true (of change) (λ x. []) (λ x. following pc)

-- a row with f and b that skips where the bit has this value
abbrev pub test_row_by : Rule → List ℕ → ℕ → ℕ → ℕ → ℕ → Act
test_row_by c inputs pc f b v =
    c.find f (λ p. let x = contents inputs pc p in Do (record {
      writes = to AtPc (skipping pc (λ y. nat_eq (bit y b) v) x) ∷ after_read p;
      notes = note_by c.lowest false p x;
    }))

-- a row that touches no file register
abbrev pub plain_row : List Write → Act
plain_row writes = Do (record { writes = writes; notes = [] })

-- ---- results and flags
abbrev pub z_of : Derived → List Write
z_of v = to AtZ (of (λ x. truth (nat_eq x 0)) v) ∷ []

abbrev pub sum : ℕ → ℕ → ℕ
sum w x = (x + w) % 256

-- C is the carry out of bit 7, and DC that out of bit 3
abbrev pub sum_flags : Derived → List Write
sum_flags x =
    to AtC (with_part AtW (λ w f. truth (nat_le 256 (f + w))) x) ∷ to AtDc (with_part AtW (λ w f. truth (nat_le 16 (f % 16 + w % 16))) x) ∷ z_of (with_part AtW sum x)

abbrev pub difference : ℕ → ℕ → ℕ
difference w x = (x + 256 - w) % 256

-- C and DC are 1 exactly where nothing is borrowed
abbrev pub difference_flags : Derived → List Write
difference_flags x =
    to AtC (with_part AtW (λ w f. truth (nat_le w f)) x) ∷ to AtDc (with_part AtW (λ w f. truth (nat_le (w % 16) (f % 16))) x) ∷ z_of (with_part AtW difference x)

abbrev pub complement : ℕ → ℕ
complement x = 255 - x

abbrev pub increment : ℕ → ℕ
increment x = (x + 1) % 256

abbrev pub decrement : ℕ → ℕ
decrement x = (x + 255) % 256

abbrev pub swap : ℕ → ℕ
swap x = x % 16 * 16 + x / 16

abbrev pub is_zero : ℕ → Bool
is_zero x = nat_eq x 0

-- ---- jumps and the return stack
-- CALL and GOTO take bits 12 and 11 of the address from PCLATH
abbrev pub page : ℕ → Derived
page k = of (λ high. high / 8 % 4 * 2048 + k) (part AtPclath)

-- The stack is circular: a ninth push overwrites the first word, and what was popped lies lowest.
abbrev pub push : Derived → List Write
push v =
    to AtPushes (of (λ n. n + 1) (part AtPushes)) ∷ to (Level 0) v ∷ to (Level 1) (part (Level 0)) ∷ to (Level 2) (part (Level 1)) ∷ to (Level 3) (part (Level 2)) ∷
    to (Level 4) (part (Level 3)) ∷ to (Level 5) (part (Level 4)) ∷ to (Level 6) (part (Level 5)) ∷ to (Level 7) (part (Level 6)) ∷ []

abbrev pub pop : List Write
pop =
    to AtPc (part (Level 0)) ∷
    to AtPops (of (λ n. n + 1) (part AtPops)) ∷ to (Level 0) (part (Level 1)) ∷ to (Level 1) (part (Level 2)) ∷ to (Level 2) (part (Level 3)) ∷ to (Level 3) (part (Level 4)) ∷
    to (Level 4) (part (Level 5)) ∷ to (Level 5) (part (Level 6)) ∷ to (Level 6) (part (Level 7)) ∷ to (Level 7) (part (Level 0)) ∷ []

-- ---- the rows
-- an instruction at pc, over this input list
abbrev pub row_by : Rule → List ℕ → ℕ → Ins → Act
row_by c inputs pc i =
    let step = to AtPc (following pc) in
    let on = λ (x : Derived). following pc in
    let no_flags = λ (x : Derived). let none : List Write = [] in none in
    elim i [
      | Addwf f d ↦ byte_row_by c inputs pc f d (with_part AtW sum) sum_flags on
      | Andwf f d ↦ byte_row_by c inputs pc f d (with_part AtW bit_and) (λ x. z_of (with_part AtW bit_and x)) on
      | Clrf f ↦ write_row_by c pc f (number 0) (to AtZ (number 1) ∷ [])
      | Clrw ↦ plain_row (step ∷ to AtW (number 0) ∷ to AtZ (number 1) ∷ [])
      | Comf f d ↦ byte_row_by c inputs pc f d (of complement) (λ x. z_of (of complement x)) on
      | Decf f d ↦ byte_row_by c inputs pc f d (of decrement) (λ x. z_of (of decrement x)) on
      | Decfsz f d ↦ byte_row_by c inputs pc f d (of decrement) no_flags (λ x. skipping pc is_zero (of decrement x))
      | Incf f d ↦ byte_row_by c inputs pc f d (of increment) (λ x. z_of (of increment x)) on
      | Incfsz f d ↦ byte_row_by c inputs pc f d (of increment) no_flags (λ x. skipping pc is_zero (of increment x))
      | Iorwf f d ↦ byte_row_by c inputs pc f d (with_part AtW bit_or) (λ x. z_of (with_part AtW bit_or x)) on
      | Movf f d ↦ byte_row_by c inputs pc f d (λ x. x) z_of on
      | Movwf f ↦ write_row_by c pc f (part AtW) []
      | Nop ↦ plain_row (step ∷ [])
      | Rlf f d ↦ byte_row_by c inputs pc f d (with_part AtC (λ c x. (2 * x + c) % 256)) (λ x. to AtC (of (λ y. y / 128 % 2) x) ∷ []) on
      | Rrf f d ↦ byte_row_by c inputs pc f d (with_part AtC (λ c x. 128 * c + x / 2)) (λ x. to AtC (of (λ y. y % 2) x) ∷ []) on
      | Subwf f d ↦ byte_row_by c inputs pc f d (with_part AtW difference) difference_flags on
      | Swapf f d ↦ byte_row_by c inputs pc f d (of swap) no_flags on
      | Xorwf f d ↦ byte_row_by c inputs pc f d (with_part AtW bit_xor) (λ x. z_of (with_part AtW bit_xor x)) on
      | Bcf f b ↦ bit_row_by c inputs pc f (clear_bit b)
      | Bsf f b ↦ bit_row_by c inputs pc f (set_bit b)
      | Btfsc f b ↦ test_row_by c inputs pc f b 0
      | Btfss f b ↦ test_row_by c inputs pc f b 1
      | Addlw k ↦ plain_row (step ∷ to AtW (of (λ w. sum w k) (part AtW)) ∷ sum_flags (number k))
      | Andlw k ↦ plain_row (step ∷ to AtW (of (bit_and k) (part AtW)) ∷ z_of (of (bit_and k) (part AtW)))
      | Call k ↦ plain_row (to AtPc (page k) ∷ push (following pc))
      | Clrwdt ↦ plain_row (step ∷ [])
      | Goto k ↦ plain_row (to AtPc (page k) ∷ [])
      | Iorlw k ↦ plain_row (step ∷ to AtW (of (bit_or k) (part AtW)) ∷ z_of (of (bit_or k) (part AtW)))
      | Movlw k ↦ plain_row (step ∷ to AtW (number k) ∷ [])
      | Retfie ↦ plain_row (to AtIntcon (of (set_bit 7) (part AtIntcon)) ∷ pop)
      | Retlw k ↦ plain_row (to AtW (number k) ∷ pop)
      | Return ↦ plain_row pop
      | Sleep ↦ plain_row []
      | Sublw k ↦ plain_row (step ∷ to AtW (of (λ w. difference w k) (part AtW)) ∷ difference_flags (number k))
      | Xorlw k ↦ plain_row (step ∷ to AtW (of (bit_xor k) (part AtW)) ∷ z_of (of (bit_xor k) (part AtW)))
    ]

-- ---- the PIC16F877A
abbrev pub big : Rule
big = record { find = operand; bytes = 368; lowest = address_of; is_register = is_register; is_stored = is_stored }

abbrev pub note : Bool → Place → Derived → List Note
note = note_by address_of

abbrev pub write_note : Bool → Place → Derived → List Note
write_note = write_note_by address_of

abbrev pub byte_row : List ℕ → ℕ → ℕ → Bool → (Derived → Derived) → (Derived → List Write) → (Derived → Derived) → Act
byte_row = byte_row_by big

abbrev pub write_row : ℕ → ℕ → Derived → List Write → Act
write_row = write_row_by big

abbrev pub bit_row : List ℕ → ℕ → ℕ → (ℕ → ℕ) → Act
bit_row = bit_row_by big

abbrev pub test_row : List ℕ → ℕ → ℕ → ℕ → ℕ → Act
test_row = test_row_by big

abbrev pub row : List ℕ → ℕ → Ins → Act
row = row_by big

-- The model goes no further at SLEEP or at a word that no row has: there an instruction changes nothing.
abbrev pub is_modelled : Option Ins → Bool
is_modelled None = false
is_modelled (Some Sleep) = false
is_modelled (Some _) = true

abbrev pub is_return_from_interrupt : Option Ins → Bool
is_return_from_interrupt (Some Retfie) = true
is_return_from_interrupt _ = false

abbrev pub act_by : Rule → List ℕ → ℕ → Option Ins → Act
act_by c inputs pc None = plain_row []
act_by c inputs pc (Some i) = row_by c inputs pc i

abbrev pub act_of : List ℕ → ℕ → Option Ins → Act
act_of = act_by big

-- the word that the program counter names
abbrev pub fetched : List ℕ → State → Option Ins
fetched image s = row_of (slice_index image s.pc)

-- one instruction of an image
abbrev pub execute : List ℕ → List ℕ → Act
execute image inputs = Ask AtPc (λ pc. act_of inputs pc (row_of (slice_index image pc)))
