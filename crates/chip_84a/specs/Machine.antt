-- What a step of the second chip is: reset, boundaries and instructions (DS35007), over the state and the rows of pic_chip.
use Rattle.std.specs.Prelude.{ℕ, ◌+◌, ◌/◌, ◌%◌, Bool, ◌&&◌, ◌||◌, nat_eq, if◌then◌else◌, List, [], ◌∷◌, ◌++◌, replicate, slice_index, Option, Some, None, bit_or}
use Rattle.pic_isa.specs.declared.Ins.{Ins}
use Rattle.pic_isa.specs.Lookup.{row_of}
use Rattle.pic_world.specs.Control.{has_bits}
use Rattle.pic_chip.specs.Act.{Act, Ask, Made, perform}
use Rattle.pic_chip.specs.Address.{byte_in}
use Rattle.pic_chip.specs.Instructions.{act_by, is_modelled, part, of, to, plain_row}
use Rattle.pic_chip.specs.Interrupts.{enter}
use Rattle.pic_chip.specs.Machine.{wanted_by}
use Rattle.pic_chip.specs.SmallAddress.{small, small_place}
use Rattle.pic_chip.specs.State.{State, AtPc, AtIntcon}
use Rattle.pic_chip.specs.State as first
use Rattle.chip_84a.specs.declared.Start84.{Start84}

-- The state has room for 368 general bytes. This chip has the first 68; nothing leads to the others, and they stay 0.
abbrev pub room : List ℕ → List ℕ
room bytes = bytes ++ replicate 300 0

-- PIR1 and PIE1 don't exist: nothing asks for them, and they stay 0.
abbrev pub reset : Start84 → State
reset start = first.reset (record { w = start.w; fsr = start.fsr; flags = start.flags; ram = room start.ram })

-- ---- interrupts come by the three flags of INTCON alone
-- of a mask bits 0 to 2 count
abbrev pub raise : ℕ → Act
raise mask = plain_row (to AtIntcon (of (λ x. bit_or x (mask % 8)) (part AtIntcon)) ∷ [])

abbrev pub is_due : ℕ → Bool
is_due intcon = nat_eq (intcon / 128 % 2) 1 && (has_bits intcon 5 2 || has_bits intcon 4 1 || has_bits intcon 3 0)

abbrev pub raised : ℕ → State → State
raised mask s = perform (raise mask) s

-- at a boundary the flags of the mask are set, and then a due interrupt is taken
abbrev pub begun : ℕ → State → State
begun mask s = let r = raised mask s in if is_due r.intcon then perform enter r else r

-- ---- instructions
-- Program memory has 1,024 words: the low ten bits of the program counter name one.
abbrev pub fetched : List ℕ → State → Option Ins
fetched image s = row_of (slice_index image (s.pc % 1024))

-- one instruction of an image
abbrev pub execute : List ℕ → List ℕ → Act
execute image inputs = Ask AtPc (λ pc. act_by small inputs pc (row_of (slice_index image (pc % 1024))))

-- ---- the chip as its callers see it
-- where the model goes no further: at SLEEP, or at a word that no row has
abbrev pub stop_at : List ℕ → State → Option ℕ
stop_at image s = if is_modelled (fetched image s) then None else Some s.pc

-- a step that isn't done is no instruction
abbrev pub index_after : List ℕ → State → ℕ → ℕ
index_after image s index = if is_modelled (fetched image s) then index + 1 else index

-- the register that is read from the input list: one other than INTCON
abbrev pub wanted : List Made → Option ℕ
wanted = wanted_by small

-- The byte at an address of data memory, where a general byte stands there. RP1 and IRP don't count, so bank 2 is bank 0 again and bank 3
-- is bank 1.
abbrev pub byte_at : State → ℕ → ℕ
byte_at s address = byte_in s (small_place (address / 128 % 2) (address % 128))
