-- What an address of data memory names on the PIC16F84A (DS35007, memory organization), in the profile of this project: EEPROM is left out, bits 6 and
-- 7 of STATUS are stored and don't count.
use Rattle.std.specs.Prelude.{ℕ, ◌+◌, ◌-◌, ◌*◌, ◌/◌, ◌%◌, Bool, ◌&&◌, nat_eq, nat_le, is_some, if◌then◌else◌, List, [], ◌∷◌, codes}
use Rattle.pic_world.specs.Registers.{Register, register_at}
use Rattle.pic_chip.specs.Act.{Act, Ask}
use Rattle.pic_chip.specs.Address.{Place, Pcl, Status, Fsr, Pclath, Intcon, General, Device, Nothing}
use Rattle.pic_chip.specs.Instructions.{Rule}
use Rattle.pic_chip.specs.State.{AtBank, AtFsr}

abbrev pub small_registers : List Register
small_registers =
    (codes "TMR0", 0x01, []) ∷
    (codes "PORTA", 0x05, []) ∷
    (codes "PORTB", 0x06, []) ∷
    (codes "INTCON", 0x0b, 0x8b ∷ []) ∷
    (codes "OPTION_REG", 0x81, []) ∷
    (codes "TRISA", 0x85, []) ∷
    (codes "TRISB", 0x86, []) ∷ []

-- a device register of this chip is found at the address
abbrev pub is_small_register : ℕ → Bool
is_small_register address = is_some (register_at small_registers address)

-- it keeps what is written to it
abbrev pub is_small_stored : ℕ → Bool
is_small_stored address = nat_eq address 0x0b

-- The place of a bank, 0 or 1, and the low seven bits of an address. The 68 general bytes are 0Ch to 4Fh, the same in both banks. Of the
-- device registers INTCON alone is found twice.
abbrev pub small_place : ℕ → ℕ → Place
small_place bank low =
    if nat_eq low 2 then Pcl else
    if nat_eq low 3 then Status else
    if nat_eq low 4 then Fsr else
    if nat_eq low 10 then Pclath else
    if nat_eq low 11 then Intcon else
    if nat_le 0x0c low && nat_le low 0x4f then General (low - 0x0c) else
    if is_small_register (0x80 * bank + low) then Device (0x80 * bank + low) else Nothing

-- INDF: the byte at the address that FSR has. INDF reached through INDF is nothing.
abbrev pub small_indirect : ℕ → Place
small_indirect fsr = if nat_eq (fsr % 128) 0 then Nothing else small_place (fsr / 128) (fsr % 128)

-- The place of an instruction's operand f: by RP0, and for INDF by FSR.
abbrev pub small_operand : ℕ → (Place → Act) → Act
small_operand f next =
    if nat_eq f 0 then Ask AtFsr (λ fsr. next (small_indirect fsr)) else
    Ask AtBank (λ bank. next (small_place (bank % 2) f))

-- the lowest address of a general byte
abbrev pub small_address_of : ℕ → ℕ
small_address_of k = k + 0x0c

abbrev pub small : Rule
small = record { find = small_operand; bytes = 68; lowest = small_address_of; is_register = is_small_register; is_stored = is_small_stored }
