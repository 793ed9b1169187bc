-- The program's own data as the definitions have it.
use Rattle.std.specs.Prelude.{ℕ, ◌≡◌, ◌<◌, true, false, List, [], ◌∷◌, Option, Some, None}
use Rattle.pic_chip.specs.declared.place.Place.{Place as Named}
use Rattle.pic_chip.specs.declared.place.Place.TheVariants.{PclReg, StatusReg, FsrReg, PclathReg, IntconReg, Pir1Reg, Pie1Reg, GeneralByte, DeviceReg, Nowhere}
use Rattle.pic_chip.specs.declared.profile.Profile.{Profile}
use Rattle.pic_chip.specs.Profiles.{rule_of}
use Rattle.pic_chip.specs.Address.{Place, Pcl, Status, Fsr, Pclath, Intcon, Pir1, Pie1, General, Device, Nothing}

abbrev pub named : Named → Place
named PclReg = Pcl
named StatusReg = Status
named FsrReg = Fsr
named PclathReg = Pclath
named IntconReg = Intcon
named Pir1Reg = Pir1
named Pie1Reg = Pie1
named (GeneralByte k) = General k
named (DeviceReg address) = Device address
named Nowhere = Nothing

-- a general byte's number fits the memory, and a device register has an address of the table, of which those that keep what is written are left out
abbrev pub IsPlace : Profile → Place → Type 0
IsPlace q (General k) = k < (rule_of q).bytes
IsPlace q (Device address) = ((rule_of q).is_register address ≡ true) × ((rule_of q).is_stored address ≡ false)
IsPlace q _ = Unit {0}

-- a general byte's number is one of memory
abbrev pub IsHeld : Place → Type 0
IsHeld (General k) = k < 368
IsHeld _ = Unit {0}

-- by bank, the low seven bits of the device registers other than INTCON, PIR1 and PIE1
abbrev pub devices : List (List ℕ)
devices =
    (0x01 ∷ 0x05 ∷ 0x06 ∷ 0x07 ∷ 0x08 ∷ 0x09 ∷ 0x0d ∷ 0x0e ∷ 0x0f ∷ 0x10 ∷ 0x11 ∷ 0x12 ∷ 0x13 ∷ 0x14 ∷ 0x15 ∷ 0x16 ∷ 0x17 ∷ 0x18 ∷ 0x19 ∷ 0x1a ∷ 0x1e ∷ 0x1f ∷ []) ∷
    (0x01 ∷ 0x05 ∷ 0x06 ∷ 0x07 ∷ 0x08 ∷ 0x09 ∷ 0x0d ∷ 0x12 ∷ 0x18 ∷ 0x19 ∷ 0x1e ∷ 0x1f ∷ []) ∷
    (0x01 ∷ 0x06 ∷ []) ∷ (0x01 ∷ 0x06 ∷ []) ∷ []

-- the register of a place, if it is a device register
abbrev pub device_in : Place → Option ℕ
device_in (Device address) = Some address
device_in _ = None
