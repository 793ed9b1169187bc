-- Members of the family: the PIC16F84A, of which this crate has the machine; and two as trials, of which there is nothing else.
use Rattle.std.specs.Prelude.{ℕ, ◌≡◌, ◌+◌, ◌-◌, ◌*◌, ◌/◌, ◌%◌, Bool, true, false, not, ◌&&◌, ◌||◌, nat_eq, nat_lt, nat_le, if◌then◌else◌}
use Rattle.std.proofs.lemmas.Bool.{agree_below}
use Rattle.pic_world.specs.Control.{is_stored}
use Rattle.pic_world.specs.Registers.{is_register, lowest}
use Rattle.pic_chip.specs.Address as first
use Rattle.pic_chip.specs.Address.{Place, Pcl, Status, Fsr, Pclath, Intcon, Pir1, Pie1, General, Device, Nothing, address_of}
use Rattle.pic_chip.specs.SmallAddress.{small_place, small_indirect, small_address_of, is_small_register, is_small_stored}
use Rattle.chip_84a.specs.Family.{Member, Fits, direct_test}
use Rattle.chip_84a.specs.Port.{low}

-- DS35007. The bytes from 20h to 4Fh, and for operands alone those from 70h to 7Fh, which are at 0Ch to 1Bh here.
abbrev pub pic16f84a : Member
pic16f84a = record {
  words = 1024;
  direct = small_place;
  pointed = small_indirect;
  bytes = 68;
  lowest = small_address_of;
  is_register = is_small_register;
  is_stored = is_small_stored;
  peripherals = false;
  hides = λ address. nat_le 0x0c address && nat_lt address 0x20;
  operand = low;
  byte = λ k. if nat_lt k 48 then k + 20 else k - 80;
  back = λ k. if nat_lt k 16 then k + 80 else k - 20;
  keeps = λ k. nat_lt k 48;
  keeps_direct = λ k. nat_le 80 k && nat_lt k 96;
}

-- ---- trials (DS39582): the chips of this data sheet in a case of 28 pins have no ports D and E
abbrev pub is_small_case_register : ℕ → Bool
is_small_case_register address = is_register address && not (nat_eq (address % 128) 8 || nat_eq (address % 128) 9)

abbrev pub in_small_case : Place → Place
in_small_case (Device address) = if is_small_case_register address then Device address else Nothing
in_small_case p = p

-- It is the first chip but for these ports. Of its bytes those of banks 0 and 1 are meant.
abbrev pub pic16f876a : Member
pic16f876a = record {
  words = 8192;
  direct = λ bank f. in_small_case (if first.in_every_bank f then first.place 0 f else first.place bank f);
  pointed = λ fsr. in_small_case (first.indirect fsr);
  bytes = 368;
  lowest = address_of;
  is_register = is_small_case_register;
  is_stored = is_stored;
  peripherals = true;
  hides = λ address. false;
  operand = λ f. f;
  byte = λ k. k;
  back = λ k. k;
  keeps = λ k. nat_lt k 176;
  keeps_direct = λ k. false;
}

-- 192 bytes: 20h to 7Fh, and A0h to FFh, of which F0h to FFh are not those of bank 0.
abbrev pub split_place : ℕ → ℕ → Place
split_place bank low =
    if nat_eq low 2 then Pcl else
    if nat_eq low 3 then Status else
    if nat_eq low 4 then Fsr else
    if nat_eq low 10 then Pclath else
    if nat_eq low 11 then Intcon else
    if nat_eq (0x80 * bank + low) 0x0c then Pir1 else
    if nat_eq (0x80 * bank + low) 0x8c then Pie1 else
    if nat_le 0x20 low then General (96 * bank + (low - 0x20)) else
    if is_small_case_register (0x80 * bank + low) then Device (lowest (0x80 * bank + low)) else Nothing

-- with these bytes of the first chip
abbrev pub pic16f873a : (ℕ → Bool) → Member
pic16f873a kept = record {
  words = 4096;
  direct = split_place;
  pointed = λ fsr. if nat_eq (fsr % 128) 0 then Nothing else split_place (fsr / 128) (fsr % 128);
  bytes = 192;
  lowest = λ k. if nat_lt k 96 then k + 0x20 else k + 0x40;
  is_register = is_small_case_register;
  is_stored = is_stored;
  peripherals = true;
  hides = λ address. false;
  operand = λ f. f;
  byte = λ k. k;
  back = λ k. k;
  keeps = kept;
  keeps_direct = λ k. false;
}

-- but those that the first chip has in every bank, 70h to 7Fh
abbrev pub without_common : ℕ → Bool
without_common k = nat_lt k 80 || (nat_le 96 k && nat_lt k 176)

abbrev pub with_common : ℕ → Bool
with_common k = nat_lt k 176

-- ---- what the test says
-- The chip of this crate fits, and so does the PIC16F876A. The PIC16F873A does without the bytes that the first chip has in every bank; with them an operand
-- of bank 1 leads elsewhere, and compiled code has its results and the handler's context there.
pub record MembersFit : Type 0 where
  pub second : Fits pic16f84a
  pub third : Fits pic16f876a
  pub fourth : Fits (pic16f873a without_common)
  pub not_whole : agree_below (direct_test (pic16f873a with_common)) (λ n. true) 256 ≡ false
