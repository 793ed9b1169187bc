-- What is to be selected before a run of skips and the instruction behind them.
use Rattle.std.specs.Prelude.{ℕ, ◌/◌, nat_eq, ◌||◌, List, [], ◌∷◌, Option, Some, None, if◌then◌else◌}
use Rattle.core_code.specs.declared.code.Byte.{Byte}
use Rattle.pic_map.specs.declared.Placed.{Placed}
use Rattle.sym_code.specs.declared.code.Sym.{Sym}
use Rattle.code_place.specs.Addresses.{address_of}
use Rattle.sym_code.specs.Selects.{is_select}
use Rattle.bank_page.specs.Kinds.{is_label, is_skip, byte_of, target_of}
use Rattle.bank_page.specs.Known.{writes_status, writes_pclath}
use Rattle.bank_page.specs.declared.needs.Needs.{Needs}

-- both needs as one, where they aren't two banks
abbrev pub both_banks : Option ℕ → Option ℕ → Option (Option ℕ)
both_banks None second = Some second
both_banks (Some one) None = Some (Some one)
both_banks (Some one) (Some other) = if nat_eq one other then Some (Some one) else None

-- the bank of an address: bits 8 and 7 of it
abbrev pub banked_at : Option ℕ → Option (Option ℕ)
banked_at None = None
banked_at (Some at) = Some (Some (at / 128))

abbrev pub banked : Placed → Option Byte → Option (Option ℕ)
banked placed None = Some None
banked placed (Some byte) = banked_at (address_of placed byte)

abbrev pub needs_one : Sym → Option (Option ℕ) → Option Needs
needs_one s None = None
needs_one s (Some bank) = Some (record { bank = bank; page = target_of s })

abbrev pub with_bank : Option (Option ℕ) → Needs → Option Needs
with_bank None rest = None
with_bank (Some bank) rest = Some (record { bank = bank; page = rest.page })

abbrev pub both : Option (Option ℕ) → Option Needs → Option Needs
both None rest = None
both (Some bank) None = None
both (Some bank) (Some rest) = with_bank (both_banks bank rest.bank) rest

-- None where two banks are needed, where a byte has no address, where a skip itself changes what is selected, and where a label
-- or nothing stands behind a skip.
abbrev pub needs_in : Placed → List Sym → Option Needs
needs_in placed [] = None
needs_in placed (s ∷ rest) = if is_select s then needs_in placed rest else (if is_label s then None else (if is_skip s then (if writes_status s || writes_pclath s then None else both (banked placed (byte_of s)) (needs_in placed rest)) else needs_one s (banked placed (byte_of s))))
