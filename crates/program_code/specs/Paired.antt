-- Symbolic code in which a skip and what it skips can be given their selects: they need one bank, that of some home bytes, or one of
-- them alone needs a bank.
use Rattle.std.specs.Prelude.{◌≡◌, ℕ, ◌/◌, Bool, true, false, not, ◌&&◌, ◌||◌, if◌then◌else◌, List, [], ◌∷◌, Option, Some, None, is_none}
use Rattle.core_code.specs.declared.code.Byte.{Byte}
use Rattle.pic_map.specs.declared.Placed.{Placed}
use Rattle.sym_code.specs.Selects.{is_select}
use Rattle.sym_code.specs.declared.code.Sym.{Sym}
use Rattle.code_place.specs.Addresses.{address_of}
use Rattle.bank_page.specs.Kinds.{is_label, is_skip, byte_of}
use Rattle.bank_page.specs.Known.{writes_status, writes_pclath}

-- no select and no label, and no skip that changes what is selected
abbrev pub is_steady : Sym → Bool
is_steady s = not (is_select s) && (not (is_label s) && not (is_skip s && (writes_status s || writes_pclath s)))

-- no byte in a bank, or one of the home bytes
abbrev pub is_home : (Byte → Bool) → Option Byte → Bool
is_home home None = true
is_home home (Some byte) = home byte

-- An instruction stands in front, with skips before it, and none of them names a byte in a bank.
abbrev pub goes_quiet : List Sym → Bool
goes_quiet [] = false
goes_quiet (s ∷ rest) = is_steady s && (is_none (byte_of s) && (if is_skip s then goes_quiet rest else true))

-- .. and they name home bytes alone
abbrev pub goes_home : (Byte → Bool) → List Sym → Bool
goes_home home [] = false
goes_home home (s ∷ rest) = is_steady s && (is_home home (byte_of s) && (if is_skip s then goes_home home rest else true))

-- An instruction that is no skip stands in front.
abbrev pub goes_alone : List Sym → Bool
goes_alone [] = false
goes_alone (s ∷ rest) = is_steady s && not (is_skip s)

-- A skip and what stands behind it: this names no byte in a bank; or all are home bytes; or the skip names none, and one instruction
-- stands behind it.
abbrev pub is_paired : (Byte → Bool) → Sym → List Sym → Bool
is_paired home s rest = is_steady s && (goes_quiet rest || (goes_home home (s ∷ rest) || (is_none (byte_of s) && goes_alone rest)))

abbrev pub are_paired : (Byte → Bool) → List Sym → Bool
are_paired home [] = true
are_paired home (s ∷ rest) = (if is_skip s then is_paired home s rest else true) && are_paired home rest

-- Each byte that needs a bank has an address, and the home bytes stand in this bank.
abbrev pub HasPlace : Placed → (Byte → Bool) → ℕ → Byte → Type 0
HasPlace placed home bank byte = (at : ℕ) × (address_of placed byte ≡ Some at) × (home byte ≡ true → at / 128 ≡ bank)

abbrev pub HavePlaces : Placed → (Byte → Bool) → ℕ → List Sym → Type 0
HavePlaces placed home bank [] = Unit {0}
HavePlaces placed home bank (s ∷ rest) = ((byte : Byte) → byte_of s ≡ Some byte → HasPlace placed home bank byte) × HavePlaces placed home bank rest
