-- Code whose bytes all stand below 100h gets no select that sets RP1: bank 0 and bank 1 have all that it names (Microchip data
-- sheet DS39582, register file map). So where objects and frames end below 100h, RP1 stays 0 for the whole program.
use Rattle.std.specs.Prelude.{◌≡◌, ◌<◌, ℕ, Bool, true, false, not, ◌&&◌, List, [], ◌∷◌, Option, Some, None}
use Rattle.std.specs.List.{All}
use Rattle.pic_map.specs.declared.Placed.{Placed}
use Rattle.sym_code.specs.Layout.{all_near}
use Rattle.sym_code.specs.Touching.{touches}
use Rattle.sym_code.specs.declared.code.BankBit.TheVariants as bank_bits
use Rattle.sym_code.specs.declared.code.Operand.{Operand}
use Rattle.sym_code.specs.declared.code.Sym.{Sym}
use Rattle.sym_code.specs.declared.code.Sym.TheVariants as syms
use Rattle.sym_code.specs.declared.code.SymBlock.{SymBlock}
use Rattle.code_place.specs.Addresses.{file_address}
use Rattle.code_place.specs.Layouts.{layout_of}

-- ---- what is named
-- a file operand with an address has one below 100h
abbrev pub IsNearTouched : Placed → Option (Operand × Bool) → Type 0
IsNearTouched placed None = Unit {0}
IsNearTouched placed (Some touched) = (at : ℕ) → file_address placed touched.0 ≡ Some at → at < 0x100

abbrev pub IsNear : Placed → Sym → Type 0
IsNear placed s = IsNearTouched placed (touches s)

-- so each that instructions of a list name
abbrev pub AreNear : Placed → List Sym → Type 0
AreNear placed [] = Unit {0}
AreNear placed (s ∷ list) = IsNear placed s × AreNear placed list

-- ---- what is selected
abbrev pub sets_rp1 : Sym → Bool
sets_rp1 (syms.SelectBank bank_bits.Rp1 on) = on
sets_rp1 _ = false

abbrev pub none_sets_rp1 : List Sym → Bool
none_sets_rp1 [] = true
none_sets_rp1 (s ∷ list) = not (sets_rp1 s) && none_sets_rp1 list

abbrev pub StaysNear : SymBlock → Type 0
StaysNear block = none_sets_rp1 block.list.items ≡ true

-- where objects and frames end below 100h, no select of the blocks sets RP1
abbrev pub KeepNear : Placed → List SymBlock → Type 0
KeepNear placed blocks = all_near (layout_of placed) ≡ true → All StaysNear blocks
