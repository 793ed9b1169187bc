-- Which blocks selects can be put into.
use Rattle.std.specs.Prelude.{◌≡◌, Bool, true, ◌&&◌, ◌||◌, List, [], ◌∷◌, is_some}
use Rattle.pic_map.specs.declared.Placed.{Placed}
use Rattle.sym_code.specs.Selects.{is_select}
use Rattle.sym_code.specs.declared.code.Sym.{Sym}
use Rattle.sym_code.specs.declared.code.SymBlock.{SymBlock}
use Rattle.bank_page.specs.Kinds.{is_label}
use Rattle.bank_page.specs.Needs.{needs_in}

-- What the first instruction of a list needs, with those behind it that it may skip, can be selected: each byte has an address, a
-- skip and what it skips need no two banks, the skip changes none, and an instruction stands behind it. A select and a label need
-- nothing.
abbrev pub is_ready : Placed → Sym → List Sym → Bool
is_ready placed s list = (is_select s || is_label s) || is_some (needs_in placed list)

-- .. and so of each instruction
abbrev pub are_ready : Placed → List Sym → Bool
are_ready placed [] = true
are_ready placed (s ∷ rest) = is_ready placed s (s ∷ rest) && are_ready placed rest

-- Selects can be put into the block.
abbrev pub CanSelect : Placed → SymBlock → Type 0
CanSelect placed block = are_ready placed block.list.items ≡ true
