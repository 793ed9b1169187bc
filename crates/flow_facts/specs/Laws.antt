-- What thinning keeps.
use Rattle.std.specs.Prelude.{◌≡◌, ◌≤◌, ℕ, Bool, true, false, not, ◌&&◌, List, [], ◌∷◌, Option, if◌then◌else◌}
use Rattle.std.specs.List.{All, AllZip}
use Rattle.pic_map.specs.declared.Placed.{Placed}
use Rattle.sym_code.specs.Programs.{same_name, block_in}
use Rattle.sym_code.specs.Selects.{bare}
use Rattle.sym_code.specs.Words.{words_in}
use Rattle.sym_code.specs.declared.code.BlockName.{BlockName}
use Rattle.sym_code.specs.declared.code.BlockName.TheVariants.{Start}
use Rattle.sym_code.specs.declared.code.Sym.{Sym}
use Rattle.sym_code.specs.declared.code.SymBlock.{SymBlock}
use Rattle.code_place.specs.Layouts.{page_of}
use Rattle.bank_page.specs.Links.{price_in}
use Rattle.bank_page.specs.Selected as plain
use Rattle.bank_page.specs.Selected.{names_of, bare_lists, IsApart}
use Rattle.flow_facts.specs.Facts.{Fact, Facts, AreMates}
use Rattle.flow_facts.specs.Walk.{fact_after, behind_after, is_consistent, Reaches}
use Rattle.flow_facts.specs.Thin.{is_known, IsThinned}

-- no select that sets what is known, and none to which nothing comes
abbrev pub is_lean : Facts → BlockName → Fact → Bool → List Sym → Bool
is_lean f own fact behind [] = true
is_lean f own fact behind (s ∷ list) = not (is_known f own fact s) && is_lean f own (fact_after f own fact behind s) (behind_after behind s) list

-- so in each block but the start block
abbrev pub IsLean : Facts → SymBlock → Type 0
IsLean f block = (if same_name block.name Start then true else is_lean f block.name (f.front block.name) false block.list.items) ≡ true

abbrev pub IsShorter : SymBlock → SymBlock → Type 0
IsShorter given made = words_in made.list.items ≤ words_in given.list.items

-- Of code with selects, none of which stands behind a skip, and which finds by what is known in straight code all selected that it needs.
pub record Keeps (placed : Placed) (handler : Option ℕ) (at : List ℕ) (given made : List SymBlock) (facts : Facts) : Type 0 where
  pub names : names_of made ≡ names_of given
  pub lists : bare_lists made ≡ bare_lists given
  -- of two blocks of one name the first counts
  pub same : (name : BlockName) → bare (block_in made name) ≡ bare (block_in given name)
  pub shorter : AllZip IsShorter given made
  -- no instruction costs more with the selects before it
  pub prices : (name : BlockName) (n : ℕ) → price_in (block_in made) name n ≤ price_in (block_in given) name n
  pub apart : All IsApart made
  pub mates : AreMates (page_of made at) facts.mate
  pub consistent : is_consistent facts handler made ≡ true
  pub reaches : All (Reaches placed facts) made

abbrev pub ThinningKeeps : Type 0
ThinningKeeps =
    (placed : Placed) (handler : Option ℕ) (at : List ℕ) (given made : List SymBlock) (thinned : IsThinned handler at given made)
    → All IsApart given → All (plain.Reaches placed) given → Keeps placed handler at given made thinned.facts
