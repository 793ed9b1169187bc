-- What `selects` promises of its answer.
use Rattle.std.specs.Prelude.{◌≡◌, ℕ, true, List, Option}
use Rattle.std.specs.List.{All, AllZip}
use Rattle.pic_map.specs.declared.Placed.{Placed}
use Rattle.sym_code.specs.Programs.{same_name}
use Rattle.sym_code.specs.declared.code.BlockName.TheVariants.{Start}
use Rattle.sym_code.specs.declared.code.SymBlock.{SymBlock}
use Rattle.code_place.specs.Layouts.{page_of}
use Rattle.bank_page.specs.Selected as plain
use Rattle.bank_page.specs.Selected.{names_of, bare_lists, IsApart, IsWithin, IsExact}
use Rattle.flow_facts.specs.Facts.{Facts, AreMates}
use Rattle.flow_facts.specs.Laws.{IsLean}
use Rattle.flow_facts.specs.Thin.{IsThinned}
use Rattle.flow_facts.specs.Walk.{is_consistent, Reaches}

-- There are facts of what is selected at the fronts of blocks, at labels and where blocks return. They are consistent: at the front of a block
-- they have no more than all its callers share, and nothing for main and the handler; at a label no more than all ways to it share; and
-- behind a call what the called block leaves wherever it returns. Each access finds its bank selected by them, and each jump, call and read
-- of a table its page; and at each select, but in the start block, the fact is missing that it is so already, and something comes there.
pub record HasFacts (placed : Placed) (handler : Option ℕ) (at : List ℕ) (made : List SymBlock) : Type 0 where
  pub facts : Facts
  pub mates : AreMates (page_of made at) facts.mate
  pub consistent : is_consistent facts handler made ≡ true
  pub reaches : All (Reaches placed facts) made
  pub lean : All (IsLean facts) made

-- The start block is what its definition makes of the given one.
pub record KeepsStart (placed : Placed) (given made : SymBlock) : Type 0 where
  pub exact : same_name given.name Start ≡ true → IsExact placed given made

-- The blocks have the selects that they need by what their straight code tells, but for those that flow facts make needless at their
-- addresses, where some are sought.
pub record HasSelects (placed : Placed) (handler : Option ℕ) (at : List ℕ) (given made : List SymBlock) : Type 0 where
  pub whole : List SymBlock
  pub names : names_of whole ≡ names_of given
  pub bare : bare_lists whole ≡ bare_lists given
  pub apart : All IsApart whole
  pub reaches : All (plain.Reaches placed) whole
  pub few : AllZip IsWithin given whole
  pub exact : AllZip (IsExact placed) given whole
  pub thinned : IsThinned handler at whole made

-- What is left of blocks, and by the same facts no select of it is needless.
pub record LosesKnown (handler : Option ℕ) (at : List ℕ) (given made : List SymBlock) : Type 0 where
  pub thinned : IsThinned handler at given made
  pub lean : All (IsLean thinned.facts) made
