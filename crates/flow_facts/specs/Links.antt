-- What code with selects keeps, where flow facts say what is selected.
use Rattle.std.specs.Prelude.{ℕ, ◌≡◌, true, false, List, Option}
use Rattle.std.specs.List.{All}
use Rattle.pic_map.specs.declared.Placed.{Placed}
use Rattle.sym_code.specs.Effect.{Setting}
use Rattle.sym_code.specs.Programs.{block_in}
use Rattle.sym_code.specs.Selects.{bare}
use Rattle.sym_code.specs.declared.code.BlockName.{BlockName}
use Rattle.sym_code.specs.declared.code.SymBlock.{SymBlock}
use Rattle.code_place.specs.Layouts.{program_of, page_of}
use Rattle.code_place.specs.Places.{BlocksHaveAddresses}
use Rattle.code_place.specs.Sizes.{Fit}
use Rattle.bank_page.specs.Links.{SelectsKeep}
use Rattle.bank_page.specs.Near.{KeepNear}
use Rattle.bank_page.specs.Selected as plain
use Rattle.bank_page.specs.Selected.{IsApart}
use Rattle.flow_facts.specs.Facts.{Facts, AreMates}
use Rattle.flow_facts.specs.Thin.{IsThinned}
use Rattle.flow_facts.specs.Walk.{is_consistent, Reaches}

-- Blocks with their selects, and facts that are consistent: by these each access finds its bank selected, and each jump, call and
-- read of a table its page, which it knows by a block whose page has the same bits; between a skip and the instruction behind it stands none. All that is named has
-- an address. And where objects and frames end below 100h, no select sets RP1.
pub record HasFlow (given made : List SymBlock) (handler : Option ℕ) (placed : Placed) (at : List ℕ) (facts : Facts) (g h : Setting) : Type 0 where
  pub given_code : g.program ≡ program_of given handler placed
  pub made_code : h.program ≡ program_of made handler placed
  pub without : g.banked ≡ false
  pub with : h.banked ≡ true
  pub pages : h.page_of ≡ page_of made at
  pub fit : Fit made at
  pub named : BlocksHaveAddresses placed made at
  pub limits : h.limit ≡ g.limit
  pub leaves : h.leaves ≡ g.leaves
  pub same : (name : BlockName) → bare (block_in made name) ≡ block_in given name
  pub apart : All IsApart made
  pub mates : AreMates (page_of made at) facts.mate
  pub consistent : is_consistent facts handler made ≡ true
  pub reaches : All (Reaches placed facts) made
  pub near : KeepNear placed made

-- Such code makes the events of the same code without selects, each instruction at the price of its selects.
abbrev pub FlowsKeep : Type 0
FlowsKeep =
    (given made : List SymBlock) (handler : Option ℕ) (placed : Placed) (at : List ℕ) (facts : Facts) (g h : Setting)
    → HasFlow given made handler placed at facts g h → SelectsKeep g h

-- What is left of code with selects, which finds by straight code what it needs, is such code.
abbrev pub ThinningHasFlow : Type 0
ThinningHasFlow =
    (given whole made : List SymBlock) (handler : Option ℕ) (placed : Placed) (at : List ℕ) (g h : Setting) (thinned : IsThinned handler at whole made)
    → All IsApart whole → All (plain.Reaches placed) whole → KeepNear placed whole → ((name : BlockName) → bare (block_in whole name) ≡ block_in given name)
    → g.program ≡ program_of given handler placed → h.program ≡ program_of made handler placed → g.banked ≡ false → h.banked ≡ true
    → h.page_of ≡ page_of made at → Fit made at → BlocksHaveAddresses placed made at → h.limit ≡ g.limit → h.leaves ≡ g.leaves
    → HasFlow given made handler placed at thinned.facts g h
